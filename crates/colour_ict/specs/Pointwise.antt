-- A function of three lists, place by place.
use Rattle.std.specs.Prelude.{List, [], ◌∷◌}

abbrev pub pointwise : {A B : Type 0} → (A → A → A → B) → List A → List A → List A → List B
pointwise f (x ∷ xs) (y ∷ ys) (z ∷ zs) = f x y z ∷ pointwise f xs ys zs
pointwise f _ _ _ = []

-- A list sorted by an order that is given as a test.
use Rattle.std.specs.Prelude.{Bool, List, [], ◌∷◌, if◌then◌else◌}

-- the list with one element more, before the first that comes after it
abbrev pub insert_by : {A : Type 0} → (A → A → Bool) → A → List A → List A
insert_by before a [] = a ∷ []
insert_by before a (x ∷ xs) = if before a x then a ∷ (x ∷ xs) else x ∷ insert_by before a xs

-- the list with more elements, one after the other
abbrev pub insert_all : {A : Type 0} → (A → A → Bool) → List A → List A → List A
insert_all before sorted [] = sorted
insert_all before sorted (x ∷ xs) = insert_all before (insert_by before x sorted) xs

-- the elements in their order
abbrev pub sorted_by : {A : Type 0} → (A → A → Bool) → List A → List A
sorted_by before xs = insert_all before [] xs

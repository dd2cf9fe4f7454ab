-- Why no finished output has the name of the next one: listed names are distinct.
use Rattle.std.proofs.Common.{Bool, ◌≡◌, ℕ, zero, suc, ◌<◌, List, [], ◌∷◌, ◌++◌, Option, Some, None}
use Rattle.std.proofs.Common.{IfSome, Result, Ok, Err, length, map, take, slice_get, get_or}
use Rattle.std.proofs.Common.{Contains, inl, inr, sym, ◌∙◌, ap, refl, subst, arith}
use Rattle.std.specs.Option.{ForSome}
use Rattle.std.specs.List.{flat_map}
use Rattle.std.specs.Ordering.{nat_cmp}
use Rattle.std.specs.declared.cmp.Ordering.TheVariants.{Less, Greater}
use Rattle.std.specs.Ordering.{ordering_reverse}
use Rattle.std.proofs.lemmas.Cmp.{nat_list_cmp_total}
use Rattle.std.specs.Cmp.Lexicographic.{slice_cmp}
use Rattle.std.proofs.lemmas.List.{append_cancel_right}
use Rattle.std.proofs.lemmas.Option.{slice_get_within, get_or_from_slice_get}
use Rattle.cine_ports.specs.Names.{IsNameList}
use Rattle.cine_ports.specs.Outputs.{Kept}
use Rattle.cine_ports.specs.Source.{File, Source}
use Rattle.pnm_frames.specs.declared.fault.FrameFault.{FrameFault}
use Rattle.pnm_frames.specs.Picture.{Picture}
use Rattle.frame_encoder.specs.declared.order.EncodeOrder.{EncodeOrder}
use Rattle.cinema_run.specs.Visit.{Visit, outputs_of, one_or_none}
use Rattle.cinema_run.specs.Right.{RightFor, Right, RightByName}
use Rattle.cinema_run.specs.Progress.{AreRight, kept_after, FramesVisited}

-- an item stands at a place of a list
abbrev StandsIn : List (List ℕ) → List ℕ → Type 0
StandsIn xs x = (j : ℕ) × (slice_get xs j ≡ Some x)

-- the output of a visit has its frame's name and the suffix
abbrev IsNamed : List ℕ → List ℕ → Option File → Type 0
IsNamed suffix name output = IfSome output (λ file. file.name ≡ name ++ suffix)

right_named : (order : EncodeOrder) (suffix name : List ℕ) (found : Result Picture FrameFault)
    (visit : Visit) → RightFor order suffix name found visit → IsNamed suffix name visit.output
right_named order suffix name (Ok p) visit (inl right) =
    subst (λ (v : Visit). IsNamed suffix name v.output) (sym right.is) refl
right_named order suffix name (Ok p) visit (inr right) =
    subst (λ (v : Visit). IsNamed suffix name v.output) (sym right.is) tt
right_named order suffix name (Err fault) visit right =
    subst (λ (v : Visit). IsNamed suffix name v.output) (sym right) tt

-- the frame whose output has this name, with one frame more before
first_or_later : (output : Option File) (suffix own name : List ℕ) (later : List File)
    (names : List (List ℕ)) → IsNamed suffix own output →
    ((k : ℕ) → k < length (map (λ (file : File). file.name) later) →
    get_or (map (λ (file : File). file.name) later) k (name ++ suffix) ≡ name ++ suffix →
    StandsIn names name) → (k : ℕ) →
    k < length (map (λ (file : File). file.name) (one_or_none output ++ later)) →
    get_or (map (λ (file : File). file.name) (one_or_none output ++ later)) k
    (name ++ suffix) ≡ name ++ suffix → StandsIn (own ∷ names) name
first_or_later (Some file) suffix own name later names named rest zero within same =
    (0, ap Some (append_cancel_right own name suffix (sym named ∙ same)))
first_or_later (Some file) suffix own name later names named rest (suc k) within same = let found =
    rest k (omega arith) same in (suc found.0, found.1)
first_or_later None suffix own name later names named rest k within same = let found =
    rest k within same in (suc found.0, found.1)

-- the frame whose output has this name
named_before : (order : EncodeOrder) (suffix : List ℕ) (names : List (List ℕ)) (visits : List Visit)
    (name : List ℕ) → AreRight (RightByName order suffix) names visits → (k : ℕ) →
    k < length (map (λ (file : File). file.name) (flat_map outputs_of visits)) →
    get_or (map (λ (file : File). file.name) (flat_map outputs_of visits)) k
    (name ++ suffix) ≡ name ++ suffix → StandsIn names name
named_before order suffix [] [] name right k within same = absurd (omega arith)
named_before order suffix (own ∷ names) (v ∷ visits) name right k within same =
    first_or_later v.output suffix own name (flat_map outputs_of visits) names
    (right_named order suffix own right.0.0 v right.0.1)
    (named_before order suffix names visits name right.1) k within same
named_before order suffix [] (v ∷ visits) name right k within same = absurd right
named_before order suffix (own ∷ names) [] name right k within same = absurd right

-- what stands in a prefix of a list
stands_in_prefix : (xs : List (List ℕ)) (i j : ℕ) (x : List ℕ) → slice_get (take i xs) j ≡ Some x →
    (j < i) × (slice_get xs j ≡ Some x)
stands_in_prefix [] zero j x h = absurd cc
stands_in_prefix [] (suc i) j x h = absurd cc
stands_in_prefix (y ∷ ys) zero j x h = absurd cc
stands_in_prefix (y ∷ ys) (suc i) zero x h = (omega arith, h)
stands_in_prefix (y ∷ ys) (suc i) (suc j) x h = let in_rest =
    stands_in_prefix ys i j x h in (omega (arith, in_rest.0), in_rest.1)

-- no name comes before itself
never_before_itself : (name : List ℕ) → slice_cmp nat_cmp name name ≡ Less → ⊥
never_before_itself name h =
    let turned : slice_cmp nat_cmp name name ≡ ordering_reverse (slice_cmp nat_cmp name name) =
    nat_list_cmp_total.antisymm name name in
    let clash : Less ≡ Greater = sym h ∙ turned ∙ ap ordering_reverse h in
    cc

-- a listed name stands at one place
listed_once : (names : List (List ℕ)) (i : ℕ) (name : List ℕ) → IsNameList names →
    slice_get names i ≡ Some name → StandsIn (take i names) name → ⊥
listed_once names i name valid here earlier =
    let there = stands_in_prefix names i earlier.0 name earlier.1 in
    let within = slice_get_within names i name here in
    let order : slice_cmp nat_cmp (get_or names earlier.0 name) (get_or names i name) ≡ Less =
    valid.sorted earlier.0 i name there.0 within in
    let first : get_or names earlier.0 name ≡ name =
    get_or_from_slice_get names earlier.0 name name there.1 in
    let second : get_or names i name ≡ name = get_or_from_slice_get names i name name here in
    never_before_itself name (sym (ap
    (λ (n : List ℕ). slice_cmp nat_cmp n (get_or names i name)) first
    ∙ ap (slice_cmp nat_cmp name) second) ∙ order)

-- no finished output has the next one's name
pub fresh_name : (order : EncodeOrder) (suffix : List ℕ) (source : Source) (i : ℕ)
    (k0 k1 : Option Kept) (s0 s1 : Option (List ℕ)) (some : Bool) → IsNameList source.names →
    FramesVisited (RightByName order suffix) (Right order suffix) source i k0 k1 s0 s1 some →
    ForSome k1 (λ kept. (name : List ℕ) → slice_get source.names i ≡ Some name →
    ¬ Contains (map (λ (file : File). file.name) kept.finished) (name ++ suffix))
fresh_name order suffix source i None k1 s0 s1 some valid done =
    λ kept e. absurd (let none : k1 ≡ None = done.kept in cc)
fresh_name order suffix source i (Some k0) k1 s0 s1 some valid done = λ kept e name here has.
    let same : kept ≡ kept_after done.visits = let is : k1 ≡ Some (kept_after done.visits) =
    done.kept in cc in
    let Has : Kept → Type 0 = λ (k : Kept). Contains (map (λ (file : File). file.name) k.finished)
    (name ++ suffix) in
    let moved : Has (kept_after done.visits) = subst Has same has in
    let before = named_before order suffix
    (take i source.names) done.visits name done.right.named moved.0 moved.1 moved.2 in
    listed_once source.names i name valid here before

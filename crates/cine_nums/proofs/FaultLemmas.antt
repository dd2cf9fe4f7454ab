-- The first row that applies, of tables after each other and of a row for each number of a range.
use Rattle.std.proofs.Common.{◌≡◌, ℕ, suc, ◌+◌, ◌-◌, ◌<◌, Bool, true, false, List, [], ◌∷◌, ◌++◌}
use Rattle.std.proofs.Common.{map, Option, Some, None, arith, ◌∙◌, ap, refl, if◌then◌else◌}
use Rattle.std.specs.List.{range_with_len}
use Rattle.cine_nums.specs.Faults.{Row, first_fault}

-- a table whose rows don't apply leaves it to the next one
passed_step : {F : Type 0} (t : Bool) (f : F) (x y z : Option F) → (x ≡ None → z ≡ y) →
    (if t then Some f else x) ≡ None → (if t then Some f else z) ≡ y
passed_step true f x y z more is = cc
passed_step false f x y z more is = more is

pub passed_on : {F : Type 0} (a b : List (Row F)) → first_fault a ≡ None →
    first_fault (a ++ b) ≡ first_fault b
passed_on [] b is = refl
passed_on (r ∷ a) b is =
    passed_step r.applies r.fault (first_fault a) (first_fault b) (first_fault (a ++ b))
    (passed_on a b) is

-- and one of which a row applies decides
decided_step : {F : Type 0} (t : Bool) (f e : F) (x z : Option F) → (x ≡ Some e → z ≡ Some e) →
    (if t then Some f else x) ≡ Some e → (if t then Some f else z) ≡ Some e
decided_step true f e x z more is = is
decided_step false f e x z more is = more is

pub decided : {F : Type 0} (a b : List (Row F)) (e : F) → first_fault a ≡ Some e →
    first_fault (a ++ b) ≡ Some e
decided [] b e is = cc
decided (r ∷ a) b e is =
    decided_step r.applies r.fault e (first_fault a) (first_fault (a ++ b)) (decided a b e) is

-- no row of two tables together applies: none of each does
none_step : {F : Type 0} (t : Bool) (f : F) (x y z : Option F) →
    (z ≡ None → (x ≡ None) × (y ≡ None)) →
    (if t then Some f else z) ≡ None → ((if t then Some f else x) ≡ None) × (y ≡ None)
none_step true f x y z more is = absurd cc
none_step false f x y z more is = more is

pub none_of_both : {F : Type 0} (a b : List (Row F)) → first_fault (a ++ b) ≡ None →
    (first_fault a ≡ None) × (first_fault b ≡ None)
none_of_both [] b is = (refl, is)
none_of_both (r ∷ a) b is =
    none_step r.applies r.fault (first_fault a) (first_fault b) (first_fault (a ++ b))
    (none_of_both a b) is

-- a row for each number from i up to n
abbrev pub rows_between : {F : Type 0} → (ℕ → Row F) → ℕ → ℕ → List (Row F)
rows_between rows i n = map rows (range_with_len i (n - i))

one_more_row : {F : Type 0} (rows : ℕ → Row F) (i n : ℕ) → i < n →
    first_fault (rows_between rows i n)
    ≡ (if (rows i).applies then Some (rows i).fault else first_fault (rows_between rows (i + 1) n))
one_more_row rows i n below =
    let m = n - (i + 1) in
    let size : n - i ≡ suc m = omega arith in
    ap (λ k. first_fault (map rows (range_with_len i k))) size

pub row_applies : {F : Type 0} (rows : ℕ → Row F) (i n : ℕ) (e : F) → i < n →
    (rows i).applies ≡ true →
    (rows i).fault ≡ e → first_fault (rows_between rows i n) ≡ Some e
row_applies rows i n e below is same =
    one_more_row rows i n below
    ∙ ap (λ t. if t then Some (rows i).fault else first_fault (rows_between rows (i + 1) n)) is
    ∙ ap (λ f. Some f) same

pub row_passed : {F : Type 0} (rows : ℕ → Row F) (i n : ℕ) → i < n → (rows i).applies ≡ false →
    first_fault (rows_between rows i n) ≡ first_fault (rows_between rows (i + 1) n)
row_passed rows i n below is =
    one_more_row rows i n below
    ∙ ap (λ t. if t then Some (rows i).fault else first_fault (rows_between rows (i + 1) n)) is

pub no_more_rows : {F : Type 0} (rows : ℕ → Row F) (n : ℕ) →
    first_fault (rows_between rows n n) ≡ None
no_more_rows rows n = ap (λ k. first_fault (map rows (range_with_len n k))) (none_left n)
  where
    none_left : (n : ℕ) → n - n ≡ 0
    none_left n = omega arith

pub all_rows : {F : Type 0} (rows : ℕ → Row F) (n : ℕ) →
    first_fault (rows_between rows 0 n) ≡ first_fault (map rows (range_with_len 0 n))
all_rows rows n = ap (λ k. first_fault (map rows (range_with_len 0 k))) (omega arith)

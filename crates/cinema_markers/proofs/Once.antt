-- The segments of a main header are read in one way alone.
use Rattle.std.proofs.Common.{◌≡◌, ◌⊎◌, inl, inr, ℕ, ◌+◌, ◌<◌, ◌≤◌, List, [], ◌∷◌, length, Some}
use Rattle.std.proofs.Common.{None, arith, ◌∙◌, sym, ap, refl, subst}
use Rattle.cine_nums.specs.Bytes.{word_at}
use Rattle.cine_nums.specs.Faults.{first_fault}
use Rattle.cinema_markers.specs.Tables.{soc_rows, next_rows}
use Rattle.cinema_markers.specs.Reading.{found_in, Passed, StandsUpTo, HasFault, IsEnd, EndsAt}
use Rattle.cinema_markers.specs.declared.found.Found.{Found}
use Rattle.cinema_markers.specs.declared.refusal.MarkerRefusal.{MarkerRefusal}

-- as many segments are the same ones
pub same_count : (bytes b c : List ℕ) (at to : ℕ) → length b ≡ length c → StandsUpTo bytes b at →
    StandsUpTo bytes c to →
    (b ≡ c) × (at ≡ to)
same_count bytes [] [] at to same (x, p) (y, q) = (refl, p ∙ sym q)
same_count bytes [] (m ∷ c) at to same here there = absurd (omega arith)
same_count bytes (k ∷ b) [] at to same here there = absurd (omega arith)
same_count bytes (k ∷ b) (m ∷ c) at to same (x, p) (y, q) =
    let fewer : length b ≡ length c = omega arith in
    let before = same_count bytes b c k m fewer x y in (
      ap (λ t. t ∷ b) before.1 ∙ ap (λ t. m ∷ t) before.0,
      p.to_is ∙ ap (λ t. t + 2 + word_at bytes (t + 2)) before.1 ∙ sym q.to_is,
    )

-- fewer of them end where one more is passed
pub record Earlier (bytes : List ℕ) (n : ℕ) : Type 0 where
  pub before : List ℕ
  pub at : ℕ
  pub to : ℕ
  pub count : length before ≡ n
  pub stands : StandsUpTo bytes before at
  pub passed : Passed bytes (found_in bytes before) at to

pub earlier : (bytes b : List ℕ) (at n : ℕ) → n < length b → StandsUpTo bytes b at → Earlier bytes n
earlier bytes [] at n below here = absurd (omega arith)
earlier bytes (k ∷ b) at n below (x, p) = elim (last_or_not n (length b) (omega arith)) [
  | inl is ↦ record { before = b; at = k; to = at; count = sym is; stands = x; passed = p }
  | inr less ↦ earlier bytes b k n less x
]
  where
    last_or_not : (n m : ℕ) → n ≤ m → (n ≡ m) ⊎ (n < m)
    last_or_not n m le = grind arith

-- no segment is passed there
abbrev Stops : List ℕ → List ℕ → ℕ → Type 0
Stops bytes before at = (to : ℕ) → Passed bytes (found_in bytes before) at to → ⊥

not_shorter : (bytes b c : List ℕ) (at to : ℕ) → StandsUpTo bytes b at → StandsUpTo bytes c to →
    Stops bytes b at → length b < length c → ⊥
not_shorter bytes b c at to here there stop less =
    let e = earlier bytes c to (length b) less there in
    let same = same_count bytes e.before b e.at at e.count e.stands here in
    stop e.to (subst (λ t. Passed bytes (found_in bytes t) at e.to) same.0
    (subst (λ t. Passed bytes (found_in bytes e.before) t e.to) same.1 e.passed))

pub stops_once : (bytes b c : List ℕ) (at to : ℕ) → StandsUpTo bytes b at → StandsUpTo bytes c to →
    Stops bytes b at → Stops bytes c to →
    (b ≡ c) × (at ≡ to)
stops_once bytes b c at to here there stop halt = elim (three (length b) (length c)) [
  | inl less ↦ absurd (not_shorter bytes b c at to here there stop less)
  | inr (inl is) ↦ same_count bytes b c at to is here there
  | inr (inr more) ↦ absurd (not_shorter bytes c b to at there here halt more)
]
  where
    three : (m n : ℕ) → (m < n) ⊎ ((m ≡ n) ⊎ (n < m))
    three m n = grind arith

end_stops : (bytes before : List ℕ) (found : Found) (at : ℕ) → IsEnd bytes found at →
    Stops bytes before at
end_stops bytes before found at end to passed = passed.further end.sot

fault_stops : (bytes before : List ℕ) (at : ℕ) (e : MarkerRefusal) →
    first_fault (next_rows bytes (found_in bytes before) at) ≡ Some e →
    Stops bytes before at
fault_stops bytes before at e is to passed = let none = passed.none in cc

pub soc_stands : (bytes before : List ℕ) (at : ℕ) → StandsUpTo bytes before at →
    first_fault (soc_rows bytes) ≡ None
soc_stands bytes [] at (soc, is) = soc
soc_stands bytes (k ∷ before) at (stands, passed) = soc_stands bytes before k stands

pub ends_once : (bytes : List ℕ) (f g : Found) (at to : ℕ) → EndsAt bytes f at → EndsAt bytes g to →
    (f ≡ g) × (at ≡ to)
ends_once bytes f g at to x y =
    let same = stops_once bytes x.before y.before at to x.stands y.stands
    (end_stops bytes x.before f at x.end) (end_stops bytes y.before g to y.end) in
    (x.found_is ∙ ap (found_in bytes) same.0 ∙ sym y.found_is, same.1)

pub end_or_fault : (bytes : List ℕ) (f : Found) (at : ℕ) (e : MarkerRefusal) → EndsAt bytes f at →
    HasFault bytes e → ⊥
end_or_fault bytes f at e x (inl soc) = let none = soc_stands bytes x.before at x.stands in cc
end_or_fault bytes f at e x (inr y) =
    let same = stops_once bytes x.before y.before at y.at x.stands y.stands
    (end_stops bytes x.before f at x.end)
    (fault_stops bytes y.before y.at e y.applies) in
    let none : first_fault (next_rows bytes f at) ≡ None = x.end.none in
    let fault : first_fault (next_rows bytes f at) ≡ Some e =
    ap (λ g. first_fault (next_rows bytes g at)) (x.found_is ∙ ap (found_in bytes) same.0)
    ∙ ap (λ t. first_fault (next_rows bytes (found_in bytes y.before) t)) same.1 ∙ y.applies in
    cc

pub fault_once : (bytes : List ℕ) (e f : MarkerRefusal) → HasFault bytes e → HasFault bytes f →
    e ≡ f
fault_once bytes e f (inl x) (inl y) = cc
fault_once bytes e f (inl x) (inr y) =
    absurd (let none = soc_stands bytes y.before y.at y.stands in cc)
fault_once bytes e f (inr x) (inl y) =
    absurd (let none = soc_stands bytes x.before x.at x.stands in cc)
fault_once bytes e f (inr x) (inr y) =
    let same = stops_once bytes x.before y.before x.at y.at x.stands y.stands
    (fault_stops bytes x.before x.at e x.applies)
    (fault_stops bytes y.before y.at f y.applies) in
    let first : first_fault (next_rows bytes (found_in bytes y.before) y.at) ≡ Some e =
    ap (λ b. first_fault (next_rows bytes (found_in bytes b) y.at)) (sym same.0)
    ∙ ap (λ t. first_fault (next_rows bytes (found_in bytes x.before) t)) (sym same.1)
    ∙ x.applies in
    let second = y.applies in
    cc

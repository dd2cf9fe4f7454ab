-- A row is put, and its offer is true.
use Rattle.std.proofs.Common.{ℕ, ◌≡◌, ◌≢◌, ◌+◌, ◌<◌, ◌≤◌, Bool, true, false, inl, inr}
use Rattle.std.proofs.Common.{List, [], ◌∷◌, ◌++◌, length, take, drop, set, get_or, arith, sym}
use Rattle.std.proofs.Common.{subst, refl, ap, ◌∙◌}
use Rattle.std.proofs.lemmas.Bool.{cases_eq, cases_lt}
use Rattle.std.proofs.lemmas.List.{take-append-drop, length-set, length-append, get_or-set_same}
use Rattle.std.proofs.lemmas.List.{get_or-set_other}
use Rattle.std.proofs.Math.ListN.{get_or-append}
use Rattle.std.proofs.Math.Seq.{get_or-append_seam}
use Rattle.rd_hulls.specs.declared.point.Point.{Point}
use Rattle.rd_hulls.specs.declared.step.Step.{Step as HullStep}
use Rattle.rd_hulls.specs.Hull.{end_of, IsHull}
use Rattle.rd_hulls.specs.Points.{ArePoints}
use Rattle.budget_duals.specs.Offers.{IsOffer, IsAtMost}
use Rattle.budget_duals.specs.declared.offer.Offer.{Offer}
use Rattle.budget_duals.specs.declared.offer.Offer.TheVariants.{Step}
use Rattle.partial_hulls.specs.Known.{IsBetween}
use Rattle.offers_on_demand.specs.HullLaws.{hull_is}
use Rattle.offers_on_demand.specs.Hulls.{hull_steps}
use Rattle.offers_on_demand.specs.Rows.{AreRows, IsRow, no_row, row_at}
use Rattle.offers_on_demand.specs.declared.row.DemandRow.{DemandRow}

false_of : (w : Bool) → (w ≡ true → ⊥) → w ≡ false
false_of true no_true = absurd (no_true refl)
false_of false no_true = refl

pub between : (b : ℕ) (all : List Point) (present taken : ℕ) → ArePoints all
    → end_of 0 (take taken (hull_steps b all)) ≡ present
    → IsBetween b all present (take taken (hull_steps b all)) (drop taken (hull_steps b all))
between b all present taken are ended = record {
  hull = subst (IsHull b all) (sym (take-append-drop taken (hull_steps b all))) (hull_is b all are);
  ended = ended;
}

pub renewed : (b : ℕ) (all known : List Point) (whole : Bool) (present taken : ℕ) (offer : Offer)
    → ArePoints all → present < length known → taken ≤ length (hull_steps b all)
    → end_of 0 (take taken (hull_steps b all)) ≡ present
    → ((done left : List HullStep) → IsBetween b all present done left → IsOffer left offer)
    → ((done left : List HullStep) → IsBetween b all present done left → whole ≡ true
    → ¬ IsAtMost offer)
    → ((s : HullStep) → offer ≡ Step s → s.to < length known)
    → IsRow known whole (hull_steps b all)
    (record { present = present; taken = taken; offer = offer })
renewed b all known whole present taken offer are inside within ended true_offer more to_known =
    let steps = hull_steps b all in
    let split = between b all present taken are ended in
    record {
      present_known = inside;
      within = within;
      ended = ended;
      offer = true_offer (take taken steps) (drop taken steps) split;
      to_known = to_known;
      more = λ at_most. false_of whole
          (λ w. more (take taken steps) (drop taken steps) split w at_most);
    }

-- no step is taken of a block
pub first_row : (b : ℕ) (all known : List Point) (whole : Bool) (offer : Offer) → ArePoints all
    → 0 < length known
    → ((done left : List HullStep) → IsBetween b all 0 done left → IsOffer left offer)
    → ((done left : List HullStep) → IsBetween b all 0 done left → whole ≡ true → ¬ IsAtMost offer)
    → ((s : HullStep) → offer ≡ Step s → s.to < length known)
    → IsRow known whole (hull_steps b all) (record { present = 0; taken = 0; offer = offer })
first_row b all known whole offer are some true_offer more to_known =
    renewed b all known whole 0 0 offer are some (omega arith) refl true_offer more to_known

pub put_row : (blocks : ℕ) (known : ℕ → List Point) (whole : ℕ → Bool) (steps : ℕ → List HullStep)
    (rows : List DemandRow) (block : ℕ) (row : DemandRow) → length rows ≡ blocks → block < blocks
    → IsRow (known block) (whole block) (steps block) row
    → ((b : ℕ) → b < blocks → b ≢ block → IsRow (known b) (whole b) (steps b) (row_at rows b))
    → AreRows blocks known whole steps (set rows block row)
put_row blocks known whole steps rows block row many below is others = record {
  many = length-set rows block row ∙ many;
  each = λ b inside. elim (cases_eq b block) [
    | inl e ↦ subst (λ (k : ℕ). IsRow (known k) (whole k) (steps k) (row_at (set rows block row) k))
        (sym e)
        (subst (λ (r : DemandRow). IsRow (known block) (whole block) (steps block) r)
        (sym (get_or-set_same rows block row no_row (omega (arith, many, below)))) is)
    | inr n ↦ subst (λ (r : DemandRow). IsRow (known b) (whole b) (steps b) r)
        (sym (get_or-set_other rows block b row no_row n)) (others b inside n)
  ];
}

-- the rows of the first n blocks, of which no step is taken
pub record AreFirst (n : ℕ) (known : ℕ → List Point) (whole : ℕ → Bool)
    (steps : ℕ → List HullStep) (rows : List DemandRow) : Type 0 where
  pub rows_are : AreRows n known whole steps rows
  pub none : (b : ℕ) → b < n → (row_at rows b).taken ≡ 0

pub no_first : (known : ℕ → List Point) (whole : ℕ → Bool) (steps : ℕ → List HullStep)
    (rows : List DemandRow) → rows ≡ [] → AreFirst 0 known whole steps rows
no_first known whole steps rows none = record {
  rows_are = record { many = ap length none; each = λ b below. absurd (omega arith) };
  none = λ b below. absurd (omega arith);
}

more_first_at : (P : DemandRow → ℕ → Type 0) (n : ℕ) (rows : List DemandRow) (row : DemandRow)
    → length rows ≡ n → ((b : ℕ) → b < n → P (row_at rows b) b) → P row n
    → (b : ℕ) → b < n + 1 → P (row_at (rows ++ row ∷ []) b) b
more_first_at P n rows row many before last b below = elim (cases_lt b n) [
  | inl h ↦ subst (λ (r : DemandRow). P r b)
      (sym (get_or-append rows (row ∷ []) no_row b (omega (arith, many, h)))) (before b h)
  | inr h ↦
      let here : length rows ≡ b = omega (arith, many, h, below) in
      let there : n ≡ b = omega (arith, h, below) in
      subst (λ (r : DemandRow). P r b)
      (sym (subst (λ (v : ℕ). get_or (rows ++ row ∷ []) v no_row ≡ row) here
      (get_or-append_seam rows row [] no_row)))
      (subst (P row) there last)
]

pub more_first : (n : ℕ) (known : ℕ → List Point) (whole : ℕ → Bool) (steps : ℕ → List HullStep)
    (rows : List DemandRow) (row : DemandRow) → AreFirst n known whole steps rows
    → IsRow (known n) (whole n) (steps n) row → row.taken ≡ 0
    → AreFirst (n + 1) known whole steps (rows ++ row ∷ [])
more_first n known whole steps rows row before is none = record {
  rows_are = record {
    many = length-append rows (row ∷ []) ∙ omega (arith, before.rows_are.many);
    each = more_first_at (λ r b. IsRow (known b) (whole b) (steps b) r) n rows row
        before.rows_are.many before.rows_are.each is;
  };
  none = more_first_at (λ r b. r.taken ≡ 0) n rows row before.rows_are.many before.none none;
}

-- the block's other rows stay when it alone learns
pub kept_rows : (blocks blocks' : ℕ) (known known' : ℕ → List Point) (whole whole' : ℕ → Bool)
    (all all' : ℕ → List Point) (rows : List DemandRow) (block : ℕ) → blocks' ≡ blocks
    → all' ≡ all → ((b : ℕ) → b ≢ block → known' b ≡ known b)
    → ((b : ℕ) → b ≢ block → whole' b ≡ whole b)
    → AreRows blocks known whole (λ b. hull_steps b (all b)) rows
    → (b : ℕ) → b < blocks' → b ≢ block
    → IsRow (known' b) (whole' b) (hull_steps b (all' b)) (row_at rows b)
kept_rows blocks blocks' known known' whole whole' all all' rows block bs same ks ws are b below n =
    let was = are.each b (omega (arith, bs, below)) in
    subst (λ (p : List Point). IsRow p (whole' b) (hull_steps b (all' b)) (row_at rows b))
    (sym (ks b n))
    (subst (λ (w : Bool). IsRow (known b) w (hull_steps b (all' b)) (row_at rows b)) (sym (ws b n))
    (subst (λ (f : ℕ → List Point). IsRow (known b) (whole b) (hull_steps b (f b)) (row_at rows b))
    (sym same) was))

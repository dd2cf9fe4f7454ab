-- Run mode asks honestly, and so does each column.
use Rattle.std.proofs.Common.{ℕ, suc, ◌<◌, ◌≡◌, inr, ◌↔◌, Bool, true, false, ◌&&◌, List, [], ◌∷◌}
use Rattle.std.proofs.Common.{set, refl, sym, arith, subst}
use Rattle.std.proofs.lemmas.Bool.{and_parts, not-true, eqb-true}
use Rattle.std.proofs.lemmas.List.{get_or-set_other}
use Rattle.ebcot_contexts.specs.Cells.{Cell, fresh, is_significant, cell_at, coef_at, bit_of}
use Rattle.ebcot_contexts.specs.Cells.{AllShow}
use Rattle.ebcot_contexts.specs.Contexts.{Shape}
use Rattle.ebcot_contexts.specs.Asks.{interrupted, row_high, row_low, truth}
use Rattle.ebcot_contexts.specs.Passes.{Kind, cleanup, learned, sign_asked, each, zeros, found}
use Rattle.ebcot_contexts.specs.Passes.{found_at, any_found, run, is_calm, four, column}
use Rattle.ebcot_contexts.proofs.Shown.{Sound}
use Rattle.ebcot_contexts.proofs.Trees.{Honest, honest_known, honest_ask, honest_chain, honest_same}
use Rattle.ebcot_contexts.proofs.Scanned.{Within, Rising, within}
use Rattle.ebcot_contexts.proofs.Steps.{Open, Bit, learned_iff, learned_sound, new_honest}
use Rattle.ebcot_contexts.proofs.Steps.{each_honest}
use Rattle.ebcot_contexts.proofs.Firsts.{none, at_0, at_1, at_2, at_3}

module _ (n : ℕ) (coefs : List (ℕ × Bool)) (s : Shape) (p : ℕ) where
  -- an insignificant place that is untouched, in the block
  abbrev Calm : ℕ → List Cell → Type 0
  Calm i cells = Open n coefs s p i cells × (is_significant (cell_at cells i) ≡ false)

  abbrev AllCalm : List ℕ → List Cell → Type 0
  AllCalm [] cells = Unit {0}
  AllCalm (i ∷ is) cells = Calm i cells × AllCalm is cells

  -- a place is none of a list
  abbrev Apart : ℕ → List ℕ → Type 0
  Apart i [] = Unit {0}
  Apart i (j ∷ js) = (j ≡ i → ⊥) × Apart i js

  abbrev Distinct : List ℕ → Type 0
  Distinct [] = Unit {0}
  Distinct (i ∷ is) = Apart i is × Distinct is

  abbrev Zeros : List ℕ → Type 0
  Zeros [] = Unit {0}
  Zeros (i ∷ is) = (false ≡ bit_of (coef_at coefs i).0 p) × Zeros is

  abbrev CalmAs : ℕ → Cell → Type 0
  CalmAs j y = ((j < n) × (y.unknown ≡ suc p)) × (is_significant y ≡ false)

  calm_kept : (i j : ℕ) (x : Cell) (cells : List Cell) → (j ≡ i → ⊥) → Calm j cells →
      Calm j (set cells i x)
  calm_kept i j x cells e c = subst (CalmAs j) (sym (get_or-set_other cells i j x (fresh 0) e)) c

  all_kept : (i : ℕ) (x : Cell) (is : List ℕ) (cells : List Cell) → Apart i is → AllCalm is cells →
      AllCalm is (set cells i x)
  all_kept i x [] cells a c = tt
  all_kept i x (j ∷ js) cells a c = (calm_kept i j x cells a.0 c.0, all_kept i x js cells a.1 c.1)

  zeros_sound : (is : List ℕ) (cells : List Cell) → Distinct is → AllCalm is cells → Sound n cells →
      Sound n (zeros p is cells)
  zeros_sound [] cells d c sound = sound
  zeros_sound (i ∷ is) cells d c sound =
      zeros_sound is (learned p false i cells) d.1 (all_kept i _ is cells d.0 c.1)
      (learned_sound n coefs s p false i cells sound c.0.0.0 (inr refl))

  zeros_iff : (is : List ℕ) (cells : List Cell) → Distinct is → AllCalm is cells → Sound n cells
      → (AllShow cells coefs × Zeros is) ↔ AllShow (zeros p is cells) coefs
  zeros_iff [] cells d c sound = (λ r. r.0, λ a. (a, tt))
  zeros_iff (i ∷ is) cells d c sound =
      let here = learned_iff n coefs s p false i cells sound c.0.0 (inr refl) in
      let rest = zeros_iff is (learned p false i cells) d.1 (all_kept i _ is cells d.0 c.1)
      (learned_sound n coefs s p false i cells sound c.0.0.0 (inr refl)) in (
        λ r. rest.0 (here.0 (r.0, r.1.0), r.1.1),
        λ a.
            let below = rest.1 a in
            let at = here.1 below.0 in
            (at.0, (at.1, below.1)),
      )

  -- a place that is none of those found to be 0 stays calm
  zeros_calm : (is : List ℕ) (j : ℕ) (cells : List Cell) → Apart j is → Calm j cells →
      Calm j (zeros p is cells)
  zeros_calm [] j cells a c = c
  zeros_calm (i ∷ is) j cells a c =
      zeros_calm is j (learned p false i cells) a.1 (calm_kept i j _ cells (λ e. a.0 (sym e)) c)

  found_honest : (before : List ℕ) (i : ℕ) (below : List ℕ) (cells : List Cell) → Distinct before →
      Apart i before → AllCalm before cells → Calm i cells
      → Within n below → Sound n cells
      → Honest n coefs ((AllShow cells coefs × Zeros before) × Bit n coefs s p true i)
      (found s p before i below cells)
  found_honest before i below cells d a all c w sound =
      let z = zeros_iff before cells d all sound in
      let calm : Calm i (zeros p before cells) = zeros_calm before i cells a c in
      honest_chain n coefs _ (sign_asked s p i (zeros p before cells)) (each cleanup s p below)
      (honest_same n coefs (AllShow (zeros p before cells) coefs × Bit n coefs s p true i) _ _
      (λ r. (z.1 r.0, r.1), λ r. (z.0 r.0, r.1))
      (new_honest n coefs s p i (zeros p before cells)
      (zeros_sound before cells d all sound) calm.0 calm.1))
      (λ c h. each_honest n coefs s p cleanup below c w h)

  abbrev Of : ℕ → Bool
  Of i = bit_of (coef_at coefs i).0 p

  -- what holds once the row of the first 1 is known
  abbrev Asked : ℕ → ℕ → ℕ → ℕ → List Cell → Bool → Bool → Type 0
  Asked a b c d cells h l =
      ((AllShow cells coefs × (true ≡ truth coefs (interrupted p a b c d))) ×
      (h ≡ truth coefs (row_high p a b c d))) × (l ≡ truth coefs (row_low p a b c d))

  -- four places of a column, from the top
  abbrev Four : ℕ → ℕ → ℕ → ℕ → Type 0
  Four a b c d = (a < b) × (b < c) × (c < d) × (d < n)

  found_at_honest : (a b c d : ℕ) (cells : List Cell) (h l : Bool) → Four a b c d →
      AllCalm (a ∷ b ∷ c ∷ d ∷ []) cells → Sound n cells
      → Honest n coefs (Asked a b c d cells h l) (found_at s p a b c d cells h l)
  found_at_honest a b c d cells false false f all sound =
      let e = at_0 (Of a) (Of b) (Of c) (Of d) in
      honest_same n coefs _ _ _ (
        λ r. (let t = e.0 r.1 in (((r.0.0, t.0), t.1), t.2)),
        λ r.
            ((r.0.0.0, tt), e.1 (r.0.0.1, r.0.1, r.1)),
      )
      (found_honest [] a (b ∷ c ∷ d ∷ []) cells tt tt tt all.0
      (all.1.0.0.0, (all.1.1.0.0.0, (all.1.1.1.0.0.0, tt))) sound)
  found_at_honest a b c d cells false true f all sound =
      let e = at_1 (Of a) (Of b) (Of c) (Of d) in
      honest_same n coefs _ _ _ (
        λ r. (let t = e.0 (r.0.1.0, r.1) in (((r.0.0, t.0), t.1), t.2)),
        λ r.
            (let t = e.1 (r.0.0.1, r.0.1, r.1) in ((r.0.0.0, (t.0, tt)), t.1)),
      )
      (found_honest (a ∷ []) b (c ∷ d ∷ []) cells (tt, tt) (omega arith, tt) (all.0, tt) all.1.0
      (all.1.1.0.0.0, (all.1.1.1.0.0.0, tt)) sound)
  found_at_honest a b c d cells true false f all sound =
      let e = at_2 (Of a) (Of b) (Of c) (Of d) in
      honest_same n coefs _ _ _ (
        λ r. (let t = e.0 (r.0.1.0, r.0.1.1.0, r.1) in (((r.0.0, t.0), t.1), t.2)),
        λ r.
            (let t = e.1 (r.0.0.1, r.0.1, r.1) in ((r.0.0.0, (t.0, (t.1, tt))), t.2)),
      )
      (found_honest (a ∷ b ∷ []) c (d ∷ []) cells ((omega arith, tt), (tt, tt))
      (omega arith, (omega arith, tt)) (all.0, (all.1.0, tt)) all.1.1.0
      (all.1.1.1.0.0.0, tt) sound)
  found_at_honest a b c d cells true true f all sound =
      let e = at_3 (Of a) (Of b) (Of c) (Of d) in
      honest_same n coefs _ _ _ (
        λ r. (let t = e.0 (r.0.1.0, r.0.1.1.0, r.0.1.1.1.0, r.1) in (((r.0.0, t.0), t.1), t.2)),
        λ r.
            (let t = e.1 (r.0.0.1, r.0.1, r.1) in ((r.0.0.0, (t.0, (t.1, (t.2, tt)))), t.3)),
      )
      (found_honest (a ∷ b ∷ c ∷ []) d [] cells
      ((omega arith, (omega arith, tt)), ((omega arith, tt), (tt, tt)))
      (omega arith, (omega arith, (omega arith, tt)))
      (all.0, (all.1.0, (all.1.1.0, tt))) all.1.1.1.0 tt sound)

  distinct_four : (a b c d : ℕ) → Four a b c d → Distinct (a ∷ b ∷ c ∷ d ∷ [])
  distinct_four a b c d f = (
    (omega arith, (omega arith, (omega arith, tt))),
    ((omega arith, (omega arith, tt)), ((omega arith, tt), (tt, tt))),
  )

  any_honest : (a b c d : ℕ) (cells : List Cell) (t : Bool) → Four a b c d →
      AllCalm (a ∷ b ∷ c ∷ d ∷ []) cells → Sound n cells
      → Honest n coefs (AllShow cells coefs × (t ≡ truth coefs (interrupted p a b c d)))
      (any_found s p a b c d cells t)
  any_honest a b c d cells true f all sound =
      honest_ask n coefs _ 18 (row_high p a b c d) _
      (λ h. honest_ask n coefs _ 18 (row_low p a b c d) _
      (λ l. found_at_honest a b c d cells h l f all sound))
  any_honest a b c d cells false f all sound =
      let e = none (Of a) (Of b) (Of c) (Of d) in
      let z = zeros_iff (a ∷ b ∷ c ∷ d ∷ []) cells (distinct_four a b c d f) all sound in
      honest_known n coefs _ _ (zeros_sound (a ∷ b ∷ c ∷ d ∷ []) cells
      (distinct_four a b c d f) all sound) (
        λ r. (let t = e.1 r.1 in z.0 (r.0, (t.0, (t.1, (t.2, (t.3, tt)))))),
        λ t.
            (let r = z.1 t in (r.0, e.0 (r.1.0, r.1.1.0, r.1.1.1.0, r.1.1.1.1.0))),
      )

  run_honest : (a b c d : ℕ) (cells : List Cell) → Four a b c d →
      AllCalm (a ∷ b ∷ c ∷ d ∷ []) cells → Sound n cells
      → Honest n coefs (AllShow cells coefs) (run s p a b c d cells)
  unfolding run
  run_honest a b c d cells f all sound =
      honest_ask n coefs _ 17 (interrupted p a b c d) (any_found s p a b c d cells)
      (λ t. any_honest a b c d cells t f all sound)

  calm : (i : ℕ) (cells : List Cell) → i < n → is_calm s p cells i ≡ true → Calm i cells
  calm i cells l e =
      let both = and_parts _ _ (and_parts _ _ e).0 in
      ((l, eqb-true _ _ both.0), not-true _ both.1)

  four_if : (t : Bool) (a b c d : ℕ) (cells : List Cell) → Four a b c d → Sound n cells
      → (is_calm s p cells a && is_calm s p cells b && is_calm s p cells c && is_calm s p cells d)
      ≡ t
      → Honest n coefs (AllShow cells coefs)
      (elim t [
        | true ↦ run s p a b c d cells
        | false ↦ each cleanup s p
            (a ∷ b ∷ c ∷ d ∷ []) cells
      ])
  four_if true a b c d cells f sound e =
      let abc = and_parts _ _ e in
      let ab = and_parts _ _ abc.0 in
      let a_b = and_parts _ _ ab.0 in
      run_honest a b c d cells f (
        calm a cells (omega arith) a_b.0,
        (
          calm b cells (omega arith) a_b.1,
          (calm c cells (omega arith) ab.1, (calm d cells (omega arith) abc.1, tt)),
        ),
      ) sound
  four_if false a b c d cells f sound e =
      each_honest n coefs s p cleanup (a ∷ b ∷ c ∷ d ∷ []) cells
      (omega arith, (omega arith, (omega arith, (omega arith, tt)))) sound

  four_honest : (a b c d : ℕ) (cells : List Cell) → Four a b c d → Sound n cells →
      Honest n coefs (AllShow cells coefs) (four s p a b c d cells)
  unfolding four
  four_honest a b c d cells f sound =
      four_if (is_calm s p cells a && is_calm s p cells b && is_calm s p cells c && is_calm s p cells d) a b c d cells f sound refl

  pub column_honest : (kind : Kind) (is : List ℕ) (cells : List Cell) → Rising n is →
      Sound n cells → Honest n coefs (AllShow cells coefs) (column kind s p is cells)
  column_honest cleanup (a ∷ b ∷ c ∷ d ∷ []) cells r sound =
      four_honest a b c d cells (r.0, r.1.0, r.1.1.0, r.1.1.1) sound
  column_honest kind is cells r sound = each_honest n coefs s p kind is cells (within n is r) sound

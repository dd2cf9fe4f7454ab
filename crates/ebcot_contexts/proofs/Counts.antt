-- How many symbols the passes of a block have at most.
use Rattle.std.proofs.Common.{ℕ, zero, suc, ◌+◌, ◌-◌, ◌*◌, ◌/◌, ◌%◌, ◌<◌, ◌≤◌, ◌≡◌, inl, inr, Bool}
use Rattle.std.proofs.Common.{true, false, not, ◌&&◌, ltb, List, [], ◌∷◌, length, set, replicate}
use Rattle.std.proofs.Common.{refl, sym, ap, ◌∙◌, arith, subst}
use Rattle.std.proofs.lemmas.Bool.{cases_eq, and_parts, not-true, eqb-true, lt-ltb}
use Rattle.std.proofs.lemmas.List.{get_or-set_other, length-set, length-replicate, length-map}
use Rattle.std.proofs.lemmas.Nat.{mul-le}
use Rattle.ebcot_contexts.specs.Cells.{Cell, fresh, is_significant, cell_at, number, learn}
use Rattle.ebcot_contexts.specs.Cells.{become_significant}
use Rattle.ebcot_contexts.specs.Contexts.{Shape}
use Rattle.ebcot_contexts.specs.Asks.{Asks, done, ask, chain, symbols, outcome, truth}
use Rattle.ebcot_contexts.specs.Passes.{Kind, significance, refinement, cleanup, learned}
use Rattle.ebcot_contexts.specs.Passes.{sign_asked, after_bit, place, is_coded, coded_in, visit}
use Rattle.ebcot_contexts.specs.Passes.{each, found_at, any_found, run, is_calm, four, column}
use Rattle.ebcot_contexts.specs.Passes.{columns, kind_at, counted, column_at, scan, pass, passes}
use Rattle.ebcot_contexts.specs.Passes.{start, block}
use Rattle.ebcot_contexts.specs.Meaning.{symbols_of}
use Rattle.ebcot_contexts.proofs.Scanned.{Within, Rising, AllRising, within, scan_rises}

-- what holds at the end of so many questions, after q others
abbrev Costs : (ℕ → List Cell → Type 0) → ℕ → Asks → Type 0
Costs P q (done cells) = P q cells
Costs P q (ask cx question answered) = (b : Bool) → Costs P (suc q) (answered b)

costs_chain : (P Q : ℕ → List Cell → Type 0) (q : ℕ) (t : Asks) (f : List Cell → Asks) →
    Costs P q t → ((r : ℕ) (c : List Cell) → P r c → Costs Q r (f c)) → Costs Q q (chain t f)
costs_chain P Q q (done cells) f h k = k q cells h
costs_chain P Q q (ask cx question answered) f h k =
    λ b. costs_chain P Q (suc q) (answered b) f (h b) k

costs_symbols : (P : ℕ → List Cell → Type 0) (coefs : List (ℕ × Bool)) (q : ℕ) (t : Asks) →
    Costs P q t → P (q + length (symbols coefs t)) (outcome coefs t)
costs_symbols P coefs q (done cells) h =
    subst (λ (v : ℕ). P v cells) (let e : q ≡ q + 0 = omega arith in e) h
costs_symbols P coefs q (ask cx question answered) h =
    let rest : Asks = answered (truth coefs question) in
    subst (λ (v : ℕ). P v (outcome coefs rest))
    (let e : suc q + length (symbols coefs rest) ≡ q + suc (length (symbols coefs rest)) =
    omega arith in e)
    (costs_symbols P coefs (suc q) (answered (truth coefs question)) (h (truth coefs question)))

-- all unknown planes, and all significant places
abbrev unknowns : List Cell → ℕ
unknowns [] = 0
unknowns (c ∷ cs) = c.unknown + unknowns cs

abbrev significants : List Cell → ℕ
significants [] = 0
significants (c ∷ cs) = number (is_significant c) + significants cs

unknowns_set : (cells : List Cell) (i : ℕ) (x : Cell) → i < length cells →
    unknowns (set cells i x) + (cell_at cells i).unknown ≡ unknowns cells + x.unknown
unknowns_set [] i x l = absurd (omega arith)
unknowns_set (c ∷ cs) zero x l = omega arith
unknowns_set (c ∷ cs) (suc i) x l =
    let h : unknowns (set cs i x) + (cell_at cs i).unknown ≡ unknowns cs + x.unknown =
    unknowns_set cs i x (omega arith) in omega arith

significants_set : (cells : List Cell) (i : ℕ) (x : Cell) → i < length cells
    → significants (set cells i x) + number (is_significant (cell_at cells i))
    ≡ significants cells + number (is_significant x)
significants_set [] i x l = absurd (omega arith)
significants_set (c ∷ cs) zero x l = omega arith
significants_set (c ∷ cs) (suc i) x l =
    let h : significants (set cs i x) + number (is_significant (cell_at cs i))
    ≡ significants cs + number (is_significant x) = significants_set cs i x (omega arith) in
    omega arith

number_few : (b : Bool) → number b ≤ 1
number_few true = omega arith
number_few false = omega arith

significants_few : (cells : List Cell) → significants cells ≤ length cells
significants_few [] = omega arith
significants_few (c ∷ cs) = let h : significants cs ≤ length cs =
    significants_few cs in let k : number (is_significant c) ≤ 1 =
    number_few (is_significant c) in omega arith

-- significance is never lost
grows : (k : ℕ) (b : Bool) → number (ltb 0 k) ≤ number (ltb 0 (2 * k + number b))
grows zero b = omega arith
grows (suc k) b = rw (lt-ltb 0 (2 * suc k + number b) (omega arith)) (number_few (ltb 0 (suc k)))

appeared : (k : ℕ) → number (ltb 0 (2 * k + 1)) ≡ 1
appeared k = ap number (lt-ltb 0 (2 * k + 1) (omega arith))

-- so many questions are paid by what became known, by new significant places, and by x
pub record Paid (n from x q : ℕ) (cells : List Cell) : Type 0 where
  pub long : length cells ≡ n
  pub paid : q + unknowns cells ≤ from + significants cells + x

module _ (n from : ℕ) (s : Shape) (p : ℕ) where
  -- what a place that learns a bit pays for, or one that becomes significant
  learned_pays : (x q r : ℕ) (b : Bool) (i : ℕ) (cells : List Cell) → i < n →
      (cell_at cells i).unknown ≡ suc p → q ≤ suc r → Paid n from x r cells →
      Paid n from x q (learned p b i cells)
  learned_pays x q r b i cells l u m h =
      let l' : i < length cells = omega (arith, h.long) in
      let a : unknowns (learned p b i cells) + (cell_at cells i).unknown ≡ unknowns cells + p =
      unknowns_set cells i (learn p b (cell_at cells i)) l' in
      let g : significants (learned p b i cells) + number (is_significant (cell_at cells i))
      ≡ significants cells + number (is_significant (learn p b (cell_at cells i))) =
      significants_set cells i (learn p b (cell_at cells i)) l' in
      let k : number (is_significant (cell_at cells i)) ≤ number
      (is_significant (learn p b (cell_at cells i))) = grows (cell_at cells i).magnitude b in
      let old : r + unknowns cells ≤ from + significants cells + x = h.paid in
      record {
        long = length-set cells i (learn p b (cell_at cells i))
            ∙ h.long;
        paid = omega arith;
      }

  appear_pays : (x q r : ℕ) (m : Bool) (i : ℕ) (cells : List Cell) → i < n →
      (cell_at cells i).unknown ≡ suc p → is_significant (cell_at cells i) ≡ false →
      q ≤ suc (suc r) → Paid n from x r cells
      → Paid n from x q (set cells i (become_significant p m (cell_at cells i)))
  appear_pays x q r m i cells l u none few h =
      let l' : i < length cells = omega (arith, h.long) in
      let a : unknowns (set cells i (become_significant p m (cell_at cells i))) +
      (cell_at cells i).unknown ≡ unknowns cells + p =
      unknowns_set cells i (become_significant p m (cell_at cells i)) l' in
      let g : significants (set cells i (become_significant p m (cell_at cells i))) + number
      (is_significant (cell_at cells i))
      ≡ significants cells + number (is_significant
      (become_significant p m (cell_at cells i))) =
      significants_set cells i (become_significant p m (cell_at cells i)) l' in
      let z : number (is_significant (cell_at cells i)) ≡ 0 = ap number none in
      let w : number (is_significant (become_significant p m (cell_at cells i))) ≡ 1 =
      appeared (cell_at cells i).magnitude in
      let old : r + unknowns cells ≤ from + significants cells + x = h.paid in
      record {
        long = length-set cells i (become_significant p m (cell_at cells i))
            ∙ h.long;
        paid = omega arith;
      }

  new_pays : (x q r i : ℕ) (cells : List Cell) → i < n → (cell_at cells i).unknown ≡ suc p →
      is_significant (cell_at cells i) ≡ false → q ≤ suc r → Paid n from x r cells
      → Costs (Paid n from x) q (sign_asked s p i cells)
  unfolding sign_asked
  new_pays x q r i cells l u none few h =
      λ b. appear_pays x (suc q) r _ i cells l u none (omega arith) h

  after_if : (x q : ℕ) (b t : Bool) (i : ℕ) (cells : List Cell) → i < n →
      (cell_at cells i).unknown ≡ suc p → (b && not (is_significant (cell_at cells i))) ≡ t →
      Paid n from x q cells
      → Costs (Paid n from x) (suc q)
      (elim t [ true ↦ sign_asked s p i cells | false ↦ done (learned p b i cells) ])
  after_if x q b true i cells l u e h =
      new_pays x (suc q) q i cells l u (not-true _ (and_parts _ _ e).1) (omega arith) h
  after_if x q b false i cells l u e h = learned_pays x (suc q) q b i cells l u (omega arith) h

  place_pays : (x q cx i : ℕ) (cells : List Cell) → i < n → (cell_at cells i).unknown ≡ suc p →
      Paid n from x q cells → Costs (Paid n from x) q (place s cx p i cells)
  unfolding place after_bit
  place_pays x q cx i cells l u h =
      λ b. after_if x q b (b && not (is_significant (cell_at cells i))) i cells l u refl h

  coded_untouched : (kind : Kind) (i : ℕ) (cells : List Cell) → is_coded kind s p i cells ≡ true →
      (cell_at cells i).unknown ≡ suc p
  coded_untouched significance i cells e = eqb-true _ _ (and_parts _ _ (and_parts _ _ e).0).0
  coded_untouched refinement i cells e = eqb-true _ _ (and_parts _ _ e).0
  coded_untouched cleanup i cells e = eqb-true _ _ e

  visit_if : (x q : ℕ) (kind : Kind) (t : Bool) (cx i : ℕ) (cells : List Cell) → i < n →
      is_coded kind s p i cells ≡ t → Paid n from x q cells
      → Costs (Paid n from x) q (elim t [ true ↦ place s cx p i cells | false ↦ done cells ])
  visit_if x q kind true cx i cells l e h =
      place_pays x q cx i cells l (coded_untouched kind i cells e) h
  visit_if x q kind false cx i cells l e h = h

  visit_pays : (x q : ℕ) (kind : Kind) (i : ℕ) (cells : List Cell) → i < n → Paid n from x q cells →
      Costs (Paid n from x) q (visit kind s p i cells)
  unfolding visit
  visit_pays x q kind i cells l h =
      visit_if x q kind (is_coded kind s p i cells) (coded_in kind s i cells) i cells l refl h

  each_pays : (x q : ℕ) (kind : Kind) (is : List ℕ) (cells : List Cell) → Within n is →
      Paid n from x q cells → Costs (Paid n from x) q (each kind s p is cells)
  each_pays x q kind [] cells w h = h
  each_pays x q kind (i ∷ is) cells w h =
      costs_chain (Paid n from x) (Paid n from x) q (visit kind s p i cells) (each kind s p is)
      (visit_pays x q kind i cells w.0 h) (λ r c k. each_pays x r kind is c w.1 k)

  abbrev CalmAs : ℕ → Cell → Type 0
  CalmAs i c = (i < n) × (c.unknown ≡ suc p) × (is_significant c ≡ false)

  abbrev Calm : ℕ → List Cell → Type 0
  Calm i cells = CalmAs i (cell_at cells i)

  calm_kept : (i j : ℕ) (x : Cell) (cells : List Cell) → (j ≡ i → ⊥) → Calm j cells →
      Calm j (set cells i x)
  calm_kept i j x cells e c = subst (CalmAs j) (sym (get_or-set_other cells i j x (fresh 0) e)) c

  zero_pays : (x q i : ℕ) (cells : List Cell) → Calm i cells → Paid n from x q cells →
      Paid n from x q (learned p false i cells)
  zero_pays x q i cells c h = learned_pays x q q false i cells c.0 c.1 (omega arith) h

  -- a 1 that run mode found, after zeros
  tail_pays : (x q r i : ℕ) (below : List ℕ) (cells : List Cell) → Calm i cells → Within n below →
      q ≤ suc r → Paid n from x r cells
      → Costs (Paid n from x) q (chain (sign_asked s p i cells) (each cleanup s p below))
  tail_pays x q r i below cells c w few h =
      costs_chain (Paid n from x) (Paid n from x) q (sign_asked s p i cells)
      (each cleanup s p below) (new_pays x q r i cells c.0 c.1 c.2 few h)
      (λ v d k. each_pays x v cleanup below d w k)

  abbrev Four : ℕ → ℕ → ℕ → ℕ → Type 0
  Four a b c d = (a < b) × (b < c) × (c < d) × (d < n)

  abbrev FourCalm : ℕ → ℕ → ℕ → ℕ → List Cell → Type 0
  FourCalm a b c d cells = Calm a cells × Calm b cells × Calm c cells × Calm d cells

  more : (x q r : ℕ) (cells : List Cell) → q ≤ r + 2 → Paid n from x r cells →
      Paid n from (x + 2) q cells
  more x q r cells l h = let old : r + unknowns cells ≤ from + significants cells + x =
      h.paid in record { long = h.long; paid = omega arith }

  found_at_pays : (x q a b c d : ℕ) (cells : List Cell) (u v : Bool) → Four a b c d →
      FourCalm a b c d cells → Paid n from x q cells
      → Costs (Paid n from (x + 2)) (suc (suc (suc q))) (found_at s p a b c d cells u v)
  found_at_pays x q a b c d cells false false f k h =
      tail_pays (x + 2) (suc (suc (suc q))) (suc (suc q)) a (b ∷ c ∷ d ∷ []) cells k.0
      (k.1.0, (k.2.0, (k.3.0, tt))) (omega arith) (more x (suc (suc q)) q cells (omega arith) h)
  found_at_pays x q a b c d cells false true f k h =
      let one : List Cell = learned p false a cells in
      let h' : Paid n from x q one = zero_pays x q a cells k.0 h in
      tail_pays (x + 2) (suc (suc (suc q))) (suc (suc q)) b (c ∷ d ∷ []) one
      (calm_kept a b _ cells (omega arith) k.1) (k.2.0, (k.3.0, tt)) (omega arith)
      (more x (suc (suc q)) q one (omega arith) h')
  found_at_pays x q a b c d cells true false f k h =
      let one : List Cell = learned p false a cells in
      let two : List Cell = learned p false b one in
      let h' : Paid n from x q one = zero_pays x q a cells k.0 h in
      let h'' : Paid n from x q two =
      zero_pays x q b one (calm_kept a b _ cells (omega arith) k.1) h' in
      tail_pays (x + 2) (suc (suc (suc q))) (suc (suc q)) c (d ∷ []) two
      (calm_kept b c _ one (omega arith) (calm_kept a c _ cells (omega arith) k.2)) (k.3.0, tt)
      (omega arith) (more x (suc (suc q)) q two (omega arith) h'')
  found_at_pays x q a b c d cells true true f k h =
      let one : List Cell = learned p false a cells in
      let two : List Cell = learned p false b one in
      let three : List Cell = learned p false c two in
      let h' : Paid n from x q one = zero_pays x q a cells k.0 h in
      let h'' : Paid n from x q two =
      zero_pays x q b one (calm_kept a b _ cells (omega arith) k.1) h' in
      let h''' : Paid n from x q three =
      zero_pays x q c two (calm_kept b c _ one (omega arith)
      (calm_kept a c _ cells (omega arith) k.2)) h'' in
      tail_pays (x + 2) (suc (suc (suc q))) (suc (suc q)) d [] three
      (calm_kept c d _ two (omega arith)
      (calm_kept b d _ one (omega arith) (calm_kept a d _ cells (omega arith) k.3))) tt
      (omega arith) (more x (suc (suc q)) q three (omega arith) h''')

  -- a column of zeros costs one question
  any_pays : (x q a b c d : ℕ) (cells : List Cell) (t : Bool) → Four a b c d →
      FourCalm a b c d cells → Paid n from x q cells
      → Costs (Paid n from (x + 2)) (suc q) (any_found s p a b c d cells t)
  any_pays x q a b c d cells true f k h = λ u v. found_at_pays x q a b c d cells u v f k h
  any_pays x q a b c d cells false f k h =
      let one : List Cell = learned p false a cells in
      let two : List Cell = learned p false b one in
      let three : List Cell = learned p false c two in
      let h' : Paid n from x q one = zero_pays x q a cells k.0 h in
      let h'' : Paid n from x q two =
      zero_pays x q b one (calm_kept a b _ cells (omega arith) k.1) h' in
      let h''' : Paid n from x q three =
      zero_pays x q c two (calm_kept b c _ one (omega arith)
      (calm_kept a c _ cells (omega arith) k.2)) h'' in
      more x (suc q) q (learned p false d three) (omega arith)
      (zero_pays x q d three (calm_kept c d _ two (omega arith)
      (calm_kept b d _ one (omega arith) (calm_kept a d _ cells (omega arith) k.3))) h''')

  calm : (i : ℕ) (cells : List Cell) → i < n → is_calm s p cells i ≡ true → Calm i cells
  calm i cells l e =
      let both = and_parts _ _ (and_parts _ _ e).0 in
      (l, eqb-true _ _ both.0, not-true _ both.1)

  four_if : (x q : ℕ) (t : Bool) (a b c d : ℕ) (cells : List Cell) → Four a b c d
      → (is_calm s p cells a && is_calm s p cells b && is_calm s p cells c && is_calm s p cells d)
      ≡ t → Paid n from x q cells
      → Costs (Paid n from (x + 2)) q
      (elim t [
        | true ↦ run s p a b c d cells
        | false ↦ each cleanup s p
            (a ∷ b ∷ c ∷ d ∷ []) cells
      ])
  unfolding run
  four_if x q true a b c d cells f e h =
      let abc = and_parts _ _ e in
      let ab = and_parts _ _ abc.0 in
      let a_b = and_parts _ _ ab.0 in
      λ t. any_pays x q a b c d cells t f (
        calm a cells (omega arith) a_b.0,
        calm b cells (omega arith) a_b.1,
        calm c cells
            (omega arith) ab.1,
        calm d cells (omega arith) abc.1,
      ) h
  four_if x q false a b c d cells f e h =
      each_pays (x + 2) q cleanup (a ∷ b ∷ c ∷ d ∷ []) cells
      (omega arith, (omega arith, (omega arith, (omega arith, tt))))
      (more x q q cells (omega arith) h)

  four_pays : (x q a b c d : ℕ) (cells : List Cell) → Four a b c d → Paid n from x q cells →
      Costs (Paid n from (x + 2)) q (four s p a b c d cells)
  unfolding four
  four_pays x q a b c d cells f h =
      four_if x q (is_calm s p cells a && is_calm s p cells b && is_calm s p cells c && is_calm s p cells d) a b c d cells f refl h

  -- what a column may cost beside: two questions in a cleanup
  abbrev beside : Kind → ℕ
  beside significance = 0
  beside refinement = 0
  beside cleanup = 2

  column_pays : (x q : ℕ) (kind : Kind) (is : List ℕ) (cells : List Cell) → Rising n is →
      Paid n from x q cells → Costs (Paid n from (x + beside kind)) q (column kind s p is cells)
  column_pays x q cleanup (a ∷ b ∷ c ∷ d ∷ []) cells r h =
      four_pays x q a b c d cells (r.0, r.1.0, r.1.1.0, r.1.1.1) h
  column_pays x q kind is cells r h =
      each_pays _ q kind is cells (within n is r)
      (let old : q + unknowns cells ≤ from + significants cells + x =
      h.paid in record { long = h.long; paid = omega arith })

  columns_pay : (x q : ℕ) (kind : Kind) (cs : List (List ℕ)) (cells : List Cell) → AllRising n cs →
      Paid n from x q cells
      → Costs (Paid n from (x + beside kind * length cs)) q (columns kind s p cs cells)
  columns_pay x q kind [] cells r h = let old : q + unknowns cells ≤ from + significants cells + x =
      h.paid in record { long = h.long; paid = omega arith }
  columns_pay x q kind (is ∷ rest) cells r h =
      costs_chain (Paid n from (x + beside kind))
      (Paid n from (x + beside kind * suc (length rest))) q (column kind s p is cells)
      (columns kind s p rest) (column_pays x q kind is cells r.0 h)
      (λ v c k.
      subst (λ (y : ℕ). Costs (Paid n from y) v (columns kind s p rest c))
      (let e : x + beside kind + beside kind * length rest ≡ x + beside kind * suc (length rest) =
      omega arith in e)
      (columns_pay (x + beside kind) v kind rest c r.1 k))

counted_length : (m b : ℕ) → length (counted m b) ≡ m
counted_length zero b = refl
counted_length (suc m) b = ap suc (counted_length m (suc b))

-- how many columns a scan has
abbrev pub column_count : Shape → ℕ
column_count s = s.width * ((s.height + 3) / 4)

scan_length : (w h : ℕ) → length (scan w h) ≡ w * ((h + 3) / 4)
unfolding scan
scan_length w h = length-map (counted (w * ((h + 3) / 4)) 0) (column_at w h)
    ∙ counted_length (w * ((h + 3) / 4)) 0

kind_costs : (n from : ℕ) (s : Shape) (p : ℕ) (k c : ℕ) →
    beside n from s p (kind_at ((k + 2) % 3)) * c ≤ 2 * c * ((k + 3) / 3) - 2 * c * ((k + 2) / 3)
kind_costs n from s p k c =
    elim (cases_eq ((k + 2) % 3) 2) [
      | inl e ↦
          let up : (k + 3) / 3 ≡ (k + 2) / 3 + 1 = omega arith in
          let j : 2 * c * ((k + 2) / 3 + 1) ≡ 2 * c * ((k + 2) / 3) + 2 * c = omega arith in
          let b : beside n from s p (kind_at ((k + 2) % 3)) ≡ 2 =
          ap (λ (v : ℕ). beside n from s p (kind_at v)) e in
          let l : 2 * c ≤ 2 * c * ((k + 2) / 3 + 1) - 2 * c * ((k + 2) / 3) = omega arith in
          subst (λ (v : ℕ). v * c ≤ 2 * c * ((k + 3) / 3) - 2 * c * ((k + 2) / 3)) (sym b)
          (subst (λ (v : ℕ). 2 * c ≤ 2 * c * v - 2 * c * ((k + 2) / 3)) (sym up) l)
      | inr e ↦ subst (λ (v : ℕ). v ≤ 2 * c * ((k + 3) / 3) - 2 * c * ((k + 2) / 3))
          (sym (none ((k + 2) % 3) (omega arith))) (omega arith)
    ]
  where
    none : (r : ℕ) → r < 2 → beside n from s p (kind_at r) * c ≡ 0
    none zero l = omega arith
    none (suc zero) l = omega arith
    none (suc (suc r)) l = absurd (omega arith)

paid_less : (n from x y q : ℕ) (cells : List Cell) → x ≤ y → Paid n from x q cells →
    Paid n from y q cells
paid_less n from x y q cells l h = let old : q + unknowns cells ≤ from + significants cells + x =
    h.paid in record { long = h.long; paid = omega arith }

costs_map : (P Q : ℕ → List Cell → Type 0) (q : ℕ) (t : Asks) →
    ((r : ℕ) (c : List Cell) → P r c → Q r c) → Costs P q t → Costs Q q t
costs_map P Q q (done cells) f h = f q cells h
costs_map P Q q (ask cx question answered) f h = λ b. costs_map P Q (suc q) (answered b) f (h b)

pass_pays : (from x q : ℕ) (s : Shape) (j : ℕ) (cells : List Cell) →
    Paid (s.width * s.height) from x q cells
    → Costs (Paid (s.width * s.height) from
    (x + (2 * column_count s * ((j + 3) / 3) - 2 * column_count s * ((j + 2) / 3)))) q
    (pass s j cells)
unfolding pass
pass_pays from x q s j cells h =
    let n : ℕ = s.width * s.height in
    let p : ℕ = s.planes - 1 - (j + 2) / 3 in
    let c : ℕ = column_count s in
    let kind : Kind = kind_at ((j + 2) % 3) in
    let few : beside n from s p kind * length (scan s.width s.height) ≤ 2 * c *
    ((j + 3) / 3) - 2 * c * ((j + 2) / 3) =
    subst (λ (v : ℕ). beside n from s p kind * v ≤ 2 * c * ((j + 3) / 3) - 2 * c * ((j + 2) / 3))
    (sym (scan_length s.width s.height)) (kind_costs n from s p j c) in
    costs_map (Paid n from (x + beside n from s p kind * length (scan s.width s.height)))
    (Paid n from (x + (2 * c * ((j + 3) / 3) - 2 * c * ((j + 2) / 3)))) q
    (columns kind s p (scan s.width s.height) cells)
    (λ r d k. paid_less n from (x + beside n from s p kind * length (scan s.width s.height))
    (x + (2 * c * ((j + 3) / 3) - 2 * c * ((j + 2) / 3))) r d (omega arith) k)
    (columns_pay n from s p x q kind (scan s.width s.height) cells (scan_rises s.width s.height) h)

start_unknowns : (m p : ℕ) → unknowns (replicate m (fresh p)) ≡ m * p
start_unknowns zero p = omega arith
start_unknowns (suc m) p = let h : unknowns (replicate m (fresh p)) ≡ m * p =
    start_unknowns m p in omega arith

passes_pay : (s : Shape) (k : ℕ) →
    Costs (Paid (s.width * s.height) (s.width * s.height * s.planes)
    (2 * column_count s * ((k + 2) / 3))) 0 (passes s k (start s))
passes_pay s zero =
    let u : unknowns (start s) ≡ s.width * s.height * s.planes =
    start_unknowns (s.width * s.height) s.planes in
    record { long = length-replicate (s.width * s.height) (fresh s.planes); paid = omega arith }
passes_pay s (suc k) =
    let n : ℕ = s.width * s.height in
    let c : ℕ = column_count s in
    let three : suc k + 2 ≡ k + 3 = omega arith in
    let step : (k + 2) / 3 ≤ (k + 3) / 3 = omega arith in
    let same : 2 * c * ((k + 2) / 3) + (2 * c * ((k + 3) / 3) - 2 * c * ((k + 2) / 3))
    ≡ 2 * c * ((suc k + 2) / 3) =
    up (2 * c) ((k + 2) / 3) ((k + 3) / 3) step ∙ ap (λ (v : ℕ). 2 * c * (v / 3)) (sym three) in
    costs_chain (Paid n (n * s.planes) (2 * c * ((k + 2) / 3)))
    (Paid n (n * s.planes) (2 * c * ((suc k + 2) / 3))) 0 (passes s k (start s)) (pass s k)
    (passes_pay s k)
    (λ r d h. subst (λ (v : ℕ). Costs (Paid n (n * s.planes) v) r (pass s k d)) same
    (pass_pays (n * s.planes) (2 * c * ((k + 2) / 3)) r s k d h))
  where
    up : (a b d : ℕ) → b ≤ d → a * b + (a * d - a * b) ≡ a * d
    up a b d l = let m : a * b ≤ a * d = grind arith in omega arith

-- The symbols of the first k passes: at most one for each bit plane of each place, one for each
-- sign, and two for each column in each plane.
pub few_symbols : (coefs : List (ℕ × Bool)) (s : Shape) (k : ℕ)
    → length (symbols_of coefs s k) ≤ s.width * s.height * s.planes + s.width * s.height + 2 * column_count s * ((k + 2) / 3)
unfolding block
few_symbols coefs s k =
    let n : ℕ = s.width * s.height in
    let c : ℕ = column_count s in
    let h : Paid n (n * s.planes) (2 * c * ((k + 2) / 3))
    (0 + length (symbols coefs (passes s k (start s)))) (outcome coefs (passes s k (start s))) =
    costs_symbols (Paid n (n * s.planes) (2 * c * ((k + 2) / 3))) coefs 0 (passes s k (start s))
    (passes_pay s k) in
    let l : 0 + length (symbols coefs (passes s k (start s))) + unknowns
    (outcome coefs (passes s k (start s))) ≤ n * s.planes + significants
    (outcome coefs (passes s k (start s))) + 2 * c * ((k + 2) / 3) = h.paid in
    let g : significants (outcome coefs (passes s k (start s))) ≤ length
    (outcome coefs (passes s k (start s))) =
    significants_few (outcome coefs (passes s k (start s))) in
    let e : length (outcome coefs (passes s k (start s))) ≡ n = h.long in
    omega arith

-- of a block of at most 32 by 32 places and 20 planes
pub at_most : (coefs : List (ℕ × Bool)) (s : Shape) (k : ℕ) → s.width ≤ 32 → s.height ≤ 32 →
    s.planes ≤ 20 → k ≤ 3 * s.planes - 2
    → length (symbols_of coefs s k) ≤ 31744
at_most coefs s k w h p l =
    let few : length (symbols_of coefs s k) ≤ s.width * s.height * s.planes + s.width * s.height + 2 * column_count s * ((k + 2) / 3) = few_symbols coefs s k in
    let rows : (s.height + 3) / 4 ≤ 8 = omega arith in
    let turns : (k + 2) / 3 ≤ 20 = omega arith in
    let places : s.width * s.height ≤ 32 * 32 = mul-le s.width s.height 32 32 w h in
    let columns : s.width * ((s.height + 3) / 4) ≤ 32 * 8 =
    mul-le s.width ((s.height + 3) / 4) 32 8 w rows in
    let bits : s.width * s.height * s.planes ≤ 32 * 32 * 20 =
    mul-le (s.width * s.height) s.planes (32 * 32) 20 places p in
    let runs : 2 * column_count s * ((k + 2) / 3) ≤ 2 * (32 * 8) * 20 =
    mul-le (2 * column_count s) ((k + 2) / 3) (2 * (32 * 8)) 20 (omega arith) turns in
    omega arith

-- What is known after the passes doesn't depend on the band's orient.
use Rattle.std.proofs.Common.{ℕ, zero, suc, ◌+◌, ◌-◌, ◌/◌, ◌%◌, ◌≡◌, Bool, true, false, ◌&&◌, List}
use Rattle.std.proofs.Common.{[], ◌∷◌, refl, sym, ap, ◌∙◌}
use Rattle.cine_nums.specs.declared.orient.Orient.{Orient}
use Rattle.ebcot_contexts.specs.Cells.{Cell}
use Rattle.ebcot_contexts.specs.Contexts.{Shape, sign_at, is_quiet}
use Rattle.ebcot_contexts.specs.Asks.{interrupted, row_high, row_low, Asks, done, ask, chain}
use Rattle.ebcot_contexts.specs.Asks.{outcome}
use Rattle.ebcot_contexts.specs.Passes.{Kind, significance, refinement, cleanup, sign_asked}
use Rattle.ebcot_contexts.specs.Passes.{after_bit, place, is_coded, coded_in, visit, each, zeros}
use Rattle.ebcot_contexts.specs.Passes.{found, found_at, any_found, run, is_calm, four, column}
use Rattle.ebcot_contexts.specs.Passes.{columns, kind_at, scan, pass, passes, start, block}

-- questions without their contexts
abbrev bare : Asks → Asks
bare (done cells) = done cells
bare (ask cx q answered) = ask 0 q (λ b. bare (answered b))

bare_outcome : (coefs : List (ℕ × Bool)) (t : Asks) → outcome coefs (bare t) ≡ outcome coefs t
bare_outcome coefs (done cells) = refl
bare_outcome coefs (ask cx q answered) = bare_outcome coefs (answered _)

bare_chain : (t : Asks) (f : List Cell → Asks) → bare (chain t f) ≡ chain (bare t) (λ c. bare (f c))
bare_chain (done cells) f = refl
bare_chain (ask cx q answered) f = λ i. ask 0 q (λ b. bare_chain (answered b) f i)

module _ (w h n : ℕ) (o o' : Orient) (p : ℕ) where
  abbrev one : Shape
  one = record { orient = o; width = w; height = h; planes = n }

  abbrev two : Shape
  two = record { orient = o'; width = w; height = h; planes = n }

  chain_bare : (t t' : Asks) (f f' : List Cell → Asks) → bare t ≡ bare t' →
      ((c : List Cell) → bare (f c) ≡ bare (f' c)) → bare (chain t f) ≡ bare (chain t' f')
  chain_bare t t' f f' e h =
      bare_chain t f ∙ ap (λ (r : Asks). chain r (λ c. bare (f c))) e
      ∙ (λ i. chain (bare t') (λ c. h c i)) ∙ sym (bare_chain t' f')

  visit_if : (kind : Kind) (t : Bool) (cx cx' i : ℕ) (cells : List Cell)
      → bare (elim t [ true ↦ place one cx p i cells | false ↦ done cells ])
      ≡ bare (elim t [ true ↦ place two cx' p i cells | false ↦ done cells ])
  unfolding place after_bit sign_asked sign_at
  visit_if kind true cx cx' i cells = refl
  visit_if kind false cx cx' i cells = refl

  visit_same : (kind : Kind) (i : ℕ) (cells : List Cell) →
      bare (visit kind one p i cells) ≡ bare (visit kind two p i cells)
  unfolding visit is_quiet
  visit_same significance i cells =
      visit_if significance (is_coded significance one p i cells)
      (coded_in significance one i cells) (coded_in significance two i cells) i cells
  visit_same refinement i cells =
      visit_if refinement (is_coded refinement one p i cells) (coded_in refinement one i cells)
      (coded_in refinement two i cells) i cells
  visit_same cleanup i cells = visit_if cleanup (is_coded cleanup one p i cells)
      (coded_in cleanup one i cells) (coded_in cleanup two i cells) i cells

  each_same : (kind : Kind) (is : List ℕ) (cells : List Cell) →
      bare (each kind one p is cells) ≡ bare (each kind two p is cells)
  each_same kind [] cells = refl
  each_same kind (i ∷ is) cells =
      chain_bare (visit kind one p i cells) (visit kind two p i cells) (each kind one p is)
      (each kind two p is) (visit_same kind i cells) (λ c. each_same kind is c)

  new_same : (i : ℕ) (cells : List Cell) →
      bare (sign_asked one p i cells) ≡ bare (sign_asked two p i cells)
  unfolding sign_asked sign_at
  new_same i cells = refl

  found_same : (before : List ℕ) (i : ℕ) (below : List ℕ) (cells : List Cell) →
      bare (found one p before i below cells) ≡ bare (found two p before i below cells)
  found_same before i below cells =
      chain_bare (sign_asked one p i (zeros p before cells))
      (sign_asked two p i (zeros p before cells)) (each cleanup one p below)
      (each cleanup two p below)
      (new_same i (zeros p before cells)) (λ c. each_same cleanup below c)

  found_at_same : (a b c d : ℕ) (cells : List Cell) (h l : Bool) →
      bare (found_at one p a b c d cells h l) ≡ bare (found_at two p a b c d cells h l)
  found_at_same a b c d cells false false = found_same [] a (b ∷ c ∷ d ∷ []) cells
  found_at_same a b c d cells false true = found_same (a ∷ []) b (c ∷ d ∷ []) cells
  found_at_same a b c d cells true false = found_same (a ∷ b ∷ []) c (d ∷ []) cells
  found_at_same a b c d cells true true = found_same (a ∷ b ∷ c ∷ []) d [] cells

  any_same : (a b c d : ℕ) (cells : List Cell) (t : Bool) →
      bare (any_found one p a b c d cells t) ≡ bare (any_found two p a b c d cells t)
  any_same a b c d cells false = refl
  any_same a b c d cells true = λ i. ask 0 (row_high p a b c d)
      (λ h. ask 0 (row_low p a b c d) (λ l. found_at_same a b c d cells h l i))

  run_same : (a b c d : ℕ) (cells : List Cell) →
      bare (run one p a b c d cells) ≡ bare (run two p a b c d cells)
  unfolding run
  run_same a b c d cells = λ i. ask 0 (interrupted p a b c d) (λ t. any_same a b c d cells t i)

  four_if : (t : Bool) (a b c d : ℕ) (cells : List Cell)
      → bare (elim t [
        | true ↦ run one p a b c d cells
        | false ↦ each cleanup one p
            (a ∷ b ∷ c ∷ d ∷ []) cells
      ])
      ≡ bare (elim t [
        | true ↦ run two p a b c d cells
        | false ↦ each cleanup two p
            (a ∷ b ∷ c ∷ d ∷ []) cells
      ])
  four_if true a b c d cells = run_same a b c d cells
  four_if false a b c d cells = each_same cleanup (a ∷ b ∷ c ∷ d ∷ []) cells

  four_same : (a b c d : ℕ) (cells : List Cell) →
      bare (four one p a b c d cells) ≡ bare (four two p a b c d cells)
  unfolding four is_quiet
  four_same a b c d cells = four_if
      (is_calm one p cells a && is_calm one p cells b && is_calm one p cells c && is_calm one p cells d) a b c d cells

  column_same : (kind : Kind) (is : List ℕ) (cells : List Cell) →
      bare (column kind one p is cells) ≡ bare (column kind two p is cells)
  column_same cleanup (a ∷ b ∷ c ∷ d ∷ []) cells = four_same a b c d cells
  column_same kind is cells = each_same kind is cells

  columns_same : (kind : Kind) (cs : List (List ℕ)) (cells : List Cell) →
      bare (columns kind one p cs cells) ≡ bare (columns kind two p cs cells)
  columns_same kind [] cells = refl
  columns_same kind (is ∷ rest) cells =
      chain_bare (column kind one p is cells) (column kind two p is cells) (columns kind one p rest)
      (columns kind two p rest)
      (column_same kind is cells) (λ c. columns_same kind rest c)

pass_same : (w h n : ℕ) (o o' : Orient) (j : ℕ) (cells : List Cell)
    → bare (pass (record { orient = o; width = w; height = h; planes = n }) j cells)
    ≡ bare (pass (record { orient = o'; width = w; height = h; planes = n }) j cells)
unfolding pass
pass_same w h n o o' j cells =
    columns_same w h n o o' (n - 1 - (j + 2) / 3) (kind_at ((j + 2) % 3)) (scan w h) cells

passes_same : (w h n : ℕ) (o o' : Orient) (k : ℕ) (cells : List Cell)
    → bare (passes (record { orient = o; width = w; height = h; planes = n }) k cells)
    ≡ bare (passes (record { orient = o'; width = w; height = h; planes = n }) k cells)
passes_same w h n o o' zero cells = refl
passes_same w h n o o' (suc k) cells =
    chain_bare w h n o o' 0 _ _ _ _ (passes_same w h n o o' k cells) (λ c. pass_same w h n o o' k c)

outcome_same : (coefs : List (ℕ × Bool)) (t t' : Asks) → bare t ≡ bare t' →
    outcome coefs t ≡ outcome coefs t'
outcome_same coefs t t' e = sym (bare_outcome coefs t) ∙ ap (outcome coefs) e
    ∙ bare_outcome coefs t'

-- the cells after the first k passes are the same for every orient
pub without_orient : (coefs : List (ℕ × Bool)) (w h n : ℕ) (o o' : Orient) (k : ℕ)
    → outcome coefs (block (record { orient = o; width = w; height = h; planes = n }) k)
    ≡ outcome coefs (block (record { orient = o'; width = w; height = h; planes = n }) k)
unfolding block
without_orient coefs w h n o o' k =
    outcome_same coefs _ _ (passes_same w h n o o' k
    (start (record { orient = o; width = w; height = h; planes = n })))

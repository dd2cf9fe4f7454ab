-- What each write of a cell of plane p keeps holds after a column, and after a pass.
use Rattle.std.proofs.Common.{ℕ, ◌≡◌, Bool, true, false, not, ◌&&◌, List, [], ◌∷◌, set, refl}
use Rattle.ebcot_contexts.specs.Cells.{Cell, is_significant, cell_at}
use Rattle.ebcot_contexts.specs.Contexts.{Shape}
use Rattle.ebcot_contexts.specs.Asks.{done}
use Rattle.ebcot_contexts.specs.Passes.{Kind, cleanup, learned, sign_asked, after_bit, place}
use Rattle.ebcot_contexts.specs.Passes.{is_coded, coded_in, visit, each, zeros, found, found_at}
use Rattle.ebcot_contexts.specs.Passes.{any_found, run, is_calm, four, column, columns}
use Rattle.ebcot_contexts.proofs.Trees.{AtEnds, at_chain}

module _ (R : List Cell → Type 0) (p : ℕ)
    (kept : (cells : List Cell) (i : ℕ) (x : Cell) → x.unknown ≡ p → R cells → R (set cells i x))
    (s : Shape) where
  pub new_kept : (i : ℕ) (cells : List Cell) → R cells → AtEnds R (sign_asked s p i cells)
  unfolding sign_asked
  new_kept i cells r = λ b. kept cells i _ refl r

  after_if : (t b : Bool) (i : ℕ) (cells : List Cell) → R cells →
      AtEnds R (elim t [ true ↦ sign_asked s p i cells | false ↦ done (learned p b i cells) ])
  after_if true b i cells r = new_kept i cells r
  after_if false b i cells r = kept cells i _ refl r

  place_kept : (cx i : ℕ) (cells : List Cell) → R cells → AtEnds R (place s cx p i cells)
  unfolding place after_bit
  place_kept cx i cells r = λ b. after_if (b && not (is_significant (cell_at cells i))) b i cells r

  visit_if : (t : Bool) (cx i : ℕ) (cells : List Cell) → R cells →
      AtEnds R (elim t [ true ↦ place s cx p i cells | false ↦ done cells ])
  visit_if true cx i cells r = place_kept cx i cells r
  visit_if false cx i cells r = r

  pub visit_kept : (kind : Kind) (i : ℕ) (cells : List Cell) → R cells →
      AtEnds R (visit kind s p i cells)
  unfolding visit
  visit_kept kind i cells r = visit_if (is_coded kind s p i cells)
      (coded_in kind s i cells) i cells r

  pub each_kept : (kind : Kind) (is : List ℕ) (cells : List Cell) → R cells →
      AtEnds R (each kind s p is cells)
  each_kept kind [] cells r = r
  each_kept kind (i ∷ is) cells r =
      at_chain R R (visit kind s p i cells) (each kind s p is) (visit_kept kind i cells r)
      (λ c h. each_kept kind is c h)

  pub zeros_kept : (is : List ℕ) (cells : List Cell) → R cells → R (zeros p is cells)
  zeros_kept [] cells r = r
  zeros_kept (i ∷ is) cells r = zeros_kept is (learned p false i cells) (kept cells i _ refl r)

  pub found_kept : (before : List ℕ) (i : ℕ) (below : List ℕ) (cells : List Cell) → R cells →
      AtEnds R (found s p before i below cells)
  found_kept before i below cells r =
      at_chain R R (sign_asked s p i (zeros p before cells)) (each cleanup s p below)
      (new_kept i (zeros p before cells) (zeros_kept before cells r))
      (λ c h. each_kept cleanup below c h)

  found_at_kept : (a b c d : ℕ) (cells : List Cell) (h l : Bool) → R cells →
      AtEnds R (found_at s p a b c d cells h l)
  found_at_kept a b c d cells false false r = found_kept [] a (b ∷ c ∷ d ∷ []) cells r
  found_at_kept a b c d cells false true r = found_kept (a ∷ []) b (c ∷ d ∷ []) cells r
  found_at_kept a b c d cells true false r = found_kept (a ∷ b ∷ []) c (d ∷ []) cells r
  found_at_kept a b c d cells true true r = found_kept (a ∷ b ∷ c ∷ []) d [] cells r

  any_kept : (a b c d : ℕ) (cells : List Cell) (t : Bool) → R cells →
      AtEnds R (any_found s p a b c d cells t)
  any_kept a b c d cells false r = zeros_kept (a ∷ b ∷ c ∷ d ∷ []) cells r
  any_kept a b c d cells true r = λ h l. found_at_kept a b c d cells h l r

  four_if : (t : Bool) (a b c d : ℕ) (cells : List Cell) → R cells
      → AtEnds R (elim t [
        | true ↦ run s p a b c d cells
        | false ↦ each cleanup s p
            (a ∷ b ∷ c ∷ d ∷ []) cells
      ])
  unfolding run
  four_if true a b c d cells r = λ t. any_kept a b c d cells t r
  four_if false a b c d cells r = each_kept cleanup (a ∷ b ∷ c ∷ d ∷ []) cells r

  four_kept : (a b c d : ℕ) (cells : List Cell) → R cells → AtEnds R (four s p a b c d cells)
  unfolding four
  four_kept a b c d cells r = four_if
      (is_calm s p cells a && is_calm s p cells b && is_calm s p cells c && is_calm s p cells d) a b c d cells r

  pub column_kept : (kind : Kind) (is : List ℕ) (cells : List Cell) → R cells →
      AtEnds R (column kind s p is cells)
  column_kept cleanup (a ∷ b ∷ c ∷ d ∷ []) cells r = four_kept a b c d cells r
  column_kept kind is cells r = each_kept kind is cells r

  pub columns_kept : (kind : Kind) (cs : List (List ℕ)) (cells : List Cell) → R cells →
      AtEnds R (columns kind s p cs cells)
  columns_kept kind [] cells r = r
  columns_kept kind (is ∷ rest) cells r =
      at_chain R R (column kind s p is cells) (columns kind s p rest) (column_kept kind is cells r)
      (λ c h. columns_kept kind rest c h)

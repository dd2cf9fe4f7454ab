-- Cells that show coefficients are views of them.
use Rattle.std.proofs.Common.{ℕ, zero, suc, ◌+◌, ◌*◌, ◌/◌, ◌^◌, ◌<◌, ◌≡◌, inl, inr, Bool, true}
use Rattle.std.proofs.Common.{false, ◌&&◌, ltb, List, [], ◌∷◌, length, map, refl, sym, ap, ◌∙◌}
use Rattle.std.proofs.Common.{arith, subst}
use Rattle.std.proofs.lemmas.Bool.{cases_lt}
use Rattle.std.proofs.lemmas.Nat.{shl-shr, pow_pos}
use Rattle.std.proofs.lemmas.List.{get_or-replicate, get_or_past, length-replicate}
use Rattle.std.proofs.Math.Nat.{div-eq_of_lt, lt-mul-div-succ}
use Rattle.ebcot_contexts.specs.Cells.{Cell, fresh, is_significant, cell_at, coef_at, Shows}
use Rattle.ebcot_contexts.specs.Cells.{AllShow, IsPlain, cell_of, view, coef_of}
use Rattle.ebcot_contexts.specs.Contexts.{Shape}
use Rattle.ebcot_contexts.specs.Passes.{start}
use Rattle.ebcot_contexts.specs.Meaning.{unknown_of, IsBlock}

tells_seen : (c : Cell) (m : ℕ × Bool) → Shows c m → c ≡ cell_of m c.unknown
tells_seen c m t =
    let sign : c.negative ≡ (ltb 0 (m.0 / 2 ^ c.unknown) && m.1) = t.sign
    ∙ ap (λ (k : ℕ). ltb 0 k && m.1) t.magnitude in
    λ i. record { magnitude = t.magnitude i; negative = sign i; unknown = c.unknown }

pub tell_view : (cells : List Cell) (coefs : List (ℕ × Bool)) → length cells ≡ length coefs →
    AllShow cells coefs → cells ≡ view coefs (unknown_of cells)
tell_view [] [] l a = refl
tell_view [] (m ∷ ms) l a = absurd (omega arith)
tell_view (c ∷ cs) [] l a = absurd (omega arith)
tell_view (c ∷ cs) (m ∷ ms) l a =
    ap (λ (d : Cell). d ∷ cs) (tells_seen c m (a 0))
    ∙ ap (λ (l : List Cell). cell_of m c.unknown ∷ l)
    (tell_view cs ms (omega arith) (λ i. a (suc i)))

spelled_at : (cells : List Cell) (i : ℕ) → coef_at (map coef_of cells) i ≡ coef_of (cell_at cells i)
spelled_at [] i = refl
spelled_at (c ∷ cs) zero = refl
spelled_at (c ∷ cs) (suc i) = spelled_at cs i

plain_sign : (c : Cell) (t : Bool) → is_significant c ≡ t → IsPlain c →
    c.negative ≡ (t && c.negative)
plain_sign c true e p = refl
plain_sign c false e p = p e

tells_spelled : (c : Cell) → IsPlain c → Shows c (coef_of c)
tells_spelled c p = record {
  magnitude = sym (shl-shr c.magnitude c.unknown);
  sign =
      plain_sign c (is_significant c) refl p;
}

-- plain cells show their own coefficients
pub tell_spelled : (cells : List Cell) → ((i : ℕ) → IsPlain (cell_at cells i)) →
    AllShow cells (map coef_of cells)
tell_spelled cells plain i = subst (Shows (cell_at cells i)) (sym (spelled_at cells i))
    (tells_spelled (cell_at cells i) (plain i))

-- at the start it is known that each index is below 2 to the number of planes
pub start_tells : (s : Shape) (coefs : List (ℕ × Bool)) → IsBlock coefs s → AllShow (start s) coefs
start_tells s coefs b i =
    elim (cases_lt i (s.width * s.height)) [
      | inl l ↦
          subst (λ (c : Cell). Shows c (coef_at coefs i))
          (sym (get_or-replicate (s.width * s.height) i (fresh s.planes) (fresh 0) l))
          (record { magnitude = sym (div-eq_of_lt (b.below i)); sign = refl })
      | inr l ↦
          let none : coef_at coefs i ≡ (0, false) =
          get_or_past coefs i (0, false) (omega (arith, b.long)) in
          let past : cell_at (start s) i ≡ fresh 0 =
          get_or_past (start s) i (fresh 0) (rw length-replicate l) in
          subst (λ (c : Cell). Shows c (coef_at coefs i)) (sym past)
          (subst (Shows (fresh 0)) (sym none) (record { magnitude = refl; sign = refl }))
    ]

small : (m p : ℕ) → 0 ≡ m / 2 ^ p → m < 2 ^ p
small m p e = let l : m < 2 ^ p * (m / 2 ^ p + 1) = lt-mul-div-succ m (pow_pos p) in
    let z : m < 2 ^ p * (0 + 1) = subst (λ (k : ℕ). m < 2 ^ p * (k + 1)) (sym e) l in
    omega arith

pub start_fits : (s : Shape) (coefs : List (ℕ × Bool)) → length coefs ≡ s.width * s.height →
    AllShow (start s) coefs → IsBlock coefs s
start_fits s coefs long a =
    record {
      long = long;
      below = λ i. elim (cases_lt i (s.width * s.height)) [
        | inl l ↦
            let t : Shows (fresh s.planes) (coef_at coefs i) =
            subst (λ (c : Cell). Shows c (coef_at coefs i))
            (get_or-replicate (s.width * s.height) i (fresh s.planes) (fresh 0) l) (a i) in
            small (coef_at coefs i).0 s.planes t.magnitude
        | inr l ↦
            let none : coef_at coefs i ≡ (0, false) =
            get_or_past coefs i (0, false) (omega (arith, long)) in
            subst (λ (m : ℕ × Bool). m.0 < 2 ^ s.planes) (sym none) (pow_pos s.planes)
      ];
    }

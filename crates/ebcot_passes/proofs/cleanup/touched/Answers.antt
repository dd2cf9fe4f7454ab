use Rattle.ebcot_contexts.specs.Cells.{coef_at}
use Rattle.ebcot_contexts.specs.Cells.{bit_of}
use Rattle.ebcot_passes.proofs.Cleanups.{row_zeros}
use Rattle.std.proofs.Common.{ℕ, ◌≡◌, false, List, [], ◌∷◌, set, take, subst, sym}
use Rattle.std.proofs.Common.{arith}
use Rattle.ebcot_contexts.specs.Cells.{Cell}
use Rattle.ebcot_contexts.specs.Passes.{learned, zeros}
use Rattle.ebcot_passes.specs.Coding.{Holds}
use Rattle.ebcot_passes.proofs.Places.{open_row}
use Rattle.ebcot_passes.proofs.RunLemmas.{zero_holds}
use Rattle.ebcot_passes.proofs.Cleanups.{picked}
use Rattle.ebcot_passes.proofs.cleanup.touched.Goals as goal

pub returns-in-1 : goal.returns-in-1
returns-in-1 g = λ s p column stripe n j xa xb xc xd coefs cells l words coder rows new is h0.
    let rows_are : g.args.rows ≡ 1 = omega arith in
    let no = row_zeros (bit_of (coef_at coefs xa).0 p) (bit_of (coef_at coefs xb).0 p)
    (bit_of (coef_at coefs xc).0 p) (bit_of (coef_at coefs xd).0 p) in
    let q0 = picked s.width p column stripe 0 n j xa xb xc xd cells rows new (omega arith) in
    let h1 = zero_holds coefs s p xa cells l _ _ coder q0.inside q0.open_place q0.none
    (no.0 (omega arith)) h0
    (g.touch-first.ensures s.width p xa column stripe n cells words
    (open_row s.width xa column stripe 0 n j cells rows.first q0.inside) q0.none h0.flags) in
    let c1 : List Cell = learned p false xa cells in
    subst (λ (r : ℕ). Holds coefs s p (zeros p (take r (xa ∷ xb ∷ xc ∷ xd ∷ [])) cells) l
    (set words n g.touch-first.result) coder) (sym rows_are) h1

pub returns-in-2 : goal.returns-in-2
returns-in-2 g = λ s p column stripe n j xa xb xc xd coefs cells l words coder rows new is h0.
    let rows_are : g.args.rows ≡ 2 = omega arith in
    let no = row_zeros (bit_of (coef_at coefs xa).0 p) (bit_of (coef_at coefs xb).0 p)
    (bit_of (coef_at coefs xc).0 p) (bit_of (coef_at coefs xd).0 p) in
    let q0 = picked s.width p column stripe 0 n j xa xb xc xd cells rows new (omega arith) in
    let h1 = zero_holds coefs s p xa cells l _ _ coder q0.inside q0.open_place q0.none
    (no.0 (omega arith)) h0
    (g.touch-first.ensures s.width p xa column stripe n cells words
    (open_row s.width xa column stripe 0 n j cells rows.first q0.inside) q0.none h0.flags) in
    let c1 : List Cell = learned p false xa cells in
    let q1 = picked s.width p column stripe 1 n j xa xb xc xd cells rows new (omega arith) in
    let h2 = zero_holds coefs s p xb c1 l _ _ coder q1.inside q1.open_place q1.none
    (no.1 (omega arith)) h1
    (g.touch-second.ensures s.width p xb column stripe n c1 words
    (open_row s.width xb column stripe 1 n j c1 rows.second q1.inside) q1.none h1.flags) in
    let c2 : List Cell = learned p false xb c1 in
    subst (λ (r : ℕ). Holds coefs s p (zeros p (take r (xa ∷ xb ∷ xc ∷ xd ∷ [])) cells) l
    (set words n g.touch-second.result) coder) (sym rows_are) h2

pub returns-in-3 : goal.returns-in-3
returns-in-3 g = λ s p column stripe n j xa xb xc xd coefs cells l words coder rows new is h0.
    let rows_are : g.args.rows ≡ 3 = omega arith in
    let no = row_zeros (bit_of (coef_at coefs xa).0 p) (bit_of (coef_at coefs xb).0 p)
    (bit_of (coef_at coefs xc).0 p) (bit_of (coef_at coefs xd).0 p) in
    let q0 = picked s.width p column stripe 0 n j xa xb xc xd cells rows new (omega arith) in
    let h1 = zero_holds coefs s p xa cells l _ _ coder q0.inside q0.open_place q0.none
    (no.0 (omega arith)) h0
    (g.touch-first.ensures s.width p xa column stripe n cells words
    (open_row s.width xa column stripe 0 n j cells rows.first q0.inside) q0.none h0.flags) in
    let c1 : List Cell = learned p false xa cells in
    let q1 = picked s.width p column stripe 1 n j xa xb xc xd cells rows new (omega arith) in
    let h2 = zero_holds coefs s p xb c1 l _ _ coder q1.inside q1.open_place q1.none
    (no.1 (omega arith)) h1
    (g.touch-second.ensures s.width p xb column stripe n c1 words
    (open_row s.width xb column stripe 1 n j c1 rows.second q1.inside) q1.none h1.flags) in
    let c2 : List Cell = learned p false xb c1 in
    let q2 = picked s.width p column stripe 2 n j xa xb xc xd cells rows new (omega arith) in
    let h3 = zero_holds coefs s p xc c2 l _ _ coder q2.inside q2.open_place q2.none
    (no.2 (omega arith)) h2
    (g.touch-third.ensures s.width p xc column stripe n c2 words
    (open_row s.width xc column stripe 2 n j c2 rows.third q2.inside) q2.none h2.flags) in
    let c3 : List Cell = learned p false xc c2 in
    subst (λ (r : ℕ). Holds coefs s p (zeros p (take r (xa ∷ xb ∷ xc ∷ xd ∷ [])) cells) l
    (set words n g.touch-third.result) coder) (sym rows_are) h3

pub returns-in_default : goal.returns-in_default
returns-in_default g = λ s p column stripe n j xa xb xc xd coefs cells l words coder rows new is h0.
    let four : g.args.rows ≡ 4 = omega arith in
    let no = row_zeros (bit_of (coef_at coefs xa).0 p) (bit_of (coef_at coefs xb).0 p)
    (bit_of (coef_at coefs xc).0 p) (bit_of (coef_at coefs xd).0 p) in
    let q0 = picked s.width p column stripe 0 n j xa xb xc xd cells rows new (omega arith) in
    let h1 = zero_holds coefs s p xa cells l _ _ coder q0.inside q0.open_place q0.none
    (no.0 (omega arith)) h0
    (g.touch-first.ensures s.width p xa column stripe n cells words
    (open_row s.width xa column stripe 0 n j cells rows.first q0.inside) q0.none h0.flags) in
    let c1 : List Cell = learned p false xa cells in
    let q1 = picked s.width p column stripe 1 n j xa xb xc xd cells rows new (omega arith) in
    let h2 = zero_holds coefs s p xb c1 l _ _ coder q1.inside q1.open_place q1.none
    (no.1 (omega arith)) h1
    (g.touch-second.ensures s.width p xb column stripe n c1 words
    (open_row s.width xb column stripe 1 n j c1 rows.second q1.inside) q1.none h1.flags) in
    let c2 : List Cell = learned p false xb c1 in
    let q2 = picked s.width p column stripe 2 n j xa xb xc xd cells rows new (omega arith) in
    let h3 = zero_holds coefs s p xc c2 l _ _ coder q2.inside q2.open_place q2.none
    (no.2 (omega arith)) h2
    (g.touch-third.ensures s.width p xc column stripe n c2 words
    (open_row s.width xc column stripe 2 n j c2 rows.third q2.inside) q2.none h2.flags) in
    let c3 : List Cell = learned p false xc c2 in
    let q3 = picked s.width p column stripe 3 n j xa xb xc xd cells rows new (omega arith) in
    let h4 = zero_holds coefs s p xd c3 l _ _ coder q3.inside q3.open_place q3.none
    (no.3 (omega arith)) h3
    (g.touch.ensures s.width p xd column stripe n c3 words
    (open_row s.width xd column stripe 3 n j c3 rows.fourth q3.inside) q3.none h3.flags) in
    let c4 : List Cell = learned p false xd c3 in
    subst (λ (r : ℕ). Holds coefs s p (zeros p (take r (xa ∷ xb ∷ xc ∷ xd ∷ [])) cells) l
    (set words n g.touch.result) coder) (sym four) h4

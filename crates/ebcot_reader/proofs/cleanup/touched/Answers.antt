use Rattle.std.proofs.Common.{ℕ, ◌≡◌, false, List, [], ◌∷◌, set, take, subst, sym, arith}
use Rattle.ebcot_contexts.specs.Cells.{Cell}
use Rattle.ebcot_contexts.specs.Passes.{learned, zeros}
use Rattle.ebcot_reader.specs.Reading.{Holds}
use Rattle.ebcot_reader.proofs.Places.{open_row}
use Rattle.ebcot_reader.proofs.RunTrees.{picked}
use Rattle.ebcot_reader.proofs.Zeros.{zero_holds}
use Rattle.ebcot_reader.proofs.cleanup.touched.Goals as goal

pub returns-in-1 : goal.returns-in-1
returns-in-1 g =
    λ bytes s p column stripe n j xa xb xc xd st words grid decoder rows new h0.
    let q0 = picked s.width p column stripe 0 n j xa xb xc xd st.0 rows new (omega arith) in
    let h1 = zero_holds bytes s p xa st _ _ grid decoder q0.inside q0.none h0
    (g.touch-first.ensures s.width p xa column stripe n st.0 words
    (open_row s.width xa column stripe 0 n j st.0 rows.first q0.inside) q0.none h0.flags) in
    let rows_are : g.args.rows ≡ 1 = omega arith in
    subst (λ (r : ℕ). Holds bytes s p (zeros p (take r (xa ∷ xb ∷ xc ∷ xd ∷ [])) st.0, st.1)
    (set words n g.touch-first.result) grid decoder) (sym rows_are) h1

pub returns-in-2 : goal.returns-in-2
returns-in-2 g =
    λ bytes s p column stripe n j xa xb xc xd st words grid decoder rows new h0.
    let q0 = picked s.width p column stripe 0 n j xa xb xc xd st.0 rows new (omega arith) in
    let h1 = zero_holds bytes s p xa st _ _ grid decoder q0.inside q0.none h0
    (g.touch-first.ensures s.width p xa column stripe n st.0 words
    (open_row s.width xa column stripe 0 n j st.0 rows.first q0.inside) q0.none h0.flags) in
    let c1 : List Cell = learned p false xa st.0 in
    let q1 = picked s.width p column stripe 1 n j xa xb xc xd st.0 rows new (omega arith) in
    let h2 = zero_holds bytes s p xb (c1, st.1) _ _ grid decoder q1.inside q1.none h1
    (g.touch-second.ensures s.width p xb column stripe n c1 words
    (open_row s.width xb column stripe 1 n j c1 rows.second q1.inside) q1.none h1.flags) in
    let rows_are : g.args.rows ≡ 2 = omega arith in
    subst (λ (r : ℕ). Holds bytes s p (zeros p (take r (xa ∷ xb ∷ xc ∷ xd ∷ [])) st.0, st.1)
    (set words n g.touch-second.result) grid decoder) (sym rows_are) h2

pub returns-in-3 : goal.returns-in-3
returns-in-3 g =
    λ bytes s p column stripe n j xa xb xc xd st words grid decoder rows new h0.
    let q0 = picked s.width p column stripe 0 n j xa xb xc xd st.0 rows new (omega arith) in
    let h1 = zero_holds bytes s p xa st _ _ grid decoder q0.inside q0.none h0
    (g.touch-first.ensures s.width p xa column stripe n st.0 words
    (open_row s.width xa column stripe 0 n j st.0 rows.first q0.inside) q0.none h0.flags) in
    let c1 : List Cell = learned p false xa st.0 in
    let q1 = picked s.width p column stripe 1 n j xa xb xc xd st.0 rows new (omega arith) in
    let h2 = zero_holds bytes s p xb (c1, st.1) _ _ grid decoder q1.inside q1.none h1
    (g.touch-second.ensures s.width p xb column stripe n c1 words
    (open_row s.width xb column stripe 1 n j c1 rows.second q1.inside) q1.none h1.flags) in
    let c2 : List Cell = learned p false xb c1 in
    let q2 = picked s.width p column stripe 2 n j xa xb xc xd st.0 rows new (omega arith) in
    let h3 = zero_holds bytes s p xc (c2, st.1) _ _ grid decoder q2.inside q2.none h2
    (g.touch-third.ensures s.width p xc column stripe n c2 words
    (open_row s.width xc column stripe 2 n j c2 rows.third q2.inside) q2.none h2.flags) in
    let rows_are : g.args.rows ≡ 3 = omega arith in
    subst (λ (r : ℕ). Holds bytes s p (zeros p (take r (xa ∷ xb ∷ xc ∷ xd ∷ [])) st.0, st.1)
    (set words n g.touch-third.result) grid decoder) (sym rows_are) h3

pub returns-in_default : goal.returns-in_default
returns-in_default g =
    λ bytes s p column stripe n j xa xb xc xd st words grid decoder rows new h0.
    let q0 = picked s.width p column stripe 0 n j xa xb xc xd st.0 rows new (omega arith) in
    let h1 = zero_holds bytes s p xa st _ _ grid decoder q0.inside q0.none h0
    (g.touch-first.ensures s.width p xa column stripe n st.0 words
    (open_row s.width xa column stripe 0 n j st.0 rows.first q0.inside) q0.none h0.flags) in
    let c1 : List Cell = learned p false xa st.0 in
    let q1 = picked s.width p column stripe 1 n j xa xb xc xd st.0 rows new (omega arith) in
    let h2 = zero_holds bytes s p xb (c1, st.1) _ _ grid decoder q1.inside q1.none h1
    (g.touch-second.ensures s.width p xb column stripe n c1 words
    (open_row s.width xb column stripe 1 n j c1 rows.second q1.inside) q1.none h1.flags) in
    let c2 : List Cell = learned p false xb c1 in
    let q2 = picked s.width p column stripe 2 n j xa xb xc xd st.0 rows new (omega arith) in
    let h3 = zero_holds bytes s p xc (c2, st.1) _ _ grid decoder q2.inside q2.none h2
    (g.touch-third.ensures s.width p xc column stripe n c2 words
    (open_row s.width xc column stripe 2 n j c2 rows.third q2.inside) q2.none h2.flags) in
    let c3 : List Cell = learned p false xc c2 in
    let q3 = picked s.width p column stripe 3 n j xa xb xc xd st.0 rows new (omega arith) in
    let h4 = zero_holds bytes s p xd (c3, st.1) _ _ grid decoder q3.inside q3.none h3
    (g.touch.ensures s.width p xd column stripe n c3 words
    (open_row s.width xd column stripe 3 n j c3 rows.fourth q3.inside) q3.none h3.flags) in
    let rows_are : g.args.rows ≡ 4 = omega arith in
    subst (λ (r : ℕ). Holds bytes s p (zeros p (take r (xa ∷ xb ∷ xc ∷ xd ∷ [])) st.0, st.1)
    (set words n g.touch.result) grid decoder) (sym rows_are) h4

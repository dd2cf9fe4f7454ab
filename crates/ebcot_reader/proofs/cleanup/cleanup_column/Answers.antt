use Rattle.std.proofs.Common.{ℕ}
use Rattle.ebcot_contexts.specs.Passes.{cleanup}
use Rattle.ebcot_reader.proofs.Settling.{head_settled, settled_visit}
use Rattle.ebcot_reader.proofs.RunTrees.{cleanup_holds}
use Rattle.ebcot_reader.proofs.cleanup.cleanup_column.Goals as goal

pub returns : goal.returns
returns g = λ bytes s at stripe is st col contexts settled h.
    let p : ℕ = g.args.p in
    let h0 = g.read_head-word.ensures bytes s at stripe col.a col.b col.c col.d st col.rows h in
    let s0 = head_settled bytes s p col.a col.b col.c col.d st settled in
    let h1 = g.cleanup_row-first.ensures bytes s col.a at stripe _ col.rows.first contexts
    (s0 col.a) h0 in
    let s1 = settled_visit bytes s p cleanup col.a _ s0 in
    let h2 = g.cleanup_row-second.ensures bytes s col.b at stripe _ col.rows.second contexts
    (s1 col.b) h1 in
    let s2 = settled_visit bytes s p cleanup col.b _ s1 in
    let h3 = g.cleanup_row-third.ensures bytes s col.c at stripe _ col.rows.third contexts
    (s2 col.c) h2 in
    let s3 = settled_visit bytes s p cleanup col.c _ s2 in
    let h4 = g.cleanup_row-fourth.ensures bytes s col.d at stripe _ col.rows.fourth contexts
    (s3 col.d) h3 in
    cleanup_holds bytes s p is col.a col.b col.c col.d st _ _ _ col.places h.long h4

use Rattle.std.proofs.Common.{ℕ, suc, ◌+◌, ◌-◌, ◌/◌, ◌≡◌, inl, inr, List}
use Rattle.std.proofs.Common.{refl, sym, subst, arith}
use Rattle.std.proofs.lemmas.Bool.{cases_lt}
use Rattle.cine_nums.specs.declared.orient.Orient.{Orient}
use Rattle.ebcot_contexts.specs.Cells.{Cell}
use Rattle.ebcot_contexts.specs.Contexts.{Shape}
use Rattle.ebcot_contexts.specs.Passes.{start}
use Rattle.ebcot_contexts.specs.Meaning.{read_block}
use Rattle.flag_words.specs.Words.{AreFlags}
use Rattle.flag_words.proofs.Few.{neighbour_few}
use Rattle.ebcot_reader.specs.Columns.{AreContexts}
use Rattle.ebcot_reader.specs.Reading.{AreKnown, Holds, state_after}
use Rattle.ebcot_reader.specs.Runs.{plane_before}
use Rattle.ebcot_reader.specs.Results.{AreTops}
use Rattle.ebcot_reader.proofs.Firsts.{state_is, start_known, start_holds, tops_after, tops_none}
use Rattle.ebcot_reader.proofs.block.read_passes.Goals as goal

pub loop-k-init : goal.loop-k-init
loop-k-init g = record {
  known = λ s orient wide high planes. start_known g.args.bytes.now s _ refl;
  held = λ s orient wide high planes some.
      start_holds g.args.bytes.now s _ _ g.new-decoder.result (omega arith)
      (subst (λ (v : ℕ). AreFlags v (s.planes - 1) (start s) g.blank-flags.result) (sym wide)
      (g.blank-flags.ensures s wide high some))
      (start_known g.args.bytes.now s _ refl) g.new-decoder.ensures.stands
      g.new-decoder.ensures.bytes;
}

pub loop-k-preserved : goal.loop-k-preserved
loop-k-preserved g =
    let bytes : List ℕ = g.args.bytes.now in
    let k : ℕ = g.loop-k.k in
    let more = g.loop-k-test.true in
    let few = g.requires.passes in
    let next : suc k ≡ k + 1 = omega arith in
    let held : (s : Shape) → s.orient ≡ g.args.orient → s.width ≡ g.args.width
    → s.height ≡ g.args.height → s.planes ≡ g.args.planes
    → Holds bytes s (plane_before s (k + 1)) (state_after bytes s (k + 1)) g.read_next.new.words
    g.read_next.new.grid g.read_next.new.decoder =
    λ s orient wide high planes.
    subst (λ (v : ℕ). Holds bytes s (plane_before s v) (state_after bytes s v)
    g.read_next.new.words g.read_next.new.grid g.read_next.new.decoder) next
    (g.read_next.ensures bytes s wide high planes
    (subst (λ (o : Orient). AreContexts o g.significance_contexts-contexts.result.now) (sym orient)
    g.significance_contexts-contexts.ensures)
    (subst (λ (v : ℕ). AreFlags v (s.planes - 1) (start s) g.blank-flags.result) (sym wide)
    (g.blank-flags.ensures s wide high (omega arith)))
    (g.loop-k.invariant.held s orient wide high planes (omega arith))) in
    record {
      known = λ s orient wide high planes. (held s orient wide high planes).grid_is;
      held = λ s orient wide high planes some. held s orient wide high planes;
    }

pub returns-clause-known : goal.returns-clause-known
returns-clause-known g = λ s orient wide high planes.
    let end : g.loop-k.k ≡ g.args.passes = omega arith in
    subst (λ (cells : List Cell). AreKnown s.width cells g.loop-k.grid)
    (state_is g.args.bytes.now s g.args.passes)
    (subst (λ (k : ℕ). AreKnown s.width (state_after g.args.bytes.now s k).0 g.loop-k.grid) end
    (g.loop-k.invariant.known s orient wide high planes))

pub returns-clause-tops : goal.returns-clause-tops
returns-clause-tops g = λ s orient wide high planes.
    let bytes : List ℕ = g.args.bytes.now in
    let k : ℕ = g.loop-k.k in
    let end : k ≡ g.args.passes = omega arith in
    let few = g.requires.passes in
    let low = g.requires.height in
    let tops : AreTops s.width (s.planes - (k + 1) / 3) (state_after bytes s k).0 g.loop-k.words =
    elim (cases_lt 0 s.planes) [
      | inl some ↦ tops_after bytes s k _ _ _ (omega arith) some (omega arith)
          (g.loop-k.invariant.held s orient wide high planes some)
      | inr none ↦
          let first : 0 ≡ k = omega arith in
          subst (λ (v : ℕ). AreTops s.width (s.planes - (v + 1) / 3) (state_after bytes s v).0
          g.loop-k.words) first (tops_none bytes s g.loop-k.words (omega arith))
    ] in
    subst (λ (n : ℕ). AreTops s.width (n - (g.args.passes + 1) / 3)
    (read_block bytes s g.args.passes) g.loop-k.words) planes
    (subst (λ (cells : List Cell). AreTops s.width (s.planes - (g.args.passes + 1) / 3) cells
    g.loop-k.words) (state_is bytes s g.args.passes)
    (subst (λ (v : ℕ). AreTops s.width (s.planes - (v + 1) / 3) (state_after bytes s v).0
    g.loop-k.words) end tops))

pub read_next-requires-clause-contexts : goal.read_next-requires-clause-contexts
read_next-requires-clause-contexts g = λ k within.
    rw (g.significance_contexts-contexts.ensures k within) (neighbour_few g.args.orient k)

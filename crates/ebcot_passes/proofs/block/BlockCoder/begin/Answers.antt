use Rattle.std.proofs.Common.{ℕ, Bool, List, ◌-◌, refl, sym, subst, arith}
use Rattle.ebcot_contexts.specs.Cells.{Cell}
use Rattle.ebcot_contexts.specs.Passes.{start}
use Rattle.cine_nums.specs.declared.orient.Orient.{Orient}
use Rattle.mq_coder.specs.Mark.{IsLeft}
use Rattle.flag_words.specs.Words.{AreFlags}
use Rattle.flag_words.proofs.Few.{neighbour_few}
use Rattle.ebcot_passes.specs.Coding.{AreCoefs, AreContexts}
use Rattle.ebcot_passes.proofs.Blocks.{known_none, symbols_none, first_left}
use Rattle.ebcot_passes.proofs.block.BlockCoder.begin.Goals as goal

pub invariant_of-result : goal.invariant_of-result
invariant_of-result c =
    record {
      narrow = c.requires.narrow;
      low = c.requires.low;
      few_planes = c.requires.few_planes;
      few_passes = let some = c.requires.some_planes in omega arith;
      few = λ k within. rw (c.significance_contexts.ensures k within)
          (neighbour_few c.args.orient k);
    }

pub returns-clause-begins : goal.returns-clause-begins
returns-clause-begins c = λ coefs s buffer orient wide high planes grid fits left.
    let some = c.requires.some_planes in
    let flags : AreFlags s.width (s.planes - 1) (start s) c.blank-flags.result =
    subst (λ (v : ℕ). AreFlags v (s.planes - 1) (start s) c.blank-flags.result) (sym wide)
    (c.blank-flags.ensures s wide high (omega arith)) in
    record {
      wide = wide;
      high = high;
      planes_are = planes;
      contexts = subst (λ (o : Orient). AreContexts o c.significance_contexts.result.now)
          (sym orient) c.significance_contexts.ensures;
      grid = subst (λ (v : ℕ). AreCoefs s.width v coefs c.args.grid.now) (sym high)
          (subst (λ (v : ℕ). AreCoefs v c.args.height coefs c.args.grid.now) (sym wide) grid);
      blank = flags;
      passes_are = refl;
      fits = fits;
      distortion_is = left;
      flags = subst (λ (cells : List Cell). AreFlags s.width
          (s.planes - 1) cells c.blank-flags.result) (sym (known_none coefs s)) flags;
      left = subst (λ (l : List (ℕ × Bool)). IsLeft c.default.result c.new.result buffer l)
          (sym (symbols_none coefs s))
          (first_left c.default.result c.new.result buffer c.default.ensures c.new.ensures);
    }

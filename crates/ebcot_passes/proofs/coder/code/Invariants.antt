use Rattle.std.proofs.Common.{ℕ, ◌≡◌, ◌<◌, ◌≤◌, length, get_or}
use Rattle.ebcot_contexts.specs.Contexts.{Shape}
use Rattle.ebcot_contexts.specs.Laws.{shaped}
use Rattle.distortion_sums.specs.Coefs.{coefs_of}
use Rattle.ebcot_passes.specs.Block.{IsAfter}
use Rattle.ebcot_passes.specs.Code.{ArePasses}
use Rattle.ebcot_passes.specs.declared.coded.CodedPass.{CodedPass}
use Rattle.ebcot_passes.proofs.coder.code.Given as goal

abbrev pub invariant-loop-k : goal.invariant-loop-k
invariant-loop-k g l =
    let s : Shape = shaped (g.C.Coefs.columns l.block) (g.C.Coefs.rows l.block) l.planes l.fn.orient
    in
    record {
      planes : l.coder.planes ≡ l.planes;
      passes : l.coder.passes ≡ l._k;
      length : length l.bytes ≡ length l.fn.bytes;
      after : IsAfter (coefs_of (g.C.Coefs.cells l.block)) s l._k l.coder l.bytes;
      coded : ArePasses (coefs_of (g.C.Coefs.cells l.block)) s l._k l.passes.items l.bytes;
      last : (j : ℕ) (other : CodedPass) → j < l._k →
          (get_or l.passes.items j other).mark.count ≤ l.coder.mark.count;
      few : l.coder.mark.count ≤ 68023;
    }

use Rattle.std.proofs.Common.{◌≡◌, ℕ, ◌<◌, pos, get_or}
use Rattle.colour_ict.specs.Ict.{component0, component1, component2}
use Rattle.colour_ict.proofs.rows.row.Given as goal

abbrev pub invariant-loop-i : goal.invariant-loop-i
invariant-loop-i l = record {
  done0 : (k : ℕ) → k < l.i → get_or l.out0 k (pos 0)
      ≡ component0 (get_or l.x k 0) (get_or l.y k 0) (get_or l.z k 0);
  done1 : (k : ℕ) → k < l.i → get_or l.out1 k (pos 0)
      ≡ component1 (get_or l.x k 0) (get_or l.y k 0) (get_or l.z k 0);
  done2 : (k : ℕ) → k < l.i → get_or l.out2 k (pos 0)
      ≡ component2 (get_or l.x k 0) (get_or l.y k 0) (get_or l.z k 0);
}

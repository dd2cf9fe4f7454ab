use Rattle.std.proofs.Common.{◌≡◌, ◌≤◌, ◌<◌, ◌++◌, drop, decimal}
use Rattle.cert_text.specs.Stands.{digits_before}
use Rattle.cert_text.specs.Stands.{Stands}
use Rattle.cert_text.proofs.parts.number.Given as goal

-- the digits so far are those of the value
abbrev pub invariant-loop-i : goal.invariant-loop-i
invariant-loop-i l = record {
  here : l.end ≡ l.i;
  later : l.at ≤ l.end;
  most : l.at < l.end → l.value ≤ l.most;
  none : l.at ≡ l.end → l.value ≡ 0;
  digits : l.at < l.end → digits_before (drop l.at l.text) ≡ decimal l.value ++ digits_before
      (drop l.end l.text);
  stands : l.at < l.end → Stands l.text l.at (decimal l.value) l.end;
}

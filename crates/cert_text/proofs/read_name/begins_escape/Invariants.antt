use Rattle.std.proofs.Common.{ℕ, ◌≡◌, ◌<◌, ◌/◌, ◌%◌, true}
use Rattle.cert_text.specs.Names.{is_plain}
use Rattle.cert_text.specs.Characters.{CanFollow}
use Rattle.cert_text.proofs.read_name.begins_escape.Given as goal

-- no byte before this one whose escape begins with the digit may come
abbrev pub invariant-loop-low : goal.invariant-loop-low
invariant-loop-low l = (byte : ℕ) → byte / 16 ≡ l.high → byte % 16 < l.low → CanFollow l.state byte
    → is_plain byte ≡ true

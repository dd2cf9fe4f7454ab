use Rattle.std.proofs.Common.{◌≡◌, ℕ, length, ap, ◌∙◌}
use Rattle.bit_stuffing.specs.Stuffing.{place_of}
use Rattle.bit_stuffing.specs.Source.{BitSource}
use Rattle.bit_stuffing.proofs.TakeLemmas.{place_none, place_last}
use Rattle.bit_stuffing.proofs.bit_in.BitIn.place.Goals as goal

place_along : (s t : BitSource) (n : ℕ) → s ≡ t → n ≡ place_of s.bytes (length s.taken)
    → n ≡ place_of t.bytes (length t.taken)
place_along s t n e h = h ∙ ap (λ (r : BitSource). place_of r.bytes (length r.taken)) e

pub returns-then-self-eq0 : goal.returns-then-self-eq0
returns-then-self-eq0 c = place_along _ _ _ c.self.view_is
    (place_none _ _ _ _ c.self.invariant c.if-self-eq0.true)

pub returns-else-self-eq0 : goal.returns-else-self-eq0
returns-else-self-eq0 c = place_along _ _ _ c.self.view_is
    (place_last _ _ _ _ c.self.invariant c.if-self-eq0.false)

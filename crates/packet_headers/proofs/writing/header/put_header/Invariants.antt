use Rattle.std.proofs.Common.{◌+◌, ◌*◌, ◌≤◌, List, Bool, true, ◌∷◌, ◌++◌, map, take}
use Rattle.packet_headers.specs.Words.{bands_bits}
use Rattle.packet_headers.specs.Written.{written_band}
use Rattle.packet_headers.proofs.writing.header.put_header.Given as goal

abbrev pub invariant-loop-band : goal.invariant-loop-band
invariant-loop-band g l = record {
  bits : (bits : List Bool) → g.S.BitSink.StandsFor l.fn.out bits
      → g.S.BitSink.StandsFor l.out (bits
      ++ true ∷ bands_bits (map written_band (take l.band-index l.packet.bands.items)));
  few : g.S.BitSink.bit_count l.out ≤ 1 + 1120 * l.band-index;
}

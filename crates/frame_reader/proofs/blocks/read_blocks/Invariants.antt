use Rattle.std.proofs.Common.{ℕ, ◌≡◌, List, length}
use Rattle.band_geometry.specs.Numbering.{all_blocks}
use Rattle.codestream_reader.specs.declared.stream.StreamSpans.{StreamSpans}
use Rattle.frame_reader.specs.Blocks.{AreDecodedBelow, AreOfFrame, planes_of}
use Rattle.frame_reader.specs.declared.decoded.BlockRead.{BlockRead}
use Rattle.frame_reader.specs.declared.decoded.Planes.{Planes}
use Rattle.frame_reader.proofs.blocks.read_blocks.Given as goal

-- the first n blocks are decoded
pub record AreSoFar (n : ℕ) (bytes : List ℕ) (found : StreamSpans) (blocks : List BlockRead)
    (planes : Planes) : Type 0 where
  pub decoded : AreDecodedBelow n bytes found blocks (planes_of planes)
  pub count : length blocks ≡ length (all_blocks found.geometry)
  pub sides : AreOfFrame found.geometry planes

abbrev pub invariant-loop-n : goal.invariant-loop-n
invariant-loop-n l = AreSoFar l.n l.bytes l.found l.blocks l.planes

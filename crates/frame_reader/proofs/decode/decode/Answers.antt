use Rattle.std.proofs.Common.{rules, ◌≡◌, List, length, refl, sym, ap, subst, ◌∙◌}
use Rattle.std.proofs.lemmas.List.{take_at}
use Rattle.band_geometry.specs.Numbering.{all_blocks}
use Rattle.frame_reader.specs.Blocks.{AreDecodedBelow, planes_of}
use Rattle.frame_reader.specs.declared.decoded.BlockRead.{BlockRead}
use Rattle.frame_reader.proofs.decode.decode.Goals as goal

count : (c : goal.After-drop-found-2) →
    length c.read_blocks.new.blocks ≡ length (all_blocks c.args.found.geometry)
count c = search rules

pub returns-clause-decoded : goal.returns-clause-decoded
returns-clause-decoded c =
    let same = take_at c.read_blocks.new.blocks _ c.in_ok-blocks.blocks.len
    (c.read_blocks.ensures.count ∙ c.deref_mut.ensures.len) in
    record {
      main = refl;
      held = refl;
      count = ap (λ (l : List BlockRead). length l) same ∙ count c;
      blocks = subst (λ (l : List BlockRead). AreDecodedBelow
          (length (all_blocks c.args.found.geometry)) c.args.bytes.now c.args.found l
          (planes_of c.read_blocks.new.planes)) (sym same) c.read_blocks.ensures.decoded;
      width0 = c.read_blocks.ensures.planes.width0;
      width1 = c.read_blocks.ensures.planes.width1;
      width2 = c.read_blocks.ensures.planes.width2;
      height0 = c.read_blocks.ensures.planes.height0;
      height1 = c.read_blocks.ensures.planes.height1;
      height2 = c.read_blocks.ensures.planes.height2;
    }

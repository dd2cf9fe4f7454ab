use Rattle.std.proofs.Common.{ℕ, ◌≡◌, List, get_or, length}
use Rattle.band_geometry.specs.Numbering.{all_blocks}
use Rattle.coded_blocks.specs.Codes.{AreCodesBelow, code_count, written_code}
use Rattle.coded_blocks.specs.declared.codes.ChosenCodes.{ChosenCodes}
use Rattle.demand_blocks.specs.declared.block.DemandBlock.{DemandBlock}
use Rattle.frame_choice.specs.Demanded.{AreCodedUpTo, AreDemanded}
use Rattle.frame_choice.specs.PriceLaws.{planes_in}
use Rattle.frame_choice.specs.declared.quantised.QuantisedFrame.{QuantisedFrame}
use Rattle.frame_choice.proofs.blocks.codes_of.Given as goal

-- the blocks, and the codes of the first n of them
pub record AreSoFar (f : QuantisedFrame) (counts : List ℕ) (n : ℕ) (blocks : List DemandBlock)
    (codes : ChosenCodes) : Type 0 where
  pub demanded : AreDemanded f.geometry.now (planes_in f) blocks
  pub coded : AreCodedUpTo f.geometry.now (length (all_blocks f.geometry.now))
      (λ k. get_or counts k 0) blocks
  pub count : code_count codes ≡ n
  pub below : AreCodesBelow f.geometry.now
      (written_code f.geometry.now f.steps.now (planes_in f) counts) n codes

abbrev pub invariant-loop-n : goal.invariant-loop-n
invariant-loop-n l = AreSoFar l.frame l.counts l.n l.blocks.blocks.items l.codes

-- Which fault of a file is its first: a file foretells every longer one that begins with it.
use Rattle.std.specs.Prelude.{ℕ, ◌≡◌, List, Result, Ok, Err}
use Rattle.pnm_frames.specs.declared.fault.FrameFault.{FrameFault}
use Rattle.pnm_frames.specs.declared.fault.FrameFault.TheVariants.{NotPpm, BadHeader, HeaderTooLong}
use Rattle.pnm_frames.specs.declared.fault.FrameFault.TheVariants.{WrongMaxval, WidthOutOfRange}
use Rattle.pnm_frames.specs.declared.fault.FrameFault.TheVariants.{HeightOutOfRange, SampleTooLarge}
use Rattle.pnm_frames.specs.declared.fault.FrameFault.TheVariants.{Truncated, TrailingBytes}
use Rattle.pnm_frames.specs.Picture.{Picture}
use Rattle.pnm_frames.specs.Reading.{ended}

-- what a fault of a file of so many bytes says of a longer file: a missing byte was missing at the
-- end, and every other fault stands
abbrev pub Stands : {Y : Type 0} → FrameFault → ℕ → Result Y FrameFault → Type 0
Stands (Truncated seen) whole longer = seen ≡ whole
Stands NotPpm whole longer = longer ≡ Err NotPpm
Stands (BadHeader place) whole longer = longer ≡ Err (BadHeader place)
Stands HeaderTooLong whole longer = longer ≡ Err HeaderTooLong
Stands WrongMaxval whole longer = longer ≡ Err WrongMaxval
Stands WidthOutOfRange whole longer = longer ≡ Err WidthOutOfRange
Stands HeightOutOfRange whole longer = longer ≡ Err HeightOutOfRange
Stands (SampleTooLarge place) whole longer = longer ≡ Err (SampleTooLarge place)
Stands TrailingBytes whole longer = longer ≡ Err TrailingBytes

-- what a file of so many bytes says of the same with more after it: a picture has nothing after
-- it
abbrev pub Foretells : ℕ → List ℕ → Result Picture FrameFault → Result Picture FrameFault → Type 0
Foretells whole more (Ok p) longer = longer ≡ ended p more
Foretells whole more (Err e) longer = Stands e whole longer

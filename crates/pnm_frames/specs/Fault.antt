-- What is wrong with the bytes of a frame, and what a call that reads them returns.
use Rattle.std.specs.Prelude.{ℕ, ◌≡◌, ◌||◌, ◌==◌, nat_le, IsTrue, Bool, true, false, Option, Some}
use Rattle.std.specs.Prelude.{None, IfSome, Result, Ok, Err}
use Rattle.pnm_frames.specs.declared.fault.FrameFault.{FrameFault}
use Rattle.pnm_frames.specs.declared.fault.FrameFault.TheVariants.{NotPpm, BadHeader, HeaderTooLong}
use Rattle.pnm_frames.specs.declared.fault.FrameFault.TheVariants.{WrongMaxval, WidthOutOfRange}
use Rattle.pnm_frames.specs.declared.fault.FrameFault.TheVariants.{HeightOutOfRange, SampleTooLarge}
use Rattle.pnm_frames.specs.declared.fault.FrameFault.TheVariants.{Truncated, TrailingBytes}
use Rattle.pnm_frames.specs.declared.refusal.FrameRefusal.{FrameRefusal}
use Rattle.pnm_frames.specs.declared.refusal.FrameRefusal.TheVariants as refusals

-- the number by which a report names a fault
abbrev pub number_of : FrameFault → ℕ
number_of NotPpm = 1
number_of (BadHeader place) = 2
number_of HeaderTooLong = 3
number_of WrongMaxval = 4
number_of WidthOutOfRange = 5
number_of HeightOutOfRange = 6
number_of (SampleTooLarge place) = 7
number_of (Truncated seen) = 8
number_of TrailingBytes = 9

-- what a step gives goes into the next one, and the first fault stands
infixl 10 ◌>>=◌
abbrev pub ◌>>=◌ : {A B : Type 0} → Result A FrameFault → (A → Result B FrameFault) →
    Result B FrameFault
(Ok x) >>= f = f x
(Err e) >>= f = Err e

-- the fault of a refusal, if it is for the bytes
abbrev pub fault_of : FrameRefusal → Option FrameFault
fault_of (refusals.Fault fault) = Some fault
fault_of refusals.Source = None
fault_of refusals.Memory = None

-- A call is refused for the fault that reading gives, or for what no bytes show.
abbrev pub Fails : {Y : Type 0} → FrameRefusal → Result Y FrameFault → Type 0
Fails refusal read = IfSome (fault_of refusal) (λ fault. read ≡ Err fault)

-- What a call returns, seen by view, is what reading gives, unless the source fails or there is no
-- memory left.
abbrev pub Gives : {X Y : Type 0} → (X → Y) → Result X FrameRefusal → Result Y FrameFault → Type 0
Gives view (Ok x) read = read ≡ Ok (view x)
Gives view (Err e) read = Fails e read

-- whether a refusal is a failed read
abbrev pub is_source_refusal : FrameRefusal → Bool
is_source_refusal refusals.Source = true
is_source_refusal (refusals.Fault fault) = false
is_source_refusal refusals.Memory = false

-- whether a call returned that a read failed
abbrev pub is_source : {T : Type 0} → Result T FrameRefusal → Bool
is_source (Ok value) = false
is_source (Err e) = is_source_refusal e

-- the refusal of a call that takes no memory: Source, or a fault with this property
abbrev pub IsFaultOr : (FrameFault → Type 0) → FrameRefusal → Type 0
IsFaultOr Holds (refusals.Fault fault) = Holds fault
IsFaultOr Holds refusals.Source = Unit {0}
IsFaultOr Holds refusals.Memory = ⊥

-- a refusal that a header gives, one that a row gives, and one that the end of a file gives, by the
-- numbers of the faults
abbrev pub IsOfHeader : FrameRefusal → Type 0
IsOfHeader = IsFaultOr (λ fault. IsTrue (nat_le (number_of fault) 6 || number_of fault == 8))

abbrev pub IsOfRow : FrameRefusal → Type 0
IsOfRow = IsFaultOr (λ fault. IsTrue (number_of fault == 7 || number_of fault == 8))

abbrev pub IsOfEnd : FrameRefusal → Type 0
IsOfEnd = IsFaultOr (λ fault. number_of fault ≡ 9)

-- What the line of a refused frame says. Its form is that of cert_text (docs/FORMATS.md).
use Rattle.std.specs.Prelude.{ℕ, List, [], ◌∷◌, ◌++◌, Option, Some, None, codes}
use Rattle.std.specs.List.{flat_map}
use Rattle.cert_text.specs.Lines.{refused_start, refused_budget, number_field}
use Rattle.cine_nums.specs.declared.budget.Budget.{Budget}
use Rattle.pnm_frames.specs.Fault.{number_of}
use Rattle.pnm_frames.specs.declared.fault.FrameFault.{FrameFault}
use Rattle.pnm_frames.specs.declared.fault.FrameFault.TheVariants.{NotPpm, BadHeader, HeaderTooLong}
use Rattle.pnm_frames.specs.declared.fault.FrameFault.TheVariants.{WrongMaxval, WidthOutOfRange}
use Rattle.pnm_frames.specs.declared.fault.FrameFault.TheVariants.{HeightOutOfRange, SampleTooLarge}
use Rattle.pnm_frames.specs.declared.fault.FrameFault.TheVariants.{Truncated, TrailingBytes}
use Rattle.cinema_run.specs.declared.refusal.Refusal.{Refusal}
use Rattle.cinema_run.specs.declared.refusal.Refusal.TheVariants.{File, Limit}

-- the number of a refusal: that of the file's fault, 10 for a limit
abbrev pub code_of : Refusal → ℕ
code_of (File fault) = number_of fault
code_of (Limit budget needed) = 10

-- the budget whose limit is too small
abbrev pub budget_of : Refusal → Option Budget
budget_of (File fault) = None
budget_of (Limit budget needed) = Some budget

-- the place or the number of bytes of a fault, if it has one
abbrev pub fault_numbers : FrameFault → List ℕ
fault_numbers NotPpm = []
fault_numbers (BadHeader place) = place ∷ []
fault_numbers HeaderTooLong = []
fault_numbers WrongMaxval = []
fault_numbers WidthOutOfRange = []
fault_numbers HeightOutOfRange = []
fault_numbers (SampleTooLarge place) = place ∷ []
fault_numbers (Truncated seen) = seen ∷ []
fault_numbers TrailingBytes = []

-- the numbers of a refusal; of a limit the bytes that are needed
abbrev pub numbers_of : Refusal → List ℕ
numbers_of (File fault) = fault_numbers fault
numbers_of (Limit budget needed) = needed ∷ []

-- the line of a frame that is refused
abbrev pub refused_line : List ℕ → Refusal → List ℕ
refused_line name refusal =
    refused_start name (code_of refusal) ++ (refused_budget (budget_of refusal)
    ++ (flat_map number_field (numbers_of refusal) ++ codes "\n"))

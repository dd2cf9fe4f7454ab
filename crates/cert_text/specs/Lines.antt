-- The lines of the report. Fields are separated by one space, numbers are decimal without leading
-- zeros, LF ends a line.
use Rattle.std.specs.Prelude.{ℕ, List, [], ◌∷◌, ◌++◌, Option, Some, None, codes, decimal}
use Rattle.std.specs.Prelude.{string_bytes}
use Rattle.std.specs.Prelude.{slice_index_or}
use Rattle.std.specs.List.{flat_map}
use Rattle.cine_nums.specs.declared.profile.Profile.{Profile}
use Rattle.cine_nums.specs.declared.profile.Profile.TheVariants.{TwoK, FourK}
use Rattle.cine_nums.specs.declared.budget.Budget.{Budget}
use Rattle.cine_nums.specs.declared.budget.Budget.TheVariants.{Frame, Inner, C0, C1, C2}
use Rattle.budget_duals.specs.Held.{held_in, limit_in, place_of}
use Rattle.budget_duals.specs.declared.held.Held.{Held}
use Rattle.budget_duals.specs.declared.limits.Limits.{Limits}
use Rattle.budget_duals.specs.declared.certificate.RefusedStep.{RefusedStep}
use Rattle.cert_text.specs.Names.{escaped}
use Rattle.cert_text.specs.Words.{profile_word, budget_word}
use Rattle.cert_text.specs.Refusals.{word_of, text_of}
use Rattle.cert_text.specs.declared.cert_line.CertLine.{CertLine}
use Rattle.cert_text.specs.declared.read_line.ReadLine.{ReadLine}
use Rattle.cert_text.specs.declared.refused_line.RefusedLine.{RefusedLine}

-- how a line of a frame begins: a word, the frame's name, its profile, its size in samples
abbrev pub head : List ℕ → List ℕ → Profile → ℕ → ℕ → List ℕ
head word name profile width height =
    word ++ (codes " " ++ (escaped name ++ (codes " " ++ (profile_word profile
    ++ (codes " " ++ (decimal width ++ (codes "x" ++ decimal height)))))))

-- a budget: the bytes held of it, its limit, its multiplier
abbrev pub held_field : Budget → ℕ → ℕ → ℕ → List ℕ
held_field budget held limit multiplier =
    codes " " ++ (budget_word budget ++ (codes "=" ++ (decimal held
    ++ (codes "/" ++ (decimal limit ++ (codes "/" ++ decimal multiplier))))))

-- nothing for a budget without a limit, which isn't one of the profile
abbrev pub limited_field : Budget → ℕ → Option ℕ → ℕ → List ℕ
limited_field budget held None multiplier = []
limited_field budget held (Some limit) multiplier = held_field budget held limit multiplier

-- a budget of a line, the outermost at place 0
abbrev pub budget_field : Held → Limits → List ℕ → Budget → List ℕ
budget_field held limits multipliers budget = limited_field budget (held_in held budget)
    (limit_in limits budget) (slice_index_or multipliers (place_of budget) 0)

-- the budgets of a line, the outermost first
abbrev pub budget_fields : Held → Limits → List ℕ → List ℕ
budget_fields held limits multipliers =
    flat_map (budget_field held limits multipliers) (Frame ∷ Inner ∷ C0 ∷ C1 ∷ C2 ∷ [])

-- the number of coding passes, the distortion with nothing decoded and with the chosen passes, and
-- how far the latter can be from the least one
abbrev pub sums : ℕ → ℕ → ℕ → ℕ → List ℕ
sums passes undecoded distortion gap =
    codes " passes=" ++ (decimal passes ++ (codes " empty=" ++ (decimal undecoded
    ++ (codes " distortion=" ++ (decimal distortion ++ (codes " gap=" ++ decimal gap))))))

-- how the field of a refused step begins: the budget, and the step without its gain
abbrev pub step_start : RefusedStep → List ℕ
step_start refused =
    codes " step=" ++ (budget_word refused.budget ++ (codes ":" ++ (decimal refused.step.block
    ++ (codes ":" ++ (decimal refused.step.from ++ (codes ":" ++ (decimal refused.step.to
    ++ (codes ":" ++ decimal refused.step.len))))))))

-- a step that a budget refused
abbrev pub step_field : RefusedStep → List ℕ
step_field refused =
    step_start refused ++ (codes ":" ++ (decimal refused.grow
    ++ (codes ":" ++ (decimal refused.step.gain ++ (codes ":" ++ decimal refused.price)))))

-- the certificate line of a frame that was written
abbrev pub cert_line : CertLine → List ℕ
cert_line line =
    head (codes "ok") (string_bytes line.name) line.profile line.width line.height
    ++ (budget_fields line.held line.limits line.certificate.multipliers
    ++ (sums line.passes line.empty line.certificate.distortion line.certificate.gap
    ++ (flat_map step_field line.certificate.refused.items ++ codes "\n")))

-- a budget of a read line: the bytes held
abbrev pub read_field : Budget → ℕ → List ℕ
read_field budget held = codes " " ++ (budget_word budget ++ (codes "=" ++ decimal held))

abbrev pub inner_field : Profile → ℕ → List ℕ
inner_field TwoK held = []
inner_field FourK held = read_field Inner held

-- the budgets of a read line, the outermost first
abbrev pub read_fields : Profile → Held → List ℕ
read_fields profile held =
    read_field Frame (held_in held Frame) ++ (inner_field profile (held_in held Inner)
    ++ (read_field C0 (held_in held C0) ++ (read_field C1 (held_in held C1)
    ++ read_field C2 (held_in held C2))))

-- how the line of a codestream that was read begins
abbrev pub read_start : List ℕ → ReadLine → List ℕ
read_start name line =
    head (codes "read") name line.profile line.width line.height
    ++ (codes " levels=" ++ (decimal line.levels ++ read_fields line.profile line.held))

-- the line of a codestream that was read
abbrev pub read_line : List ℕ → ReadLine → List ℕ
read_line name line =
    read_start name line ++ (codes " blocks=" ++ (decimal line.blocks
    ++ (codes " passes=" ++ (decimal line.passes ++ codes "\n"))))

-- a budget of a refused line, if it has one
abbrev pub refused_budget : Option Budget → List ℕ
refused_budget None = []
refused_budget (Some budget) = codes " " ++ budget_word budget

-- a number of a refused line
abbrev pub number_field : ℕ → List ℕ
number_field n = codes " " ++ decimal n

-- how the line of a refused file begins
abbrev pub refused_start : List ℕ → ℕ → List ℕ
refused_start name code =
    codes "refused " ++ (escaped name ++ (codes " " ++ (decimal code
    ++ (codes " " ++ text_of (word_of code)))))

-- the line of a file that was refused
abbrev pub refused_line : List ℕ → RefusedLine → List ℕ
refused_line name line =
    refused_start name line.code ++ (refused_budget line.budget
    ++ (flat_map number_field line.numbers.items ++ codes "\n"))

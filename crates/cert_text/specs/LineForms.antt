-- The form of certificate lines, field by field: the values of each field, and its text.
use Rattle.std.specs.Prelude.{ℕ, ◌≡◌, ◌≢◌, ◌+◌, ◌-◌, ◌≤◌, ◌⊎◌, ◌^◌, ◌++◌}
use Rattle.std.specs.Prelude.{List, [], ◌∷◌, Option, Some, None, map, length, drop, codes}
use Rattle.std.specs.Prelude.{string_bytes, slice_index_or, IsUtf8, true}
use Rattle.std.specs.List.{flat_map}
use Rattle.cine_nums.specs.Limits.{limit_of, has_inner}
use Rattle.cine_nums.specs.Profile.{max_width_of, max_height_of}
use Rattle.cine_nums.specs.declared.profile.Profile.{Profile}
use Rattle.cine_nums.specs.declared.profile.Profile.TheVariants.{TwoK, FourK}
use Rattle.cine_nums.specs.declared.budget.Budget.{Budget}
use Rattle.cine_nums.specs.declared.budget.Budget.TheVariants.{Frame, Inner, C0, C1, C2}
use Rattle.budget_duals.specs.Held.{held_in, limit_in, place_of}
use Rattle.budget_duals.specs.declared.certificate.RefusedStep.{RefusedStep}
use Rattle.cert_text.specs.Names.{escaped}
use Rattle.cert_text.specs.Words.{profile_word, budget_word}
use Rattle.cert_text.specs.Lines.{cert_line}
use Rattle.cert_text.specs.Reading.{IsSaid}
use Rattle.cert_text.specs.Forms.{Part, Form, word, agreed, number, after, labelled, both}
use Rattle.cert_text.specs.declared.cert_line.CertLine.{CertLine}
use Rattle.cert_text.specs.declared.cert_refusal.CertRefusal.{CertRefusal}
use Rattle.cert_text.specs.declared.cert_refusal.CertRefusal.TheVariants.{BadLine, Memory}
use Rattle.cert_text.specs.declared.cert_reading.BudgetField.{BudgetField}
use Rattle.cert_text.specs.declared.cert_reading.BudgetFields.{BudgetFields}

-- a name, by its bytes, and the space after it
abbrev pub name : Form (List ℕ)
name = record {
  Has = λ bytes. IsUtf8 bytes × (bytes ≢ []);
  parts = λ bytes. word (escaped bytes) ++ word (codes " ");
}

abbrev pub profile : Form Profile
profile = record { Has = λ value. Unit; parts = λ value. word (profile_word value) }

-- the width and height
abbrev pub size : Profile → Form (ℕ × ℕ)
size p = both (labelled (codes " ") 1 (max_width_of p))
    (λ width. labelled (codes "x") 1 (max_height_of p))

-- a budget of a line: the bytes held, the limit, the multiplier
abbrev pub Field : Type 0
Field = ℕ × (ℕ × ℕ)

abbrev pub budget : Profile → Budget → Form Field
budget p which = after (codes " ") (after (budget_word which)
    (both (labelled (codes "=") 0 (2 ^ 32 - 1))
    (λ held. both (labelled (codes "/") 0 (limit_of p which))
    (λ limit. labelled (codes "/") 0 (2 ^ 96 - 1)))))

-- a budget that a line says nothing of
abbrev pub no_budget : Form Field
no_budget = record { Has = λ field. field ≡ (0, (0, 0)); parts = λ field. [] }

abbrev pub inner_budget : Profile → Form Field
inner_budget TwoK = no_budget
inner_budget FourK = budget FourK Inner

-- the budgets, the outermost first
abbrev pub Fields : Type 0
Fields = Field × (Field × (Field × (Field × Field)))

abbrev pub budgets : Profile → Form Fields
budgets p = both (budget p Frame) (λ frame. both (inner_budget p)
    (λ inner. both (budget p C0) (λ c0. both (budget p C1)
    (λ c1. budget p C2))))

abbrev pub inner_limit : Profile → ℕ → Option ℕ
inner_limit TwoK limit = None
inner_limit FourK limit = Some limit

-- the numbers of the budgets that were read
abbrev pub field_read : BudgetField → Field
field_read field = (field.held, (field.limit, field.multiplier))

abbrev pub fields_read : BudgetFields → Fields
fields_read fields = (
  field_read fields.frame,
  (
    field_read fields.inner,
    (
      field_read fields.c0,
      (field_read fields.c1, field_read fields.c2),
    ),
  ),
)

-- the number of passes, the distortion with nothing decoded and with the chosen passes, the gap
abbrev pub Sums : Type 0
Sums = ℕ × (ℕ × (ℕ × ℕ))

abbrev pub sums : Form Sums
sums = both (labelled (codes " passes=") 0 (2 ^ 64 - 1))
    (λ passes. both (labelled (codes " empty=") 0 (2 ^ 128 - 1))
    (λ undecoded. both (labelled (codes " distortion=") 0 (2 ^ 128 - 1))
    (λ distortion. labelled (codes " gap=") 0 (2 ^ 128 - 1))))

-- the budget of a step, at this place or a later one
abbrev pub step_budget : Profile → ℕ → Form Budget
step_budget p least = record {
  Has = λ which. (least ≤ place_of which) × (which ≡ Inner → has_inner p ≡ true);
  parts = λ which. word (budget_word which);
}

-- how the word of one budget is missed; nothing is known out of memory
pub record MissesAt (p : Profile) (which : Budget) (text : List ℕ) (at place : ℕ) : Type 0 where
  pub forward : at ≤ place
  pub within : place ≤ length text
  pub none : (which ≡ Inner → has_inner p ≡ true) → (more : List Part)
      → at + agreed (word (budget_word which) ++ more) (drop at text) ≤ place
  pub some : (place ≡ at) ⊎ ((which ≡ Inner → has_inner p ≡ true)
      × ((more : List Part)
      → place ≤ at + agreed (word (budget_word which) ++ more) (drop at text)))

abbrev pub Misses : Profile → Budget → List ℕ → ℕ → CertRefusal → Type 0
Misses p which text at (BadLine place) = MissesAt p which text at place
Misses p which text at Memory = Unit

-- a number of passes other than this one
abbrev pub other_count : ℕ → Form ℕ
other_count from = record {
  Has = λ n. (n ≤ 255) × (from ≢ n);
  parts = (number 0 255).parts;
}

abbrev pub counts : Form (ℕ × ℕ)
counts = both (labelled (codes ":") 0 255) (λ from. after (codes ":") (other_count from))

-- what follows the budget of a step: its block, its numbers of passes before and after, its bytes,
-- the growth of the header, the gain and the price
abbrev pub Numbers : Type 0
Numbers = ℕ × ((ℕ × ℕ) × (ℕ × (ℕ × (ℕ × ℕ))))

abbrev pub numbers : Form Numbers
numbers = both (labelled (codes ":") 0 (2 ^ 32 - 1))
    (λ block. both counts
    (λ passes. both (labelled (codes ":") 1 131072)
    (λ len. both (labelled (codes ":") 0 (2 ^ 32 - 1))
    (λ grow. both (labelled (codes ":") 1 (2 ^ 64 - 1))
    (λ gain. labelled (codes ":") 0 (2 ^ 128 - 1))))))

-- a step that a budget refused
abbrev pub step : Profile → ℕ → Form (Budget × Numbers)
step p least = after (codes " step=") (both (step_budget p least) (λ which. numbers))

-- steps of budgets that rise from a place on
abbrev pub AreStepsFrom : Profile → ℕ → List (Budget × Numbers) → Type 0
AreStepsFrom p least [] = Unit
AreStepsFrom p least (value ∷ values) =
    (step p least).Has value × AreStepsFrom p (place_of value.0 + 1) values

-- the steps, and the LF after them
abbrev pub steps : Profile → ℕ → Form (List (Budget × Numbers))
steps p least = record {
  Has = AreStepsFrom p least;
  parts = λ values. flat_map (step p 0).parts values ++ word (codes "\n");
}

-- what a line says
abbrev pub Values : Type 0
Values = List ℕ × (Profile × ((ℕ × ℕ) × (Fields × (Sums × List (Budget × Numbers)))))

-- certificate lines
abbrev pub line : Form Values
line = after (codes "ok ") (both name (λ bytes. both profile (λ p. both (size p)
    (λ pixels. both (budgets p) (λ fields. both sums (λ totals. steps p 0))))))

-- the values of a line

abbrev pub limit_or_none : Option ℕ → ℕ
limit_or_none None = 0
limit_or_none (Some limit) = limit

abbrev pub field_of : CertLine → Budget → Field
field_of l which = (
  held_in l.held which,
  (
    limit_or_none (limit_in l.limits which),
    slice_index_or l.certificate.multipliers (place_of which) 0,
  ),
)

abbrev pub step_values : RefusedStep → Budget × Numbers
step_values refused = (
  refused.budget,
  (
    refused.step.block,
    (
      (refused.step.from, refused.step.to),
      (refused.step.len, (refused.grow, (refused.step.gain, refused.price))),
    ),
  ),
)

abbrev pub values_of : CertLine → Values
values_of l = (
  string_bytes l.name,
  (
    l.profile,
    (
      (l.width, l.height),
      (
        (field_of l Frame, (field_of l Inner, (field_of l C0, (field_of l C1, field_of l C2)))),
        (
          (l.passes, (l.empty, (l.certificate.distortion, l.certificate.gap))),
          map step_values l.certificate.refused.items,
        ),
      ),
    ),
  ),
)

-- The bytes are no certificate line, and this is the least place at which none goes on as they do:
-- some line goes on up to it, and none further.
pub record IsBadAt (bytes : List ℕ) (place : ℕ) : Type 0 where
  pub no_line : (other : CertLine) → IsSaid other → bytes ≢ cert_line other
  pub within : place ≤ length bytes
  pub some : Values
  pub said : line.Has some
  pub reached : agreed (line.parts some) bytes ≡ place
  pub last : (other : Values) → line.Has other → agreed (line.parts other) bytes ≤ place

-- A whole line goes on as its own text does, up to its end.
use Rattle.std.proofs.Common.{ℕ, ◌≡◌, ◌+◌, ◌-◌, ◌%◌, ◌<◌, ◌^◌, ◌++◌, List, []}
use Rattle.std.proofs.Common.{◌∷◌, length, drop, decimal}
use Rattle.std.proofs.Common.{refl, ap, ap₂, sym, subst, ◌∙◌, arith, append_assoc, codes}
use Rattle.std.proofs.Common.{length-append}
use Rattle.std.specs.List.{flat_map}
use Rattle.std.proofs.Math.Seq.{drop-append_seam}
use Rattle.std.proofs.lemmas.List.{append-nil}
use Rattle.std.proofs.lemmas.Fmt.{decimal_by_steps_wide}
use Rattle.cine_nums.specs.Limits.{limit_of}
use Rattle.cine_nums.specs.Profile.{max_width_of, max_height_of}
use Rattle.cine_nums.specs.declared.profile.Profile.{Profile}
use Rattle.cine_nums.specs.declared.profile.Profile.TheVariants.{TwoK, FourK}
use Rattle.cine_nums.specs.declared.budget.Budget.{Budget}
use Rattle.cine_nums.specs.declared.budget.Budget.TheVariants.{Frame, Inner, C0, C1, C2}
use Rattle.budget_duals.specs.Held.{place_of}
use Rattle.cert_text.specs.Names.{escaped}
use Rattle.cert_text.specs.Words.{profile_word, budget_word}
use Rattle.cert_text.specs.Stands.{digits_before}
use Rattle.cert_text.specs.Forms.{Part, Byte, Number, word, spelled, agreed, Form, number}
use Rattle.cert_text.specs.Forms.{after, labelled, both}
use Rattle.cert_text.specs.LineForms.{profile, size, Field, budget, no_budget, inner_budget}
use Rattle.cert_text.specs.LineForms.{Fields, budgets, Sums, sums, step_budget, other_count, counts}
use Rattle.cert_text.specs.LineForms.{Numbers, numbers, step, AreStepsFrom, steps, Values, line}
use Rattle.cert_text.proofs.Digits.{digits_head}
use Rattle.cert_text.proofs.Agreed.{agreed_word, agreed_number}

-- the bytes of parts

pub spelled_append : (p q : List Part) → spelled (p ++ q) ≡ spelled p ++ spelled q
spelled_append [] q = refl
spelled_append (Byte b ∷ p) q = ap (λ (bs : List ℕ). b ∷ bs) (spelled_append p q)
spelled_append (Number n ∷ p) q = ap (λ (bs : List ℕ). decimal n ++ bs) (spelled_append p q)
    ∙ sym (append_assoc (decimal n) (spelled p) (spelled q))

pub spelled_word : (w : List ℕ) → spelled (word w) ≡ w
spelled_word [] = refl
spelled_word (b ∷ w) = ap (λ (bs : List ℕ). b ∷ bs) (spelled_word w)

-- all digits of a number
RunsOn : ℕ → List ℕ → Type 0
RunsOn n ds = (rest : List ℕ) → digits_before (ds ++ rest) ≡ ds ++ digits_before rest

digits_run : (n : ℕ) → n < 10 ^ 64 → RunsOn n (decimal n)
unfolding RunsOn
digits_run = decimal_by_steps_wide RunsOn
    (λ n h rest. digits_head (48 + n) rest (omega arith) (omega arith))
    (λ n ds h s rest.
    ap digits_before (append_assoc ds ((48 + n % 10) ∷ []) rest)
    ∙ (s ((48 + n % 10) ∷ rest)
    ∙ (ap (λ (more : List ℕ). ds ++ more) (digits_head (48 + n % 10) rest (omega arith)
    (omega arith))
    ∙ sym (append_assoc ds ((48 + n % 10) ∷ []) (digits_before rest)))))

-- no digit follows
abbrev NoDigit : List ℕ → Type 0
NoDigit rest = digits_before rest ≡ []

-- a text of the form goes on as its own parts do
abbrev Whole : {V : Type 0} → Form V → Type 0
Whole {V} f = (v : V) → f.Has v → (more : List Part) (rest : List ℕ) → NoDigit rest
    → agreed (f.parts v ++ more) (spelled (f.parts v) ++ rest) ≡ length (spelled (f.parts v))
    + agreed more rest

-- a text of the form begins with no digit
abbrev Leads : {V : Type 0} → Form V → Type 0
Leads {V} f = (v : V) → (rest : List ℕ) → NoDigit rest → NoDigit (spelled (f.parts v) ++ rest)

abbrev Begins : List ℕ → Type 0
Begins w = (rest : List ℕ) → NoDigit (w ++ rest)

word_whole : (w : List ℕ) (more : List Part) (rest : List ℕ) → agreed (word w ++ more)
    (spelled (word w) ++ rest) ≡ length (spelled (word w)) + agreed more rest
word_whole w more rest = subst (λ (bs : List ℕ). agreed (word w ++ more) (bs ++ rest)
    ≡ length bs + agreed more rest) (sym (spelled_word w)) (agreed_word w more rest)

number_whole : (least most : ℕ) → most < 10 ^ 64 → Whole (number least most)
unfolding RunsOn
number_whole least most wide n has more rest none =
    let run : digits_before ((decimal n ++ []) ++ rest) ≡ decimal n
    = ap (λ (bs : List ℕ). digits_before (bs ++ rest)) (append-nil (decimal n))
    ∙ (digits_run n (omega (arith, has.1)) rest ∙ (ap (λ (ds : List ℕ). decimal n ++ ds) none
    ∙ append-nil (decimal n))) in
    let past : drop (length (decimal n)) ((decimal n ++ []) ++ rest) ≡ rest
    = ap (λ (bs : List ℕ). drop (length (decimal n)) (bs ++ rest)) (append-nil (decimal n))
    ∙ drop-append_seam (decimal n) rest in
    agreed_number n more ((decimal n ++ []) ++ rest) run
    ∙ (ap (λ (bs : List ℕ). length (decimal n) + agreed more bs) past
    ∙ ap (λ (bs : List ℕ). length bs + agreed more rest) (sym (append-nil (decimal n))))

-- one after another, of any parts
pair_whole : (p q more : List Part) (rest : List ℕ)
    → ((m : List Part) (r : List ℕ) → r ≡ spelled q ++ rest → agreed (p ++ m) (spelled p ++ r)
    ≡ length (spelled p) + agreed m r)
    → agreed (q ++ more) (spelled q ++ rest) ≡ length (spelled q) + agreed more rest
    → agreed ((p ++ q) ++ more) (spelled (p ++ q) ++ rest) ≡ length (spelled (p ++ q)) + agreed more
    rest
pair_whole p q more rest first second =
    let parts : agreed ((p ++ q) ++ more) (spelled (p ++ q) ++ rest) ≡ agreed (p ++ (q ++ more))
    (spelled p ++ (spelled q ++ rest))
    = ap₂ (λ (ps : List Part) (bs : List ℕ). agreed ps bs) (append_assoc p q more)
    (ap (λ (bs : List ℕ). bs ++ rest) (spelled_append p q) ∙ append_assoc (spelled p) (spelled q)
    rest) in
    let one : agreed (p ++ (q ++ more)) (spelled p ++ (spelled q ++ rest)) ≡ length (spelled p)
    + agreed (q ++ more) (spelled q ++ rest)
    = first (q ++ more) (spelled q ++ rest) refl in
    let long : length (spelled (p ++ q)) ≡ length (spelled p) + length (spelled q)
    = ap length (spelled_append p q) ∙ length-append (spelled p) (spelled q) in
    omega arith

after_whole : {V : Type 0} (w : List ℕ) (f : Form V) → Whole f → Whole (after w f)
after_whole w f whole v has more rest none = pair_whole (word w) (f.parts v) more rest
    (λ m r e. word_whole w m r) (whole v has more rest none)

both_whole : {V W : Type 0} (f : Form V) (g : V → Form W) → Whole f
    → ((v : V) → f.Has v → Whole (g v)) → ((v : V) → Leads (g v)) → Whole (both f g)
both_whole f g first second leads v has more rest none =
    pair_whole (f.parts v.0) ((g v.0).parts v.1) more rest
    (λ m r e. first v.0 has.0 m r (subst NoDigit (sym e) (leads v.0 v.1 rest none)))
    (second v.0 has.0 v.1 has.1 more rest none)

after_leads : {V : Type 0} (w : List ℕ) (f : Form V) → Begins w → Leads (after w f)
after_leads w f begins v rest none = subst NoDigit
    (sym (ap (λ (bs : List ℕ). bs ++ rest) (spelled_append (word w) (f.parts v)
    ∙ ap (λ (bs : List ℕ). bs ++ spelled (f.parts v)) (spelled_word w))
    ∙ append_assoc w (spelled (f.parts v)) rest))
    (begins (spelled (f.parts v) ++ rest))

both_leads : {V W : Type 0} (f : Form V) (g : V → Form W) → Leads f → ((v : V) → Leads (g v))
    → Leads (both f g)
both_leads f g first second v rest none = subst NoDigit
    (sym (ap (λ (bs : List ℕ). bs ++ rest) (spelled_append (f.parts v.0) ((g v.0).parts v.1))
    ∙ append_assoc (spelled (f.parts v.0)) (spelled ((g v.0).parts v.1)) rest))
    (first v.0 (spelled ((g v.0).parts v.1) ++ rest) (second v.0 v.1 rest none))

labelled_whole : (label : List ℕ) (least most : ℕ) → most < 10 ^ 64
    → Whole (labelled label least most)
labelled_whole label least most wide = after_whole label (number least most)
    (number_whole least most wide)

labelled_leads : (label : List ℕ) (least most : ℕ) → Begins label
    → Leads (labelled label least most)
labelled_leads label least most begins = after_leads label (number least most) begins

-- the fields of a line

size_whole : (p : Profile) → Whole (size p)
size_whole TwoK = both_whole (labelled (codes " ") 1 2048) (λ w. labelled (codes "x") 1 1080)
    (labelled_whole (codes " ") 1 2048 (omega arith))
    (λ v h. labelled_whole (codes "x") 1 1080 (omega arith)) (λ v. labelled_leads (codes "x") 1 1080
    (λ rest. refl))
size_whole FourK = both_whole (labelled (codes " ") 1 4096) (λ w. labelled (codes "x") 1 2160)
    (labelled_whole (codes " ") 1 4096 (omega arith))
    (λ v h. labelled_whole (codes "x") 1 2160 (omega arith)) (λ v. labelled_leads (codes "x") 1 2160
    (λ rest. refl))

size_leads : (p : Profile) → Leads (size p)
size_leads p = both_leads (labelled (codes " ") 1 (max_width_of p))
    (λ w. labelled (codes "x") 1 (max_height_of p))
    (labelled_leads (codes " ") 1 (max_width_of p) (λ rest. refl))
    (λ v. labelled_leads (codes "x") 1 (max_height_of p) (λ rest. refl))

limit_small : (p : Profile) (b : Budget) → limit_of p b < 10 ^ 64
limit_small p Frame = omega arith
limit_small p Inner = omega arith
limit_small p C0 = omega arith
limit_small p C1 = omega arith
limit_small p C2 = omega arith

abbrev held : Form ℕ
held = labelled (codes "=") 0 (2 ^ 32 - 1)

abbrev limit : Profile → Budget → Form ℕ
limit p b = labelled (codes "/") 0 (limit_of p b)

abbrev multiplier : Form ℕ
multiplier = labelled (codes "/") 0 (2 ^ 96 - 1)

abbrev priced : Profile → Budget → Form (ℕ × ℕ)
priced p b = both (limit p b) (λ l. multiplier)

abbrev field : Profile → Budget → Form Field
field p b = both held (λ h. priced p b)

budget_whole : (p : Profile) (b : Budget) → Whole (budget p b)
budget_whole p b = after_whole (codes " ") (after (budget_word b) (field p b))
    (after_whole (budget_word b) (field p b)
    (both_whole held (λ h. priced p b) (labelled_whole (codes "=") 0 (2 ^ 32 - 1) (omega arith))
    (λ v h. both_whole (limit p b) (λ l. multiplier) (labelled_whole (codes "/") 0 (limit_of p b)
    (limit_small p b))
    (λ v h. labelled_whole (codes "/") 0 (2 ^ 96 - 1) (omega arith))
    (λ v. labelled_leads (codes "/") 0 (2 ^ 96 - 1) (λ rest. refl)))
    (λ v. both_leads (limit p b) (λ l. multiplier) (labelled_leads (codes "/") 0 (limit_of p b)
    (λ rest. refl))
    (λ v. labelled_leads (codes "/") 0 (2 ^ 96 - 1) (λ rest. refl)))))

budget_leads : (p : Profile) (b : Budget) → Leads (budget p b)
budget_leads p b = after_leads (codes " ") (after (budget_word b) (field p b)) (λ rest. refl)

none_whole : Whole no_budget
none_whole v has more rest none = omega arith

none_leads : Leads no_budget
none_leads v rest none = none

inner_whole : (p : Profile) → Whole (inner_budget p)
inner_whole TwoK = none_whole
inner_whole FourK = budget_whole FourK Inner

inner_leads : (p : Profile) → Leads (inner_budget p)
inner_leads TwoK = none_leads
inner_leads FourK = budget_leads FourK Inner

abbrev tail2 : Profile → Form (Field × Field)
tail2 p = both (budget p C1) (λ c1. budget p C2)

abbrev tail3 : Profile → Form (Field × (Field × Field))
tail3 p = both (budget p C0) (λ c0. tail2 p)

abbrev tail4 : Profile → Form (Field × (Field × (Field × Field)))
tail4 p = both (inner_budget p) (λ inner. tail3 p)

tail2_leads : (p : Profile) → Leads (tail2 p)
tail2_leads p = both_leads (budget p C1) (λ c1. budget p C2) (budget_leads p C1)
    (λ c1. budget_leads p C2)

tail3_leads : (p : Profile) → Leads (tail3 p)
tail3_leads p = both_leads (budget p C0) (λ c0. tail2 p) (budget_leads p C0) (λ c0. tail2_leads p)

tail4_leads : (p : Profile) → Leads (tail4 p)
tail4_leads p = both_leads (inner_budget p) (λ inner. tail3 p) (inner_leads p)
    (λ inner. tail3_leads p)

budgets_leads : (p : Profile) → Leads (budgets p)
budgets_leads p = both_leads (budget p Frame) (λ frame. tail4 p) (budget_leads p Frame)
    (λ frame. tail4_leads p)

budgets_whole : (p : Profile) → Whole (budgets p)
budgets_whole p = both_whole (budget p Frame) (λ frame. tail4 p) (budget_whole p Frame)
    (λ v h. both_whole (inner_budget p) (λ inner. tail3 p) (inner_whole p)
    (λ v h. both_whole (budget p C0) (λ c0. tail2 p) (budget_whole p C0)
    (λ v h. both_whole (budget p C1) (λ c1. budget p C2) (budget_whole p C1)
    (λ v h. budget_whole p C2) (λ v. budget_leads p C2))
    (λ v. tail2_leads p)) (λ v. tail3_leads p)) (λ v. tail4_leads p)

abbrev wide : List ℕ → Form ℕ
wide label = labelled label 0 (2 ^ 128 - 1)

wide_whole : (label : List ℕ) → Whole (wide label)
wide_whole label = labelled_whole label 0 (2 ^ 128 - 1) (omega arith)

abbrev passes : Form ℕ
passes = labelled (codes " passes=") 0 (2 ^ 64 - 1)

abbrev sums2 : Form (ℕ × ℕ)
sums2 = both (wide (codes " distortion=")) (λ d. wide (codes " gap="))

abbrev sums3 : Form (ℕ × (ℕ × ℕ))
sums3 = both (wide (codes " empty=")) (λ u. sums2)

sums2_leads : Leads sums2
sums2_leads = both_leads (wide (codes " distortion=")) (λ d. wide (codes " gap="))
    (labelled_leads (codes " distortion=") 0 (2 ^ 128 - 1) (λ rest. refl))
    (λ d. labelled_leads (codes " gap=") 0 (2 ^ 128 - 1) (λ rest. refl))

sums3_leads : Leads sums3
sums3_leads = both_leads (wide (codes " empty=")) (λ u. sums2) (labelled_leads (codes " empty=") 0
    (2 ^ 128 - 1) (λ rest. refl)) (λ u. sums2_leads)

sums_leads : Leads sums
sums_leads = both_leads passes (λ n. sums3) (labelled_leads (codes " passes=") 0 (2 ^ 64 - 1)
    (λ rest. refl)) (λ n. sums3_leads)

sums_whole : Whole sums
sums_whole = both_whole passes (λ n. sums3) (labelled_whole (codes " passes=") 0 (2 ^ 64 - 1)
    (omega arith))
    (λ v h. both_whole (wide (codes " empty=")) (λ u. sums2) (wide_whole (codes " empty="))
    (λ v h. both_whole (wide (codes " distortion=")) (λ d. wide (codes " gap="))
    (wide_whole (codes " distortion=")) (λ v h. wide_whole (codes " gap="))
    (λ d. labelled_leads (codes " gap=") 0 (2 ^ 128 - 1) (λ rest. refl)))
    (λ u. sums2_leads)) (λ n. sums3_leads)

-- steps

abbrev count : Form ℕ
count = labelled (codes ":") 0 255

abbrev small : Form ℕ
small = labelled (codes ":") 0 (2 ^ 32 - 1)

abbrev len : Form ℕ
len = labelled (codes ":") 1 131072

abbrev gain : Form ℕ
gain = labelled (codes ":") 1 (2 ^ 64 - 1)

abbrev price : Form ℕ
price = labelled (codes ":") 0 (2 ^ 128 - 1)

colon_leads : (least most : ℕ) → Leads (labelled (codes ":") least most)
colon_leads least most = labelled_leads (codes ":") least most (λ rest. refl)

other_whole : (from : ℕ) → Whole (other_count from)
other_whole from v has = number_whole 0 255 (omega arith) v (omega arith, has.0)

counts_whole : Whole counts
counts_whole = both_whole count (λ from. after (codes ":") (other_count from))
    (labelled_whole (codes ":") 0 255 (omega arith))
    (λ from h. after_whole (codes ":") (other_count from) (other_whole from))
    (λ from. after_leads (codes ":") (other_count from) (λ rest. refl))

counts_leads : Leads counts
counts_leads = both_leads count (λ from. after (codes ":") (other_count from)) (colon_leads 0 255)
    (λ from. after_leads (codes ":") (other_count from) (λ rest. refl))

abbrev step2 : Form (ℕ × ℕ)
step2 = both gain (λ g. price)

abbrev step3 : Form (ℕ × (ℕ × ℕ))
step3 = both small (λ g. step2)

abbrev step4 : Form (ℕ × (ℕ × (ℕ × ℕ)))
step4 = both len (λ l. step3)

abbrev step5 : Form ((ℕ × ℕ) × (ℕ × (ℕ × (ℕ × ℕ))))
step5 = both counts (λ c. step4)

step2_leads : Leads step2
step2_leads = both_leads gain (λ g. price) (colon_leads 1 (2 ^ 64 - 1))
    (λ g. colon_leads 0 (2 ^ 128 - 1))

step3_leads : Leads step3
step3_leads = both_leads small (λ g. step2) (colon_leads 0 (2 ^ 32 - 1)) (λ g. step2_leads)

step4_leads : Leads step4
step4_leads = both_leads len (λ l. step3) (colon_leads 1 131072) (λ l. step3_leads)

step5_leads : Leads step5
step5_leads = both_leads counts (λ c. step4) counts_leads (λ c. step4_leads)

numbers_leads : Leads numbers
numbers_leads = both_leads small (λ b. step5) (colon_leads 0 (2 ^ 32 - 1)) (λ b. step5_leads)

small_whole : Whole small
small_whole = labelled_whole (codes ":") 0 (2 ^ 32 - 1) (omega arith)

numbers_whole : Whole numbers
numbers_whole = both_whole small (λ b. step5) small_whole
    (λ v h. both_whole counts (λ c. step4) counts_whole
    (λ v h. both_whole len (λ l. step3) (labelled_whole (codes ":") 1 131072 (omega arith))
    (λ v h. both_whole small (λ g. step2) small_whole
    (λ v h. both_whole gain (λ g. price) (labelled_whole (codes ":") 1 (2 ^ 64 - 1) (omega arith))
    (λ v h. labelled_whole (codes ":") 0 (2 ^ 128 - 1) (omega arith))
    (λ v. colon_leads 0 (2 ^ 128 - 1)))
    (λ v. step2_leads)) (λ v. step3_leads)) (λ v. step4_leads)) (λ v. step5_leads)

step_budget_whole : (p : Profile) (least : ℕ) → Whole (step_budget p least)
step_budget_whole p least b has more rest none = word_whole (budget_word b) more rest

abbrev what : Profile → ℕ → Form (Budget × Numbers)
what p least = both (step_budget p least) (λ b. numbers)

step_whole : (p : Profile) (least : ℕ) → Whole (step p least)
step_whole p least = after_whole (codes " step=") (what p least)
    (both_whole (step_budget p least) (λ b. numbers) (step_budget_whole p least)
    (λ v h. numbers_whole) (λ v. numbers_leads))

step_leads : (p : Profile) (least : ℕ) → Leads (step p least)
step_leads p least = after_leads (codes " step=") (what p least) (λ rest. refl)

abbrev of : Profile → List (Budget × Numbers) → List Part
of p values = flat_map (step p 0).parts values

steps_leads : (p : Profile) (least : ℕ) (values : List (Budget × Numbers)) (rest : List ℕ)
    → NoDigit (spelled (of p values ++ word (codes "\n")) ++ rest)
steps_leads p least [] rest = refl
steps_leads p least (v ∷ values) rest =
    subst NoDigit (sym (ap (λ (parts : List Part). spelled parts ++ rest)
    (append_assoc ((step p 0).parts v) (of p values) (word (codes "\n")))
    ∙ (ap (λ (bs : List ℕ). bs ++ rest) (spelled_append ((step p 0).parts v)
    (of p values ++ word (codes "\n")))
    ∙ append_assoc (spelled ((step p 0).parts v)) (spelled (of p values ++ word (codes "\n")))
    rest)))
    (step_leads p 0 v (spelled (of p values ++ word (codes "\n")) ++ rest)
    (steps_leads p least values rest))

steps_whole : (p : Profile) (least : ℕ) (values : List (Budget × Numbers)) → AreStepsFrom p least
    values → (more : List Part) (rest : List ℕ)
    → agreed ((of p values ++ word (codes "\n")) ++ more)
    (spelled (of p values ++ word (codes "\n")) ++ rest)
    ≡ length (spelled (of p values ++ word (codes "\n"))) + agreed more rest
steps_whole p least [] has more rest = word_whole (codes "\n") more rest
steps_whole p least (v ∷ values) has more rest =
    subst (λ (parts : List Part). agreed (parts ++ more) (spelled parts ++ rest)
    ≡ length (spelled parts) + agreed more rest)
    (sym (append_assoc ((step p 0).parts v) (of p values) (word (codes "\n"))))
    (pair_whole ((step p 0).parts v) (of p values ++ word (codes "\n")) more rest
    (λ m r e. step_whole p least v has.0 m r
    (subst NoDigit (sym e) (steps_leads p (place_of v.0 + 1) values rest)))
    (steps_whole p (place_of v.0 + 1) values has.1 more rest))

-- a line

abbrev r5 : Profile → Form (Sums × List (Budget × Numbers))
r5 p = both sums (λ totals. steps p 0)

abbrev r4 : Profile → Form (Fields × (Sums × List (Budget × Numbers)))
r4 p = both (budgets p) (λ fields. r5 p)

abbrev r3 : Profile → Form ((ℕ × ℕ) × (Fields × (Sums × List (Budget × Numbers))))
r3 p = both (size p) (λ pixels. r4 p)

abbrev r2 : Form (Profile × ((ℕ × ℕ) × (Fields × (Sums × List (Budget × Numbers)))))
r2 = both profile r3

r5_whole : (p : Profile) → Whole (r5 p)
r5_whole p = both_whole sums (λ totals. steps p 0) sums_whole (λ v h values has more rest none.
    steps_whole p 0 values has more rest)
    (λ v values rest none. steps_leads p 0 values rest)

r5_leads : (p : Profile) → Leads (r5 p)
r5_leads p = both_leads sums (λ totals. steps p 0) sums_leads (λ v values rest none. steps_leads p 0
    values rest)

r4_whole : (p : Profile) → Whole (r4 p)
r4_whole p = both_whole (budgets p) (λ fields. r5 p) (budgets_whole p) (λ v h. r5_whole p)
    (λ v. r5_leads p)

r4_leads : (p : Profile) → Leads (r4 p)
r4_leads p = both_leads (budgets p) (λ fields. r5 p) (budgets_leads p) (λ v. r5_leads p)

r3_whole : (p : Profile) → Whole (r3 p)
r3_whole p = both_whole (size p) (λ pixels. r4 p) (size_whole p) (λ v h. r4_whole p)
    (λ v. r4_leads p)

r3_leads : (p : Profile) → Leads (r3 p)
r3_leads p = both_leads (size p) (λ pixels. r4 p) (size_leads p) (λ v. r4_leads p)

profile_whole : Whole profile
profile_whole v has more rest none = word_whole (profile_word v) more rest

r2_whole : Whole r2
r2_whole = both_whole profile r3 profile_whole (λ v h. r3_whole v) (λ v. r3_leads v)

pub line_whole : (v : Values) → line.Has v → agreed (line.parts v) (spelled (line.parts v))
    ≡ length (spelled (line.parts v)) + 1
line_whole v has =
    let bytes : List ℕ = escaped v.0 in
    let rest : agreed (r2.parts v.1 ++ []) (spelled (r2.parts v.1) ++ [])
    ≡ length (spelled (r2.parts v.1)) + agreed [] []
    = r2_whole v.1 has.1 [] [] refl in
    let named : agreed (((word bytes ++ word (codes " ")) ++ r2.parts v.1) ++ [])
    (spelled ((word bytes ++ word (codes " ")) ++ r2.parts v.1) ++ [])
    ≡ length (spelled ((word bytes ++ word (codes " ")) ++ r2.parts v.1)) + agreed [] []
    = pair_whole (word bytes ++ word (codes " ")) (r2.parts v.1) [] []
    (λ m r e. pair_whole (word bytes) (word (codes " ")) m r (λ n s f. word_whole bytes n s)
    (word_whole (codes " ") m r)) rest in
    let all : agreed (line.parts v ++ []) (spelled (line.parts v) ++ [])
    ≡ length (spelled (line.parts v)) + agreed [] []
    = pair_whole (word (codes "ok ")) (((word bytes ++ word (codes " ")) ++ r2.parts v.1)) [] []
    (λ m r e. word_whole (codes "ok ") m r) named in
    sym (ap₂ (λ (ps : List Part) (bs : List ℕ). agreed ps bs) (append-nil (line.parts v))
    (append-nil (spelled (line.parts v)))) ∙ all

-- What a line that was read says.
use Rattle.std.proofs.Common.{ℕ, ◌≡◌, ◌<◌, ◌≤◌, ◌^◌, List, [], ◌∷◌, length, map, Some}
use Rattle.std.proofs.Common.{None, is_some, string_bytes, slice_index_or, All}
use Rattle.std.proofs.Common.{refl, ap, sym, subst, ◌∙◌, arith, Result, Ok, Err, IfOk, IfErr}
use Rattle.std.proofs.lemmas.List.Elements.{All-nil, All-cons}
use Rattle.cine_nums.specs.Limits.{limit_of, has_inner}
use Rattle.cine_nums.specs.declared.profile.Profile.{Profile}
use Rattle.cine_nums.specs.declared.profile.Profile.TheVariants.{TwoK, FourK}
use Rattle.cine_nums.specs.declared.budget.Budget.{Budget}
use Rattle.cine_nums.specs.declared.budget.Budget.TheVariants.{Frame, Inner, C0, C1, C2}
use Rattle.budget_duals.specs.Held.{held_in, limit_in, place_of}
use Rattle.budget_duals.specs.declared.held.Held.{Held}
use Rattle.budget_duals.specs.declared.limits.Limits.{Limits}
use Rattle.cert_text.specs.Lines.{cert_line}
use Rattle.cert_text.specs.Reading.{AreBudgets, IsSaid}
use Rattle.cert_text.specs.Forms.{spelled, Reads}
use Rattle.cert_text.specs.LineForms.{Field, inner_budget, Fields, budgets, inner_limit, field_read}
use Rattle.cert_text.specs.LineForms.{fields_read, Values, line}
use Rattle.cert_text.specs.LineForms.{limit_or_none, step_values, values_of, IsBadAt}
use Rattle.cert_text.specs.declared.cert_line.CertLine.{CertLine}
use Rattle.cert_text.specs.declared.cert_reading.BudgetFields.{BudgetFields}
use Rattle.cert_text.specs.declared.cert_refusal.CertRefusal.{CertRefusal}
use Rattle.cert_text.specs.declared.cert_refusal.CertRefusal.TheVariants.{BadLine, Memory}
use Rattle.cert_text.proofs.LineFound.{line_text, line_found, line_only, steps_said}

-- the budgets that were read, as a line has them

abbrev pub held_read : BudgetFields → Held
held_read f = record {
  frame = f.frame.held;
  inner = f.inner.held;
  component = f.c0.held ∷ f.c1.held ∷ f.c2.held ∷ [];
}

abbrev pub limits_read : BudgetFields → Profile → Limits
limits_read f p = record {
  frame = f.frame.limit;
  inner = inner_limit p f.inner.limit;
  component = f.c0.limit ∷ f.c1.limit ∷ f.c2.limit ∷ [];
}

abbrev pub multipliers_read : BudgetFields → List ℕ
multipliers_read f =
    f.frame.multiplier ∷ f.inner.multiplier ∷ f.c0.multiplier ∷ f.c1.multiplier ∷ f.c2.multiplier
    ∷ []

-- the inner budget, which 2K has not

inner_back : (p : Profile) (h l m : ℕ) → (inner_budget p).Has (h, (l, m)) → limit_or_none
    (inner_limit p l) ≡ l
inner_back TwoK h l m has = sym (ap (λ (f : Field). f.1.0) has)
inner_back FourK h l m has = refl

inner_small : (p : Profile) (h l m : ℕ) → (inner_budget p).Has (h, (l, m)) → h < 2 ^ 32
inner_small TwoK h l m has = let none : h ≡ 0 = ap (λ (f : Field). f.0) has in omega arith
inner_small FourK h l m has = omega (arith, has.0.1)

inner_priced : (p : Profile) (h l m : ℕ) → (inner_budget p).Has (h, (l, m)) → m < 2 ^ 96
inner_priced TwoK h l m has = let none : m ≡ 0 = ap (λ (f : Field). f.1.1) has in omega arith
inner_priced FourK h l m has = omega (arith, has.1.1.1)

inner_there : (p : Profile) (l : ℕ) → is_some (inner_limit p l) ≡ has_inner p
inner_there TwoK l = refl
inner_there FourK l = refl

same_some : {m n : ℕ} → Some m ≡ Some n → m ≡ n
same_some e = cc

inner_limited : (p : Profile) (h l m n : ℕ) → (inner_budget p).Has (h, (l, m)) → inner_limit p l
    ≡ Some n → n ≤ limit_of p Inner
inner_limited TwoK h l m n has e = absurd cc
inner_limited FourK h l m n has e = let same : l ≡ n = same_some e in omega (arith, has.1.0.1)

inner_held : (p : Profile) (h l m : ℕ) → (inner_budget p).Has (h, (l, m)) → inner_limit p l ≡ None
    → h ≡ 0
inner_held TwoK h l m has e = ap (λ (f : Field). f.0) has
inner_held FourK h l m has e = absurd cc

inner_unpriced : (p : Profile) (h l m : ℕ) → (inner_budget p).Has (h, (l, m)) → inner_limit p l
    ≡ None → m ≡ 0
inner_unpriced TwoK h l m has e = ap (λ (f : Field). f.1.1) has
inner_unpriced FourK h l m has e = absurd cc

-- the budgets are as a line may say them

small : (p : Profile) (f : BudgetFields) → (budgets p).Has (fields_read f) → (b : Budget)
    → held_in (held_read f) b < 2 ^ 32
small p f has Frame = omega (arith, has.0.0.1)
small p f has Inner = inner_small p f.inner.held f.inner.limit f.inner.multiplier has.1.0
small p f has C0 = omega (arith, has.1.1.0.0.1)
small p f has C1 = omega (arith, has.1.1.1.0.0.1)
small p f has C2 = omega (arith, has.1.1.1.1.0.1)

limited : (p : Profile) (f : BudgetFields) → (budgets p).Has (fields_read f) → (b : Budget) (n : ℕ)
    → limit_in (limits_read f p) b ≡ Some n
    → n ≤ limit_of p b
limited p f has Frame n e = let same : f.frame.limit ≡ n = same_some e in omega (arith, has.0.1.0.1)
limited p f has Inner n e = inner_limited p f.inner.held f.inner.limit f.inner.multiplier n has.1.0
    e
limited p f has C0 n e = let same : f.c0.limit ≡ n = same_some e in omega (arith, has.1.1.0.1.0.1)
limited p f has C1 n e = let same : f.c1.limit ≡ n = same_some e in omega (arith, has.1.1.1.0.1.0.1)
limited p f has C2 n e = let same : f.c2.limit ≡ n = same_some e in omega (arith, has.1.1.1.1.1.0.1)

abbrev IsPrice : ℕ → Type 0
IsPrice n = n < 2 ^ 96

priced : (p : Profile) (f : BudgetFields) → (budgets p).Has (fields_read f) → All IsPrice
    (multipliers_read f)
priced p f has =
    All-cons IsPrice f.frame.multiplier (f.inner.multiplier ∷ f.c0.multiplier ∷ f.c1.multiplier
    ∷ f.c2.multiplier ∷ []) (omega (arith, has.0.1.1.1))
    (All-cons IsPrice f.inner.multiplier (f.c0.multiplier ∷ f.c1.multiplier ∷ f.c2.multiplier ∷ [])
    (inner_priced p f.inner.held f.inner.limit f.inner.multiplier has.1.0)
    (All-cons IsPrice f.c0.multiplier (f.c1.multiplier ∷ f.c2.multiplier ∷ [])
    (omega (arith, has.1.1.0.1.1.1))
    (All-cons IsPrice f.c1.multiplier (f.c2.multiplier ∷ []) (omega (arith, has.1.1.1.0.1.1.1))
    (All-cons IsPrice f.c2.multiplier [] (omega (arith, has.1.1.1.1.1.1.1)) (All-nil IsPrice)))))

read_said : (p : Profile) (f : BudgetFields) → (budgets p).Has (fields_read f) → AreBudgets p
    (held_read f) (limits_read f p) (multipliers_read f)
read_said p f has = record {
  small = small p f has;
  has_limit = inner_there p f.inner.limit;
  limited = limited p f has;
  priced = priced p f has;
  nothing_held = inner_held p f.inner.held f.inner.limit f.inner.multiplier has.1.0;
  no_multiplier = inner_unpriced p f.inner.held f.inner.limit f.inner.multiplier has.1.0;
}

budgets_said : (p : Profile) (held : Held) (limits : Limits) (ms : List ℕ) (f : BudgetFields) → held
    ≡ held_read f → limits ≡ limits_read f p
    → ms ≡ multipliers_read f → (budgets p).Has (fields_read f) → AreBudgets p held limits ms
budgets_said p held limits ms f eh el em has =
    subst (λ (h : Held). AreBudgets p h limits ms) (sym eh)
    (subst (λ (l : Limits). AreBudgets p (held_read f) l ms) (sym el)
    (subst (λ (m : List ℕ). AreBudgets p (held_read f) (limits_read f p) m) (sym em)
    (read_said p f has)))

-- the numbers of a line's budgets

abbrev field_from : Held → Limits → List ℕ → Budget → Field
field_from held limits ms which = (
  held_in held which,
  (
    limit_or_none (limit_in limits which),
    slice_index_or ms (place_of which)
        0,
  ),
)

abbrev fields_from : Held → Limits → List ℕ → Fields
fields_from held limits ms = (
  field_from held limits ms Frame,
  (
    field_from held limits ms Inner,
    (field_from held limits ms C0, (field_from held limits ms C1, field_from held limits ms C2)),
  ),
)

fields_same : (p : Profile) (held : Held) (limits : Limits) (ms : List ℕ) (f : BudgetFields) → held
    ≡ held_read f → limits ≡ limits_read f p
    → ms ≡ multipliers_read f → (budgets p).Has (fields_read f) → fields_from held limits ms
    ≡ fields_read f
fields_same p held limits ms f eh el em has =
    ap (λ (h : Held). fields_from h limits ms) eh
    ∙ (ap (λ (l : Limits). fields_from (held_read f) l ms) el
    ∙ (ap (λ (m : List ℕ). fields_from (held_read f) (limits_read f p) m) em
    ∙ ap (λ (n : ℕ). (
      field_read f.frame,
      (
        (f.inner.held, (n, f.inner.multiplier)),
        (field_read f.c0, (field_read f.c1, field_read f.c2)),
      ),
    ))
    (inner_back p f.inner.held f.inner.limit f.inner.multiplier has.1.0)))

-- a line that was read

abbrev with_fields : CertLine → Fields → Values
with_fields l fields = (
  string_bytes l.name,
  (
    l.profile,
    (
      (l.width, l.height),
      (
        fields,
        (
          (l.passes, (l.empty, (l.certificate.distortion, l.certificate.gap))),
          map step_values
              l.certificate.refused.items,
        ),
      ),
    ),
  ),
)

line_said : (l : CertLine) (f : BudgetFields) → AreBudgets l.profile l.held l.limits
    l.certificate.multipliers
    → line.Has (with_fields l (fields_read f)) → IsSaid l
line_said l f said has =
    let steps = steps_said l.profile 0 l.certificate.refused.items has.1.1.1.1.1 in
    record {
      named = has.0.1;
      wide = has.1.1.0.0;
      high = has.1.1.0.1;
      passes = omega (arith, has.1.1.1.1.0.0.1);
      empty = omega (arith, has.1.1.1.1.0.1.0.1);
      distortion = omega (arith, has.1.1.1.1.0.1.1.0.1);
      gap = omega (arith, has.1.1.1.1.0.1.1.1.1);
      budgets = said;
      steps = record { small = steps.0; rises = steps.1.0; inner = steps.1.1 };
    }

pub record IsRead (x : List ℕ) (l : CertLine) : Type 0 where
  pub found : x ≡ cert_line l
  pub said : IsSaid l
  pub only : (other : CertLine) → IsSaid other → x ≡ cert_line other → values_of l ≡ values_of other

pub line_is_read : {x : List ℕ} {end : ℕ} (l : CertLine) (f : BudgetFields) → l.held ≡ held_read f
    → l.limits ≡ limits_read f l.profile
    → l.certificate.multipliers ≡ multipliers_read f → Reads line x 0
    (with_fields l (fields_read f)) end → length x ≤ end → IsRead x l
line_is_read {x} {end} l f eh el em r all =
    let has : (budgets l.profile).Has (fields_read f) = r.has.1.1.1.0 in
    let budgets_are : AreBudgets l.profile l.held l.limits l.certificate.multipliers
    = budgets_said l.profile l.held l.limits l.certificate.multipliers f eh el em has in
    let same : values_of l ≡ with_fields l (fields_read f)
    = ap (with_fields l) (fields_same l.profile l.held l.limits l.certificate.multipliers f eh el em
    has) in
    record {
      found = line_found r all ∙ (ap (λ (v : Values). spelled (line.parts v)) (sym same)
          ∙ line_text l budgets_are.has_limit);
      said = line_said l f budgets_are r.has;
      only = λ other s e. same ∙ line_only r other s e;
    }

-- what is read of the text of a line

pub text_again : (r : Result CertLine CertRefusal) (x : List ℕ) (l : CertLine) → x ≡ cert_line l
    → IfOk r (λ read. x ≡ cert_line read)
    → IfOk r (λ read. cert_line read ≡ cert_line l)
text_again (Ok read) x l text found = sym found ∙ text
text_again (Err e) x l text found = tt

pub same_again : (r : Result CertLine CertRefusal) (x : List ℕ) (l : CertLine) → IsSaid l → x
    ≡ cert_line l
    → IfOk r (λ read. (other : CertLine) → IsSaid other → x ≡ cert_line other → values_of read
    ≡ values_of other)
    → IfOk r (λ read. values_of read ≡ values_of l)
same_again (Ok read) x l said text only = only l said text
same_again (Err e) x l said text only = tt

pub memory_alone : (r : Result CertLine CertRefusal) (x : List ℕ) (l : CertLine) → IsSaid l → x
    ≡ cert_line l
    → IfErr r (λ e. (place : ℕ) → e ≡ BadLine place → IsBadAt x place) → IfErr r (λ e. e ≡ Memory)
memory_alone (Ok read) x l said text bad = tt
memory_alone (Err (BadLine place)) x l said text bad = absurd ((bad place refl).no_line l said text)
memory_alone (Err Memory) x l said text bad = refl

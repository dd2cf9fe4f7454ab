-- The text of a line, and the parts of its values.
use Rattle.std.proofs.Common.{ℕ, ◌≡◌, ◌+◌, ◌<◌, ◌≤◌, ◌^◌, ◌++◌, List, [], ◌∷◌}
use Rattle.std.proofs.Common.{length, drop, decimal, map, Option, Some, None, is_some, true}
use Rattle.std.proofs.Common.{refl, ap, ap₂, sym, subst, ◌∙◌, arith, append_assoc, codes}
use Rattle.std.proofs.Common.{string_bytes, slice_index_or, All, inl, inr, suc}
use Rattle.std.proofs.Common.{zero}
use Rattle.std.specs.List.{flat_map}
use Rattle.std.proofs.Math.ListN.{drop_of_length-le}
use Rattle.std.proofs.Common.{drop-cons}
use Rattle.std.proofs.lemmas.List.{append-nil}
use Rattle.std.proofs.lemmas.List.Elements.{All-get_or, All-nil, All-cons, All-head, All-tail}
use Rattle.std.proofs.lemmas.Bool.{cases_lt, true≢false, false≢true}
use Rattle.std.proofs.lemmas.Str.{IsUtf8-string_bytes}
use Rattle.cine_nums.specs.Limits.{limit_of, has_inner}
use Rattle.cine_nums.specs.declared.profile.Profile.{Profile}
use Rattle.cine_nums.specs.declared.profile.Profile.TheVariants.{TwoK, FourK}
use Rattle.cine_nums.specs.declared.budget.Budget.{Budget}
use Rattle.cine_nums.specs.declared.budget.Budget.TheVariants.{Frame, Inner, C0, C1, C2}
use Rattle.budget_duals.specs.Held.{held_in, place_of}
use Rattle.budget_duals.specs.declared.certificate.RefusedStep.{RefusedStep}
use Rattle.cert_text.specs.Names.{escaped}
use Rattle.cert_text.specs.Words.{profile_word, budget_word}
use Rattle.cert_text.specs.Lines.{held_field, limited_field, budget_field, budget_fields}
use Rattle.cert_text.specs.Lines.{step_field, cert_line}
use Rattle.cert_text.specs.Lines.{sums as sums_text}
use Rattle.cert_text.specs.Reading.{RisesFrom, AreBudgets, IsSmall, IsSaid}
use Rattle.cert_text.specs.Forms.{Part, Number, word, spelled, agreed, Form, Reads, Stops}
use Rattle.cert_text.specs.Forms.{Refuses, exactly, both}
use Rattle.cert_text.specs.LineForms.{name, profile, size, budget, inner_budget}
use Rattle.cert_text.specs.LineForms.{Fields, budgets, Sums, sums, Numbers, numbers, step}
use Rattle.cert_text.specs.LineForms.{AreStepsFrom, steps, Values, line}
use Rattle.cert_text.specs.LineForms.{limit_or_none, field_of, step_values, values_of, IsBadAt}
use Rattle.cert_text.specs.declared.cert_line.CertLine.{CertLine}
use Rattle.cert_text.specs.declared.cert_refusal.CertRefusal.{CertRefusal}
use Rattle.cert_text.specs.declared.cert_refusal.CertRefusal.TheVariants.{BadLine, Memory}
use Rattle.cert_text.proofs.Stands.{line_spelled}
use Rattle.cert_text.proofs.Agreed.{agreed_whole}
use Rattle.cert_text.proofs.Forms.{HasSome, both_some, after_reads, after_refuses, word_refuses}
use Rattle.cert_text.proofs.Forms.{both_reads, both_refuses, first_refuses}
use Rattle.cert_text.proofs.LineReading.{size_some, budgets_some, sums_some}
use Rattle.cert_text.proofs.Utf8.{between_ends}
use Rattle.cert_text.proofs.Utf8Text.{utf8_ends}
use Rattle.cert_text.proofs.Whole.{spelled_append, spelled_word, line_whole}

-- the text of each field

labelled_spelled : (label : List ℕ) (n : ℕ) → spelled (word label ++ (Number n ∷ []))
    ≡ label ++ decimal n
labelled_spelled label n = spelled_append (word label) (Number n ∷ [])
    ∙ ap₂ (λ (a b : List ℕ). a ++ b) (spelled_word label) (append-nil (decimal n))

after_spelled : (w : List ℕ) (p : List Part) → spelled (word w ++ p) ≡ w ++ spelled p
after_spelled w p = spelled_append (word w) p ∙ ap (λ (a : List ℕ). a ++ spelled p) (spelled_word w)

both_spelled : (p q : List Part) (a b : List ℕ) → spelled p ≡ a → spelled q ≡ b → spelled (p ++ q)
    ≡ a ++ b
both_spelled p q a b ea eb = spelled_append p q ∙ ap₂ (λ (x y : List ℕ). x ++ y) ea eb

field_spelled : (p : Profile) (b : Budget) (h l m : ℕ) → spelled ((budget p b).parts (h, (l, m)))
    ≡ held_field b h l m
field_spelled p b h l m =
    let pl : List Part = word (codes "/") ++ (Number l ∷ []) in
    let pm : List Part = word (codes "/") ++ (Number m ∷ []) in
    let ph : List Part = word (codes "=") ++ (Number h ∷ []) in
    after_spelled (codes " ") (word (budget_word b) ++ (ph ++ (pl ++ pm)))
    ∙ ap (λ (rest : List ℕ). codes " " ++ rest) (after_spelled (budget_word b) (ph ++ (pl ++ pm))
    ∙ ap (λ (rest : List ℕ). budget_word b ++ rest)
    (both_spelled ph (pl ++ pm) (codes "=" ++ decimal h)
    ((codes "/" ++ decimal l) ++ (codes "/" ++ decimal m))
    (labelled_spelled (codes "=") h) (both_spelled pl pm (codes "/" ++ decimal l)
    (codes "/" ++ decimal m) (labelled_spelled (codes "/") l) (labelled_spelled (codes "/") m))
    ∙ simp append_assoc))

inner_spelled : (p : Profile) (h : ℕ) (limit : Option ℕ) (m : ℕ) → is_some limit ≡ has_inner p
    → spelled ((inner_budget p).parts (h, (limit_or_none limit, m))) ≡ limited_field Inner h limit m
inner_spelled TwoK h None m e = refl
inner_spelled TwoK h (Some l) m e = absurd (true≢false e)
inner_spelled FourK h None m e = absurd (false≢true e)
inner_spelled FourK h (Some l) m e = field_spelled FourK Inner h l m

budgets_spelled : (l : CertLine) → is_some l.limits.inner ≡ has_inner l.profile
    → spelled ((budgets l.profile).parts
    (field_of l Frame, (field_of l Inner, (field_of l C0, (field_of l C1, field_of l C2)))))
    ≡ budget_fields l.held l.limits l.certificate.multipliers
budgets_spelled l e =
    let p : Profile = l.profile in
    let ms : List ℕ = l.certificate.multipliers in
    let f : Budget → List Part = λ b. (budget p b).parts (field_of l b) in
    let i : List Part = (inner_budget p).parts (field_of l Inner) in
    let t : Budget → List ℕ = budget_field l.held l.limits ms in
    both_spelled (f Frame) (i ++ (f C0 ++ (f C1 ++ f C2))) (t Frame)
    (t Inner ++ (t C0 ++ (t C1 ++ t C2)))
    (field_spelled p Frame (held_in l.held Frame) l.limits.frame (slice_index_or ms 0 0))
    (both_spelled i (f C0 ++ (f C1 ++ f C2)) (t Inner) (t C0 ++ (t C1 ++ t C2))
    (inner_spelled p l.held.inner l.limits.inner (slice_index_or ms 1 0) e)
    (both_spelled (f C0) (f C1 ++ f C2) (t C0) (t C1 ++ t C2)
    (field_spelled p C0 (held_in l.held C0) (slice_index_or l.limits.component 0 0)
    (slice_index_or ms 2 0))
    (both_spelled (f C1) (f C2) (t C1) (t C2)
    (field_spelled p C1 (held_in l.held C1) (slice_index_or l.limits.component 1 0)
    (slice_index_or ms 3 0))
    (field_spelled p C2 (held_in l.held C2) (slice_index_or l.limits.component 2 0)
    (slice_index_or ms 4 0)))))
    ∙ ap (λ (rest : List ℕ). t Frame ++ (t Inner ++ (t C0 ++ (t C1 ++ rest))))
    (sym (append-nil (t C2)))

sums_spelled : (n u d g : ℕ) → spelled (sums.parts (n, (u, (d, g)))) ≡ sums_text n u d g
sums_spelled n u d g =
    let pn : List Part = word (codes " passes=") ++ (Number n ∷ []) in
    let pu : List Part = word (codes " empty=") ++ (Number u ∷ []) in
    let pd : List Part = word (codes " distortion=") ++ (Number d ∷ []) in
    let pg : List Part = word (codes " gap=") ++ (Number g ∷ []) in
    both_spelled pn (pu ++ (pd ++ pg)) (codes " passes=" ++ decimal n)
    ((codes " empty=" ++ decimal u) ++ ((codes " distortion=" ++ decimal d)
    ++ (codes " gap=" ++ decimal g)))
    (labelled_spelled (codes " passes=") n)
    (both_spelled pu (pd ++ pg) (codes " empty=" ++ decimal u) ((codes " distortion=" ++ decimal d)
    ++ (codes " gap=" ++ decimal g))
    (labelled_spelled (codes " empty=") u) (both_spelled pd pg (codes " distortion=" ++ decimal d)
    (codes " gap=" ++ decimal g)
    (labelled_spelled (codes " distortion=") d) (labelled_spelled (codes " gap=") g)))
    ∙ simp append_assoc

step_shape : (s c w b f o l g a e : List ℕ)
    → s ++ (w ++ ((c ++ b)
    ++ (((c ++ f) ++ (c ++ o)) ++ ((c ++ l) ++ ((c ++ g) ++ ((c ++ a) ++ (c ++ e)))))))
    ≡ (s ++ (w ++ (c ++ (b ++ (c ++ (f ++ (c ++ (o ++ (c ++ l)))))))))
    ++ (c ++ (g ++ (c ++ (a ++ (c ++ e)))))
step_shape s c w b f o l g a e = simp append_assoc

step_spelled : (p : Profile) (r : RefusedStep) → spelled ((step p 0).parts (step_values r))
    ≡ step_field r
step_spelled p r =
    let c : ℕ → List Part = λ n. word (codes ":") ++ (Number n ∷ []) in
    let t : ℕ → List ℕ = λ n. codes ":" ++ decimal n in
    let one : (n : ℕ) → spelled (c n) ≡ t n = λ n. labelled_spelled (codes ":") n in
    let b : List Part = c r.step.block in
    let f : List Part = c r.step.from in
    let o : List Part = c r.step.to in
    let l : List Part = c r.step.len in
    let w : List Part = c r.grow in
    let a : List Part = c r.step.gain in
    let e : List Part = c r.price in
    after_spelled (codes " step=")
    (word (budget_word r.budget) ++ (b ++ ((f ++ o) ++ (l ++ (w ++ (a ++ e))))))
    ∙ (ap (λ (rest : List ℕ). codes " step=" ++ rest) (after_spelled (budget_word r.budget)
    (b ++ ((f ++ o) ++ (l ++ (w ++ (a ++ e)))))
    ∙ ap (λ (rest : List ℕ). budget_word r.budget ++ rest)
    (both_spelled b ((f ++ o) ++ (l ++ (w ++ (a ++ e)))) (t r.step.block)
    ((t r.step.from ++ t r.step.to) ++ (t r.step.len ++ (t r.grow ++ (t r.step.gain ++ t r.price))))
    (one r.step.block)
    (both_spelled (f ++ o) (l ++ (w ++ (a ++ e))) (t r.step.from ++ t r.step.to)
    (t r.step.len ++ (t r.grow ++ (t r.step.gain ++ t r.price)))
    (both_spelled f o (t r.step.from) (t r.step.to) (one r.step.from) (one r.step.to))
    (both_spelled l (w ++ (a ++ e)) (t r.step.len) (t r.grow ++ (t r.step.gain ++ t r.price))
    (one r.step.len)
    (both_spelled w (a ++ e) (t r.grow) (t r.step.gain ++ t r.price) (one r.grow)
    (both_spelled a e (t r.step.gain) (t r.price) (one r.step.gain) (one r.price)))))))
    ∙ step_shape (codes " step=") (codes ":") (budget_word r.budget) (decimal r.step.block)
    (decimal r.step.from) (decimal r.step.to) (decimal r.step.len)
    (decimal r.grow) (decimal r.step.gain) (decimal r.price))

of_spelled : (p : Profile) (rs : List RefusedStep)
    → spelled (flat_map (step p 0).parts (map step_values rs)) ≡ flat_map step_field rs
of_spelled p [] = refl
of_spelled p (r ∷ rs) = both_spelled ((step p 0).parts (step_values r))
    (flat_map (step p 0).parts (map step_values rs)) (step_field r) (flat_map step_field rs)
    (step_spelled p r) (of_spelled p rs)

size_spelled : (p : Profile) (w h : ℕ) → spelled ((size p).parts (w, h))
    ≡ codes " " ++ (decimal w ++ (codes "x" ++ decimal h))
size_spelled p w h =
    let pw : List Part = word (codes " ") ++ (Number w ∷ []) in
    let ph : List Part = word (codes "x") ++ (Number h ∷ []) in
    both_spelled pw ph (codes " " ++ decimal w) (codes "x" ++ decimal h)
    (labelled_spelled (codes " ") w) (labelled_spelled (codes "x") h) ∙ simp append_assoc

pub line_text : (l : CertLine) → is_some l.limits.inner ≡ has_inner l.profile
    → spelled (line.parts (values_of l)) ≡ cert_line l
line_text l e =
    let p : Profile = l.profile in
    let n : List ℕ = escaped (string_bytes l.name) in
    let wh : List Part = (size p).parts (l.width, l.height) in
    let bs : List Part = (budgets p).parts
    (field_of l Frame, (field_of l Inner, (field_of l C0, (field_of l C1, field_of l C2)))) in
    let ts : List Part = sums.parts
    (l.passes, (l.empty, (l.certificate.distortion, l.certificate.gap))) in
    let ss : List Part = flat_map (step p 0).parts (map step_values l.certificate.refused.items) in
    let wht : List ℕ = codes " " ++ (decimal l.width ++ (codes "x" ++ decimal l.height)) in
    let bst : List ℕ = budget_fields l.held l.limits l.certificate.multipliers in
    let tst : List ℕ = sums_text l.passes l.empty l.certificate.distortion l.certificate.gap in
    let sst : List ℕ = flat_map step_field l.certificate.refused.items in
    let tail : spelled (wh ++ (bs ++ (ts ++ (ss ++ word (codes "\n")))))
    ≡ wht ++ (bst ++ (tst ++ (sst ++ codes "\n")))
    = both_spelled wh (bs ++ (ts ++ (ss ++ word (codes "\n")))) wht
    (bst ++ (tst ++ (sst ++ codes "\n"))) (size_spelled p l.width l.height)
    (both_spelled bs (ts ++ (ss ++ word (codes "\n"))) bst (tst ++ (sst ++ codes "\n"))
    (budgets_spelled l e)
    (both_spelled ts (ss ++ word (codes "\n")) tst (sst ++ codes "\n")
    (sums_spelled l.passes l.empty l.certificate.distortion l.certificate.gap)
    (both_spelled ss (word (codes "\n")) sst (codes "\n") (of_spelled p l.certificate.refused.items)
    (spelled_word (codes "\n"))))) in
    let profiled : spelled
    (word (profile_word p) ++ (wh ++ (bs ++ (ts ++ (ss ++ word (codes "\n")))))) ≡ profile_word
    p ++ (wht ++ (bst ++ (tst ++ (sst ++ codes "\n"))))
    = both_spelled (word (profile_word p)) (wh ++ (bs ++ (ts ++ (ss ++ word (codes "\n")))))
    (profile_word p) (wht ++ (bst ++ (tst ++ (sst ++ codes "\n")))) (spelled_word (profile_word p))
    tail in
    let named : spelled ((word n ++ word (codes " "))
    ++ (word (profile_word p) ++ (wh ++ (bs ++ (ts ++ (ss ++ word (codes "\n")))))))
    ≡ (n ++ codes " ") ++ (profile_word p ++ (wht ++ (bst ++ (tst ++ (sst ++ codes "\n")))))
    = both_spelled (word n ++ word (codes " "))
    (word (profile_word p) ++ (wh ++ (bs ++ (ts ++ (ss ++ word (codes "\n")))))) (n ++ codes " ")
    (profile_word p ++ (wht ++ (bst ++ (tst ++ (sst ++ codes "\n")))))
    (both_spelled (word n) (word (codes " ")) n (codes " ") (spelled_word n)
    (spelled_word (codes " "))) profiled in
    after_spelled (codes "ok ")
    ((word n ++ word (codes " "))
    ++ (word (profile_word p) ++ (wh ++ (bs ++ (ts ++ (ss ++ word (codes "\n")))))))
    ∙ (ap (λ (rest : List ℕ). codes "ok " ++ rest) (named ∙ append_assoc n (codes " ")
    (profile_word p ++ (wht ++ (bst ++ (tst ++ (sst ++ codes "\n"))))))
    ∙ line_spelled n (profile_word p) (decimal l.width) (decimal l.height) bst tst sst)

-- what a line may say is a value of the form

priced_at : (ms : List ℕ) (i : ℕ) → All (λ n. n < 2 ^ 96) ms → slice_index_or ms i 0 < 2 ^ 96
priced_at ms i h = elim (cases_lt i (length ms)) [
  | inl inside ↦ All-get_or (λ (n : ℕ). n < 2 ^ 96) ms i 0 inside h
  | inr past ↦ past_end ms i past
]
  where
    past_end : (ms : List ℕ) (i : ℕ) → length ms ≤ i → slice_index_or ms i 0 < 2 ^ 96
    past_end [] i h = omega arith
    past_end (m ∷ ms) zero h = absurd (omega arith)
    past_end (m ∷ ms) (suc i) h = past_end ms i (omega arith)

inner_has : (p : Profile) (h : ℕ) (limit : Option ℕ) (m : ℕ) → is_some limit ≡ has_inner p
    → h < 2 ^ 32
    → ((n : ℕ) → limit ≡ Some n → n ≤ limit_of p Inner) → m < 2 ^ 96 → (limit ≡ None → h ≡ 0)
    → (limit ≡ None → m ≡ 0)
    → (inner_budget p).Has (h, (limit_or_none limit, m))
inner_has TwoK h None m e small limited priced zh zm = ap₂ (λ (a b : ℕ). (a, (0, b))) (zh refl)
    (zm refl)
inner_has TwoK h (Some l) m e small limited priced zh zm = absurd (true≢false e)
inner_has FourK h None m e small limited priced zh zm = absurd (false≢true e)
inner_has FourK h (Some l) m e small limited priced zh zm =
    let most : l ≤ limit_of FourK Inner = limited l refl in
    ((omega arith, omega arith), ((omega arith, omega arith), (omega arith, omega arith)))

budget_has : (p : Profile) (b : Budget) (h l m : ℕ) → h < 2 ^ 32 → l ≤ limit_of p b → m < 2 ^ 96
    → (budget p b).Has (h, (l, m))
budget_has p b h l m small limited priced
    = ((omega arith, omega arith), ((omega arith, limited), (omega arith, omega arith)))

budgets_has : (l : CertLine) → AreBudgets l.profile l.held l.limits l.certificate.multipliers
    → (budgets l.profile).Has
    (field_of l Frame, (field_of l Inner, (field_of l C0, (field_of l C1, field_of l C2))))
budgets_has l b =
    let p : Profile = l.profile in
    let ms : List ℕ = l.certificate.multipliers in (
      budget_has p Frame l.held.frame l.limits.frame (slice_index_or ms 0 0) (b.small Frame)
          (b.limited Frame l.limits.frame refl) (priced_at ms 0 b.priced),
      (
        inner_has p l.held.inner l.limits.inner (slice_index_or ms 1 0) b.has_limit (b.small Inner)
            (b.limited Inner) (priced_at ms 1 b.priced) b.nothing_held b.no_multiplier,
        (
          budget_has p C0 (held_in l.held C0) (slice_index_or l.limits.component 0 0)
              (slice_index_or ms 2 0) (b.small C0)
              (b.limited C0 (slice_index_or l.limits.component 0 0) refl)
              (priced_at ms 2 b.priced),
          (
            budget_has p C1 (held_in l.held C1) (slice_index_or l.limits.component 1 0)
                (slice_index_or ms 3 0) (b.small C1)
                (b.limited C1 (slice_index_or l.limits.component 1 0) refl)
                (priced_at ms 3 b.priced),
            budget_has p C2 (held_in l.held C2) (slice_index_or l.limits.component 2 0)
                (slice_index_or ms 4 0) (b.small C2)
                (b.limited C2 (slice_index_or l.limits.component 2 0)
                refl) (priced_at ms 4 b.priced),
          ),
        ),
      ),
    )

numbers_has : (r : RefusedStep) → IsSmall r → numbers.Has (step_values r).1
numbers_has r s =
    let longer : 1 ≤ r.step.len = r.step.longer in
    let short : r.step.len ≤ 131072 = r.step.short in
    let gains : 1 ≤ r.step.gain = r.step.gains in
    let wide : r.step.gain < 2 ^ 64 = r.step.wide in
    let block : r.step.block < 2 ^ 32 = s.block in
    let from : r.step.from < 2 ^ 8 = s.from in
    let to : r.step.to < 2 ^ 8 = s.to in
    let grow : r.grow < 2 ^ 32 = s.grow in
    let price : r.price < 2 ^ 128 = s.price in (
      (omega arith, omega arith),
      (
        ((omega arith, omega arith), (omega arith, r.step.moves)),
        (
          (omega arith, omega arith),
          ((omega arith, omega arith), ((omega arith, omega arith), (omega arith, omega arith))),
        ),
      ),
    )

steps_has : (p : Profile) (least : ℕ) (rs : List RefusedStep) → All IsSmall rs → RisesFrom least rs
    → All (λ r. r.budget ≡ Inner → has_inner p ≡ true) rs → AreStepsFrom p least
    (map step_values rs)
steps_has p least [] small rises inner = tt
steps_has p least (r ∷ rs) small rises inner = (
  (
    (rises.0, All-head (λ (s : RefusedStep). s.budget ≡ Inner → has_inner p ≡ true) r rs inner),
    numbers_has r (All-head IsSmall r rs small),
  ),
  steps_has p (place_of r.budget + 1) rs (All-tail IsSmall r rs small) rises.1
      (All-tail (λ (s : RefusedStep). s.budget ≡ Inner → has_inner p ≡ true) r rs inner),
)

pub said_has : (l : CertLine) → IsSaid l → line.Has (values_of l)
said_has l s =
    let passes : l.passes < 2 ^ 64 = s.passes in
    let empty : l.empty < 2 ^ 128 = s.empty in
    let distortion : l.certificate.distortion < 2 ^ 128 = s.distortion in
    let gap : l.certificate.gap < 2 ^ 128 = s.gap in (
      (IsUtf8-string_bytes l.name, s.named),
      (
        tt,
        (
          (s.wide, s.high),
          (
            budgets_has l s.budgets,
            (
              (
                (omega arith, omega arith),
                (
                  (omega arith, omega arith),
                  ((omega arith, omega arith), (omega arith, omega arith)),
                ),
              ),
              steps_has l.profile 0 l.certificate.refused.items s.steps.small s.steps.rises
                  s.steps.inner,
            ),
          ),
        ),
      ),
    )

-- a value of the form that was read, as a line may say it

numbers_small : (r : RefusedStep) → numbers.Has (step_values r).1 → IsSmall r
numbers_small r h = record {
  block = omega (arith, h.0.1);
  from = omega (arith, h.1.0.0.1);
  to = omega (arith, h.1.0.1.0);
  grow = omega (arith, h.1.1.1.0.1);
  price = omega (arith, h.1.1.1.1.1.1);
}

pub steps_said : (p : Profile) (least : ℕ) (rs : List RefusedStep) → AreStepsFrom p least
    (map step_values rs)
    → All IsSmall rs × (RisesFrom least rs × All (λ r. r.budget ≡ Inner → has_inner p ≡ true) rs)
steps_said p least [] h
    = (All-nil IsSmall, (tt, All-nil (λ (s : RefusedStep). s.budget ≡ Inner → has_inner p ≡ true)))
steps_said p least (r ∷ rs) h =
    let later = steps_said p (place_of r.budget + 1) rs h.1 in (
      All-cons IsSmall r rs (numbers_small r h.0.1) later.0,
      (
        (h.0.0.0, later.1.0),
        All-cons (λ (s : RefusedStep). s.budget ≡ Inner → has_inner p ≡ true) r rs h.0.0.1
            later.1.1,
      ),
    )

-- all of the text

pub line_found : {x : List ℕ} {v : Values} {end : ℕ} → Reads line x 0 v end → length x ≤ end → x
    ≡ spelled (line.parts v)
line_found {x} {v} {end} r all =
    let within : end ≤ length x = r.within in
    let none : drop end x ≡ [] = drop_of_length-le x all in
    let parts : agreed (line.parts v ++ []) x ≡ agreed (line.parts v) x
    = ap (λ (ps : List Part). agreed ps x) (append-nil (line.parts v)) in
    let goes : 0 + agreed (line.parts v ++ []) x ≡ end + agreed [] (drop end x) = r.goes [] in
    let last : agreed [] (drop end x) ≡ 1 = ap (λ (bs : List ℕ). agreed [] bs) none in
    agreed_whole (line.parts v) x (omega arith)

text_agrees : (x : List ℕ) (l : CertLine) → IsSaid l → x ≡ cert_line l
    → agreed (line.parts (values_of l) ++ []) x ≡ length x + 1
text_agrees x l s e =
    let text : x ≡ spelled (line.parts (values_of l)) = e ∙ sym (line_text l s.budgets.has_limit) in
    ap (λ (ps : List Part). agreed ps x) (append-nil (line.parts (values_of l)))
    ∙ subst (λ (y : List ℕ). agreed (line.parts (values_of l)) y ≡ length y + 1) (sym text)
    (line_whole (values_of l) (said_has l s))

pub line_only : {x : List ℕ} {v : Values} {end : ℕ} → Reads line x 0 v end → (other : CertLine)
    → IsSaid other → x ≡ cert_line other → v ≡ values_of other
line_only {x} {v} {end} r other s e =
    let within : end ≤ length x = r.within in
    elim (r.others (values_of other) (said_has other s)) [
      | inl same ↦ same
      | inr less ↦ absurd (omega (arith, less [], text_agrees x other s e))
    ]

-- no line

pub bad_at : {x : List ℕ} {place : ℕ} → Stops line x 0 place → IsBadAt x place
bad_at {x} {place} r =
    let within : place ≤ length x = r.within in
    record {
      no_line = λ other s e. omega (
        arith,
        r.none (values_of other) (said_has other s) [],
        text_agrees x other s e,
      );
      within = r.within;
      some = r.some;
      said = r.has;
      reached = omega (
        arith,
        ap (λ (ps : List Part). agreed ps x) (append-nil (line.parts r.some)),
        r.reached [],
        r.none r.some r.has [],
      );
      last = λ other h. omega (
        arith,
        ap (λ (ps : List Part). agreed ps x)
            (append-nil (line.parts other)),
        r.none other h [],
      );
    }

past_end : (x : List ℕ) (end : ℕ) → end < length x → agreed [] (drop end x) ≡ 0
past_end x end h = ap (λ (bs : List ℕ). agreed [] bs) (drop-cons x end 0 h)

pub bad_past : {x : List ℕ} {v : Values} {end : ℕ} → Reads line x 0 v end → end < length x
    → IsBadAt x end
bad_past {x} {v} {end} r h =
    let none : agreed [] (drop end x) ≡ 0 = past_end x end h in
    let here : agreed (line.parts v ++ []) x ≡ end = omega (arith, r.goes []) in
    let most : (other : Values) → line.Has other → agreed (line.parts other ++ []) x ≤ end
    = λ other has. elim (r.others other has) [
      | inl same ↦ subst (λ (u : Values). agreed (line.parts u ++ []) x ≤ end) same (omega arith)
      | inr less ↦ omega (arith, less [])
    ] in
    record {
      no_line = λ other s e. omega (
        arith,
        most (values_of other) (said_has other s),
        text_agrees x
            other s e,
      );
      within = omega arith;
      some = v;
      said = r.has;
      reached = omega (arith, ap (λ (ps : List Part). agreed ps x) (append-nil (line.parts v)));
      last = λ other has. omega (
        arith,
        ap (λ (ps : List Part). agreed ps x)
            (append-nil (line.parts other)),
        most other has,
      );
    }

abbrev pub IsWhy : List ℕ → CertRefusal → Type 0
IsWhy x e = (place : ℕ) → e ≡ BadLine place → IsBadAt x place

pub same_place : {p q : ℕ} → BadLine p ≡ BadLine q → p ≡ q
same_place e = cc

pub why : (x : List ℕ) (e : CertRefusal) → Refuses line x 0 e → IsWhy x e
why x (BadLine p) r place is = subst (λ (q : ℕ). IsBadAt x q) (same_place is) (bad_at r)
why x Memory r place is = absurd cc

-- the parts of a line

abbrev Rest5 : Type 0
Rest5 = Sums × List (Budget × Numbers)

abbrev Rest4 : Type 0
Rest4 = Fields × Rest5

abbrev Rest3 : Type 0
Rest3 = (ℕ × ℕ) × Rest4

abbrev r5 : Profile → Form Rest5
r5 p = both sums (λ totals. steps p 0)

abbrev r4 : Profile → Form Rest4
r4 p = both (budgets p) (λ fields. r5 p)

abbrev r3 : Profile → Form Rest3
r3 p = both (size p) (λ pixels. r4 p)

abbrev r2 : Form (Profile × Rest3)
r2 = both profile r3

abbrev r1 : Form Values
r1 = both name (λ bytes. r2)

r6_some : (p : Profile) → HasSome (steps p 0)
r6_some p = ([], tt)

r5_some : (p : Profile) → HasSome (r5 p)
r5_some p = both_some sums (λ totals. steps p 0) sums_some (λ totals. r6_some p)

r4_some : (p : Profile) → HasSome (r4 p)
r4_some p = both_some (budgets p) (λ fields. r5 p) (budgets_some p) (λ fields. r5_some p)

r3_some : (p : Profile) → HasSome (r3 p)
r3_some p = both_some (size p) (λ pixels. r4 p) (size_some p) (λ pixels. r4_some p)

r2_some : HasSome r2
r2_some = both_some profile r3 (TwoK, tt) r3_some

name_some : HasSome name
name_some = (97 ∷ [], (utf8_ends (97 ∷ []) (between_ends 97 (omega arith)), λ e. cc))

r1_some : HasSome r1
r1_some = both_some name (λ bytes. r2) name_some (λ bytes. r2_some)

pub line_reads : {x : List ℕ} {a b c d e f g : ℕ} {n : List ℕ} {p : Profile} {wh : ℕ × ℕ}
    {fs : Fields} {ts : Sums} {ss : List (Budget × Numbers)}
    → Reads (exactly (codes "ok ")) x 0 tt a → Reads name x a n b → Reads profile x b p c
    → Reads (size p) x c wh d → Reads (budgets p) x d fs e
    → Reads sums x e ts f → Reads (steps p 0) x f ss g → Reads line x 0
    (n, (p, (wh, (fs, (ts, ss))))) g
line_reads {p = p} k0 k1 k2 k3 k4 k5 k6 = after_reads (codes "ok ") r1 k0
    (both_reads name (λ bytes. r2) k1 (both_reads profile r3 k2
    (both_reads (size p) (λ pixels. r4 p) k3 (both_reads (budgets p) (λ fields. r5 p) k4
    (both_reads sums (λ totals. steps p 0) k5 k6)))))

pub line_refuses_ok : (x : List ℕ) (r : CertRefusal) → Refuses (exactly (codes "ok ")) x 0 r
    → IsWhy x r
line_refuses_ok x r s = why x r (word_refuses (codes "ok ") r1 x 0 r r1_some s)

pub line_refuses_name : {x : List ℕ} {a : ℕ} (r : CertRefusal) → Reads (exactly (codes "ok ")) x 0
    tt a → Refuses name x a r → IsWhy x r
line_refuses_name {x} {a} r k0 s = why x r (after_refuses (codes "ok ") r1 r k0
    (first_refuses name (λ bytes. r2) x a r (λ bytes. r2_some) s))

pub line_refuses_profile : {x : List ℕ} {a b : ℕ} {n : List ℕ} (r : CertRefusal)
    → Reads (exactly (codes "ok ")) x 0 tt a → Reads name x a n b
    → Refuses profile x b r → IsWhy x r
line_refuses_profile {x} {b = b} r k0 k1 s = why x r (after_refuses (codes "ok ") r1 r k0
    (both_refuses name (λ bytes. r2) r k1
    (first_refuses profile r3 x b r r3_some s)))

pub line_refuses_size : {x : List ℕ} {a b c : ℕ} {n : List ℕ} {p : Profile} (r : CertRefusal)
    → Reads (exactly (codes "ok ")) x 0 tt a → Reads name x a n b
    → Reads profile x b p c → Refuses (size p) x c r → IsWhy x r
line_refuses_size {x} {c = c} {p = p} r k0 k1 k2 s = why x r (after_refuses (codes "ok ") r1 r k0
    (both_refuses name (λ bytes. r2) r k1
    (both_refuses profile r3 r k2 (first_refuses (size p) (λ pixels. r4 p) x c r
    (λ pixels. r4_some p) s))))

pub line_refuses_budgets : {x : List ℕ} {a b c d : ℕ} {n : List ℕ} {p : Profile} {wh : ℕ × ℕ}
    (r : CertRefusal) → Reads (exactly (codes "ok ")) x 0 tt a
    → Reads name x a n b → Reads profile x b p c → Reads (size p) x c wh d → Refuses (budgets p) x d
    r → IsWhy x r
line_refuses_budgets {x} {d = d} {p = p} r k0 k1 k2 k3 s
    = why x r (after_refuses (codes "ok ") r1 r k0 (both_refuses name (λ bytes. r2) r k1
    (both_refuses profile r3 r k2 (both_refuses (size p) (λ pixels. r4 p) r k3
    (first_refuses (budgets p) (λ fields. r5 p) x d r (λ fields. r5_some p) s)))))

pub line_refuses_sums : {x : List ℕ} {a b c d e : ℕ} {n : List ℕ} {p : Profile} {wh : ℕ × ℕ}
    {fs : Fields} (r : CertRefusal) → Reads (exactly (codes "ok ")) x 0 tt a
    → Reads name x a n b → Reads profile x b p c → Reads (size p) x c wh d → Reads (budgets p) x d
    fs e → Refuses sums x e r → IsWhy x r
line_refuses_sums {x} {e = e} {p = p} r k0 k1 k2 k3 k4 s
    = why x r (after_refuses (codes "ok ") r1 r k0 (both_refuses name (λ bytes. r2) r k1
    (both_refuses profile r3 r k2 (both_refuses (size p) (λ pixels. r4 p) r k3
    (both_refuses (budgets p) (λ fields. r5 p) r k4
    (first_refuses sums (λ totals. steps p 0) x e r (λ totals. r6_some p) s))))))

pub line_refuses_steps : {x : List ℕ} {a b c d e f : ℕ} {n : List ℕ} {p : Profile} {wh : ℕ × ℕ}
    {fs : Fields} {ts : Sums} (r : CertRefusal)
    → Reads (exactly (codes "ok ")) x 0 tt a → Reads name x a n b → Reads profile x b p c
    → Reads (size p) x c wh d → Reads (budgets p) x d fs e
    → Reads sums x e ts f → Refuses (steps p 0) x f r → IsWhy x r
line_refuses_steps {x} {p = p} r k0 k1 k2 k3 k4 k5 s = why x r (after_refuses (codes "ok ") r1 r k0
    (both_refuses name (λ bytes. r2) r k1
    (both_refuses profile r3 r k2 (both_refuses (size p) (λ pixels. r4 p) r k3
    (both_refuses (budgets p) (λ fields. r5 p) r k4
    (both_refuses sums (λ totals. steps p 0) r k5 s))))))

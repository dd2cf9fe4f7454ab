-- Steps of a certificate line, read one after the other.
use Rattle.std.proofs.Common.{ℕ, ◌≡◌, ◌≢◌, ◌+◌, ◌-◌, ◌<◌, ◌≤◌, ◌^◌, ◌++◌, ◌⊎◌, List, [], ◌∷◌}
use Rattle.std.proofs.Common.{length, drop, get_or}
use Rattle.std.proofs.Common.{refl, ap, ap₂, sym, subst, ◌∙◌, arith, decimal, inl, inr, codes, true}
use Rattle.std.proofs.Common.{append_assoc, map}
use Rattle.std.specs.List.{flat_map}
use Rattle.std.proofs.lemmas.List.{append-nil}
use Rattle.std.proofs.lemmas.Bool.{cases_eq, cases_lt}
use Rattle.cine_nums.specs.Limits.{has_inner}
use Rattle.cine_nums.specs.declared.profile.Profile.{Profile}
use Rattle.cine_nums.specs.declared.budget.Budget.{Budget}
use Rattle.cine_nums.specs.declared.budget.Budget.TheVariants.{Frame, Inner, C0, C1, C2}
use Rattle.budget_duals.specs.Held.{place_of}
use Rattle.budget_duals.specs.declared.certificate.RefusedStep.{RefusedStep}
use Rattle.cert_text.specs.Words.{budget_word}
use Rattle.cert_text.specs.Stands.{Stands, digits_before}
use Rattle.cert_text.specs.Forms.{Part, Byte, Number, word, agreed, Form, exactly, number, after}
use Rattle.cert_text.specs.Forms.{labelled, both, Reads, Stops, Refuses}
use Rattle.cert_text.specs.LineForms.{step_budget, other_count, counts, Numbers, numbers, step}
use Rattle.cert_text.specs.LineForms.{AreStepsFrom, steps, step_values, MissesAt, Misses}
use Rattle.cert_text.specs.declared.cert_refusal.CertRefusal.{CertRefusal}
use Rattle.cert_text.specs.declared.cert_refusal.CertRefusal.TheVariants.{BadLine, Memory}
use Rattle.cert_text.proofs.Agreed.{agreed_no_number, agreed_none, stands_length}
use Rattle.cert_text.proofs.Forms.{HasSome, labelled_some, both_some, word_goes}
use Rattle.cert_text.proofs.Forms.{number_reads, after_reads, after_refuses, word_refuses}
use Rattle.cert_text.proofs.Forms.{both_reads, both_refuses, first_refuses}

-- the budget of a step

place_same : (a b : Budget) → place_of a ≡ place_of b → a ≡ b
place_same Frame Frame e = refl
place_same Frame Inner e = absurd (omega arith)
place_same Frame C0 e = absurd (omega arith)
place_same Frame C1 e = absurd (omega arith)
place_same Frame C2 e = absurd (omega arith)
place_same Inner Frame e = absurd (omega arith)
place_same Inner Inner e = refl
place_same Inner C0 e = absurd (omega arith)
place_same Inner C1 e = absurd (omega arith)
place_same Inner C2 e = absurd (omega arith)
place_same C0 Frame e = absurd (omega arith)
place_same C0 Inner e = absurd (omega arith)
place_same C0 C0 e = refl
place_same C0 C1 e = absurd (omega arith)
place_same C0 C2 e = absurd (omega arith)
place_same C1 Frame e = absurd (omega arith)
place_same C1 Inner e = absurd (omega arith)
place_same C1 C0 e = absurd (omega arith)
place_same C1 C1 e = refl
place_same C1 C2 e = absurd (omega arith)
place_same C2 Frame e = absurd (omega arith)
place_same C2 Inner e = absurd (omega arith)
place_same C2 C0 e = absurd (omega arith)
place_same C2 C1 e = absurd (omega arith)
place_same C2 C2 e = refl

pub place_small : (b : Budget) → place_of b ≤ 4
place_small Frame = omega arith
place_small Inner = omega arith
place_small C0 = omega arith
place_small C1 = omega arith
place_small C2 = omega arith

-- of two budgets' words at most one byte is the same
words_part : (b o : Budget) (more : List Part) (rest : List ℕ)
    → (b ≡ o) ⊎ (agreed (word (budget_word o) ++ more) (budget_word b ++ rest) ≤ 1)
words_part Frame Frame more rest = inl refl
words_part Frame Inner more rest = inr (omega arith)
words_part Frame C0 more rest = inr (omega arith)
words_part Frame C1 more rest = inr (omega arith)
words_part Frame C2 more rest = inr (omega arith)
words_part Inner Frame more rest = inr (omega arith)
words_part Inner Inner more rest = inl refl
words_part Inner C0 more rest = inr (omega arith)
words_part Inner C1 more rest = inr (omega arith)
words_part Inner C2 more rest = inr (omega arith)
words_part C0 Frame more rest = inr (omega arith)
words_part C0 Inner more rest = inr (omega arith)
words_part C0 C0 more rest = inl refl
words_part C0 C1 more rest = inr (omega arith)
words_part C0 C2 more rest = inr (omega arith)
words_part C1 Frame more rest = inr (omega arith)
words_part C1 Inner more rest = inr (omega arith)
words_part C1 C0 more rest = inr (omega arith)
words_part C1 C1 more rest = inl refl
words_part C1 C2 more rest = inr (omega arith)
words_part C2 Frame more rest = inr (omega arith)
words_part C2 Inner more rest = inr (omega arith)
words_part C2 C0 more rest = inr (omega arith)
words_part C2 C1 more rest = inr (omega arith)
words_part C2 C2 more rest = inl refl

word_long : (b : Budget) → 2 ≤ length (budget_word b)
word_long Frame = omega arith
word_long Inner = omega arith
word_long C0 = omega arith
word_long C1 = omega arith
word_long C2 = omega arith

pub step_budget_reads : (p : Profile) (least : ℕ) (x : List ℕ) (at end : ℕ) (b : Budget)
    → at ≤ length x → Stands x at (budget_word b) end
    → least ≤ place_of b → (b ≡ Inner → has_inner p ≡ true) → Reads (step_budget p least) x at b end
step_budget_reads p least x at end b h s lo allowed =
    let long : end ≡ at + length (budget_word b) = stands_length x (budget_word b) at end h s in
    let two : 2 ≤ length (budget_word b) = word_long b in
    record {
      forward = omega arith;
      within = s.within;
      has = (lo, allowed);
      goes = λ more. word_goes x (budget_word b) at end more h s;
      others = λ other has. others other;
    }
  where
    differs : (other : Budget) → ¬ (b ≡ other) → (more : List Part)
        → agreed (word (budget_word other) ++ more) (drop at x) ≤ 1
    differs other d more = elim (words_part b other more (drop end x)) [
      | inl same ↦ absurd (d same)
      | inr less ↦ subst (λ (y : List ℕ). agreed (word (budget_word other) ++ more) y ≤ 1)
          (sym s.same) less
    ]

    others : (other : Budget) → (b ≡ other) ⊎ ((more : List Part) → at + agreed
        (word (budget_word other) ++ more) (drop at x) ≤ end)
    others other =
        let long : end ≡ at + length (budget_word b) = stands_length x (budget_word b) at end h s in
        let two : 2 ≤ length (budget_word b) = word_long b in
        elim (cases_eq (place_of b) (place_of other)) [
          | inl same ↦ inl (place_same b other same)
          | inr d ↦ inr (λ more. omega (arith, differs other (λ e. d (ap place_of e)) more))
        ]

-- the budgets before a place were tried
pub record Tried (p : Profile) (least : ℕ) (x : List ℕ) (at place furthest : ℕ) : Type 0 where
  pub forward : at ≤ furthest
  pub within : furthest ≤ length x
  pub none : (b : Budget) → place_of b < place → (step_budget p least).Has b
      → (more : List Part) → at + agreed (word (budget_word b) ++ more) (drop at x) ≤ furthest
  pub some : (furthest ≡ at) ⊎ ((b : Budget) × ((step_budget p least).Has b
      × ((more : List Part) → furthest ≤ at + agreed (word (budget_word b) ++ more) (drop at x))))

pub tried_more : (p : Profile) (least : ℕ) (x : List ℕ) (at i f g q : ℕ) (b : Budget)
    → Tried p least x at i f → place_of b ≡ i → least ≤ i
    → MissesAt p b x at q → f ≤ g → q ≤ g → (g ≡ f) ⊎ (g ≡ q) → Tried p least x at (i + 1) g
tried_more p least x at i f g q b t here lo m hf hq hg =
    let forward : at ≤ f = t.forward in
    let within : f ≤ length x = t.within in
    let far : q ≤ length x = m.within in
    record {
      forward = omega arith;
      within = elim hg [ inl e ↦ omega arith | inr e ↦ omega arith ];
      none = λ other less has more. elim (cases_lt (place_of other) i) [
        | inl before ↦ omega (arith, t.none other before has more)
        | inr past ↦
            let same : b ≡ other = place_same b other (omega arith) in
            subst (λ (u : Budget). at + agreed (word (budget_word u) ++ more) (drop at x) ≤ g) same
            (omega (arith, m.none (λ e. has.1 (sym same ∙ e)) more))
      ];
      some = elim hg [
        | inl e ↦ subst (λ (k : ℕ). (k ≡ at) ⊎ ((u : Budget) × ((step_budget p least).Has u
            × ((more : List Part) → k ≤ at + agreed (word (budget_word u) ++ more) (drop at x)))))
            (sym e) t.some
        | inr e ↦ elim m.some [
          | inl start ↦ inl (e ∙ start)
          | inr found ↦ inr (b, ((omega arith, found.0), λ more. omega (arith, found.1 more)))
        ]
      ];
    }

pub step_budget_some : (p : Profile) (least : ℕ) → least ≤ 4 → HasSome (step_budget p least)
step_budget_some p least lo = (C2, (lo, λ e. cc))

-- one budget

pub misses : (p : Profile) (b : Budget) (x : List ℕ) (at : ℕ) (e : CertRefusal)
    → (b ≡ Inner → has_inner p ≡ true)
    → Refuses (exactly (budget_word b)) x at e → Misses p b x at e
misses p b x at (BadLine q) allowed r = record {
  forward = r.forward;
  within = r.within;
  none = λ a more. r.none tt tt more;
  some = inr (allowed, r.reached);
}
misses p b x at Memory allowed r = tt

-- numbers of passes

other_some : (from : ℕ) → HasSome (other_count from)
other_some from = elim (cases_eq from 0) [
  | inl zero ↦ (1, (omega arith, λ e. omega arith))
  | inr other ↦ (0, (omega arith, other))
]

pub other_reads : (x : List ℕ) (at end from to : ℕ) → at ≤ length x → Stands x at (decimal to) end
    → digits_before (drop at x) ≡ decimal to → to ≤ 255 → from ≢ to → Reads (other_count from) x at
    to end
other_reads x at end from to h s run hi differ =
    let r : Reads (number 0 255) x at to end = number_reads x at end 0 255 to h (omega arith) s run
    (omega arith) hi in
    record {
      forward = r.forward;
      within = r.within;
      has = (hi, differ);
      goes = r.goes;
      others = λ other has. r.others other (omega arith, has.0);
    }

pub other_stops : (x : List ℕ) (at from : ℕ) → at ≤ length x
    → ((n : ℕ) → n ≤ 255 → from ≢ n → digits_before (drop at x) ≢ decimal n)
    → Stops (other_count from) x at at
other_stops x at from h none = record {
  forward = omega arith;
  within = h;
  some = (other_some from).0;
  has = (other_some from).1;
  reached = λ more. omega arith;
  none = λ n has more.
      let zero : agreed (Number n ∷ more) (drop at x) ≡ 0 = agreed_no_number n more (drop at x)
      (none n has.0 has.1) in
      omega arith;
}

abbrev passes_before : Form ℕ
passes_before = labelled (codes ":") 0 255

abbrev passes_after : ℕ → Form ℕ
passes_after from = after (codes ":") (other_count from)

pub counts_some : HasSome counts
counts_some = both_some passes_before passes_after (labelled_some (codes ":") 0 255 (omega arith))
    (λ from. other_some from)

pub counts_read : {x : List ℕ} {a b c d from to : ℕ} → Reads passes_before x a from b
    → Reads (exactly (codes ":")) x b tt c
    → Reads (other_count from) x c to d → Reads counts x a (from, to) d
counts_read {from = from} r1 r2 r3 = both_reads passes_before passes_after r1
    (after_reads (codes ":") (other_count from) r2 r3)

pub counts_refuse_before : (x : List ℕ) (a : ℕ) (e : CertRefusal) → Refuses passes_before x a e
    → Refuses counts x a e
counts_refuse_before x a e r = first_refuses passes_before passes_after x a e
    (λ from. other_some from) r

pub counts_refuse_colon : {x : List ℕ} {a b from : ℕ} (e : CertRefusal) → Reads passes_before x a
    from b
    → Refuses (exactly (codes ":")) x b e → Refuses counts x a e
counts_refuse_colon {x} {b = b} {from = from} e r1 r = both_refuses passes_before passes_after e r1
    (word_refuses (codes ":") (other_count from) x b e (other_some from) r)

pub counts_refuse_after : {x : List ℕ} {a b c from : ℕ} (e : CertRefusal) → Reads passes_before x a
    from b
    → Reads (exactly (codes ":")) x b tt c → Refuses (other_count from) x c e → Refuses counts x a e
counts_refuse_after {from = from} e r1 r2 r = both_refuses passes_before passes_after e r1
    (after_refuses (codes ":") (other_count from) e r2 r)

-- the numbers of a step

abbrev small : Form ℕ
small = labelled (codes ":") 0 (2 ^ 32 - 1)

abbrev len : Form ℕ
len = labelled (codes ":") 1 131072

abbrev gain : Form ℕ
gain = labelled (codes ":") 1 (2 ^ 64 - 1)

abbrev price : Form ℕ
price = labelled (codes ":") 0 (2 ^ 128 - 1)

abbrev tail2 : Form (ℕ × ℕ)
tail2 = both gain (λ g. price)

abbrev tail3 : Form (ℕ × (ℕ × ℕ))
tail3 = both small (λ g. tail2)

abbrev tail4 : Form (ℕ × (ℕ × (ℕ × ℕ)))
tail4 = both len (λ l. tail3)

abbrev tail5 : Form ((ℕ × ℕ) × (ℕ × (ℕ × (ℕ × ℕ))))
tail5 = both counts (λ c. tail4)

small_some : HasSome small
small_some = labelled_some (codes ":") 0 (2 ^ 32 - 1) (omega arith)

price_some : HasSome price
price_some = labelled_some (codes ":") 0 (2 ^ 128 - 1) (omega arith)

tail2_some : HasSome tail2
tail2_some = both_some gain (λ g. price) (labelled_some (codes ":") 1 (2 ^ 64 - 1) (omega arith))
    (λ g. price_some)

tail3_some : HasSome tail3
tail3_some = both_some small (λ g. tail2) small_some (λ g. tail2_some)

tail4_some : HasSome tail4
tail4_some = both_some len (λ l. tail3) (labelled_some (codes ":") 1 131072 (omega arith))
    (λ l. tail3_some)

tail5_some : HasSome tail5
tail5_some = both_some counts (λ c. tail4) counts_some (λ c. tail4_some)

pub numbers_some : HasSome numbers
numbers_some = both_some small (λ b. tail5) small_some (λ b. tail5_some)

pub numbers_read : {x : List ℕ} {a b c d e f g block l grow gn pr : ℕ} {passes : ℕ × ℕ}
    → Reads small x a block b → Reads counts x b passes c → Reads len x c l d → Reads small x d grow
    e → Reads gain x e gn f
    → Reads price x f pr g → Reads numbers x a (block, (passes, (l, (grow, (gn, pr))))) g
numbers_read r0 r1 r2 r3 r4 r5 = both_reads small (λ b. tail5) r0 (both_reads counts (λ c. tail4) r1
    (both_reads len (λ l. tail3) r2
    (both_reads small (λ g. tail2) r3 (both_reads gain (λ g. price) r4 r5))))

pub numbers_refuse_block : (x : List ℕ) (a : ℕ) (r : CertRefusal) → Refuses small x a r
    → Refuses numbers x a r
numbers_refuse_block x a r s = first_refuses small (λ b. tail5) x a r (λ b. tail5_some) s

pub numbers_refuse_counts : {x : List ℕ} {a b block : ℕ} (r : CertRefusal) → Reads small x a block b
    → Refuses counts x b r → Refuses numbers x a r
numbers_refuse_counts {x} {b = b} r r0 s = both_refuses small (λ b. tail5) r r0
    (first_refuses counts (λ c. tail4) x b r (λ c. tail4_some) s)

pub numbers_refuse_len : {x : List ℕ} {a b c block : ℕ} {passes : ℕ × ℕ} (r : CertRefusal)
    → Reads small x a block b → Reads counts x b passes c
    → Refuses len x c r → Refuses numbers x a r
numbers_refuse_len {x} {c = c} r r0 r1 s = both_refuses small (λ b. tail5) r r0
    (both_refuses counts (λ c. tail4) r r1
    (first_refuses len (λ l. tail3) x c r (λ l. tail3_some) s))

pub numbers_refuse_grow : {x : List ℕ} {a b c d block l : ℕ} {passes : ℕ × ℕ} (r : CertRefusal)
    → Reads small x a block b → Reads counts x b passes c
    → Reads len x c l d → Refuses small x d r → Refuses numbers x a r
numbers_refuse_grow {x} {d = d} r r0 r1 r2 s = both_refuses small (λ b. tail5) r r0
    (both_refuses counts (λ c. tail4) r r1
    (both_refuses len (λ l. tail3) r r2 (first_refuses small (λ g. tail2) x d r (λ g. tail2_some)
    s)))

pub numbers_refuse_gain : {x : List ℕ} {a b c d e block l grow : ℕ} {passes : ℕ × ℕ}
    (r : CertRefusal) → Reads small x a block b → Reads counts x b passes c
    → Reads len x c l d → Reads small x d grow e → Refuses gain x e r → Refuses numbers x a r
numbers_refuse_gain {x} {e = e} r r0 r1 r2 r3 s = both_refuses small (λ b. tail5) r r0
    (both_refuses counts (λ c. tail4) r r1
    (both_refuses len (λ l. tail3) r r2 (both_refuses small (λ g. tail2) r r3
    (first_refuses gain (λ g. price) x e r (λ g. price_some) s))))

pub numbers_refuse_price : {x : List ℕ} {a b c d e f block l grow gn : ℕ} {passes : ℕ × ℕ}
    (r : CertRefusal) → Reads small x a block b → Reads counts x b passes c
    → Reads len x c l d → Reads small x d grow e → Reads gain x e gn f → Refuses price x f r
    → Refuses numbers x a r
numbers_refuse_price r r0 r1 r2 r3 r4 s = both_refuses small (λ b. tail5) r r0
    (both_refuses counts (λ c. tail4) r r1
    (both_refuses len (λ l. tail3) r r2 (both_refuses small (λ g. tail2) r r3
    (both_refuses gain (λ g. price) r r4 s))))

-- a step

abbrev what : Profile → ℕ → Form (Budget × Numbers)
what p least = both (step_budget p least) (λ b. numbers)

what_some : (p : Profile) (least : ℕ) → least ≤ 4 → HasSome (what p least)
what_some p least lo = both_some (step_budget p least) (λ b. numbers) (step_budget_some p least lo)
    (λ b. numbers_some)

pub step_reads : (p : Profile) (least : ℕ) {x : List ℕ} {a b c d : ℕ} {budget : Budget}
    {values : Numbers} → Reads (exactly (codes " step=")) x a tt b
    → Reads (step_budget p least) x b budget c → Reads numbers x c values d → Reads (step p least) x
    a (budget, values) d
step_reads p least r0 r1 r2 = after_reads (codes " step=") (what p least) r0
    (both_reads (step_budget p least) (λ b. numbers) r1 r2)

pub step_refuses_word : (p : Profile) (least : ℕ) (x : List ℕ) (a : ℕ) (r : CertRefusal) → least ≤ 4
    → Refuses (exactly (codes " step=")) x a r
    → Refuses (step p least) x a r
step_refuses_word p least x a r lo s = word_refuses (codes " step=") (what p least) x a r
    (what_some p least lo) s

pub step_refuses_budget : (p : Profile) (least : ℕ) {x : List ℕ} {a b : ℕ} (r : CertRefusal)
    → Reads (exactly (codes " step=")) x a tt b
    → Refuses (step_budget p least) x b r → Refuses (step p least) x a r
step_refuses_budget p least {x} {b = b} r r0 s = after_refuses (codes " step=") (what p least) r r0
    (first_refuses (step_budget p least) (λ b. numbers) x b r (λ b. numbers_some) s)

pub step_refuses_numbers : (p : Profile) (least : ℕ) {x : List ℕ} {a b c : ℕ} {budget : Budget}
    (r : CertRefusal) → Reads (exactly (codes " step=")) x a tt b
    → Reads (step_budget p least) x b budget c → Refuses numbers x c r → Refuses (step p least) x a
    r
step_refuses_numbers p least r r0 r1 s = after_refuses (codes " step=") (what p least) r r0
    (both_refuses (step_budget p least) (λ b. numbers) r r1 s)

-- steps

regroup : (p f n more : List Part) (bytes : List ℕ) → agreed (((p ++ f) ++ n) ++ more) bytes
    ≡ agreed (p ++ ((f ++ n) ++ more)) bytes
regroup p f n more bytes = ap (λ (parts : List Part). agreed parts bytes)
    (ap (λ (q : List Part). q ++ more) (append_assoc p f n) ∙ append_assoc p (f ++ n) more)

abbrev of : Profile → List (Budget × Numbers) → List Part
of p values = flat_map (step p 0).parts values

abbrev lf : List Part
lf = word (codes "\n")

no_lf : (x : List ℕ) (a : ℕ) (more : List Part) → (a < length x → get_or x a 0 ≢ 10)
    → agreed (Byte 10 ∷ more) (drop a x) ≡ 0
no_lf x a more other = agreed_none x a 10 more (λ past e. other past (sym e))

pub steps_more : (p : Profile) (least : ℕ) {x : List ℕ} {a m e : ℕ} {v : Budget × Numbers}
    {rest : List (Budget × Numbers)}
    → (a < length x → get_or x a 0 ≢ 10) → Reads (step p least) x a v m
    → Reads (steps p (place_of v.0 + 1)) x m rest e
    → Reads (steps p least) x a (v ∷ rest) e
steps_more p least {x} {a} {m} {e} {v} {rest} other r s =
    let r0 : a ≤ m = r.forward in
    let s0 : m ≤ e = s.forward in
    record {
      forward = omega arith;
      within = s.within;
      has = (r.has, s.has);
      goes = λ more. ap (λ (k : ℕ). a + k) (regroup ((step p least).parts v) (of p rest) lf more
          (drop a x))
          ∙ (r.goes ((of p rest ++ lf) ++ more) ∙ s.goes more);
      others = elim [
        | [] ↦ λ has. inr (λ more. omega (arith, no_lf x a more other))
        | o ∷ os ↦ λ has. elim (r.others o has.0) [
          | inl same ↦ elim (s.others os
              (subst (λ (u : Budget × Numbers). AreStepsFrom p (place_of u.0 + 1) os) (sym same)
              has.1)) [
                | inl too ↦ inl (ap₂ (λ (u : Budget × Numbers) (us : List (Budget × Numbers)). u
                    ∷ us)
                    same too)
                | inr less ↦ inr (subst (λ (u : Budget × Numbers). (more : List Part)
                    → a + agreed ((((step p least).parts u ++ of p os) ++ lf) ++ more) (drop a x) ≤
                    e)
                    same
                    (λ more. omega (
                      arith,
                      regroup ((step p least).parts v) (of p os) lf more
                          (drop a x),
                      r.goes ((of p os ++ lf) ++ more),
                      less more,
                    )))
              ]
          | inr less ↦ inr (λ more. omega (
            arith,
            regroup ((step p least).parts o) (of p os) lf more
                (drop a x),
            less ((of p os ++ lf) ++ more),
          ))
        ]
      ];
    }

pub steps_refuse_more : (p : Profile) (least : ℕ) {x : List ℕ} {a m : ℕ} {v : Budget × Numbers}
    (r : CertRefusal)
    → (a < length x → get_or x a 0 ≢ 10) → Reads (step p least) x a v m
    → Refuses (steps p (place_of v.0 + 1)) x m r
    → Refuses (steps p least) x a r
steps_refuse_more p least {x} {a} {m} {v} (BadLine q) other r s =
    let r0 : a ≤ m = r.forward in
    let s0 : m ≤ q = s.forward in
    record {
      forward = omega arith;
      within = s.within;
      some = v ∷ s.some;
      has = (r.has, s.has);
      reached = λ more. omega (
        arith,
        regroup ((step p least).parts v) (of p s.some) lf more
            (drop a x),
        r.goes ((of p s.some ++ lf) ++ more),
        s.reached more,
      );
      none = elim [
        | [] ↦ λ has more. omega (arith, no_lf x a more other)
        | o ∷ os ↦ λ has more. elim (r.others o has.0) [
          | inl same ↦ subst (λ (u : Budget × Numbers). a + agreed
              ((((step p least).parts u ++ of p os) ++ lf) ++ more) (drop a x) ≤ q) same
              (omega (
                arith,
                regroup ((step p least).parts v) (of p os) lf more (drop a x),
                r.goes
                    ((of p os ++ lf) ++ more),
                s.none os (subst (λ (u : Budget × Numbers). AreStepsFrom p (place_of u.0 + 1) os)
                    (sym same) has.1) more,
              ))
          | inr less ↦ omega (
            arith,
            regroup ((step p least).parts o) (of p os) lf more (drop a x),
            less ((of p os ++ lf) ++ more),
          )
        ]
      ];
    }
steps_refuse_more p least Memory other r s = tt

pub steps_refuse_step : (p : Profile) (least : ℕ) (x : List ℕ) (a : ℕ) (r : CertRefusal)
    → (a < length x → get_or x a 0 ≢ 10) → Refuses (step p least) x a r → Refuses (steps p least) x
    a r
steps_refuse_step p least x a (BadLine q) other s =
    let s0 : a ≤ q = s.forward in
    record {
      forward = s.forward;
      within = s.within;
      some = s.some ∷ [];
      has = (s.has, tt);
      reached = λ more. omega (
        arith,
        regroup ((step p least).parts s.some) [] lf more (drop a x),
        s.reached (lf ++ more),
      );
      none = elim [
        | [] ↦ λ has more. omega (arith, no_lf x a more other)
        | o ∷ os ↦ λ has more. omega (
          arith,
          regroup ((step p least).parts o) (of p os) lf more
              (drop a x),
          s.none o has.0 ((of p os ++ lf) ++ more),
        )
      ];
    }
steps_refuse_step p least x a Memory other s = tt

pub steps_none : (p : Profile) (least : ℕ) (x : List ℕ) (a e : ℕ) → a ≤ length x
    → Stands x a (codes "\n") e → Reads (steps p least) x a [] e
steps_none p least x a e h s =
    let long : e ≡ a + length (codes "\n") = stands_length x (codes "\n") a e h s in
    record {
      forward = omega arith;
      within = s.within;
      has = tt;
      goes = λ more. word_goes x (codes "\n") a e more h s;
      others = elim [
        | [] ↦ λ has. inl refl
        | o ∷ os ↦ λ has. inr (λ more.
            let none : agreed ((((step p least).parts o ++ of p os) ++ lf) ++ more) (drop a x) ≡ 0
            = ap (agreed ((((step p least).parts o ++ of p os) ++ lf) ++ more)) s.same in
            omega arith)
      ];
    }

pub steps_refuse_end : (p : Profile) (least : ℕ) (x : List ℕ) (a : ℕ) (r : CertRefusal) → 5 ≤ least
    → Refuses (exactly (codes "\n")) x a r → Refuses (steps p least) x a r
steps_refuse_end p least x a (BadLine q) all s = record {
  forward = s.forward;
  within = s.within;
  some = [];
  has = tt;
  reached = s.reached;
  none = elim [
    | [] ↦ λ has more. s.none tt tt more
    | o ∷ os ↦ λ has more. absurd (omega (arith, has.0.0.0, place_small o.0))
  ];
}
steps_refuse_end p least x a Memory all s = tt

-- the steps so far, and one more

map_push : (done : List RefusedStep) (s : RefusedStep) (rest : List (Budget × Numbers))
    → map step_values (done ++ (s ∷ [])) ++ rest ≡ map step_values done ++ (step_values s ∷ rest)
map_push [] s rest = refl
map_push (d ∷ done) s rest = ap (λ (values : List (Budget × Numbers)). step_values d ∷ values)
    (map_push done s rest)

pub steps_begun : (p : Profile) (done : List RefusedStep) {x : List ℕ} {a : ℕ} → done ≡ []
    → (rest : List (Budget × Numbers)) (e : ℕ) → Reads (steps p 0) x a rest e → Reads (steps p 0) x
    a (map step_values done ++ rest) e
steps_begun p done {x} {a} none rest e r =
    subst (λ (all : List RefusedStep). Reads (steps p 0) x a (map step_values all ++ rest) e)
    (sym none) r

pub steps_pushed : (p : Profile) (least next : ℕ) (done more : List RefusedStep) (s : RefusedStep)
    {x : List ℕ} {start a m : ℕ}
    → more ≡ done ++ (s ∷ []) → next ≡ place_of s.budget + 1 → (a < length x → get_or x a 0 ≢ 10)
    → Reads (step p least) x a (step_values s) m
    → ((rest : List (Budget × Numbers)) (e : ℕ) → Reads (steps p least) x a rest e
    → Reads (steps p 0) x start (map step_values done ++ rest) e)
    → (rest : List (Budget × Numbers)) (e : ℕ) → Reads (steps p next) x m rest e → Reads (steps p 0)
    x start (map step_values more ++ rest) e
steps_pushed p least next done more s {x} {start} {a} {m} pushed place other r before rest e later =
    let here : Reads (steps p 0) x start (map step_values done ++ (step_values s ∷ rest)) e
    = before (step_values s ∷ rest) e
    (steps_more p least other r (subst (λ (k : ℕ). Reads (steps p k) x m rest e) place later)) in
    subst (λ (values : List (Budget × Numbers)). Reads (steps p 0) x start values e)
    (sym (ap (λ (all : List RefusedStep). map step_values all ++ rest) pushed ∙ map_push done s
    rest)) here

pub steps_refuse_pushed : (p : Profile) (least next : ℕ) (s : RefusedStep) {x : List ℕ} {a m : ℕ}
    (r : CertRefusal)
    → next ≡ place_of s.budget + 1 → (a < length x → get_or x a 0 ≢ 10) → Reads (step p least) x a
    (step_values s) m
    → Refuses (steps p next) x m r → Refuses (steps p least) x a r
steps_refuse_pushed p least next s {x} {a} {m} r place other read later =
    steps_refuse_more p least r other read (subst (λ (k : ℕ). Refuses (steps p k) x m r) place
    later)

pub steps_ended : (p : Profile) (done : List RefusedStep) {x : List ℕ} {a e : ℕ}
    → Reads (steps p 0) x a (map step_values done ++ []) e → Reads (steps p 0) x a
    (map step_values done) e
steps_ended p done {x} {a} {e} r =
    subst (λ (values : List (Budget × Numbers)). Reads (steps p 0) x a values e)
    (append-nil (map step_values done)) r

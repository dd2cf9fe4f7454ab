-- One entry leaves the heap, and another may take its place.
use Rattle.std.proofs.Common.{ℕ, ◌≡◌, ◌≢◌, ◌+◌, ◌*◌, ◌<◌, ◌≤◌, ◌⊎◌, inl, inr, true, false, List, [], ◌∷◌}
use Rattle.std.proofs.Common.{◌++◌, None, arith, refl, sym, ap, subst, ◌∙◌}
use Rattle.std.proofs.ByRecursion.{all_shuffled}
use Rattle.std.proofs.lemmas.Bool.{cases_eq}
use Rattle.std.proofs.lemmas.Bool.Decides.{nat_tests}
use Rattle.std.proofs.lemmas.Cmp.{ranked}
use Rattle.std.proofs.lemmas.List.Sums.{sum_by-cons}
use Rattle.std.proofs.lemmas.List.Sorted.{sum_by-IsPermutation, sum_by_pushed, sum_by_popped}
use Rattle.std.specs.BinaryHeap.{IsUpperBound}
use Rattle.std.specs.List.{AllByRecursion}
use Rattle.std.specs.List.Sorted.{IsPermutation}
use Rattle.std.specs.Ordering.{nat_cmp, bool_cmp, is_lt, ordering_then, MatchOrdering}
use Rattle.std.specs.declared.cmp.Ordering.{Ordering}
use Rattle.std.specs.declared.cmp.Ordering.TheVariants.{Less, Equal, Greater}
use Rattle.rd_hulls.specs.declared.step.Step.{Step as HullStep}
use Rattle.rd_hulls.specs.Steps.{FallFrom, IsFalling}
use Rattle.allocation_bound.specs.Steps.{IsAsSteep, IsHead}
use Rattle.allocation_bound.specs.Settled.{Budgets, Outcome, nearest}
use Rattle.allocation_bound.proofs.Products.{steep_by, steep_self, steep_through}
use Rattle.allocation_bound.proofs.Lists.{all_weaker, at_head}
use Rattle.budget_duals.specs.declared.entry.Entry.{Entry}
use Rattle.budget_duals.specs.declared.offer.Offer.{Offer}
use Rattle.budget_duals.specs.declared.offer.Offer.TheVariants.{Nothing, Step, AtMost}
use Rattle.budget_duals.specs.Entries.{gain_of, len_of, is_bound, entry_cmp}
use Rattle.budget_duals.specs.Offers.{IsOffer, IsNoSteeper}
use Rattle.budget_duals.specs.Queue.{is_at, count_at, IsEntry, IsQueue, Covers, Refilled}

at_own : (e : Entry) → is_at e.block e ≡ 1
at_own e = grind (arith, nat_tests)

at_other : (b : ℕ) (e : Entry) → ¬ (e.block ≡ b) → is_at b e ≡ 0
at_other b e ne = grind (arith, nat_tests)

at_most_one : (b : ℕ) (e : Entry) → is_at b e ≤ 1
at_most_one b e = grind (arith, nat_tests)

-- entries none of which is of block b, and how many are
none_at : (b : ℕ) (items : List Entry) → count_at b items ≡ 0
    → AllByRecursion (λ e. ¬ (e.block ≡ b)) items
none_at b [] e = tt
none_at b (x ∷ rest) e =
    let s = sum_by-cons (is_at b) x rest in
    let here : is_at b x ≡ 0 = omega arith in
    let later : count_at b rest ≡ 0 = omega arith in (
      λ same. (let one : is_at b x ≡ 1 = subst (λ k. is_at k x ≡ 1) same (at_own x) in omega arith),
      none_at b rest later,
    )

count_none : (b : ℕ) (items : List Entry) → AllByRecursion (λ e. ¬ (e.block ≡ b)) items
    → count_at b items ≡ 0
count_none b [] all = refl
count_none b (x ∷ rest) all =
    let s = sum_by-cons (is_at b) x rest in
    let here : is_at b x ≡ 0 = at_other b x all.0 in
    let later : count_at b rest ≡ 0 = count_none b rest all.1 in
    omega arith

both_all : (P Q : Entry → Type 0) (items : List Entry) → AllByRecursion P items
    → AllByRecursion Q items
    → AllByRecursion (λ e. P e × Q e) items
both_all P Q [] p q = tt
both_all P Q (x ∷ rest) p q = ((p.0, q.0), both_all P Q rest p.1 q.1)

-- where some entry is of block b, there is one
pub found_at : (P : Entry → Type 0) (b : ℕ) (items : List Entry) → 1 ≤ count_at b items
    → AllByRecursion P items
    → (e : Entry) × (e.block ≡ b) × P e
found_at P b [] some all = absurd (omega arith)
found_at P b (x ∷ rest) some all = elim (cases_eq x.block b) [
  | inl same ↦ (x, same, all.0)
  | inr ne ↦ (let s = sum_by-cons (is_at b) x rest in
      let here : is_at b x ≡ 0 = at_other b x ne in
      found_at P b rest (omega arith) all.1)
]

module _ (blocks : ℕ) (offered : ℕ → Offer) (items rest : List Entry) (x : Entry)
    (queue : IsQueue blocks offered items) (same : IsPermutation items (x ∷ rest)) where
  popped_all : AllByRecursion (IsEntry blocks offered) (x ∷ rest)
  popped_all = all_shuffled (IsEntry blocks offered) items (x ∷ rest) same queue.each

  pub popped_entry : IsEntry blocks offered x
  popped_entry = popped_all.0

  pub popped_count : (b : ℕ) → count_at b rest + is_at b x ≡ count_at b items
  popped_count b = sum_by_popped (is_at b) x items rest same

  pub popped_queue : IsQueue blocks offered rest
  popped_queue = record {
    each = popped_all.1;
    once = λ b. (let c = popped_count b in let o = queue.once b in omega arith);
  }

  pub popped_away : AllByRecursion (λ e. ¬ (e.block ≡ x.block)) rest
  popped_away =
      let c = popped_count x.block in
      let o = queue.once x.block in
      let one = at_own x in
      none_at x.block rest (omega arith)

-- what other blocks offer stays
entry_stays : (blocks : ℕ) (offered new : ℕ → Offer) (b : ℕ) → ((k : ℕ) → k ≢ b → new k ≡ offered k)
    → (items : List Entry) → AllByRecursion (λ e. ¬ (e.block ≡ b)) items
    → AllByRecursion (IsEntry blocks offered) items → AllByRecursion (IsEntry blocks new) items
entry_stays blocks offered new b others [] away all = tt
entry_stays blocks offered new b others (e ∷ rest) away all = (
  record {
    inside = all.0.inside;
    offer = all.0.offer ∙ sym (others e.block away.0);
    something = all.0.something;
  },
  entry_stays blocks offered new b others rest away.1 all.1,
)

pub queue_stays : (blocks : ℕ) (offered new : ℕ → Offer) (b : ℕ) (items : List Entry)
    → ((k : ℕ) → k ≢ b → new k ≡ offered k) → AllByRecursion (λ e. ¬ (e.block ≡ b)) items
    → IsQueue blocks offered items → IsQueue blocks new items
queue_stays blocks offered new b items others away queue = record {
  each = entry_stays blocks offered new b others items away queue.each;
  once = queue.once;
}

put_queue : (blocks : ℕ) (offered : ℕ → Offer) (e : Entry) (old new : List Entry)
    → IsEntry blocks offered e
    → AllByRecursion (λ (f : Entry). ¬ (f.block ≡ e.block)) old → IsQueue blocks offered old
    → IsPermutation (e ∷ old) new → IsQueue blocks offered new
put_queue blocks offered e old new is away queue same = record {
  each = all_shuffled (IsEntry blocks offered) (e ∷ old) new same (is, queue.each);
  once = λ b.
      let c : count_at b new ≡ is_at b e
      + count_at b old = sum_by_pushed (is_at b) e old new same in
      elim (cases_eq e.block b) [
        | inl own ↦ (let z : count_at b old ≡ 0 =
            count_none b old (subst (λ k. AllByRecursion (λ (f : Entry). ¬ (f.block ≡ k)) old) own
            away) in
            let m = at_most_one b e in
            omega arith)
        | inr ne ↦ (let z : is_at b e ≡ 0 = at_other b e ne in let o = queue.once b in omega arith)
      ];
}

-- an entry of a block that had none is put to the others
pub refilled_queue : (blocks : ℕ) (offered : ℕ → Offer) (b : ℕ) (o : Offer) (old new : List Entry)
    → o ≡ offered b
    → b < blocks → AllByRecursion (λ (e : Entry). ¬ (e.block ≡ b)) old → IsQueue blocks offered old
    → Refilled b o old new → IsQueue blocks offered new
refilled_queue blocks offered b Nothing old new is inside away queue same = record {
  each = all_shuffled (IsEntry blocks offered) old new same queue.each;
  once = λ k. (let c : count_at k new
      ≡ count_at k old = sum_by-IsPermutation (is_at k) old new same in
      let o = queue.once k in
      omega arith);
}
refilled_queue blocks offered b (Step s) old new is inside away queue same =
    put_queue blocks offered (record { block = b; offer = Step s }) old new
    (record { inside = inside; offer = is; something = tt }) away queue same
refilled_queue blocks offered b (AtMost bound) old new is inside away queue same =
    put_queue blocks offered (record { block = b; offer = AtMost bound }) old new
    (record { inside = inside; offer = is; something = tt }) away queue same

-- then it has one, unless it offers nothing
pub refilled_some : (b k : ℕ) (o : Offer) (old new : List Entry) → Refilled b o old new
    → count_at k old ≤ count_at k new
refilled_some b k Nothing old new same =
    (let c = sum_by-IsPermutation (is_at k) old new same in omega arith)
refilled_some b k (Step s) old new same =
    (let c = sum_by_pushed (is_at k) (record { block = b; offer = Step s }) old new same in omega
    arith)
refilled_some b k (AtMost bound) old new same =
    (let c = sum_by_pushed (is_at k) (record { block = b; offer = AtMost bound }) old new same in
    omega arith)

pub refilled_own : (b : ℕ) (o : Offer) (left : List HullStep) (old new : List Entry)
    → IsOffer left o
    → Refilled b o old new → (left ≡ []) ⊎ (1 ≤ count_at b new)
refilled_own b Nothing left old new is same = inl is
refilled_own b (Step s) left old new is same =
    let e : Entry = record { block = b; offer = Step s } in
    let c = sum_by_pushed (is_at b) e old new same in
    let one = at_own e in
    inr (omega arith)
refilled_own b (AtMost bound) left old new is same =
    let e : Entry = record { block = b; offer = AtMost bound } in
    let c = sum_by_pushed (is_at b) e old new same in
    let one = at_own e in
    inr (omega arith)

-- the block of the entry that left is looked at again
pub covers_on : (w : Budgets) (o n : Outcome) (offer : Offer) (items rest new : List Entry)
    (x : Entry)
    → Covers w o items → ((b : ℕ) → count_at b rest + is_at b x ≡ count_at b items)
    → ((b : ℕ) → nearest w n b ≡ None → nearest w o b ≡ None)
    → ((b : ℕ) → b ≢ x.block → n.left b ≡ o.left b)
    → IsOffer (n.left x.block) offer → Refilled x.block offer rest new → Covers w n new
covers_on w o n offer items rest new x covers counts opens lefts is same b inside is_open = elim
    (cases_eq b x.block) [
      | inl own ↦ subst (λ k. (n.left k ≡ []) ⊎ (1 ≤ count_at k new)) (sym own)
          (refilled_own x.block offer (n.left x.block) rest new is same)
      | inr ne ↦ elim (covers b inside (opens b is_open)) [
        | inl none ↦ inl (lefts b ne ∙ none)
        | inr some ↦ (let c = counts b in
            let z : is_at b x ≡ 0 = at_other b x (λ e. ne (sym e)) in
            let m = refilled_some x.block b offer rest new same in
            inr (omega arith))
      ]
    ]

-- or it is not open
pub covers_dropped : (w : Budgets) (o : Outcome) (items rest : List Entry) (x : Entry)
    → Covers w o items
    → ((b : ℕ) → count_at b rest + is_at b x ≡ count_at b items) → ¬ (nearest w o x.block ≡ None)
    → Covers w o rest
covers_dropped w o items rest x covers counts shut b inside is_open = elim (cases_eq b x.block) [
  | inl own ↦ absurd (shut (subst (λ k. nearest w o k ≡ None) own is_open))
  | inr ne ↦ elim (covers b inside is_open) [
    | inl none ↦ inl none
    | inr some ↦ (let c = counts b in
        let z : is_at b x ≡ 0 = at_other b x (λ e. ne (sym e)) in
        inr (omega arith))
  ]
]

-- the order of entries, and slopes
first_not_lt : (a b : Ordering) → is_lt (ordering_then a b) ≡ false → is_lt a ≡ false
first_not_lt Less b e = e
first_not_lt Equal b e = refl
first_not_lt Greater b e = e

not_less : (p q : ℕ) (o : Ordering) → MatchOrdering o (p < q) (p ≡ q) (q < p) → is_lt o ≡ false → q
    ≤ p
not_less p q Less m e = let bad : ⊥ = cc in absurd bad
not_less p q Equal m e = omega arith
not_less p q Greater m e = omega arith

pub as_steep : (x y : Entry) → is_lt (entry_cmp x y) ≡ false
    → gain_of y.offer * len_of x.offer ≤ gain_of x.offer * len_of y.offer
as_steep x y e =
    let p : ℕ = gain_of x.offer * len_of y.offer in
    let q : ℕ = gain_of y.offer * len_of x.offer in
    not_less p q (nat_cmp p q) (ranked p q (nat_cmp p q) refl)
    (first_not_lt (nat_cmp p q) _ (first_not_lt _ _ e))

-- steps that fall are no steeper than the first one
falls_below : (s : HullStep) (rest : List HullStep) → FallFrom s.gain s.len rest
    → AllByRecursion (IsAsSteep s) rest
falls_below s [] fall = tt
falls_below s (t ∷ rest) fall =
    let here : IsAsSteep s t = omega (arith, fall.0) in (
      here,
      all_weaker (IsAsSteep t) (IsAsSteep s) (λ u below. steep_through s t u here below) rest
          (falls_below t rest fall.1),
    )

falls_later : (g n : ℕ) (done left : List HullStep) → FallFrom g n (done ++ left) → IsFalling left
falls_later g n [] [] fall = tt
falls_later g n [] (t ∷ rest) fall = fall.1
falls_later g n (u ∷ done) left fall = falls_later u.gain u.len done left fall.1

pub falls_left : (done left : List HullStep) → IsFalling (done ++ left) → IsFalling left
falls_left [] left fall = fall
falls_left (u ∷ done) left fall = falls_later u.gain u.len done left fall

pub head_steepest : (s : HullStep) (left : List HullStep) → IsHead s left → IsFalling left
    → AllByRecursion (IsAsSteep s) left
head_steepest s [] head fall = absurd head
head_steepest s (t ∷ rest) head fall =
    subst (λ (v : HullStep). AllByRecursion (IsAsSteep v) (t ∷ rest)) head
    (steep_self t, falls_below t rest fall)

-- what is at least as steep as an offer is at least as steep as all that is left
pub above_offer : (s : HullStep) (o : Offer) (left : List HullStep) → IsOffer left o
    → IsFalling left
    → gain_of o * s.len ≤ s.gain * len_of o → AllByRecursion (IsAsSteep s) left
above_offer s Nothing left is fall above = subst (AllByRecursion (IsAsSteep s)) (sym is) tt
above_offer s (Step t) left is fall above =
    all_weaker (IsAsSteep t) (IsAsSteep s) (λ u below. steep_through s t u above below) left
    (head_steepest t left is fall)
above_offer s (AtMost bound) left is fall above =
    all_weaker (IsNoSteeper bound) (IsAsSteep s)
    (λ u below. steep_by s.gain s.len bound.gain bound.len u.gain u.len bound.longer above below)
    left is.1

-- THE TOP IS NEXT: a step at the top of the heap is at least as steep as all that open blocks have
-- left
pub top_steepest : (w : Budgets) (o : Outcome) (offered : ℕ → Offer) (items rest : List Entry)
    (x : Entry) (s : HullStep)
    → IsQueue w.blocks offered items → IsPermutation items (x ∷ rest)
    → IsUpperBound entry_cmp x rest → Covers w o items
    → x.offer ≡ Step s → ((b : ℕ) → b < w.blocks → IsOffer (o.left b) (offered b))
    → ((b : ℕ) → b < w.blocks → IsFalling (o.left b))
    → (b : ℕ) → b < w.blocks → nearest w o b ≡ None → AllByRecursion (IsAsSteep s) (o.left b)
top_steepest w o offered items rest x s queue same upper covers is true_offers falls b inside
    is_open =
    elim (cases_eq b x.block) [
      | inl own ↦ (let entry = popped_entry w.blocks offered items rest x queue same in
          let head : IsOffer (o.left b) (Step s) =
          subst (IsOffer (o.left b)) (ap offered own ∙ sym entry.offer ∙ is) (true_offers b inside)
          in
          head_steepest s (o.left b) head (falls b inside))
      | inr ne ↦ elim (covers b inside is_open) [
        | inl none ↦ subst (AllByRecursion (IsAsSteep s)) (sym none) tt
        | inr some ↦ (let c = popped_count w.blocks offered items rest x queue same b in
            let z : is_at b x ≡ 0 = at_other b x (λ e. ne (sym e)) in
            let q = popped_queue w.blocks offered items rest x queue same in
            let f = found_at (λ e. IsEntry w.blocks offered e × (is_lt (entry_cmp x e) ≡ false)) b
            rest (omega arith)
            (both_all (IsEntry w.blocks offered) (λ e. is_lt (entry_cmp x e) ≡ false) rest q.each
            upper) in
            let slope : gain_of f.0.offer * len_of x.offer
            ≤ gain_of x.offer * len_of f.0.offer = as_steep x f.0 f.2.1 in
            let slope_s : gain_of f.0.offer * s.len ≤ s.gain * len_of f.0.offer =
            subst (λ (p : Offer). gain_of f.0.offer * len_of p ≤ gain_of p * len_of f.0.offer) is
            slope in
            let own_offer : IsOffer (o.left b) f.0.offer =
            subst (IsOffer (o.left b)) (ap offered (sym f.1) ∙ sym f.2.0.offer)
            (true_offers b inside) in
            above_offer s f.0.offer (o.left b) own_offer (falls b inside) slope_s)
      ]
    ]

-- of two slopes that aren't rising, what an order says further
tie : (p q : ℕ) (o : Ordering) → MatchOrdering o (p < q) (p ≡ q) (q < p) → p ≤ q → (b c : Ordering)
    → is_lt (ordering_then (ordering_then o b) c) ≡ false → is_lt (ordering_then b c) ≡ false
tie p q Less m le b c e = let bad : ⊥ = cc in absurd bad
tie p q Equal m le b c e = e
tie p q Greater m le b c e = absurd (omega arith)

head_same : (t u : HullStep) (left : List HullStep) → IsHead t left → IsHead u left → t ≡ u
head_same t u [] head other = absurd head
head_same t u (v ∷ rest) head other = sym head ∙ other

-- where the next step of a list is as steep as s, an entry that offers it, or a bound on it, and
-- isn't above one that offers s has no lower block
not_lower : (s t : HullStep) (left : List HullStep) (o : Offer) (a b : ℕ) → IsOffer left o
    → IsHead t left → IsAsSteep t s
    → is_lt (ordering_then (ordering_then (nat_cmp (s.gain * len_of o) (gain_of o * s.len))
    (bool_cmp false (is_bound o))) (nat_cmp b a)) ≡ false → a ≤ b
not_lower s t left Nothing a b is head steep e = absurd (subst (IsHead t) is head)
not_lower s t left (Step u) a b is head steep e =
    let le : s.gain * u.len ≤ u.gain * s.len =
    subst (λ (v : HullStep). IsAsSteep v s) (head_same t u left head is) steep in
    let p : ℕ = s.gain * u.len in
    let q : ℕ = u.gain * s.len in
    let then : is_lt (nat_cmp b a) ≡ false =
    tie p q (nat_cmp p q) (ranked p q (nat_cmp p q) refl) le _ _ e in
    not_less b a (nat_cmp b a) (ranked b a (nat_cmp b a) refl) then
not_lower s t left (AtMost bound) a b is head steep e =
    let below : IsNoSteeper bound t = at_head (IsNoSteeper bound) t left head is.1 in
    let le : s.gain * bound.len ≤ bound.gain * s.len =
    steep_by bound.gain bound.len t.gain t.len s.gain s.len t.longer below steep in
    let p : ℕ = s.gain * bound.len in
    let q : ℕ = bound.gain * s.len in
    let then : true ≡ false =
    tie p q (nat_cmp p q) (ranked p q (nat_cmp p q) refl) le _ _ e in
    let bad : ⊥ = cc in absurd bad

-- of equally steep steps a step at the top of the heap is that of the lowest block
pub top_lowest : (w : Budgets) (o : Outcome) (offered : ℕ → Offer) (items rest : List Entry)
    (x : Entry) (s : HullStep)
    → IsQueue w.blocks offered items → IsPermutation items (x ∷ rest)
    → IsUpperBound entry_cmp x rest → Covers w o items
    → x.offer ≡ Step s → s.block ≡ x.block
    → ((b : ℕ) → b < w.blocks → IsOffer (o.left b) (offered b))
    → (b : ℕ) → b < w.blocks → nearest w o b ≡ None → (t : HullStep) → IsHead t (o.left b)
    → IsAsSteep t s → s.block ≤ b
top_lowest w o offered items rest x s queue same upper covers is own true_offers b inside is_open t
    head steep =
    elim (cases_eq b x.block) [
      | inl here ↦ omega arith
      | inr ne ↦ elim (covers b inside is_open) [
        | inl none ↦ absurd (subst (IsHead t) none head)
        | inr some ↦ (let c = popped_count w.blocks offered items rest x queue same b in
            let z : is_at b x ≡ 0 = at_other b x (λ e. ne (sym e)) in
            let q = popped_queue w.blocks offered items rest x queue same in
            let f = found_at (λ e. IsEntry w.blocks offered e × (is_lt (entry_cmp x e) ≡ false)) b
            rest (omega arith)
            (both_all (IsEntry w.blocks offered) (λ e. is_lt (entry_cmp x e) ≡ false) rest q.each
            upper) in
            let offer : IsOffer (o.left b) f.0.offer =
            subst (IsOffer (o.left b)) (ap offered (sym f.1) ∙ sym f.2.0.offer)
            (true_offers b inside) in
            let after : x.block ≤ f.0.block =
            not_lower s t (o.left b) f.0.offer x.block f.0.block offer head steep
            (subst (λ (p : Offer). is_lt (ordering_then
            (ordering_then (nat_cmp (gain_of p * len_of f.0.offer) (gain_of f.0.offer * len_of p))
            (bool_cmp (is_bound p) (is_bound f.0.offer))) (nat_cmp f.0.block x.block)) ≡ false) is
            f.2.1) in
            let same_block : f.0.block ≡ b = f.1 in
            omega arith)
      ]
    ]

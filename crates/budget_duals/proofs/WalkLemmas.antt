-- One look at the heap.
use Rattle.std.proofs.Common.{ℕ, ◌≡◌, ◌≢◌, ◌<◌, ◌≤◌, inl, inr, List, [], ◌∷◌, ◌++◌, length, get_or}
use Rattle.std.proofs.Common.{None, arith, refl, sym, ap, subst, ◌∙◌}
use Rattle.std.specs.BinaryHeap.{IsHeap, IsUpperBound}
use Rattle.std.specs.List.{AllByRecursion}
use Rattle.std.specs.List.Sorted.{IsPermutation}
use Rattle.rd_hulls.specs.declared.step.Step.{Step as HullStep}
use Rattle.rd_hulls.specs.Steps.{IsFalling}
use Rattle.allocation_bound.specs.Steps.{IsHead}
use Rattle.allocation_bound.specs.Settled.{Budgets, Outcome, IsSettled, nearest}
use Rattle.allocation_bound.specs.Laws.{FollowOn}
use Rattle.allocation_bound.proofs.Lists.{all_after, at_head}
use Rattle.allocation_bound.proofs.Prices.{head_from}
use Rattle.allocation_bound.proofs.Start.{walk_end}
use Rattle.budget_duals.specs.declared.entry.Entry.{Entry}
use Rattle.budget_duals.specs.declared.offer.Offer.{Offer}
use Rattle.budget_duals.specs.declared.offer.Offer.TheVariants.{Step}
use Rattle.budget_duals.specs.declared.tree.Tree.{Tree}
use Rattle.budget_duals.specs.Entries.{entry_cmp}
use Rattle.budget_duals.specs.Going.{IsGoing}
use Rattle.budget_duals.specs.Offers.{IsOffer, HasBlock}
use Rattle.budget_duals.specs.Price.{CanTake}
use Rattle.budget_duals.specs.Queue.{count_at, IsEntry, Refilled}
use Rattle.budget_duals.specs.Tree.{budgets_of}
use Rattle.budget_duals.specs.Walking.{Walks, IsNextStep, CanWalk}
use Rattle.budget_duals.proofs.QueueLemmas.{popped_entry, popped_queue, popped_count, popped_away}
use Rattle.budget_duals.proofs.QueueLemmas.{queue_stays, refilled_queue, covers_on, covers_dropped}
use Rattle.budget_duals.proofs.QueueLemmas.{falls_left, top_steepest, top_lowest}

pub same_budgets : (t : Tree) (b c : ℕ) (n m : ℕ → ℕ) (h k : List ℕ → ℕ → ℕ) → b ≡ c → n ≡ m → h ≡ k
    → budgets_of t b n h ≡ budgets_of t c m k
same_budgets t b c n m h k eb en eh =
    ap (λ x. budgets_of t x n h) eb ∙
    (ap (λ x. budgets_of t c x h) en ∙ ap (λ x. budgets_of t c m x) eh)

head_is : (s : HullStep) (xs : List HullStep) → IsHead s xs → (rest : List HullStep)
    × (xs ≡ s ∷ rest)
head_is s [] head = absurd head
head_is s (t ∷ rest) head = (rest, ap (λ v. v ∷ rest) head)

module _ (w : Budgets) (steps : ℕ → List HullStep) (most : List ℕ) (o : Outcome)
    (offered : ℕ → Offer) (items rest : List Entry)
    (x : Entry) (going : IsGoing w steps o offered items) (popped : IsPermutation items (x ∷ rest))
  where
    pub top_entry : IsEntry w.blocks offered x
    top_entry = popped_entry w.blocks offered items rest x going.queue popped

    module _ (can : CanWalk most steps) (blocks : length most ≡ w.blocks)
        (true_offers : (b : ℕ) → b < w.blocks → IsOffer (o.left b) (offered b))
        (own : (b : ℕ) → b < w.blocks → HasBlock b (o.done b ++ o.left b))
        (s : HullStep) (is : x.offer ≡ Step s) where
      in_most : (b : ℕ) → b < w.blocks → b < length most
      in_most b inside = subst (λ n. b < n) (sym blocks) inside

      top_head : IsHead s (o.left x.block)
      top_head = subst (IsOffer (o.left x.block)) (sym top_entry.offer ∙ is)
          (true_offers x.block top_entry.inside)

      pub top_own : s.block ≡ x.block
      top_own = at_head (λ (t : HullStep). t.block ≡ x.block) s (o.left x.block) top_head
          (all_after (λ (t : HullStep). t.block ≡ x.block) (o.done x.block) (o.left x.block)
          (own x.block top_entry.inside))

      splits : (b : ℕ) → b < w.blocks → o.done b ++ o.left b ≡ steps b
      splits b inside = going.walks.stands.kept.splits b inside

      left_falls : (b : ℕ) → b < w.blocks → IsFalling (o.left b)
      left_falls b inside =
          falls_left (o.done b) (o.left b)
          (subst IsFalling (sym (splits b inside)) (can.fall b (in_most b inside)))

      -- what stands of all steps stands of it
      pub top_all : (P : HullStep → Type 0)
          → ((b : ℕ) → b < w.blocks → AllByRecursion P (steps b)) → P s
      top_all P all =
          at_head P s (o.left x.block) top_head
          (all_after P (o.done x.block) (o.left x.block)
          (subst (AllByRecursion P) (sym (splits x.block top_entry.inside))
          (all x.block top_entry.inside)))

      pub top_next : IsUpperBound entry_cmp x rest → nearest w o x.block ≡ None → IsNextStep w o s
      top_next upper is_open =
          let h = head_is s (o.left x.block) top_head in (
            h.0,
            record {
              inside = subst (λ b. b < w.blocks) (sym top_own) top_entry.inside;
              open_block = subst (λ b. nearest w o b ≡ None) (sym top_own) is_open;
              head = ap o.left top_own ∙ h.1;
              steepest = top_steepest w o offered items rest x s going.queue popped upper
                  going.covers
                  is true_offers left_falls;
              lowest = top_lowest w o offered items rest x s going.queue popped upper going.covers
                  is top_own true_offers;
            },
          )

      pub top_can : CanTake most o.counts s
      top_can =
          let b : ℕ = x.block in
          let inside : b < w.blocks = top_entry.inside in
          let from : get_or o.counts b 0 ≡ s.from = going.walks.stands.kept.places b inside
          ∙ head_from s (o.done b) (o.left b) top_head
          (subst (FollowOn 0) (sym (splits b inside)) (can.follow b (in_most b inside))) in
          let to : s.to ≤ get_or most b 0 = at_head (λ (t : HullStep). t.to ≤ get_or most b 0) s
          (o.left b) top_head
          (all_after (λ (t : HullStep). t.to ≤ get_or most b 0) (o.done b) (o.left b)
          (subst (AllByRecursion (λ (t : HullStep). t.to ≤ get_or most b 0)) (sym (splits b inside))
          (can.to b (in_most b inside)))) in
          record {
            block = subst (λ k. k < length most) (sym top_own) (in_most b inside);
            from = subst (λ k. get_or o.counts k 0 ≡ s.from) (sym top_own) from;
            to = subst (λ k. s.to ≤ get_or most k 0) (sym top_own) to;
          }

    -- the entry's block is not open
    pub going_dropped : IsHeap entry_cmp rest → ¬ (nearest w o x.block ≡ None)
        → IsGoing w steps o offered rest
    going_dropped order shut = record {
      walks = going.walks;
      queue = popped_queue w.blocks offered items rest x going.queue popped;
      covers = covers_dropped w o items rest x going.covers
          (popped_count w.blocks offered items rest x going.queue popped) shut;
      order = order;
    }

    -- it was visited, and its block looked at again
    pub going_on : (n : Outcome) (now : ℕ → Offer) (new : List Entry) → Walks w steps n
        → ((b : ℕ) → nearest w n b ≡ None → nearest w o b ≡ None)
        → ((b : ℕ) → b ≢ x.block → n.left b ≡ o.left b)
        → ((k : ℕ) → k ≢ x.block → now k ≡ offered k) → IsOffer (n.left x.block) (now x.block)
        → Refilled x.block (now x.block) rest new → IsHeap entry_cmp new → IsGoing w steps n now new
    going_on n now new walks opens lefts others is refilled order =
        let away = popped_away w.blocks offered items rest x going.queue popped in
        record {
          walks = walks;
          queue = refilled_queue w.blocks now x.block (now x.block) rest new refl top_entry.inside
              away
              (queue_stays w.blocks offered now x.block rest others away
              (popped_queue w.blocks offered items rest x going.queue popped)) refilled;
          covers = covers_on w o n (now x.block) items rest new x going.covers
              (popped_count w.blocks offered items rest x going.queue popped) opens lefts is
              refilled;
          order = order;
        }

-- with no entry left the walk has settled
pub going_ended : (w : Budgets) (steps : ℕ → List HullStep) (o : Outcome) (offered : ℕ → Offer)
    (items : List Entry)
    → IsGoing w steps o offered items → items ≡ [] → IsSettled w steps o
going_ended w steps o offered items going empty =
    walk_end w steps going.walks.front o going.walks.stands
    (λ b inside is_open. elim (going.covers b inside is_open) [
      | inl none ↦ none
      | inr some ↦ (let z : count_at b items ≡ 0 = ap (count_at b) empty in absurd (omega arith))
    ])

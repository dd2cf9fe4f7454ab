-- One block more is looked at.
use Rattle.std.proofs.Common.{ℕ, ◌≡◌, ◌+◌, ◌<◌, ◌≤◌, ◌⊎◌, inl, inr, List, [], arith, refl, subst}
use Rattle.std.proofs.Common.{sym}
use Rattle.std.proofs.ByRecursion.{all_shuffled}
use Rattle.std.proofs.lemmas.Bool.{cases_eq}
use Rattle.std.specs.List.{AllByRecursion}
use Rattle.rd_hulls.specs.declared.step.Step.{Step as HullStep}
use Rattle.allocation_bound.proofs.Lists.{all_weaker}
use Rattle.budget_duals.specs.declared.entry.Entry.{Entry}
use Rattle.budget_duals.specs.declared.offer.Offer.{Offer}
use Rattle.budget_duals.specs.declared.offer.Offer.TheVariants.{Nothing, Step, AtMost}
use Rattle.budget_duals.specs.Beginning.{IsBegun}
use Rattle.budget_duals.specs.Offers.{IsOffer}
use Rattle.budget_duals.specs.Queue.{count_at, put_entry, Refilled}
use Rattle.budget_duals.proofs.QueueLemmas.{refilled_queue, refilled_some, refilled_own}

pub begun_none : (blocks : ℕ) (left : ℕ → List HullStep) (offered : ℕ → Offer) (items : List Entry)
    → items ≡ []
    → IsBegun blocks left offered 0 items
begun_none blocks left offered items none = subst (IsBegun blocks left offered 0) (sym none)
    (record {
      queue = record { each = tt; once = λ b. omega arith };
      covers = λ b below. absurd (omega arith);
      below = tt;
    })

put_below : (k : ℕ) (o : Offer) (old : List Entry) → AllByRecursion (λ (e : Entry). e.block < k) old
    → AllByRecursion (λ (e : Entry). e.block < k + 1) (put_entry k o old)
put_below k Nothing old all = all_weaker (λ (e : Entry). e.block < k)
    (λ (e : Entry). e.block < k + 1) (λ e below. omega arith) old all
put_below k (Step s) old all = (
  omega arith,
  all_weaker (λ (e : Entry). e.block < k) (λ (e : Entry). e.block < k + 1)
      (λ e below. omega arith) old all,
)
put_below k (AtMost bound) old all = (
  omega arith,
  all_weaker (λ (e : Entry). e.block < k) (λ (e : Entry). e.block < k + 1)
      (λ e below. omega arith) old all,
)

pub begun_more : (blocks : ℕ) (left : ℕ → List HullStep) (offered : ℕ → Offer) (k : ℕ)
    (old new : List Entry) → k < blocks
    → IsOffer (left k) (offered k) → IsBegun blocks left offered k old
    → Refilled k (offered k) old new
    → IsBegun blocks left offered (k + 1) new
begun_more blocks left offered k old new inside is begun refilled = record {
  queue = refilled_queue blocks offered k (offered k) old new refl inside
      (all_weaker (λ (e : Entry). e.block < k) (λ (e : Entry). ¬ (e.block ≡ k))
      (λ e below same. (let at : e.block ≡ k = same in omega arith)) old begun.below) begun.queue
      refilled;
  covers = λ b below. elim (cases_eq b k) [
    | inl e ↦ subst (λ i. (left i ≡ []) ⊎ (1 ≤ count_at i new)) (sym e)
        (refilled_own k (offered k) (left k) old new is refilled)
    | inr ne ↦ elim (begun.covers b (omega arith)) [
      | inl none ↦ inl none
      | inr some ↦ (let m = refilled_some k b (offered k) old new refilled in inr (omega arith))
    ]
  ];
  below = all_shuffled (λ (e : Entry). e.block < k + 1) (put_entry k (offered k) old) new refilled
      (put_below k (offered k) old begun.below);
}

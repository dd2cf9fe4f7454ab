-- A walk can go over the steps of both hulls.
use Rattle.std.proofs.Common.{ℕ, ◌<◌, sym, subst, ◌∙◌, slice_get}
use Rattle.offers_on_demand.proofs.Walked.{can_walk, hull_bytes, two_bytes, at_most_58, all_known}
use Rattle.offers_on_demand.specs.ListedBlocks.{all_in}
use Rattle.offers_on_demand.specs.ListedLaws.{completes_in, few_in}
use Rattle.offers_on_demand.proofs.walk_tests.walk_over.Goals as goal

pub allocate_over-requires-clause-can : goal.allocate_over-requires-clause-can
allocate_over-requires-clause-can c =
    let blocks = c.args.passes.blocks.items in
    can_walk _ (λ b. all_in (slice_get blocks b)) _
    (λ b below. (completes_in (slice_get blocks b)).are)
    (at_most_58 (λ b. all_in (slice_get blocks b)) (λ b. few_in (slice_get blocks b)))
    (λ b below. c.in_ok-offers.ensures.left b
    (subst (λ (n : ℕ). b < n) (sym c.requires.two) below))

pub allocate_over-requires-clause-bytes : goal.allocate_over-requires-clause-bytes
allocate_over-requires-clause-bytes c =
    let blocks = c.args.passes.blocks.items in
    two_bytes _ _ (c.in_ok-offers.ensures.blocks ∙ c.requires.two)
    (λ b below. hull_bytes b (all_in (slice_get blocks b)) _
    (completes_in (slice_get blocks b)).are
    (c.in_ok-offers.ensures.left b (subst (λ (n : ℕ). b < n) (sym c.requires.two) below)))

pub allocate_over-requires-clause-known : goal.allocate_over-requires-clause-known
allocate_over-requires-clause-known c = λ b below. all_known _

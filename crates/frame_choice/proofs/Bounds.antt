-- What a certificate says over all numbers of passes of blocks, for any blocks and budgets.
use Rattle.std.proofs.Common.{ℕ, ◌≡◌, ◌+◌, ◌<◌, ◌≤◌, List, length, get_or, Some, sym, subst, arith}
use Rattle.cine_nums.specs.declared.budget.Budget.{Budget}
use Rattle.rd_hulls.specs.Hull.{IsHull}
use Rattle.rd_hulls.specs.Points.{ArePoints, point_at}
use Rattle.rd_hulls.specs.declared.point.Point.{Point}
use Rattle.rd_hulls.specs.declared.step.Step.{Step}
use Rattle.allocation_bound.specs.Ledger.{IsGap}
use Rattle.allocation_bound.specs.Passes.{HasPassCertificate, HaveTerms, IsLeastTerm, pass_ledger}
use Rattle.allocation_bound.specs.Settled.{Budgets, Outcome, block_rate}
use Rattle.allocation_bound.specs.Steps.{gains}
use Rattle.allocation_bound.specs.Sums.{upto}
use Rattle.allocation_bound.proofs.PassGaps.{pass_certified}
use Rattle.allocation_bound.proofs.SumLemmas.{upto_add, upto_same}
use Rattle.budget_duals.specs.Certified.{IsCertificate}
use Rattle.budget_duals.specs.Frame.{AreMembers, frame_budgets}
use Rattle.budget_duals.specs.Held.{held_in, limit_in}
use Rattle.budget_duals.specs.Walking.{so_far}
use Rattle.budget_duals.specs.declared.certificate.Certificate.{Certificate}
use Rattle.budget_duals.specs.declared.held.Held.{Held}
use Rattle.budget_duals.specs.declared.limits.Limits.{Limits}
use Rattle.budget_duals.specs.declared.members.Members.{Members}
use Rattle.frame_choice.proofs.BudgetSums.{number_fits, sum_in}
use Rattle.frame_choice.proofs.LeastTerms.{gained_by, least_is, least_term}

-- the bytes and the distortion of each block by its number of passes
abbrev pub len_at : (ℕ → List Point) → (ℕ → ℕ) → ℕ → ℕ
len_at points passes b = (point_at (points b) (passes b)).len

abbrev pub dist_at : (ℕ → List Point) → (ℕ → ℕ) → ℕ → ℕ
dist_at points passes b = (point_at (points b) (passes b)).dist

-- the numbers of passes of a list
abbrev pub listed : List ℕ → ℕ → ℕ
listed counts b = get_or counts b 0

module _ (limits : Limits) (blocks : ℕ) (inside : ℕ → Members) (held : List ℕ → Held)
    (points : ℕ → List Point) (steps : ℕ → List Step) (counts : List ℕ)
    (done left : ℕ → List Step) (start : ℕ) (c : Certificate)
    (members : (b : ℕ) → b < blocks → AreMembers limits.inner (inside b))
    (are : (b : ℕ) → b < blocks → ArePoints (points b))
    (hulls : (b : ℕ) → b < blocks → IsHull b (points b) (steps b))
    (h : IsCertificate (frame_budgets limits blocks inside held) steps counts done left start c)
  where
    abbrev pub budgets : Budgets
    budgets = frame_budgets limits blocks inside held

    abbrev pub outcome : Outcome
    outcome = so_far counts done left h.closed

    abbrev pub least : ℕ → ℕ
    least b = least_term (points b) (block_rate budgets outcome b) (steps b)

    pub terms : (b : ℕ) → b < blocks →
        IsLeastTerm (points b) (block_rate budgets outcome b) (least b)
    terms b below =
        least_is b (points b) (block_rate budgets outcome b) (steps b) (are b below) (hulls b below)

    have : HaveTerms budgets steps outcome points least
    have = record { points = are; hulls = hulls; terms = terms }

    pub promise : HasPassCertificate budgets steps outcome points least
    promise = pass_certified budgets h.budgets steps outcome h.settled points least have

    pub gap_is : IsGap (pass_ledger budgets points least outcome) c.gap
    gap_is = promise.gap c.gap h.gap

    -- the distortion as chosen
    gained_in : (b : ℕ) → b < blocks → dist_at points (λ x. 0) b
        ≡ gains (done b) + dist_at points (listed counts) b
    gained_in b below =
        subst (λ k. (point_at (points b) 0).dist ≡ gains (done b) + (point_at (points b) k).dist)
        (sym (h.settled.kept.places b below))
        (gained_by b (points b) 0 (done b) (left b)
        (subst (IsHull b (points b)) (sym (h.settled.kept.splits b below)) (hulls b below)).follow)

    pub distortion_is : start ≡ upto blocks (dist_at points (λ x. 0)) →
        c.distortion ≡ upto blocks (dist_at points (listed counts))
    distortion_is empty =
        let all : c.distortion + upto blocks (λ b. gains (done b)) ≡ start = h.distortion in
        let each : upto blocks (dist_at points (λ x. 0))
        ≡ upto blocks (λ b. gains (done b) + dist_at points (listed counts) b) =
        upto_same blocks (dist_at points (λ x. 0))
        (λ b. gains (done b) + dist_at points (listed counts) b) gained_in in
        let apart : upto blocks (λ b. gains (done b) + dist_at points (listed counts) b)
        ≡ upto blocks (λ b. gains (done b)) + upto blocks (dist_at points (listed counts)) =
        upto_add blocks (λ b. gains (done b)) (dist_at points (listed counts)) in
        omega arith

    -- other numbers of passes that fit beside the headers
    pub rivals_are : (passes : ℕ → ℕ) → ((b : ℕ) → b < blocks → passes b < length (points b)) →
        ((budget : Budget) (n : ℕ) → limit_in limits budget ≡ Some n →
        sum_in inside (len_at points passes) blocks budget + held_in (held counts) budget
        ≤ n + sum_in inside (len_at points (listed counts)) blocks budget) →
        upto blocks (dist_at points (listed counts))
        ≤ upto blocks (dist_at points passes) + c.gap
    rivals_are passes below fits =
        promise.rivals c.gap gap_is passes below
        (number_fits limits blocks inside members (held counts) (len_at points passes)
        (len_at points (listed counts)) fits h.settled.kept.within)

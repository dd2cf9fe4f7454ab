-- Nothing is taken, and each list has the steps of its block.
use Rattle.std.proofs.Common.{ℕ, ◌<◌, ◌≡◌, List, Vec, Global, length, map, replicate, arith, ap}
use Rattle.std.proofs.Common.{sym, subst, ◌∙◌, ◌^◌}
use Rattle.std.proofs.lemmas.List.{length-map}
use Rattle.std.specs.List.{AllByRecursion}
use Rattle.rd_hulls.specs.declared.step.Step.{Step}
use Rattle.budget_duals.proofs.FillLemmas.{begun_rows}
use Rattle.budget_duals.proofs.SplitLemmas.{left_all}
use Rattle.budget_duals.proofs.listed.ListedOffers.of_list.Goals as goal

pub invariant_of-result : goal.invariant_of-result
invariant_of-result c =
    let f : Vec Step Global → List Step = λ v. v.items in
    let len : c.len.result
    ≡ length (map f c.fill_rows.new.rows.items) = omega
    (arith, c.len.ensures, length-map c.fill_rows.new.rows.items f) in
    let zeros = c.in_ok-places.ensures.items_if_clones_equal (λ y e. e) ∙ ap
    (λ (n : ℕ). replicate n 0) len in
    let filled = c.in_ok-fill_rows.ensures.filled in
    let many = c.in_ok-fill_rows.ensures.many in
    record {
      listed = begun_rows _ _ c.args.steps.now zeros
          (λ b below. filled b (subst (λ (n : ℕ). b < n) many below)) c.requires.few
          (let e : length (map f c.fill_rows.new.rows.items)
          ≡ c.args.blocks = many ∙ c.in_ok-rows.ensures.many in
          subst (λ (n : ℕ). n < 2 ^ 32) (sym e) (omega arith));
    }

pub returns-clause-left : goal.returns-clause-left
returns-clause-left c =
    let f : Vec Step Global → List Step = λ v. v.items in
    let rows : List (List Step) = map f c.fill_rows.new.rows.items in
    let len : c.len.result
    ≡ length rows = omega (arith, c.len.ensures, length-map c.fill_rows.new.rows.items f) in
    let zeros = c.in_ok-places.ensures.items_if_clones_equal (λ y e. e) ∙ ap
    (λ (n : ℕ). replicate n 0) len in
    let many = c.in_ok-fill_rows.ensures.many in
    let all : length rows ≡ c.args.blocks = many ∙ c.in_ok-rows.ensures.many in
    left_all rows _ c.args.steps.now zeros
    (λ b below. c.in_ok-fill_rows.ensures.filled b (subst (λ (n : ℕ). b < n) many below))
    (subst (λ (n : ℕ). AllByRecursion (λ (s : Step). s.block < n) c.args.steps.now) (sym all)
    c.requires.blocks)

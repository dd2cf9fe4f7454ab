use Rattle.std.proofs.Common.{sym, ◌∙◌}
use Rattle.tag_trees.proofs.UptoLemmas.{ReadsLeaf, reads_leaf, outcome_zero, outcome_one}
use Rattle.tag_trees.proofs.UptoLemmas.{outcome_two, fails_one, fails_two, fails_three, two_levels}
use Rattle.tag_trees.proofs.TreePaths.{ends_for}
use Rattle.tag_trees.proofs.tree.Tree.read_upto.Goals as goal

-- the three ways, by the levels above the leaves
zero : (c : goal.After-read_leaf)
    → ReadsLeaf c.args.self.now c.read_leaf.new.self c.args.bits.now c.read_leaf.new.bits c.args.x
    c.args.y c.args.threshold c.read_leaf.result
zero c = reads_leaf _ _ _ _ _ _ _ c.requires.column c.requires.row c.args.self.now.sides.0
    c.args.self.now.sides.1 _
    (outcome_zero _ _ _ _ _ _ _ _ (sym c.levels-levels.ensures ∙ c.if-levels-eq0.true)
    c.read_leaf.ensures.step c.read_leaf.ensures.took c.read_leaf.ensures.below
    c.read_leaf.ensures.ends)

one : (c : goal.After-read_leaf-then-levels-eq1)
    → ReadsLeaf c.args.self.now c.read_leaf-then-levels-eq1.new.self c.args.bits.now
    c.read_leaf-then-levels-eq1.new.bits c.args.x c.args.y c.args.threshold
    c.read_leaf-then-levels-eq1.result
one c = reads_leaf _ _ _ _ _ _ _ c.requires.column c.requires.row c.args.self.now.sides.0
    c.args.self.now.sides.1 _
    (outcome_one _ _ _ _ _ _ _ _ _ _ _ (sym c.levels-levels.ensures ∙ c.if-levels-eq1.true)
    c.in_ok-start.ensures.step c.in_ok-start.ensures.took c.in_ok-start.ensures.bound
    c.read_leaf-then-levels-eq1.ensures.step c.read_leaf-then-levels-eq1.ensures.took
    c.read_leaf-then-levels-eq1.ensures.below c.read_leaf-then-levels-eq1.ensures.ends)

two : (c : goal.After-read_leaf-2)
    → ReadsLeaf c.args.self.now c.read_leaf-2.new.self c.args.bits.now c.read_leaf-2.new.bits
    c.args.x c.args.y c.args.threshold c.read_leaf-2.result
two c = reads_leaf _ _ _ _ _ _ _ c.requires.column c.requires.row c.args.self.now.sides.0
    c.args.self.now.sides.1 _
    (outcome_two _ _ _ _ _ _ _ _ _ _ _ _ _ _
    (two_levels _ _ (λ k. c.if-levels-eq0.false (c.levels-levels.ensures ∙ k))
    (λ k. c.if-levels-eq1.false (c.levels-levels.ensures ∙ k)))
    c.in_ok-start-2.ensures.step c.in_ok-start-2.ensures.took c.in_ok-start-2.ensures.bound
    c.in_ok-start-3.ensures.step c.in_ok-start-3.ensures.took c.in_ok-start-3.ensures.bound
    c.read_leaf-2.ensures.step c.read_leaf-2.ensures.took c.read_leaf-2.ensures.below
    c.read_leaf-2.ensures.ends)

pub returns-then-levels-eq0-clause-stands : goal.returns-then-levels-eq0-clause-stands
returns-then-levels-eq0-clause-stands c = (zero c).stands

pub returns-then-levels-eq0-clause-reads : goal.returns-then-levels-eq0-clause-reads
returns-then-levels-eq0-clause-reads c = (zero c).reads

pub returns-then-levels-eq0-clause-read : goal.returns-then-levels-eq0-clause-read
returns-then-levels-eq0-clause-read c = (zero c).read

pub returns-then-levels-eq1-clause-stands : goal.returns-then-levels-eq1-clause-stands
returns-then-levels-eq1-clause-stands c = (one c).stands

pub returns-then-levels-eq1-clause-reads : goal.returns-then-levels-eq1-clause-reads
returns-then-levels-eq1-clause-reads c = (one c).reads

pub returns-then-levels-eq1-clause-read : goal.returns-then-levels-eq1-clause-read
returns-then-levels-eq1-clause-read c = (one c).read

pub returns-clause-stands : goal.returns-clause-stands
returns-clause-stands c = (two c).stands

pub returns-clause-reads : goal.returns-clause-reads
returns-clause-reads c = (two c).reads

pub returns-clause-read : goal.returns-clause-read
returns-clause-read c = (two c).read

pub returns-in_err-start-clause-reads : goal.returns-in_err-start-clause-reads
returns-in_err-start-clause-reads c v earlier rest rising stands allows ahead = absurd
    (ends_for c.args.self.now _ _ _ c.requires.column c.requires.row c.args.self.now.sides.0
    c.args.self.now.sides.1 v earlier rest _ rising stands
    (fails_one c.args.self.now c.args.self.now c.args.bits.now c.args.bits.now _ _ _
    (sym c.levels-levels.ensures ∙ c.if-levels-eq1.true) c.in_err-start.ensures.ends) allows
    ahead)

pub returns-in_err-start-2-clause-reads : goal.returns-in_err-start-2-clause-reads
returns-in_err-start-2-clause-reads c v earlier rest rising stands allows ahead = absurd
    (ends_for c.args.self.now _ _ _ c.requires.column c.requires.row c.args.self.now.sides.0
    c.args.self.now.sides.1 v earlier rest _ rising stands
    (fails_two c.args.self.now c.args.self.now c.args.bits.now c.args.bits.now _ _ _
    (two_levels _ _ (λ k. c.if-levels-eq0.false (c.levels-levels.ensures ∙ k))
    (λ k. c.if-levels-eq1.false (c.levels-levels.ensures ∙ k)))
    c.in_err-start-2.ensures.ends) allows ahead)

pub returns-in_err-start-3-clause-reads : goal.returns-in_err-start-3-clause-reads
returns-in_err-start-3-clause-reads c v earlier rest rising stands allows ahead = absurd
    (ends_for c.args.self.now _ _ _ c.requires.column c.requires.row c.args.self.now.sides.0
    c.args.self.now.sides.1 v earlier rest _ rising stands
    (fails_three c.args.self.now c.args.self.now c.args.bits.now c.args.bits.now _ _ _ _ _ _
    (two_levels _ _ (λ k. c.if-levels-eq0.false (c.levels-levels.ensures ∙ k))
    (λ k. c.if-levels-eq1.false (c.levels-levels.ensures ∙ k)))
    c.in_ok-start-2.ensures.step c.in_ok-start-2.ensures.took c.in_ok-start-2.ensures.bound
    c.in_err-start-3.ensures.ends) allows ahead)

use Rattle.std.proofs.Common.{[], ◌++◌, refl, sym, ◌∙◌, subst, arith, length-append}
use Rattle.tag_trees.specs.TagTree.{leaf_node, middle_node}
use Rattle.tag_trees.specs.Inside.{bits_of_step}
use Rattle.tag_trees.proofs.UptoLemmas.{leaf_zero, leaf_one, leaf_two, two_levels}
use Rattle.tag_trees.proofs.tree.Tree.write_upto.Goals as goal

-- the three ways, by the levels above the leaves
pub returns-then-levels-eq0-clause-bits : goal.returns-then-levels-eq0-clause-bits
returns-then-levels-eq0-clause-bits g c = λ value earlier bits written stands.
    let w = leaf_zero _ _ _ _ _ c.requires.column c.requires.row c.args.self.now.sides.0
    c.args.self.now.sides.1 bits _
    (sym c.levels-levels.ensures ∙ c.if-levels-eq0.true) c.write_node.ensures.step
    c.write_node.ensures.allowed refl in
    subst (λ r. g.S.BitSink.StandsFor c.write_node.new.out r) (w.bits value earlier written)
    (c.write_node.ensures.bits bits stands)

pub returns-then-levels-eq0-clause-written : goal.returns-then-levels-eq0-clause-written
returns-then-levels-eq0-clause-written g c =
    let w = leaf_zero _ _ _ _ _ c.requires.column c.requires.row c.args.self.now.sides.0
    c.args.self.now.sides.1 [] _
    (sym c.levels-levels.ensures ∙ c.if-levels-eq0.true) c.write_node.ensures.step
    c.write_node.ensures.allowed refl in
    w.written

pub returns-then-levels-eq0-clause-few : goal.returns-then-levels-eq0-clause-few
returns-then-levels-eq0-clause-few g c = λ value earlier written.
    let w = leaf_zero _ _ _ _ _ c.requires.column c.requires.row c.args.self.now.sides.0
    c.args.self.now.sides.1 [] _
    (sym c.levels-levels.ensures ∙ c.if-levels-eq0.true) c.write_node.ensures.step
    c.write_node.ensures.allowed refl in
    omega (arith, w.few value earlier written, c.write_node.ensures.count)

pub returns-then-levels-eq1-clause-bits : goal.returns-then-levels-eq1-clause-bits
returns-then-levels-eq1-clause-bits g c = λ value earlier bits written stands.
    let w = leaf_one _ _ _ _ _ c.requires.column c.requires.row c.args.self.now.sides.0
    c.args.self.now.sides.1 bits _ _ _ _
    (sym c.levels-levels.ensures ∙ c.if-levels-eq1.true)
    c.write_node-start.ensures.step c.write_node-start.ensures.allowed
    c.write_node-start.ensures.bound
    c.write_node-then-levels-eq1.ensures.step c.write_node-then-levels-eq1.ensures.allowed refl
    refl in
    subst (λ r. g.S.BitSink.StandsFor c.write_node-then-levels-eq1.new.out r)
    (w.bits value earlier written)
    (c.write_node-then-levels-eq1.ensures.bits _ (c.write_node-start.ensures.bits bits stands))

pub returns-then-levels-eq1-clause-written : goal.returns-then-levels-eq1-clause-written
returns-then-levels-eq1-clause-written g c =
    let w = leaf_one _ _ _ _ _ c.requires.column c.requires.row c.args.self.now.sides.0
    c.args.self.now.sides.1 [] _ _ _ _
    (sym c.levels-levels.ensures ∙ c.if-levels-eq1.true)
    c.write_node-start.ensures.step c.write_node-start.ensures.allowed
    c.write_node-start.ensures.bound
    c.write_node-then-levels-eq1.ensures.step c.write_node-then-levels-eq1.ensures.allowed refl
    refl in
    w.written

pub returns-then-levels-eq1-clause-few : goal.returns-then-levels-eq1-clause-few
returns-then-levels-eq1-clause-few g c = λ value earlier written.
    let w = leaf_one _ _ _ _ _ c.requires.column c.requires.row c.args.self.now.sides.0
    c.args.self.now.sides.1 [] _ _ _ _
    (sym c.levels-levels.ensures ∙ c.if-levels-eq1.true)
    c.write_node-start.ensures.step c.write_node-start.ensures.allowed
    c.write_node-start.ensures.bound
    c.write_node-then-levels-eq1.ensures.step c.write_node-then-levels-eq1.ensures.allowed refl
    refl in
    let l = length-append (bits_of_step c.args.self.now (middle_node c.args.x c.args.y) 0
    c.write_node-start.new.self)
    (bits_of_step c.write_node-start.new.self (leaf_node c.args.x c.args.y)
    c.write_node-start.result c.write_node-then-levels-eq1.new.self) in
    omega (
      arith,
      w.few value earlier written,
      c.write_node-start.ensures.count,
      c.write_node-then-levels-eq1.ensures.count,
    )

pub returns-clause-bits : goal.returns-clause-bits
returns-clause-bits g c = λ value earlier bits written stands.
    let w = leaf_two _ _ _ _ _ c.requires.column c.requires.row c.args.self.now.sides.0
    c.args.self.now.sides.1 bits _ _ _ _ _ _ _
    (two_levels _ _ (λ k. c.if-levels-eq0.false (c.levels-levels.ensures ∙ k))
    (λ k. c.if-levels-eq1.false (c.levels-levels.ensures ∙ k)))
    c.write_node-start-2.ensures.step c.write_node-start-2.ensures.allowed
    c.write_node-start-2.ensures.bound
    c.write_node-start-3.ensures.step c.write_node-start-3.ensures.allowed
    c.write_node-start-3.ensures.bound
    c.write_node-2.ensures.step c.write_node-2.ensures.allowed refl refl refl in
    subst (λ r. g.S.BitSink.StandsFor c.write_node-2.new.out r) (w.bits value earlier written)
    (c.write_node-2.ensures.bits _ (c.write_node-start-3.ensures.bits _
    (c.write_node-start-2.ensures.bits bits stands)))

pub returns-clause-written : goal.returns-clause-written
returns-clause-written g c =
    let w = leaf_two _ _ _ _ _ c.requires.column c.requires.row c.args.self.now.sides.0
    c.args.self.now.sides.1 [] _ _ _ _ _ _ _
    (two_levels _ _ (λ k. c.if-levels-eq0.false (c.levels-levels.ensures ∙ k))
    (λ k. c.if-levels-eq1.false (c.levels-levels.ensures ∙ k)))
    c.write_node-start-2.ensures.step c.write_node-start-2.ensures.allowed
    c.write_node-start-2.ensures.bound
    c.write_node-start-3.ensures.step c.write_node-start-3.ensures.allowed
    c.write_node-start-3.ensures.bound
    c.write_node-2.ensures.step c.write_node-2.ensures.allowed refl refl refl in
    w.written

pub returns-clause-few : goal.returns-clause-few
returns-clause-few g c = λ value earlier written.
    let w = leaf_two _ _ _ _ _ c.requires.column c.requires.row c.args.self.now.sides.0
    c.args.self.now.sides.1 [] _ _ _ _ _ _ _
    (two_levels _ _ (λ k. c.if-levels-eq0.false (c.levels-levels.ensures ∙ k))
    (λ k. c.if-levels-eq1.false (c.levels-levels.ensures ∙ k)))
    c.write_node-start-2.ensures.step c.write_node-start-2.ensures.allowed
    c.write_node-start-2.ensures.bound
    c.write_node-start-3.ensures.step c.write_node-start-3.ensures.allowed
    c.write_node-start-3.ensures.bound
    c.write_node-2.ensures.step c.write_node-2.ensures.allowed refl refl refl in
    let a = bits_of_step c.args.self.now 20 0 c.write_node-start-2.new.self in
    let b = bits_of_step c.write_node-start-2.new.self (middle_node c.args.x c.args.y)
    c.write_node-start-2.result c.write_node-start-3.new.self in
    let d = bits_of_step c.write_node-start-3.new.self (leaf_node c.args.x c.args.y)
    c.write_node-start-3.result c.write_node-2.new.self in
    omega (
      arith,
      w.few value earlier written,
      c.write_node-start-2.ensures.count,
      c.write_node-start-3.ensures.count,
      c.write_node-2.ensures.count,
      length-append (a ++ b) d,
      length-append a b,
    )

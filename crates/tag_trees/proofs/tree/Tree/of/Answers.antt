use Rattle.std.proofs.Common.{◌∙◌, refl, false}
use Rattle.tag_trees.specs.TagTree.{least_from}
use Rattle.tag_trees.specs.declared.node.Node.{Node}
use Rattle.tag_trees.proofs.LeastLemmas.{started_all, least_more, same_everywhere}
use Rattle.tag_trees.proofs.tree.Tree.of.Goals as goal

pub loop-place-init : goal.loop-place-init
unfolding least_from
loop-place-init c = record {
  width_is = refl;
  height_is = refl;
  values_are = λ n. same_everywhere (λ (k : Node). k.value) 255 21 c.unread.result _ n
      c.unread.ensures.value refl;
  bounds = λ n. same_everywhere (λ (k : Node). k.bound) 0 21 c.unread.result _ n
      c.unread.ensures.bound refl;
  unknown = λ n. same_everywhere (λ (k : Node). k.known) false 21 c.unread.result _ n
      c.unread.ensures.known refl;
}

pub loop-place-preserved : goal.loop-place-preserved
loop-place-preserved c = record {
  width_is = c.lower.ensures.width ∙ c.loop-place.invariant.width_is;
  height_is = c.lower.ensures.height ∙ c.loop-place.invariant.height_is;
  values_are = λ n. least_more c.args.width c.args.values.now c.loop-place.place _ n _ _
      c.loop-place-test.true refl
      (c.loop-place.invariant.values_are n) (c.lower.ensures.values n);
  bounds = λ n. c.lower.ensures.bounds n ∙ c.loop-place.invariant.bounds n;
  unknown = λ n. c.lower.ensures.known n ∙ c.loop-place.invariant.unknown n;
}

pub returns-clause-written : goal.returns-clause-written
returns-clause-written c = started_all _ _ _ _ _ c.loop-place.invariant c.loop-place-test.false
    c.requires.width c.requires.height

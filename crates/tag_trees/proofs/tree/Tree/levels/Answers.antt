use Rattle.std.proofs.Common.{◌≡◌, refl, leb, true, false, arith}
use Rattle.std.specs.Prelude.{max}
use Rattle.std.proofs.lemmas.Bool.{le-leb, lt-leb}
use Rattle.tag_trees.specs.TagTree.{levels_above}
use Rattle.tag_trees.proofs.tree.Tree.levels.Goals as goal

pub returns-then-side-le1 : goal.returns-then-side-le1
unfolding levels_above
returns-then-side-le1 c = let e : leb (max c.args.self.now.width c.args.self.now.height) 1 ≡ true =
    le-leb _ _ (omega arith) in rw e refl

pub returns-then-side-le2 : goal.returns-then-side-le2
unfolding levels_above
returns-then-side-le2 c =
    let e : leb (max c.args.self.now.width c.args.self.now.height) 1 ≡ false =
    lt-leb _ _ (omega arith) in
    let f : leb (max c.args.self.now.width c.args.self.now.height) 2 ≡ true =
    le-leb _ _ (omega arith) in rw (e, f) refl

pub returns-else-side-le2 : goal.returns-else-side-le2
unfolding levels_above
returns-else-side-le2 c =
    let e : leb (max c.args.self.now.width c.args.self.now.height) 1 ≡ false =
    lt-leb _ _ (omega arith) in
    let f : leb (max c.args.self.now.width c.args.self.now.height) 2 ≡ false =
    lt-leb _ _ (omega arith) in rw (e, f) refl

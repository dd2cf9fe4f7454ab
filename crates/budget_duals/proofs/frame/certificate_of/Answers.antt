-- A slice of a list has what the list has.
use Rattle.std.proofs.Common.{◌≡◌, Some, subst}
use Rattle.budget_duals.specs.Tree.{closed_by}
use Rattle.budget_duals.proofs.frame.certificate_of.Goals as goal

pub refused_list-requires-clause-can : goal.refused_list-requires-clause-can
refused_list-requires-clause-can g c = λ j s e.
    c.requires.can j s (subst (λ l. closed_by l j ≡ Some s) c.deref-2.ensures.value e)

pub refused_list-requires-clause-known : goal.refused_list-requires-clause-known
refused_list-requires-clause-known g c = λ j s e.
    c.requires.known j s (subst (λ l. closed_by l j ≡ Some s) c.deref-2.ensures.value e)

use Rattle.std.proofs.lemmas.Bool.{eqb-true, eq-eqb}
use Rattle.bit_stuffing.proofs.WordLemmas.{no_ff, no_ff_untold}
use Rattle.bit_stuffing.proofs.bit_register.has_no_ff.Goals as goal

pub returns : goal.returns
returns c = (
  λ h. no_ff c.args.word (eqb-true _ 0 h),
  λ none.
      eq-eqb _ 0 (no_ff_untold c.args.word none),
)

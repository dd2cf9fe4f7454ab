use Rattle.std.proofs.Common.{ℕ, ◌≡◌, ◌+◌, ◌*◌, ◌%◌, true, arith, subst, sym, ◌∙◌, inl, inr}
use Rattle.std.proofs.lemmas.Bool.{cases_lt}
use Rattle.cert_text.specs.Names.{is_plain}
use Rattle.cert_text.specs.Characters.{CanFollow}
use Rattle.cert_text.proofs.NameReading.{begins_none}
use Rattle.cert_text.proofs.read_name.begins_escape.Goals as goal

pub loop-low-preserved : goal.loop-low-preserved
loop-low-preserved c byte high low follow = elim (cases_lt (byte % 16) c.loop-low.low) [
  | inl before ↦ c.loop-low.invariant byte high before follow
  | inr here ↦
      let same : c.args.high * 16 + c.loop-low.low ≡ byte = omega arith in
      begins_none c.after_escape.result (is_plain byte ≡ true) (sym c.is_some.ensures
      ∙ c.if-is_some.false)
      (λ none. subst (λ (b : ℕ). is_plain b ≡ true) same
      (c.after_escape.ensures.none none (subst (CanFollow c.args.state) (sym same) follow)))
]

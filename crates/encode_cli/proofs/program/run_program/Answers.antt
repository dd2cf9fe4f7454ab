use Rattle.std.proofs.Common.{ℕ, ◌≡◌, ◌⊎◌, IfOk, inl, inr, sym, subst, ◌∙◌}
use Rattle.std.specs.Process.{exit_status}
use Rattle.command_words.specs.Taken.{texts}
use Rattle.cinema_run.specs.Arguments.{AreCommand}
use Rattle.encode_cli.proofs.program.run_program.Goals as goal

-- words that are no command end with 2 or 6, so with 6 if not with 2
excluded : (status ended : ℕ) → (status ≡ 2) ⊎ (status ≡ 6) → ended ≡ status → (ended ≡ 2 → ⊥) →
    ended ≡ 6
excluded status ended (inl two) same not_two = absurd (not_two (same ∙ two))
excluded status ended (inr six) same not_two = same ∙ six

pub returns-in-Ok-run_words-clause-no_command : goal.returns-in-Ok-run_words-clause-no_command
returns-in-Ok-run_words-clause-no_command c =
    subst (λ words. IfOk words (λ words. (AreCommand (texts words.items) → ⊥)
    → (exit_status c.end.result ≡ 2 → ⊥) → exit_status c.end.result ≡ 6)) (sym c.in-Ok.is)
    (λ none not_two. excluded c.in-Ok-run_words.status (exit_status c.end.result)
    (c.in-Ok-run_words.ensures.no_command
    (subst (λ items. AreCommand (texts items) → ⊥) (sym c.as_slice.ensures.value) none))
    c.end.ensures not_two)

pub returns-in-Ok-run_words-clause-command : goal.returns-in-Ok-run_words-clause-command
returns-in-Ok-run_words-clause-command c =
    subst (λ words. IfOk words (λ words. AreCommand (texts words.items)
    → exit_status c.end.result ≡ 2 → ⊥)) (sym c.in-Ok.is)
    (λ are two. c.in-Ok-run_words.ensures.command
    (subst (λ items. AreCommand (texts items)) (sym c.as_slice.ensures.value) are)
    (sym c.end.ensures ∙ two))

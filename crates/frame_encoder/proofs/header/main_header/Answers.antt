use Rattle.std.proofs.Common.{◌<◌, List, sym, subst}
use Rattle.std.specs.List.{All}
use Rattle.dz_quantiser.specs.declared.band.BandStep.{BandStep}
use Rattle.frame_encoder.proofs.Steps.{exponents, mantissas}
use Rattle.frame_encoder.proofs.header.main_header.Goals as goal

pub main_bytes-requires-clause-exponents : goal.main_bytes-requires-clause-exponents
main_bytes-requires-clause-exponents c =
    subst (λ (steps : List BandStep). All (λ (step : BandStep). step.exponent < 32) steps)
    (sym c.built_in.ensures.bands) (exponents c.args.geometry.now.profile)

pub main_bytes-requires-clause-mantissas : goal.main_bytes-requires-clause-mantissas
main_bytes-requires-clause-mantissas c =
    subst (λ (steps : List BandStep). All (λ (step : BandStep). step.mantissa < 2048) steps)
    (sym c.built_in.ensures.bands) (mantissas c.args.geometry.now.profile)

-- The numbers of a certificate line as numbers of the types that the program has them in.
use Rattle.std.specs.Prelude.{◌≡◌, ◌<◌, ◌^◌, length}
use Rattle.std.specs.List.{All}
use Rattle.cert_text.specs.Reading.{IsSmall}
use Rattle.cert_text.specs.declared.cert_line.CertLine.{CertLine}

-- Each number has the width of its type: the passes 64 bits; the distortions, the gap and the
-- prices 128, and those of refused steps as IsSmall says. There are five multipliers.
pub record HasWidths (says : CertLine) : Type 0 where
  pub passes : says.passes < 2 ^ 64
  pub empty : says.empty < 2 ^ 128
  pub distortion : says.certificate.distortion < 2 ^ 128
  pub gap : says.certificate.gap < 2 ^ 128
  pub multipliers : length says.certificate.multipliers ≡ 5
  pub steps : All IsSmall says.certificate.refused.items

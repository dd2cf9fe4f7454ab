-- What the line of a frame that was written says. Its form is that of cert_text (docs/FORMATS.md).
use Rattle.std.specs.Prelude.{ℕ, ◌≡◌, List, sum, string_bytes}
use Rattle.cert_text.specs.declared.cert_line.CertLine.{CertLine}
use Rattle.pnm_frames.specs.Picture.{Picture}
use Rattle.frame_encoder.specs.Encoded.{Encoding}
use Rattle.frame_encoder.specs.declared.order.EncodeOrder.{EncodeOrder}
use Rattle.cinema_run.specs.Widths.{HasWidths}

-- What a certificate line says is of the frame with this name that holds this picture and is
-- encoded so: each field is the frame's, the order's or the encoding's.
pub record IsCertOf (order : EncodeOrder) (name : List ℕ) (p : Picture) (e : Encoding)
    (says : CertLine) : Type 0 where
  pub named : string_bytes says.name ≡ name
  pub profile : says.profile ≡ order.profile
  pub width : says.width ≡ p.width
  pub height : says.height ≡ p.height
  -- the bytes held in each budget, headers included, and the limits that were kept
  pub held : says.held ≡ e.held
  pub limits : says.limits ≡ order.limits
  -- the coding passes of all code-blocks together
  pub passes : says.passes ≡ sum e.choice
  -- the distortion with nothing decoded
  pub empty : says.empty ≡ e.empty
  -- multipliers, gap, distortion of the chosen passes, refused steps
  pub certificate : says.certificate ≡ e.certificate
  -- each number is one of the type that the program has it in
  pub widths : HasWidths says

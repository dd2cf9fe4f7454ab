-- Which visits are right for a frame: what a run owes for it. The choice of an encoding is free
-- among those that are right.
use Rattle.std.specs.Prelude.{ℕ, ◌≡◌, ◌⊎◌, ◌++◌, Some, None, true, false, List, Result, Ok, Err}
use Rattle.cine_nums.specs.Profile.{max_height_of, max_width_of}
use Rattle.cine_nums.specs.declared.budget.Budget.{Budget}
use Rattle.cine_nums.specs.declared.profile.Profile.{Profile}
use Rattle.cine_ports.specs.Source.{File}
use Rattle.pnm_frames.specs.declared.fault.FrameFault.{FrameFault}
use Rattle.pnm_frames.specs.declared.limits.SizeLimits.{SizeLimits}
use Rattle.pnm_frames.specs.Picture.{Picture}
use Rattle.pnm_frames.specs.Reading.{frame_of}
use Rattle.frame_encoder.specs.declared.order.EncodeOrder.{EncodeOrder}
use Rattle.frame_encoder.specs.Encoded.{Encoding, Encodes}
use Rattle.frame_encoder.specs.Refused.{IsTooSmall}
use Rattle.cert_text.specs.Lines.{cert_line}
use Rattle.cert_text.specs.declared.cert_line.CertLine.{CertLine}
use Rattle.cinema_run.specs.ReportLine.{IsCertOf}
use Rattle.cinema_run.specs.Refused.{refused_line}
use Rattle.cinema_run.specs.declared.refusal.Refusal.{Refusal}
use Rattle.cinema_run.specs.declared.refusal.Refusal.TheVariants as refusals
use Rattle.cinema_run.specs.Visit.{Visit}

-- the largest frame of a profile
abbrev pub sizes_of : Profile → SizeLimits
sizes_of profile = record { width = max_width_of profile; height = max_height_of profile }

-- the visit of a frame whose output has this name and these bytes, and whose line says this
abbrev pub accepted : List ℕ → List ℕ → CertLine → Visit
accepted name bytes says = record {
  output = Some (record { name = name; bytes = bytes });
  line = cert_line says;
  refused = false;
}

-- the visit of one that is refused
abbrev pub refused : List ℕ → Refusal → Visit
refused name refusal = record { output = None; line = refused_line name refusal; refused = true }

-- The visit is that of some right encoding of the picture, for which no limit is too small: its
-- output is the codestream, under the frame's name and the suffix, and its line is the certificate
-- line of that same encoding.
pub record IsAccepted (order : EncodeOrder) (suffix name : List ℕ) (p : Picture)
    (visit : Visit) : Type 0 where
  pub fits : (budget : Budget) (needed : ℕ) → ¬ IsTooSmall order p budget needed
  pub encoding : Encoding
  pub encodes : Encodes order p encoding
  pub says : CertLine
  pub certifies : IsCertOf order name p encoding says
  pub is : visit ≡ accepted (name ++ suffix) encoding.bytes says

-- The visit is that of a picture for which a limit is too small: it has no output, and its line
-- names the outermost such budget and the bytes that are needed there.
pub record IsTooLarge (order : EncodeOrder) (name : List ℕ) (p : Picture) (visit : Visit) : Type 0
  where
    pub budget : Budget
    pub needed : ℕ
    pub too_small : IsTooSmall order p budget needed
    pub is : visit ≡ refused name (refusals.Limit budget needed)

-- The visit is right for a frame with this name whose file spells this picture or has this first
-- fault. A picture is refused exactly if a limit is too small for it.
abbrev pub RightFor : EncodeOrder → List ℕ → List ℕ → Result Picture FrameFault → Visit → Type 0
RightFor order suffix name (Ok p) visit =
    IsAccepted order suffix name p visit ⊎ IsTooLarge order name p visit
RightFor order suffix name (Err fault) visit = visit ≡ refused name (refusals.File fault)

-- The visit is right for the file.
abbrev pub Right : EncodeOrder → List ℕ → File → Visit → Type 0
Right order suffix file visit =
    RightFor order suffix file.name (frame_of (sizes_of order.profile) file.bytes) visit

-- The visit is right for some file with this name: what holds of a frame whose file isn't known.
abbrev pub RightByName : EncodeOrder → List ℕ → List ℕ → Visit → Type 0
RightByName order suffix name visit =
    (found : Result Picture FrameFault) × RightFor order suffix name found visit

-- What a run of the mode `demo` owes. The frame that is made from a number is encoded under the
-- name `demo`. Where it is written, its output is read back, and a second line says what that
-- holds. Where a limit is too small for it, a line says that, and there is nothing more.
use Rattle.std.specs.Prelude.{ℕ, ◌≡◌, ◌⊎◌, ◌↔◌, IsTrue, List, [], ◌∷◌, Option, Ok, IfSome, codes}
use Rattle.std.specs.List.{flat_map, list_any}
use Rattle.cine_ports.specs.Outputs.{Kept}
use Rattle.frame_encoder.specs.declared.order.EncodeOrder.{EncodeOrder}
use Rattle.pnm_frames.specs.Picture.{Picture}
use Rattle.cinema_run.specs.Arguments.{codestream_suffix}
use Rattle.cinema_run.specs.Progress.{IsOneOf, kept_after, said_after}
use Rattle.cinema_run.specs.Right.{IsAccepted, IsTooLarge, RightFor}
use Rattle.cinema_run.specs.RightCheck.{IsReadable}
use Rattle.cinema_run.specs.Visit.{Visit, outputs_of, Point, IsPoint, kept_at, said_at}

-- the name in the lines, and that of the output without its suffix
abbrev pub demo_name : List ℕ
demo_name = codes "demo"

-- The visit is that of the picture, as in the mode `encode`: written with its certificate line, or
-- refused since a limit is too small for it.
abbrev pub RightFirst : EncodeOrder → Picture → Visit → Type 0
RightFirst order p visit = RightFor order codestream_suffix demo_name (Ok p) visit

-- The picture is written and read back: the first visit has its codestream and its certificate
-- line, and the second, which writes nothing, has the line of what these bytes mean and hold.
pub record AreShown (order : EncodeOrder) (p : Picture) (visits : List Visit) : Type 0 where
  pub written : Visit
  pub accepted : IsAccepted order codestream_suffix demo_name p written
  pub read : Visit
  pub readable : IsReadable demo_name accepted.encoding.bytes read
  pub are : visits ≡ written ∷ read ∷ []

-- A limit is too small for the picture: there is one visit, without an output.
pub record AreRefused (order : EncodeOrder) (p : Picture) (visits : List Visit) : Type 0 where
  pub refused : Visit
  pub too_large : IsTooLarge order demo_name p refused
  pub are : visits ≡ refused ∷ []

-- The visits are right for the picture.
abbrev pub RightDemo : EncodeOrder → Picture → List Visit → Type 0
RightDemo order p visits = AreShown order p visits ⊎ AreRefused order p visits

-- A run came to its end: its visits are right, what they have is written and reported, in order and
-- with nothing else, and the status is 1 exactly if the frame is refused.
pub record LeavesDemo (order : EncodeOrder) (p : Picture) (kept_now : Option Kept)
    (said_now : Option (List ℕ)) (status : ℕ) : Type 0 where
  pub visits : List Visit
  pub right : RightDemo order p visits
  pub kept : IfSome kept_now (λ kept. kept ≡ kept_after visits)
  pub said : IfSome said_now (λ said. said ≡ said_after visits)
  pub refusals : (status ≡ 1) ↔ IsTrue (list_any (λ visit. visit.refused) visits)

-- A run broke off after these visits, with one for which IsRight says which visits are right, and
-- which came to a point: of its output a prefix is written, or of its line a proper prefix is
-- reported, or neither.
pub record BrokeOffAfter (before : List Visit) (IsRight : Visit → Type 0) (kept_now : Option Kept)
    (said_now : Option (List ℕ)) : Type 0 where
  pub point : Point
  pub is_point : IsPoint point
  pub of_visit : IsOneOf IsRight point
  pub kept : IfSome kept_now (λ kept. kept ≡ kept_at point (flat_map outputs_of before))
  pub said : IfSome said_now (λ said. said ≡ said_at point (said_after before))

-- A run broke off while the output was read back and its line was reported: the frame is written,
-- whole, and its certificate line is reported.
pub record ReadingBrokeOff (order : EncodeOrder) (p : Picture) (kept_now : Option Kept)
    (said_now : Option (List ℕ)) : Type 0 where
  pub written : Visit
  pub accepted : IsAccepted order codestream_suffix demo_name p written
  pub broken : BrokeOffAfter (written ∷ []) (IsReadable demo_name accepted.encoding.bytes) kept_now
      said_now

-- A run broke off, there or before.
abbrev pub DemoBrokeOff : EncodeOrder → Picture → Option Kept → Option (List ℕ) → Type 0
DemoBrokeOff order p kept_now said_now =
    BrokeOffAfter [] (RightFirst order p) kept_now said_now
    ⊎ ReadingBrokeOff order p kept_now said_now

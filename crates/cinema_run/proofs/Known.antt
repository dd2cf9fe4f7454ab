-- The visit of a frame that was begun, read and named is right for its name, and for its file where
-- it is known.
use Rattle.std.proofs.Common.{◌≡◌, ℕ, List, Option, Some, Result, IsSome, IfSome, slice_get}
use Rattle.std.proofs.Common.{sym, subst}
use Rattle.cine_ports.specs.Source.{Source}
use Rattle.cine_ports.specs.Outputs.{Kept}
use Rattle.pnm_frames.specs.declared.fault.FrameFault.{FrameFault}
use Rattle.pnm_frames.specs.declared.limits.SizeLimits.{SizeLimits}
use Rattle.pnm_frames.specs.Picture.{Picture}
use Rattle.pnm_frames.specs.Reading.{frame_of}
use Rattle.frame_encoder.specs.declared.order.EncodeOrder.{EncodeOrder}
use Rattle.cinema_run.specs.Right.{sizes_of, RightFor, Right, RightByName}
use Rattle.cinema_run.specs.Visit.{Visit}
use Rattle.cinema_run.specs.Progress.{IsVisitAt, VisitBrokeOff, FrameBrokeOff}
use Rattle.cinema_run.proofs.Seen.{AreNames, HasBytes, WasSeen, seen_at, broke_at}

-- What the frame at place i of a source was read to be, from its begun file on.
pub record WasRead (order : EncodeOrder) (first begun read : Source) (i : ℕ) (name left : List ℕ)
    (limits : SizeLimits) (found : Result Picture FrameFault) : Type 0 where
  pub begun_same : begun ≡ first
  pub read_same : read ≡ begun
  pub listed : IfSome first.files (AreNames first.names)
  pub whole : IfSome begun.files (HasBytes i left)
  pub named : slice_get read.names i ≡ Some name
  pub sizes : limits ≡ sizes_of order.profile
  pub exact : IsSome begun.files → frame_of limits left ≡ found

seen : (order : EncodeOrder) (suffix : List ℕ) (first begun read : Source) (i : ℕ)
    (name left : List ℕ) (limits : SizeLimits) (found : Result Picture FrameFault) →
    WasRead order first begun read i name left limits found →
    WasSeen (RightByName order suffix) (Right order suffix) (RightFor order suffix name found)
    first begun read i name left
seen order suffix first begun read i name left limits found was = record {
  begun_same = was.begun_same;
  read_same = was.read_same;
  listed = was.listed;
  whole = was.whole;
  named = was.named;
  by_name = λ visit right. (found, right);
  by_file = λ some visit right.
      subst (λ (r : Result Picture FrameFault). RightFor order suffix name r visit)
      (sym (subst (λ (l : SizeLimits). frame_of l left ≡ found) was.sizes (was.exact some))) right;
}

-- the visit of the frame
pub visit_at : (order : EncodeOrder) (suffix : List ℕ) (first begun read : Source) (i : ℕ)
    (name left : List ℕ) (limits : SizeLimits) (found : Result Picture FrameFault) (visit : Visit) →
    WasRead order first begun read i name left limits found →
    RightFor order suffix name found visit →
    IsVisitAt (RightByName order suffix) (Right order suffix) first i visit
visit_at order suffix first begun read i name left limits found visit was right =
    seen_at (RightByName order suffix) (Right order suffix) (RightFor order suffix name found)
    first begun read i name left visit
    (seen order suffix first begun read i name left limits found was) right

-- where its visit broke off
pub breaks_at : (order : EncodeOrder) (suffix : List ℕ) (first begun read : Source) (i : ℕ)
    (name left : List ℕ) (limits : SizeLimits) (found : Result Picture FrameFault)
    (k0 k1 : Option Kept) (s0 s1 : Option (List ℕ)) →
    WasRead order first begun read i name left limits found →
    VisitBrokeOff (RightFor order suffix name found) k0 k1 s0 s1 →
    FrameBrokeOff (RightByName order suffix)
    (Right order suffix) first i k0 k1 s0 s1
breaks_at order suffix first begun read i name left limits found k0 k1 s0 s1 was broken =
    broke_at (RightByName order suffix) (Right order suffix) (RightFor order suffix name found)
    first begun read i name left k0 k1 s0 s1
    (seen order suffix first begun read i name left limits found was) broken

-- No output of a run of the mode `demo` is longer than a codestream may be.
use Rattle.std.proofs.Common.{ℕ, List, [], ◌∷◌, Option, IfSome, Ok, inl, inr}
use Rattle.std.proofs.Common.{arith, subst, sym}
use Rattle.std.specs.List.{flat_map, AllByRecursion}
use Rattle.std.proofs.lemmas.List.{length-take}
use Rattle.cine_ports.specs.Outputs.{Kept}
use Rattle.cine_ports.specs.Source.{File}
use Rattle.frame_encoder.specs.Orders.{AreLimitsFor}
use Rattle.frame_encoder.specs.declared.order.EncodeOrder.{EncodeOrder}
use Rattle.pnm_frames.specs.Picture.{Picture}
use Rattle.cinema_run.specs.Arguments.{codestream_suffix}
use Rattle.cinema_run.specs.Progress.{IsOneOf, kept_after}
use Rattle.cinema_run.specs.RightCheck.{IsReadable}
use Rattle.cinema_run.specs.RightDemo.{demo_name, BrokeOffAfter, DemoBrokeOff, LeavesDemo}
use Rattle.cinema_run.specs.RightDemo.{RightDemo, RightFirst}
use Rattle.cinema_run.specs.Run.{IsShort, AreShort}
use Rattle.cinema_run.specs.Visit.{Visit, outputs_of, Point, Before, Writing, Saying, IsPoint}
use Rattle.cinema_run.specs.Visit.{kept_at}
use Rattle.cinema_run.proofs.Limits.{both_all, held_short, one_short, right_short}

-- the output of a visit, if it has one, is short
abbrev HasShort : Visit → Type 0
HasShort visit = IfSome visit.output IsShort

all_short : (visits : List Visit) → AllByRecursion HasShort visits →
    AllByRecursion IsShort (flat_map outputs_of visits)
all_short [] short = tt
all_short (visit ∷ visits) short =
    both_all IsShort (outputs_of visit) (flat_map outputs_of visits)
    (one_short visit.output short.0) (all_short visits short.1)

-- a visit that reads writes nothing
read_short : (bytes : List ℕ) (visit : Visit) → IsReadable demo_name bytes visit → HasShort visit
read_short bytes visit readable =
    subst (λ (v : Visit). IfSome v.output IsShort) (sym readable.is) tt

first_short : (order : EncodeOrder) (p : Picture) (visit : Visit) →
    AreLimitsFor order.profile order.limits → RightFirst order p visit → HasShort visit
first_short order p visit low right =
    right_short order codestream_suffix demo_name (Ok p) visit low right

visits_short : (order : EncodeOrder) (p : Picture) (visits : List Visit) →
    AreLimitsFor order.profile order.limits → RightDemo order p visits →
    AllByRecursion HasShort visits
visits_short order p visits low (inl shown) =
    subst (λ (vs : List Visit). AllByRecursion HasShort vs) (sym shown.are) (
      first_short order p shown.written low (inl shown.accepted),
      (read_short shown.accepted.encoding.bytes shown.read shown.readable, tt),
    )
visits_short order p visits low (inr refused) =
    subst (λ (vs : List Visit). AllByRecursion HasShort vs) (sym refused.are)
    (first_short order p refused.refused low (inr refused.too_large), tt)

-- after a run that came to its end
pub demo_short : (order : EncodeOrder) (p : Picture) (k : Option Kept) (s : Option (List ℕ))
    (status : ℕ) → AreLimitsFor order.profile order.limits → LeavesDemo order p k s status →
    IfSome k AreShort
demo_short order p k s status low leaves =
    held_short k (kept_after leaves.visits) leaves.kept (record {
      finished = all_short leaves.visits (visits_short order p leaves.visits low leaves.right);
      unfinished = tt;
    })

-- at a point of a visit whose output is short
point_short : (P : Visit → Type 0) (point : Point) (files : List File) →
    ((visit : Visit) → P visit → HasShort visit) → IsPoint point → IsOneOf P point →
    AllByRecursion IsShort files → AreShort (kept_at point files)
point_short P Before files short is of before = record { finished = before; unfinished = tt }
point_short P (Writing visit file n) files short is of before =
    let whole : IsShort file =
    subst (λ (o : Option File). IfSome o IsShort) is.0 (short visit of) in
    record { finished = before; unfinished = omega (arith, length-take n file.bytes, whole) }
point_short P (Saying visit n) files short is of before = record {
  finished = both_all IsShort files (outputs_of visit) before
      (one_short visit.output (short visit of));
  unfinished = tt;
}

after_short : (P : Visit → Type 0) (before : List Visit) (k : Option Kept) (s : Option (List ℕ)) →
    ((visit : Visit) → P visit → HasShort visit) → AllByRecursion HasShort before →
    BrokeOffAfter before P k s → IfSome k AreShort
after_short P before k s short earlier broken =
    held_short k (kept_at broken.point (flat_map outputs_of before)) broken.kept
    (point_short P broken.point (flat_map outputs_of before) short broken.is_point broken.of_visit
    (all_short before earlier))

-- and after one that broke off
pub demo_broken_short : (order : EncodeOrder) (p : Picture) (k : Option Kept)
    (s : Option (List ℕ)) → AreLimitsFor order.profile order.limits → DemoBrokeOff order p k s →
    IfSome k AreShort
demo_broken_short order p k s low (inl first) =
    after_short (RightFirst order p) [] k s (λ visit right. first_short order p visit low right) tt
    first
demo_broken_short order p k s low (inr reading) =
    after_short (IsReadable demo_name reading.accepted.encoding.bytes) (reading.written ∷ []) k s
    (λ visit readable. read_short reading.accepted.encoding.bytes visit readable)
    (first_short order p reading.written low (inl reading.accepted), tt) reading.broken

-- No output of a run is longer than a codestream may be.
use Rattle.std.proofs.Common.{◌≡◌, Bool, ℕ, ◌≤◌, List, [], ◌∷◌, ◌++◌, Option, Some, None, Result}
use Rattle.std.proofs.Common.{Ok, Err, IfSome, inl, inr, length, take, refl, subst, sym, arith}
use Rattle.std.specs.Option.{ForSome}
use Rattle.std.specs.List.{flat_map, AllByRecursion}
use Rattle.std.proofs.lemmas.List.{length-take}
use Rattle.cine_nums.specs.Limits.{frame_limit}
use Rattle.cine_ports.specs.Outputs.{Kept, kept_nothing}
use Rattle.cine_ports.specs.Source.{File, Source}
use Rattle.pnm_frames.specs.declared.fault.FrameFault.{FrameFault}
use Rattle.pnm_frames.specs.Picture.{Picture}
use Rattle.cine_nums.specs.declared.budget.Budget.TheVariants.{Frame}
use Rattle.frame_encoder.specs.Orders.{AreLimitsFor}
use Rattle.frame_encoder.specs.declared.order.EncodeOrder.{EncodeOrder}
use Rattle.frame_encoder.proofs.Whole.{bytes_short}
use Rattle.cinema_run.specs.Arguments.{IsEncode}
use Rattle.cinema_run.specs.Visit.{Visit, outputs_of, one_or_none, Point, Before, Writing, Saying}
use Rattle.cinema_run.specs.Visit.{IsPoint, kept_at}
use Rattle.cinema_run.specs.Right.{RightFor, RightByName}
use Rattle.cinema_run.specs.Progress.{AreRight, IsPointAt, FramesVisited, kept_after}
use Rattle.cinema_run.specs.Run.{IsShort, AreShort, RunBrokeOff}
use Rattle.cinema_run.proofs.Progress.{from_before}
use Rattle.cinema_run.proofs.Words.{allowed}

-- the limits of the order are those of its profile, or lower
abbrev HasLimits : EncodeOrder → Type 0
HasLimits order = AreLimitsFor order.profile order.limits

pub right_short : (order : EncodeOrder) (suffix name : List ℕ) (found : Result Picture FrameFault)
    (visit : Visit) → HasLimits order → RightFor order suffix name found visit →
    IfSome visit.output IsShort
right_short order suffix name (Ok p) visit own (inl right) =
    let low : order.limits.frame ≤ frame_limit = own.most Frame in
    let few : length right.encoding.bytes ≤ frame_limit =
    omega (arith, bytes_short order p right.encoding right.encodes, low) in
    subst (λ (v : Visit). IfSome v.output IsShort) (sym right.is) few
right_short order suffix name (Ok p) visit own (inr right) =
    subst (λ (v : Visit). IfSome v.output IsShort) (sym right.is) tt
right_short order suffix name (Err fault) visit own right =
    subst (λ (v : Visit). IfSome v.output IsShort) (sym right) tt

pub both_all : {A : Type 0} (P : A → Type 0) (xs ys : List A) → AllByRecursion P xs →
    AllByRecursion P ys → AllByRecursion P (xs ++ ys)
both_all P [] ys all more = more
both_all P (x ∷ xs) ys all more = (all.0, both_all P xs ys all.1 more)

pub one_short : (output : Option File) → IfSome output IsShort →
    AllByRecursion IsShort (one_or_none output)
one_short (Some file) short = (short, tt)
one_short None short = tt

-- the outputs of visits that are right
visits_short : (order : EncodeOrder) (suffix : List ℕ) (names : List (List ℕ))
    (visits : List Visit) → HasLimits order → AreRight (RightByName order suffix) names visits →
    AllByRecursion IsShort (flat_map outputs_of visits)
visits_short order suffix [] [] own right = tt
visits_short order suffix (name ∷ names) (visit ∷ visits) own right =
    both_all IsShort (outputs_of visit) (flat_map outputs_of visits)
    (one_short visit.output (right_short order suffix name right.0.0 visit own right.0.1))
    (visits_short order suffix names visits own right.1)
visits_short order suffix [] (visit ∷ visits) own right = absurd right
visits_short order suffix (name ∷ names) [] own right = absurd right

-- the outputs at a point
point_short : (order : EncodeOrder) (suffix : List ℕ) (names : List (List ℕ)) (n : ℕ)
    (point : Point) (files : List File) → HasLimits order → IsPoint point →
    IsPointAt (RightByName order suffix) names n point → AllByRecursion IsShort files →
    AreShort (kept_at point files)
point_short order suffix names n Before files own is here short =
    record { finished = short; unfinished = tt }
point_short order suffix names n (Writing visit file k) files own is here short =
    let whole : IsShort file = subst (λ (o : Option File). IfSome o IsShort) is.0
    (right_short order suffix here.0 here.2.0 visit own here.2.1) in
    record { finished = short; unfinished = omega (arith, length-take k file.bytes, whole) }
point_short order suffix names n (Saying visit k) files own is here short = record {
  finished = both_all IsShort files (outputs_of visit) short
      (one_short visit.output (right_short order suffix here.0 here.2.0 visit own here.2.1));
  unfinished = tt;
}

pub held_short : (k : Option Kept) (made : Kept) → IfSome k (λ kept. kept ≡ made) → AreShort made →
    IfSome k AreShort
held_short None made is short = tt
held_short (Some kept) made is short = subst AreShort (sym is) short

-- after a run over all frames
pub visited_short : (order : EncodeOrder) (suffix : List ℕ) (R : File → Visit → Type 0)
    (source : Source) (n : ℕ) (k0 k1 : Option Kept) (s0 s1 : Option (List ℕ)) (some : Bool)
    (words : List (List ℕ)) → IsEncode words order →
    FramesVisited (RightByName order suffix) R source n k0 k1 s0 s1 some → IfSome k1 AreShort
visited_short order suffix R source n k0 k1 s0 s1 some words is done =
    held_short k1 (kept_after done.visits) (from_before k0 k1 (kept_after done.visits) done.kept)
    (record {
      finished = visits_short order suffix
          (take n source.names) done.visits (allowed words order is) done.right.named;
      unfinished = tt;
    })

-- after one that broke off
pub broken_short : (order : EncodeOrder) (suffix : List ℕ) (R : File → Visit → Type 0)
    (source : Source) (n : ℕ) (k : Option Kept) (s : Option (List ℕ))
    (words : List (List ℕ)) → IsEncode words order →
    RunBrokeOff (RightByName order suffix) R source n k s → IfSome k AreShort
broken_short order suffix R source n k s words is broken =
    held_short k (kept_at broken.point (flat_map outputs_of broken.visits)) broken.kept
    (point_short order suffix source.names n broken.point
    (flat_map outputs_of broken.visits) (allowed words order is) broken.is_point broken.place.named
    (visits_short order suffix (take n source.names) broken.visits (allowed words order is)
    broken.right.named))

-- and where nothing was written
pub none_short : (k : Option Kept) → ForSome k (λ kept. kept ≡ kept_nothing) → IfSome k AreShort
none_short None none = tt
none_short (Some kept) none = subst AreShort (sym (none kept refl))
    (record { finished = tt; unfinished = tt })

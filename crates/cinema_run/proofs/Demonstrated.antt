-- What a run of the mode `demo` leaves, from what its steps left.
use Rattle.std.proofs.Common.{◌≡◌, ℕ, ◌<◌, ◌≤◌, ◌++◌, ◌||◌, ◌↔◌, Bool, true, false, List, []}
use Rattle.std.proofs.Common.{◌∷◌, Option, if◌then◌else◌}
use Rattle.std.proofs.Common.{Some, None, IsTrue, IfSome, Contains, inl, inr, length, map}
use Rattle.std.proofs.Common.{option_map, refl, sym, ◌∙◌, ap, arith, subst}
use Rattle.std.proofs.lemmas.List.{append-nil}
use Rattle.std.specs.Option.{ForSome}
use Rattle.std.specs.List.{list_any}
use Rattle.cert_text.specs.declared.cert_line.CertLine.{CertLine}
use Rattle.cine_nums.specs.Limits.{frame_limit}
use Rattle.cine_nums.specs.Profile.{max_height_of, max_width_of}
use Rattle.cine_nums.specs.declared.budget.Budget.TheVariants.{Frame}
use Rattle.cine_nums.specs.declared.profile.Profile.{Profile}
use Rattle.cine_nums.specs.declared.profile.Profile.TheVariants.{TwoK, FourK}
use Rattle.cine_ports.specs.Outputs.{Kept, kept_nothing}
use Rattle.cine_ports.specs.Source.{File}
use Rattle.cine_ports.specs.WholePieces.{said_with}
use Rattle.command_words.specs.Demo.{AreDemo, IsDemo}
use Rattle.demo_frames.specs.Demo.{demo_height, demo_picture, demo_width}
use Rattle.frame_encoder.proofs.Whole.{bytes_short}
use Rattle.frame_encoder.specs.Encoded.{decoded_by}
use Rattle.frame_encoder.specs.Orders.{AreLimitsFor}
use Rattle.frame_encoder.specs.declared.order.EncodeOrder.{EncodeOrder}
use Rattle.frame_reader.specs.Decoded.{IsMeaning}
use Rattle.pnm_frames.specs.Picture.{Picture}
use Rattle.profile_reader.specs.Reads.{Decoding}
use Rattle.cinema_run.specs.Arguments.{codestream_suffix}
use Rattle.cinema_run.specs.Output.{kept_and}
use Rattle.cinema_run.specs.Progress.{VisitBrokeOff, kept_after, said_after}
use Rattle.cinema_run.specs.Right.{accepted, IsAccepted, IsTooLarge}
use Rattle.cinema_run.specs.RightCheck.{IsReadable}
use Rattle.cinema_run.specs.RightDemo.{demo_name, BrokeOffAfter, DemoBrokeOff, LeavesDemo}
use Rattle.cinema_run.specs.RightDemo.{RightFirst}
use Rattle.cinema_run.specs.Visit.{Visit, one_or_none, outputs_of, Before, kept_at, said_at}
use Rattle.cinema_run.proofs.Meant.{is_meaning}
use Rattle.cinema_run.proofs.Progress.{status_1}

-- what is made of what an object held
made_of : {A : Type 0} (f : A → A) (before now : Option A) (held : A) → now ≡ option_map f before →
    IfSome before (λ x. x ≡ held) → IfSome now (λ y. y ≡ f held)
made_of {A} f None now held is here =
    subst (λ (o : Option A). IfSome o (λ y. y ≡ f held)) (sym is) tt
made_of {A} f (Some x) now held is here =
    subst (λ (o : Option A). IfSome o (λ y. y ≡ f held)) (sym is) (ap f here)

-- what an object holds is known by another name
known_as : {A : Type 0} (now : Option A) (one other : A) → one ≡ other →
    IfSome now (λ x. x ≡ one) → IfSome now (λ x. x ≡ other)
known_as {A} now one other same here = subst (λ (x : A). IfSome now (λ y. y ≡ x)) same here

-- what is so of each value that is held is so of it
pub held_is : {A : Type 0} (now : Option A) (held : A) → ForSome now (λ x. x ≡ held) →
    IfSome now (λ x. x ≡ held)
held_is None held here = tt
held_is (Some x) held here = here x refl

-- ---- before the first visit

-- a made frame has a size of its profile
sides_fit : (profile : Profile) →
    (1 ≤ demo_width profile) × (demo_width profile ≤ max_width_of profile)
    × (1 ≤ demo_height profile) × (demo_height profile ≤ max_height_of profile)
sides_fit TwoK =
    let wide : 1998 ≤ 2048 = omega arith in
    let high : 1080 ≤ 1080 = omega arith in
    (omega arith, wide, omega arith, high)
sides_fit FourK =
    let wide : 3996 ≤ 4096 = omega arith in
    let high : 2160 ≤ 2160 = omega arith in
    (omega arith, wide, omega arith, high)

pub fits : (p : Picture) (number : ℕ) (profile : Profile) → p ≡ demo_picture number profile →
    (1 ≤ p.width) × (p.width ≤ max_width_of profile) × (1 ≤ p.height)
    × (p.height ≤ max_height_of profile)
fits p number profile is =
    let width : p.width ≡ demo_width profile = ap (λ (q : Picture). q.width) is in
    let height : p.height ≡ demo_height profile = ap (λ (q : Picture). q.height) is in
    let fit = sides_fit profile in (
      subst (λ (n : ℕ). 1 ≤ n) (sym width) fit.0,
      subst (λ (n : ℕ). n ≤ max_width_of profile) (sym width) fit.1,
      subst (λ (n : ℕ). 1 ≤ n) (sym height) fit.2,
      subst (λ (n : ℕ). n ≤ max_height_of profile) (sym height) fit.3,
    )

-- outputs that keep nothing have no unfinished file, and none of any name
pub at_rest : (k : Option Kept) → ForSome k (λ kept. kept ≡ kept_nothing) →
    ForSome k (λ kept. kept.unfinished ≡ None)
at_rest k none = λ kept e. ap (λ (held : Kept). held.unfinished) (none kept e)

pub no_such_name : (k : Option Kept) (name : List ℕ) → ForSome k (λ kept. kept ≡ kept_nothing) →
    ForSome k (λ kept. ¬ Contains (map (λ file. file.name) kept.finished) name)
no_such_name k name none = λ kept e has.
    let Has : Kept → Type 0 = λ (held : Kept). Contains (map (λ (file : File). file.name)
    held.finished) name in
    let nowhere : Has kept_nothing = subst Has (none kept e) has in
    let less : nowhere.0 < 0 = nowhere.1 in
    absurd (omega (arith, less))

-- ---- after the first visit

-- outputs after a visit have no unfinished file
pub rest_after : (files : List File) (k0 k1 : Option Kept) → k1 ≡ option_map (kept_and files) k0 →
    ForSome k1 (λ kept. kept.unfinished ≡ None)
rest_after files None k1 put = λ kept e.
    absurd (let none : Some kept ≡ None = sym e ∙ put in cc)
rest_after files (Some before) k1 put = λ kept e.
    let same : kept ≡ kept_and files before = let both : Some kept ≡ Some (kept_and files before) =
    sym e ∙ put in cc in
    ap (λ (held : Kept). held.unfinished) same

-- the bytes of an output
abbrev bytes_in : Option File → List ℕ
bytes_in None = []
bytes_in (Some file) = file.bytes

-- the bytes of an accepted visit are those of its encoding
pub encoded_bytes : (order : EncodeOrder) (suffix name bytes : List ℕ) (p : Picture)
    (says : CertLine) → (is : IsAccepted order suffix name p (accepted (name ++ suffix) bytes says))
    → bytes ≡ is.encoding.bytes
encoded_bytes order suffix name bytes p says is = ap (λ (v : Visit). bytes_in v.output) is.is

-- they are no more than a codestream may have
pub few_bytes : (order : EncodeOrder) (suffix name bytes : List ℕ) (p : Picture) (says : CertLine) →
    AreLimitsFor order.profile order.limits →
    IsAccepted order suffix name p (accepted (name ++ suffix) bytes says) →
    length bytes ≤ frame_limit
few_bytes order suffix name bytes p says low is =
    let most : order.limits.frame ≤ frame_limit = low.most Frame in
    let same : length bytes ≡ length is.encoding.bytes =
    ap (λ (b : List ℕ). length b) (encoded_bytes order suffix name bytes p says is) in
    omega (arith, bytes_short order p is.encoding is.encodes, same, most)

-- and they have a meaning
pub meant : (order : EncodeOrder) (suffix name bytes : List ℕ) (p : Picture) (says : CertLine) →
    AreLimitsFor order.profile order.limits →
    IsAccepted order suffix name p (accepted (name ++ suffix) bytes says) →
    (d : Decoding) × IsMeaning bytes d
meant order suffix name bytes p says low is = (
  decoded_by is.encodes.geometry p is.encoding.choice,
  subst (λ (b : List ℕ). IsMeaning b (decoded_by is.encodes.geometry p is.encoding.choice))
      (sym (encoded_bytes order suffix name bytes p says is))
      (is_meaning order p is.encoding low is.encodes),
)

pub kept_first : (visit : Visit) (k0 k1 : Option Kept) → ForSome k0 (λ kept. kept ≡ kept_nothing) →
    k1 ≡ option_map (kept_and (outputs_of visit)) k0 →
    IfSome k1 (λ kept. kept ≡ kept_after (visit ∷ []))
kept_first visit k0 k1 none put =
    known_as k1 (kept_and (outputs_of visit) kept_nothing) (kept_after (visit ∷ []))
    (ap (λ (files : List File). record { finished = files; unfinished = None })
    (sym (append-nil (outputs_of visit))))
    (made_of (kept_and (outputs_of visit)) k0 k1 kept_nothing put (held_is k0 kept_nothing none))

pub said_first : (visit : Visit) (s0 s1 : Option (List ℕ)) → ForSome s0 (λ said. said ≡ []) →
    s1 ≡ option_map (said_with visit.line) s0 →
    IfSome s1 (λ said. said ≡ said_after (visit ∷ []))
said_first visit s0 s1 none put =
    known_as s1 visit.line (said_after (visit ∷ [])) (sym (append-nil visit.line))
    (made_of (said_with visit.line) s0 s1 [] put (held_is s0 [] none))

-- ---- after the second, which writes nothing

kept_second : (written read : Visit) (k : Option Kept) → read.output ≡ None →
    IfSome k (λ kept. kept ≡ kept_after (written ∷ [])) →
    IfSome k (λ kept. kept ≡ kept_after (written ∷ read ∷ []))
kept_second written read k no_output here =
    known_as k (kept_after (written ∷ [])) (kept_after (written ∷ read ∷ []))
    (ap (λ (more : List File). record {
      finished = outputs_of written ++ (more ++ []);
      unfinished = None;
    }) (sym (ap one_or_none no_output))) here

said_second : (written read : Visit) (s1 s2 : Option (List ℕ)) →
    IfSome s1 (λ said. said ≡ said_after (written ∷ [])) →
    s2 ≡ option_map (said_with read.line) s1 →
    IfSome s2 (λ said. said ≡ said_after (written ∷ read ∷ []))
said_second written read s1 s2 here put =
    let both : said_with read.line (said_after (written ∷ []))
    ≡ said_after (written ∷ read ∷ []) =
    ap (λ (line : List ℕ). line ++ read.line) (append-nil written.line)
    ∙ ap (λ (line : List ℕ). written.line ++ line) (sym (append-nil read.line)) in
    known_as s2 (said_with read.line (said_after (written ∷ []))) (said_after (written ∷ read ∷ []))
    both (made_of (said_with read.line) s1 s2 (said_after (written ∷ [])) put here)

-- ---- at the end

-- a status, by whether a frame is refused
status_of_refused : (status : ℕ) (b some : Bool) → status ≡ (if some then 1 else 0) → b ≡ some →
    (status ≡ 1) ↔ IsTrue b
status_of_refused status b some is same =
    subst (λ (x : Bool). (status ≡ 1) ↔ IsTrue x) (sym same) (status_1 some status is)

neither : (a b : Bool) → a ≡ false → b ≡ false → (a || (b || false)) ≡ false
neither false false p q = refl
neither false true p q = absurd cc
neither true b p q = absurd cc

alone : (a : Bool) → a ≡ true → (a || false) ≡ true
alone true p = refl
alone false p = absurd cc

-- the frame is written and read back
pub all_shown : (order : EncodeOrder) (p : Picture) (written read : Visit)
    (k0 k1 : Option Kept) (s0 s1 s2 : Option (List ℕ)) →
    (accepted : IsAccepted order codestream_suffix demo_name p written) →
    IsReadable demo_name accepted.encoding.bytes read →
    ForSome k0 (λ kept. kept ≡ kept_nothing) → ForSome s0 (λ said. said ≡ []) →
    k1 ≡ option_map (kept_and (outputs_of written)) k0 →
    s1 ≡ option_map (said_with written.line) s0 → s2 ≡ option_map (said_with read.line) s1 →
    LeavesDemo order p k1 s2 0
all_shown order p written read k0 k1 s0 s1 s2 accepted readable none nothing put first second =
    let wrote : written.refused ≡ false = ap (λ (v : Visit). v.refused) accepted.is in
    let saw : read.refused ≡ false = ap (λ (v : Visit). v.refused) readable.is in
    record {
      visits = written ∷ read ∷ [];
      right = inl (record {
        written = written;
        accepted = accepted;
        read = read;
        readable = readable;
        are = refl;
      });
      kept = kept_second written read k1 (ap (λ (v : Visit). v.output) readable.is)
          (kept_first written k0 k1 none put);
      said = said_second written read s1 s2 (said_first written s0 s1 nothing first) second;
      refusals = status_of_refused 0 (list_any (λ visit. visit.refused) (written ∷ read ∷ [])) false
          refl (neither written.refused read.refused wrote saw);
    }

-- a limit is too small
pub too_large_said : (order : EncodeOrder) (p : Picture) (refused : Visit)
    (k0 k1 : Option Kept) (s0 s1 : Option (List ℕ)) →
    IsTooLarge order demo_name p refused →
    ForSome k0 (λ kept. kept ≡ kept_nothing) → ForSome s0 (λ said. said ≡ []) →
    k1 ≡ option_map (kept_and (outputs_of refused)) k0 →
    s1 ≡ option_map (said_with refused.line) s0 → LeavesDemo order p k1 s1 1
too_large_said order p refused k0 k1 s0 s1 too_large none nothing put first =
    let is_refused : refused.refused ≡ true = ap (λ (v : Visit). v.refused) too_large.is in
    record {
      visits = refused ∷ [];
      right = inr (record { refused = refused; too_large = too_large; are = refl });
      kept = kept_first refused k0 k1 none put;
      said = said_first refused s0 s1 nothing first;
      refusals = status_of_refused 1 (list_any (λ visit. visit.refused) (refused ∷ [])) true refl
          (alone refused.refused is_refused);
    }

-- ---- where it broke off

pub broken_after : (P : Visit → Type 0) (before : List Visit) (k1 k2 : Option Kept)
    (s1 s2 : Option (List ℕ)) → IfSome k1 (λ kept. kept ≡ kept_after before) →
    IfSome s1 (λ said. said ≡ said_after before) → VisitBrokeOff P k1 k2 s1 s2 →
    BrokeOffAfter before P k2 s2
broken_after P before k1 k2 s1 s2 kept said broken = record {
  point = broken.point;
  is_point = broken.is_point;
  of_visit = broken.of_visit;
  kept = made_of (λ (k : Kept). kept_at broken.point k.finished) k1 k2 (kept_after before)
      broken.kept kept;
  said = made_of (said_at broken.point) s1 s2 (said_after before) broken.said said;
}

-- before anything of it was done
pub nothing_shown : (order : EncodeOrder) (p : Picture) (k : Option Kept) (s : Option (List ℕ)) →
    ForSome k (λ kept. kept ≡ kept_nothing) → ForSome s (λ said. said ≡ []) →
    DemoBrokeOff order p k s
nothing_shown order p k s none nothing = inl (record {
  point = Before;
  is_point = tt;
  of_visit = tt;
  kept = held_is k kept_nothing none;
  said = held_is s [] nothing;
})

-- words of the mode that were read no further
pub unread_demo : (words : List (List ℕ)) (k : Option Kept) (s : Option (List ℕ)) →
    ForSome k (λ kept. kept ≡ kept_nothing) → ForSome s (λ said. said ≡ []) → AreDemo words →
    (number : ℕ) × (order : EncodeOrder) × IsDemo words number order.profile order.limits
    × DemoBrokeOff order (demo_picture number order.profile) k s
unread_demo words k s none nothing are =
    let order : EncodeOrder = record { profile = are.1; limits = are.2 } in (
      are.0,
      order,
      are.3,
      nothing_shown order (demo_picture are.0 order.profile) k s none nothing,
    )

-- while it was encoded, or its output or line was written
pub first_broken : (order : EncodeOrder) (p : Picture) (k0 k1 : Option Kept)
    (s0 s1 : Option (List ℕ)) → ForSome k0 (λ kept. kept ≡ kept_nothing) →
    ForSome s0 (λ said. said ≡ []) → VisitBrokeOff (RightFirst order p) k0 k1 s0 s1 →
    DemoBrokeOff order p k1 s1
first_broken order p k0 k1 s0 s1 none nothing broken =
    inl (broken_after (RightFirst order p) [] k0 k1 s0 s1 (held_is k0 kept_nothing none)
    (held_is s0 [] nothing) broken)

-- while the output was read back
pub reading_broken : (order : EncodeOrder) (p : Picture) (written : Visit)
    (k0 k1 k2 : Option Kept) (s0 s1 s2 : Option (List ℕ)) →
    (accepted : IsAccepted order codestream_suffix demo_name p written) →
    ForSome k0 (λ kept. kept ≡ kept_nothing) → ForSome s0 (λ said. said ≡ []) →
    k1 ≡ option_map (kept_and (outputs_of written)) k0 →
    s1 ≡ option_map (said_with written.line) s0 →
    VisitBrokeOff (IsReadable demo_name accepted.encoding.bytes) k1 k2 s1 s2 →
    DemoBrokeOff order p k2 s2
reading_broken order p written k0 k1 k2 s0 s1 s2 accepted none nothing put first broken =
    inr (record {
      written = written;
      accepted = accepted;
      broken = broken_after (IsReadable demo_name accepted.encoding.bytes) (written ∷ []) k1 k2 s1
          s2 (kept_first written k0 k1 none put) (said_first written s0 s1 nothing first) broken;
    })

-- ---- by the words

-- a run of the mode that came to its end
pub demonstrated : (words : List (List ℕ)) (number : ℕ) (order : EncodeOrder) (k : Option Kept)
    (s : Option (List ℕ)) (is_refused : Bool) (status : ℕ) →
    IsDemo words number order.profile order.limits →
    LeavesDemo order (demo_picture number order.profile) k s (if is_refused then 1 else 0) →
    status ≡ (if is_refused then 1 else 0) →
    (number : ℕ) × (order : EncodeOrder) × IsDemo words number order.profile order.limits
    × LeavesDemo order (demo_picture number order.profile) k s status
demonstrated words number order k s is_refused status is leaves same = (
  number,
  order,
  is,
  subst (λ (n : ℕ). LeavesDemo order (demo_picture number order.profile) k s n) (sym same) leaves,
)

-- and one that broke off
pub demo_broke_off : (words : List (List ℕ)) (number : ℕ) (order : EncodeOrder) (k : Option Kept)
    (s : Option (List ℕ)) → IsDemo words number order.profile order.limits →
    DemoBrokeOff order (demo_picture number order.profile) k s →
    (number : ℕ) × (order : EncodeOrder) × IsDemo words number order.profile order.limits
    × DemoBrokeOff order (demo_picture number order.profile) k s
demo_broke_off words number order k s is broken = (number, order, is, broken)

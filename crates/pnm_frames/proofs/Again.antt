-- What the grammar spells is read.
use Rattle.std.proofs.Common.{◌≡◌, ℕ, suc, ◌+◌, ◌*◌, ◌-◌, ◌≤◌, Bool, true, false, eqb, List, []}
use Rattle.std.proofs.Common.{◌∷◌, ◌++◌, length, Some, Ok, refl, sym, ap, ◌∙◌, arith}
use Rattle.std.specs.Prelude.{All, nat_lt}
use Rattle.std.specs.Char.{is_ascii_digit}
use Rattle.std.proofs.lemmas.Bool.{lt-ltb, le-leb}
use Rattle.std.proofs.lemmas.List.{append-nil}
use Rattle.pnm_frames.specs.declared.limits.SizeLimits.{SizeLimits}
use Rattle.pnm_frames.specs.Picture.{Picture, Fits, interleaved, raster}
use Rattle.pnm_frames.specs.Grammar.{begins_gap, ends_number, value_from, IsNumeral, header}
use Rattle.pnm_frames.specs.Grammar.{header_limit, IsHeader, Spells}
use Rattle.pnm_frames.specs.Reading.{stays_open, gap_at, digits_at, number_at, ranged_at, magic_at}
use Rattle.pnm_frames.specs.Reading.{header_at, samples_at, frame_of}
use Rattle.pnm_frames.proofs.Files.{frame-read}
use Rattle.pnm_frames.proofs.Gaps.{Runs, gap-runs, gap-some, digit-ends}
use Rattle.pnm_frames.proofs.Grammar.{IsDigit, whole-header, length-header}
use Rattle.pnm_frames.proofs.Planes.{length-interleaved, All-interleaved}
use Rattle.pnm_frames.proofs.Samples.{samples-again}

gap-again : (commented : Bool) (gap : List ℕ) (at next b : ℕ) (rest : List ℕ) →
    Runs commented gap false →
    begins_gap b ≡ false → next ≡ at + length gap + 1 → next ≤ header_limit →
    gap_at commented at (gap ++ (b ∷ rest)) ≡ Ok (b, next, rest)
gap-again commented [] at next b rest runs other place room =
    let early : nat_lt at header_limit ≡ true = lt-ltb at header_limit (omega arith) in
    let here : next ≡ suc at = omega arith in
    rw (here, early, runs, other) refl
gap-again commented (x ∷ gap) at next b rest runs other place room =
    let early : nat_lt at header_limit ≡ true = lt-ltb at header_limit (omega arith) in
    rw (early, runs.0) (gap-again (stays_open commented x) gap (suc at) next b rest
    runs.1 other (omega arith) room)

digits-again : (last : Bool) (digits : List ℕ) (n at next end : ℕ) (rest : List ℕ) →
    All IsDigit digits →
    ends_number last end ≡ true → next ≡ at + length digits + 1 → next ≤ header_limit →
    digits_at last n at (digits ++ (end ∷ rest)) ≡ Ok ((value_from n digits, end), next, rest)
digits-again last [] n at next end rest all ends place room =
    let early : nat_lt at header_limit ≡ true = lt-ltb at header_limit (omega arith) in
    let here : next ≡ suc at = omega arith in
    rw (here, early, ends) refl
digits-again last (x ∷ digits) n at next end rest all ends place room =
    let early : nat_lt at header_limit ≡ true = lt-ltb at header_limit (omega arith) in
    let digit : is_ascii_digit x ≡ true = all 0 0 (omega arith) in
    rw (early, digit-ends last x digit, digit)
    (digits-again last digits (10 * n + (x - 48)) (suc at) next end rest
    (λ k d lt. all (suc k) d (omega arith)) ends (omega arith) room)

pub number-again : (last : Bool) (begun : ℕ) (gap digits : List ℕ) (at next n end : ℕ)
    (rest : List ℕ) → Runs (eqb begun 35) gap false →
    IsNumeral digits n → ends_number last end ≡ true →
    next ≡ at + length gap + length digits + 1 → next ≤ header_limit
    → number_at last begun at (gap ++ (digits ++ (end ∷ rest))) ≡ Ok ((n, end), next, rest)
unfolding number_at
number-again last begun gap [] at next n end rest runs numeral ends place room =
    absurd (omega (arith, numeral.some))
number-again last begun gap (x ∷ digits) at next n end rest runs numeral ends place room =
    let digit : is_ascii_digit x ≡ true = numeral.ascii 0 0 (omega arith) in
    let from : 10 * 0 + (x - 48) ≡ x - 48 = omega arith in
    let worth : value_from (x - 48) digits ≡ n = ap (λ (k : ℕ). value_from k digits) (sym from)
    ∙ numeral.worth in
    let over = gap-again (eqb begun 35) gap at (at + length gap + 1) x (digits ++ (end ∷ rest)) runs
    (digit-ends false x digit) refl (omega arith) in
    let number = digits-again last digits (x - 48) (at + length gap + 1) next end rest
    (λ k d lt. numeral.ascii (suc k) d (omega arith)) ends (omega arith) room in
    rw (over, digit, number, worth) refl

pub ranged-again : (last : Bool) (low high begun at n end next : ℕ) (bytes rest : List ℕ) →
    low ≤ n → n ≤ high →
    number_at last begun at bytes ≡ Ok ((n, end), next, rest) →
    ranged_at last low high begun at bytes ≡ Ok ((Some n, end), next, rest)
unfolding ranged_at
ranged-again last low high begun at n end next bytes rest le ge number =
    rw (number, le-leb low n le, le-leb n high ge) refl

magic-again : (g : ℕ) (rest : List ℕ) → begins_gap g ≡ true →
    magic_at 0 (80 ∷ 54 ∷ g ∷ rest) ≡ Ok (g, 3, rest)
unfolding magic_at
magic-again g rest begins = rw begins refl

pub parts-again : (limits : SizeLimits) (w h end : ℕ)
    (gap1 wide gap2 tall gap3 maxval rest : List ℕ) → 1 ≤ w → w ≤ limits.width → 1 ≤ h →
    h ≤ limits.height
    → IsHeader (record {
      gap1 = gap1;
      width = wide;
      gap2 = gap2;
      height = tall;
      gap3 =
          gap3;
      maxval = maxval;
      end = end;
    }) w h
    → (at : ℕ) × (header_at limits
    (header (record {
      gap1 = gap1;
      width = wide;
      gap2 = gap2;
      height = tall;
      gap3 =
          gap3;
      maxval = maxval;
      end = end;
    }) ++ rest) ≡ Ok ((w, h), at, rest))
    × (length (header (record {
      gap1 = gap1;
      width = wide;
      gap2 = gap2;
      height = tall;
      gap3 =
          gap3;
      maxval = maxval;
      end = end;
    })) ≡ at)
unfolding header_at
parts-again limits w h end [] wide gap2 tall gap3 maxval rest w1 w2 h1 h2 is =
    absurd (omega (arith, gap-some [] is.gap1))
parts-again limits w h end (g ∷ g1) wide [] tall gap3 maxval rest w1 w2 h1 h2 is =
    absurd (omega (arith, gap-some [] is.gap2))
parts-again limits w h end (g ∷ g1) wide (e1 ∷ g2) tall [] maxval rest w1 w2 h1 h2 is =
    absurd (omega (arith, gap-some [] is.gap3))
parts-again limits w h end (g ∷ g1) wide (e1 ∷ g2) tall (e2 ∷ g3) maxval rest w1 w2 h1 h2 is =
    let len = length-header g e1 e2 end g1 wide g2 tall g3 maxval in
    let p1 : ℕ = 3 + length g1 + length wide + 1 in
    let p2 : ℕ = p1 + length g2 + length tall + 1 in
    let p3 : ℕ = p2 + length g3 + length maxval + 1 in
    let r3 : List ℕ = g3 ++ (maxval ++ (end ∷ rest)) in
    let r2 : List ℕ = g2 ++ (tall ++ (e2 ∷ r3)) in
    let r1 : List ℕ = g1 ++ (wide ++ (e1 ∷ r2)) in
    let room : p3 ≤ header_limit = omega (arith, len, is.short) in
    let runs1 = gap-runs (g ∷ g1) is.gap1 in
    let runs2 = gap-runs (e1 ∷ g2) is.gap2 in
    let runs3 = gap-runs (e2 ∷ g3) is.gap3 in
    let magic = magic-again g r1 runs1.0 in
    let width = ranged-again false 1 limits.width g 3 w e1 p1 r1 r2 w1 w2
    (number-again false g g1 wide 3 p1 w e1 r2 runs1.1 is.width_is runs2.0 refl (omega arith)) in
    let height = ranged-again false 1 limits.height e1 p1 h e2 p2 r2 r3 h1 h2
    (number-again false e1 g2 tall p1 p2 h e2 r3 runs2.1 is.height_is runs3.0 refl
    (omega arith)) in
    let last = ranged-again true 4095 4095 e2 p2 4095 end p3 r3 rest (omega arith) (omega arith)
    (number-again true e2 g3 maxval p2 p3 4095 end rest runs3.1 is.maxval is.ended refl room) in
    let whole = whole-header g e1 e2 end g1 wide g2 tall g3 maxval rest r1 r2 r3
    (80 ∷ 54 ∷ g ∷ r1) refl refl refl refl in (
      p3,
      ap (header_at limits) (sym whole)
          ∙ rw (magic, width, height, last) refl,
      omega (arith, len),
    )

pub frame-again : (limits : SizeLimits) (p : Picture) (bytes : List ℕ) → Fits limits p →
    Spells bytes p → frame_of limits bytes ≡ Ok p
frame-again limits p bytes fits spelled =
    let parts = spelled.0 in
    let head = parts-again limits p.width p.height parts.end parts.gap1 parts.width parts.gap2
    parts.height parts.gap3 parts.maxval (raster p)
    fits.has_width fits.width fits.has_height fits.height spelled.1 in
    let y : length p.y ≡ length p.x = fits.y.size ∙ sym fits.x.size in
    let z : length p.z ≡ length p.x = fits.z.size ∙ sym fits.x.size in
    let len : length (interleaved p.x p.y p.z) ≡ 3 * (p.width * p.height) =
    length-interleaved p.x p.y p.z y z ∙ ap (λ (n : ℕ). 3 * n) fits.x.size in
    let all = All-interleaved p.x p.y p.z fits.x.range fits.y.range fits.z.range in
    let samples : samples_at (3 * (p.width * p.height)) head.0 (raster p)
    ≡ Ok (interleaved p.x p.y p.z, []) =
    rw (← len) (rw append-nil at (samples-again (interleaved p.x p.y p.z) [] head.0 all)) in
    ap (frame_of limits) spelled.2
    ∙ frame-read limits (header parts ++ raster p) p p.width p.height head.0
    (raster p) [] refl refl head.1 samples refl y z

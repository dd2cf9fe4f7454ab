-- Samples in a file: read as they are spelled, and refused where one is missing or too large.
use Rattle.std.proofs.Common.{◌≡◌, ℕ, zero, suc, ◌+◌, ◌*◌, ◌/◌, ◌%◌, ◌-◌, ◌<◌, ◌≤◌, Bool, true}
use Rattle.std.proofs.Common.{false, List, [], ◌∷◌, ◌++◌, length, get_or, take, drop, Result, Ok}
use Rattle.std.proofs.Common.{Err, refl, sym, ap, ◌∙◌, inl, inr, append_assoc, arith, zero-add}
use Rattle.std.proofs.Common.{add-zero, take_all, drop-cons, length-drop}
use Rattle.std.specs.Prelude.{All}
use Rattle.std.specs.List.{flat_map}
use Rattle.std.proofs.Math.Dec.{leb}
use Rattle.std.proofs.lemmas.Bool.{le-leb, lt-leb}
use Rattle.std.proofs.lemmas.Bool.Decides.{leb_tells}
use Rattle.std.proofs.lemmas.List.{append-nil, length-take-le}
use Rattle.std.proofs.lemmas.List.Elements.{All-cons, All-append}
use Rattle.std.proofs.lemmas.Slice.{take-put_mid}
use borrow.Rule.Slice.PartMut.{put_mid}
use Rattle.std.proofs.Math.Nat.{mul-le-mul_left, mul-suc}
use Rattle.byteorder.specs.Endian.{IsRead, big_number}
use Rattle.std.proofs.lemmas.Grind.{flat_map-append}
use Rattle.pnm_frames.specs.declared.refusal.FrameRefusal.{FrameRefusal}
use Rattle.pnm_frames.specs.declared.fault.FrameFault.{FrameFault}
use Rattle.pnm_frames.specs.declared.fault.FrameFault.TheVariants.{SampleTooLarge, Truncated}
use Rattle.pnm_frames.specs.Fault.{◌>>=◌, Fails}
use Rattle.pnm_frames.specs.Picture.{IsSample, interleaved, sample}
use Rattle.pnm_frames.specs.Reading.{samples_at}
use Rattle.pnm_frames.proofs.Planes.{interleaved-append, length-interleaved}

abbrev pub IsBytes : List ℕ → Type 0
IsBytes bytes = (i : ℕ) → get_or bytes i 0 < 256

abbrev pub with_front : List ℕ → Result (List ℕ × List ℕ) FrameFault →
    Result (List ℕ × List ℕ) FrameFault
with_front prefix read = read >>= λ r. Ok (prefix ++ r.0, r.1)

-- a sample's two bytes are worth the sample
worth : (s : ℕ) → 256 * (s / 256) + s % 256 ≡ s
worth s = omega arith

pushed : (a : ℕ) (s : List ℕ) (r : Result (List ℕ × List ℕ) FrameFault) →
    with_front (a ∷ []) (with_front s r) ≡ with_front (a ∷ s) r
pushed a s (Ok x) = refl
pushed a s (Err e) = refl

same-prefix : (r : Result (List ℕ × List ℕ) FrameFault) → r ≡ with_front [] r
same-prefix (Ok x) = refl
same-prefix (Err e) = refl

-- samples before these that fit
pub samples-then : (s : List ℕ) (n at : ℕ) (bytes : List ℕ) → All IsSample s →
    samples_at (length s + n) at (flat_map sample s ++ bytes)
    ≡ with_front s (samples_at n (at + 2 * length s) bytes)
samples-then [] n at bytes fits =
    let place : at + 2 * 0 ≡ at = omega arith in
    rw (zero-add, place) (same-prefix (samples_at n at bytes))
samples-then (a ∷ s) n at bytes fits =
    let one : leb (256 * (a / 256) + a % 256) 4095 ≡ true = le-leb _ _ (omega (arith, fits 0 0)) in
    let count : suc (length s) + n ≡ suc (length s + n) = omega arith in
    let place : suc (suc at) + 2 * length s ≡ at + 2 * suc (length s) = omega arith in
    let rest : samples_at (length s + n) (suc (suc at)) (flat_map sample s ++ bytes)
    ≡ with_front s (samples_at n (at + 2 * suc (length s)) bytes) =
    rw place at (samples-then s n (suc (suc at)) bytes (λ k d lt. fits (suc k) d (omega arith))) in
    rw (count, one, rest, worth a) (pushed a s (samples_at n (at + 2 * suc (length s)) bytes))

-- samples that fit, and nothing asked for after them
pub samples-again : (s rest : List ℕ) (at : ℕ) → All IsSample s →
    samples_at (length s) at (flat_map sample s ++ rest) ≡ Ok (s, rest)
samples-again s rest at fits =
    let e : samples_at (length s + 0) at (flat_map sample s ++ rest) ≡ Ok (s ++ [], rest) =
    samples-then s 0 at rest fits in
    rw (add-zero, append-nil s) at e

-- samples of which not all fit are refused alike, whatever follows
pub samples-large : (s : List ℕ) (n m at : ℕ) (bytes others : List ℕ) → (All IsSample s → ⊥) →
    samples_at (length s + n) at (flat_map sample s ++ bytes)
    ≡ samples_at (length s + m) at (flat_map sample s ++ others)
samples-large [] n m at bytes others large = absurd (large (λ k d lt. absurd (omega arith)))
samples-large (a ∷ s) n m at bytes others large =
    let count : suc (length s) + n ≡ suc (length s + n) = omega arith in
    let counts : suc (length s) + m ≡ suc (length s + m) = omega arith in
    elim (leb_tells (256 * (a / 256) + a % 256) 4095) [
      | inl fits ↦
          let a_fits : IsSample a = omega (arith, worth a, fits.1) in
          let rest = samples-large s n m (suc (suc at)) bytes others
          (λ all. large (All-cons IsSample a s a_fits all)) in
          rw (count, counts, fits.0, rest) refl
      | inr big ↦ rw (count, counts, big.0) refl
    ]

within : (r : Result (List ℕ × List ℕ) FrameFault) (a : ℕ) (fault : FrameFault) →
    with_front (a ∷ []) r ≡ Err fault → r ≡ Err fault
within (Ok x) a fault e = absurd cc
within (Err f) a fault e = e

-- what is refused at first is refused with more asked for
pub samples-refused : (n m at : ℕ) (bytes : List ℕ) (fault : FrameFault) →
    samples_at n at bytes ≡ Err fault → samples_at (n + m) at bytes ≡ Err fault
samples-refused zero m at bytes fault e = absurd (cc)
samples-refused (suc n) m at [] fault e = let count : suc n + m ≡ suc (n + m) =
    omega arith in rw count e
samples-refused (suc n) m at (high ∷ []) fault e = let count : suc n + m ≡ suc (n + m) =
    omega arith in rw count e
samples-refused (suc n) m at (high ∷ low ∷ bytes) fault e =
    let count : suc n + m ≡ suc (n + m) = omega arith in
    elim (leb_tells (256 * high + low) 4095) [
      | inl fits ↦
          let rest = samples-refused n m (suc (suc at)) bytes fault
          (within (samples_at n (suc (suc at)) bytes) (256 * high + low) fault
          (rw fits.0 at e)) in
          rw (count, fits.0, rest) refl
      | inr big ↦ rw (count, big.0) (rw big.0 at e)
    ]

-- ---- the first fault of a row, sample by sample

pub fault-on : (bytes : List ℕ) (i count at : ℕ) (fault : FrameFault) → 2 * i + 1 < length bytes →
    i < count → 256 * get_or bytes (2 * i) 0 + get_or bytes (2 * i + 1) 0 ≤ 4095
    → samples_at (count - (i + 1)) (at + 2 * (i + 1)) (drop (2 * (i + 1)) bytes) ≡ Err fault →
    samples_at (count - i) (at + 2 * i) (drop (2 * i) bytes) ≡ Err fault
fault-on bytes i count at fault room lt fits e =
    let more : count - i ≡ suc (count - (i + 1)) = omega arith in
    let place : at + 2 * (i + 1) ≡ suc (suc (at + 2 * i)) = omega arith in
    let prefix : 2 * (i + 1) ≡ suc (suc (2 * i)) = omega arith in
    let second : 2 * i + 1 ≡ suc (2 * i) = omega arith in
    let test : leb (256 * get_or bytes (2 * i) 0 + get_or bytes (suc (2 * i)) 0) 4095 ≡ true =
    le-leb _ _ (rw second at fits) in
    rw (
      more,
      drop-cons bytes (2 * i) 0 (omega arith),
      drop-cons bytes (suc (2 * i)) 0
          (omega arith),
      test,
      rw (place, prefix) at e,
    ) refl

pub fault-large : (bytes : List ℕ) (i count at : ℕ) → 2 * i + 1 < length bytes → i < count →
    4095 < 256 * get_or bytes (2 * i) 0 + get_or bytes (2 * i + 1) 0
    → samples_at (count - i) (at + 2 * i) (drop (2 * i) bytes) ≡ Err (SampleTooLarge (at + 2 * i))
fault-large bytes i count at room lt large =
    let more : count - i ≡ suc (count - (i + 1)) = omega arith in
    let second : 2 * i + 1 ≡ suc (2 * i) = omega arith in
    let test : leb (256 * get_or bytes (2 * i) 0 + get_or bytes (suc (2 * i)) 0) 4095 ≡ false =
    lt-leb _ _ (rw second at large) in
    rw (
      more,
      drop-cons bytes (2 * i) 0 (omega arith),
      drop-cons bytes (suc (2 * i)) 0
          (omega arith),
      test,
    ) refl

tail-short : (n at : ℕ) (tail : List ℕ) → length tail < 2 →
    samples_at (suc n) at tail ≡ Err (Truncated (at + length tail))
tail-short n at [] lt = ap (λ (k : ℕ). short k) (let e : at ≡ at + 0 = omega arith in e)
  where
    short : ℕ → Result (List ℕ × List ℕ) FrameFault
    short k = Err (Truncated k)
tail-short n at (b ∷ []) lt = ap (λ (k : ℕ). short k) (let e : suc at ≡ at + 1 = omega arith in e)
  where
    short : ℕ → Result (List ℕ × List ℕ) FrameFault
    short k = Err (Truncated k)
tail-short n at (a ∷ b ∷ tail) lt = absurd (omega arith)

pub fault-short : (bytes : List ℕ) (i count at : ℕ) → length bytes < 2 * i + 2 →
    2 * i ≤ length bytes → length bytes < 2 * count
    → samples_at (count - i) (at + 2 * i) (drop (2 * i) bytes) ≡ Err (Truncated (at + length bytes))
fault-short bytes i count at few enough lt =
    let more : count - i ≡ suc (count - (i + 1)) = omega arith in
    let rest : length (drop (2 * i) bytes) ≡ length bytes - 2 * i = length-drop (2 * i) bytes in
    let seen : at + 2 * i + length (drop (2 * i) bytes) ≡ at + length bytes = omega arith in
    rw more (rw seen at (tail-short (count - (i + 1)) (at + 2 * i) (drop (2 * i) bytes)
    (omega arith)))

-- Numbers that were read from bytes two at a time are spelled by these bytes.
pub decoded : (values : List ℕ) (bytes : List ℕ) → length bytes ≡ 2 * length values →
    IsBytes bytes → IsRead big_number 2 bytes values → bytes ≡ flat_map sample values
decoded [] [] len fits read = refl
decoded [] (b ∷ bytes) len fits read = absurd (omega arith)
decoded (v ∷ values) [] len fits read = absurd (omega arith)
decoded (v ∷ values) (b ∷ []) len fits read = absurd (omega arith)
decoded (v ∷ values) (high ∷ low ∷ bytes) len fits read =
    let first : v ≡ 256 * high + low = omega (arith, read 0 (omega arith)) in
    let high-is : v / 256 ≡ high = omega (arith, fits 1) in
    let low-is : v % 256 ≡ low = omega (arith, fits 1) in
    let shorter : length bytes ≡ 2 * length values = omega arith in
    let next : IsRead big_number 2 bytes values = λ k lt.
    let place : 2 * suc k ≡ suc (suc (2 * k)) = omega arith in
    rw place at (read (suc k) (omega arith)) in
    let rest : bytes ≡ flat_map sample values =
    decoded values bytes shorter (λ i. fits (suc (suc i))) next in
    rw (high-is, low-is) (ap (λ (more : List ℕ). high ∷ low ∷ more) rest)

-- ---- a row, which came as the first n bytes of a buffer

pub row-spelled : (n : ℕ) (left buf rest values : List ℕ) → left ≡ take n buf ++ rest →
    length buf ≤ n → buf ≡ flat_map sample values → left ≡ flat_map sample values ++ rest
row-spelled n left buf rest values moved whole spelled =
    moved ∙ ap (λ (bytes : List ℕ). bytes ++ rest) (take_all n buf whole ∙ spelled)

pub row-read : (count at : ℕ) (left rest values : List ℕ) → length values ≡ count →
    left ≡ flat_map sample values ++ rest → All IsSample values →
    samples_at count at left ≡ Ok (values, rest)
row-read count at left rest values len spelled fits =
    rw (← len, spelled) (samples-again values rest at fits)

-- all that is left is too short
pub row-short : (e : FrameRefusal) (n count at : ℕ) (left buf rest : List ℕ) →
    left ≡ take n buf ++ rest → rest ≡ [] → Fails e (samples_at count at (take n buf)) →
    Fails e (samples_at count at left)
row-short e n count at left buf rest moved ended fails =
    let same : left ≡ take n buf = moved ∙ ap (λ (r : List ℕ). take n buf ++ r) ended
    ∙ append-nil (take n buf) in
    rw same fails

-- not all that was read fits
pub row-large : (e : FrameRefusal) (count at : ℕ) (left buf rest values : List ℕ) →
    length values ≡ count → left ≡ flat_map sample values ++ rest → buf ≡ flat_map sample values →
    (All IsSample values → ⊥)
    → Fails e (samples_at (count + 1) at buf) → Fails e (samples_at count at left)
row-large e count at left buf rest values len spelled whole large fails =
    let same : samples_at (count + 1) at buf ≡ samples_at count at left =
    rw (← len, spelled, whole) (ap (samples_at (length values + 1) at)
    (sym (append-nil (flat_map sample values)))
    ∙ samples-large values 1 0 at [] rest large
    ∙ ap (λ (k : ℕ). samples_at k at (flat_map sample values ++ rest))
    (add-zero (length values))) in
    rw (← same) fails

-- ---- rows of three planes

-- a row that is refused refuses all
pub rows-refused : (total row at place : ℕ) (s before left : List ℕ) (fault : FrameFault) →
    before ≡ flat_map sample s ++ left → All IsSample s → length s + row ≤ total →
    place ≡ at + 2 * length s
    → samples_at row place left ≡ Err fault → samples_at total at before ≡ Err fault
rows-refused total row at place s before left fault spelled fits le here refused =
    let parts : total ≡ length s + (row + (total - (length s + row))) = omega arith in
    let rest : samples_at (row + (total - (length s + row))) (at + 2 * length s) left ≡ Err fault =
    samples-refused row (total - (length s + row)) (at + 2 * length s) left fault
    (rw here at refused) in
    rw (parts, spelled, samples-then s (row + (total - (length s + row))) at left fits, rest) refl

-- a further row
pub rows-more : (xs ys zs us vs ws row before left rest : List ℕ) → length ys ≡ length xs →
    length zs ≡ length xs
    → before ≡ flat_map sample (interleaved xs ys zs) ++ left → left ≡ flat_map sample row ++ rest →
    row ≡ interleaved us vs ws
    → before ≡ flat_map sample (interleaved (xs ++ us) (ys ++ vs) (zs ++ ws)) ++ rest
rows-more xs ys zs us vs ws row before left rest y z so_far next split =
    so_far ∙ ap (λ (bytes : List ℕ). flat_map sample (interleaved xs ys zs) ++ bytes)
    (next ∙ ap (λ (r : List ℕ). flat_map sample r ++ rest) split)
    ∙ sym (append_assoc (flat_map sample (interleaved xs ys zs))
    (flat_map sample (interleaved us vs ws)) rest)
    ∙ ap (λ (bytes : List ℕ). bytes ++ rest)
    (sym (flat_map-append sample (interleaved xs ys zs) (interleaved us vs ws))
    ∙ ap (flat_map sample) (sym (interleaved-append xs ys zs us vs ws y z)))

pub differ : {b : Bool} → b ≡ true → b ≡ false → ⊥
differ holds fails = cc

-- there is room for one more row of w pixels
pub room : (w h i start : ℕ) → i < h → start ≡ w * i → start + w ≤ w * h
room w h i start lt place =
    let m : w * suc i ≤ w * h = mul-le-mul_left w lt in
    omega (arith, m, mul-suc w i)

-- all rows were read
pub all-there : (w h i start : ℕ) → h ≤ i → i ≤ h → start ≡ w * i → start ≡ w * h
all-there w h i start ge le place = let same : i ≡ h = omega arith in place
    ∙ ap (λ (n : ℕ). w * n) same

-- a row written into the planes
pub rows-step : (w start : ℕ) (x y z px py pz row before left rest : List ℕ) → length px ≡ w →
    length py ≡ w → length pz ≡ w
    → start ≤ length x → start ≤ length y → start ≤ length z
    → before ≡ flat_map sample (interleaved (take start x) (take start y) (take start z)) ++ left →
    left ≡ flat_map sample row ++ rest → row ≡ interleaved px py pz
    → before ≡ flat_map sample (interleaved
    (take (start + w) (put_mid start (start + w - start) x px))
    (take (start + w) (put_mid start (start + w - start) y py))
    (take (start + w) (put_mid start (start + w - start) z pz))) ++ rest
rows-step w start x y z px py pz row before left rest lx ly lz sx sy sz so_far next split =
    rw (
      take-put_mid start (start + w - start) x px (start + w) (omega arith) sx,
      take-put_mid start (start + w - start) y py (start + w) (omega arith) sy,
      take-put_mid start (start + w - start) z pz (start + w) (omega arith) sz,
    )
    (rows-more (take start x) (take start y) (take start z) px py pz row before left rest
    (omega (arith, length-take-le start x sx, length-take-le start y sy))
    (omega (arith, length-take-le start x sx, length-take-le start z sz)) so_far next split)

pub range-step : (w start : ℕ) (x y z px py pz row : List ℕ) → length px ≡ w → length py ≡ w →
    length pz ≡ w
    → start ≤ length x → start ≤ length y → start ≤ length z
    → All IsSample (interleaved (take start x) (take start y) (take start z)) → All IsSample row →
    row ≡ interleaved px py pz
    → All IsSample (interleaved (take (start + w) (put_mid start (start + w - start) x px))
    (take (start + w) (put_mid start (start + w - start) y py))
    (take (start + w) (put_mid start (start + w - start) z pz)))
range-step w start x y z px py pz row lx ly lz sx sy sz so_far next split =
    rw (
      take-put_mid start (start + w - start) x px (start + w) (omega arith) sx,
      take-put_mid start (start + w - start) y py (start + w) (omega arith) sy,
      take-put_mid start (start + w - start) z pz (start + w) (omega arith) sz,
      interleaved-append (take start x) (take start y) (take start z) px py pz
          (omega (arith, length-take-le start x sx, length-take-le start y sy))
          (omega (arith, length-take-le start x sx, length-take-le start z sz)),
      ← split,
    )
    (All-append IsSample (interleaved (take start x) (take start y) (take start z)) row so_far next)

-- the planes up to the pixels that were read are whole
pub length-read : (start : ℕ) (x y z : List ℕ) → start ≤ length x → start ≤ length y →
    start ≤ length z → length (interleaved (take start x) (take start y) (take start z)) ≡ 3 * start
length-read start x y z sx sy sz =
    omega (
      arith,
      length-take-le start x sx,
      length-take-le start y sy,
      length-take-le start z sz,
      length-interleaved (take start x) (take start y) (take start z)
          (omega (arith, length-take-le start x sx, length-take-le start y sy))
          (omega (arith, length-take-le start x sx, length-take-le start z sz)),
    )

-- the pixels of the largest frame
pub area : (w h : ℕ) → w ≤ 4096 → h ≤ 2160 → w * h ≤ 4096 * 2160
area w h wide tall = let m : w * h ≤ w * 2160 = mul-le-mul_left w tall in omega (arith, m)

-- The scan, column by column.
use Rattle.std.proofs.Common.{ℕ, zero, suc, ◌+◌, ◌*◌, ◌/◌, ◌<◌, ◌≤◌, ◌≡◌, inl, inr, Bool}
use Rattle.std.proofs.Common.{true, false, List, [], ◌∷◌, length, get_or, take, map}
use Rattle.std.proofs.Common.{refl, sym, ap, ◌∙◌, subst, arith}
use Rattle.std.proofs.Math.Nat.{mul-le-mul_right}
use Rattle.std.proofs.Math.Seq.{take-length}
use Rattle.std.proofs.lemmas.Bool.{cases_lt, lt-ltb, le-ltb}
use Rattle.std.proofs.lemmas.List.{take_more, length-map, get_or-map}
use Rattle.std.proofs.lemmas.Nat.{div-mul-add, mod-mul-add, mul-add-lt}
use Rattle.mq_coder.specs.Decisions.{Interval}
use Rattle.mq_decoder.specs.declared.decoder.Decoder.{Decoder}
use Rattle.ebcot_contexts.specs.Cells.{Cell}
use Rattle.ebcot_contexts.specs.Contexts.{Shape}
use Rattle.ebcot_contexts.specs.Passes.{Kind, column_from, column_at, counted, scan, column}
use Rattle.ebcot_contexts.specs.Passes.{columns}
use Rattle.ebcot_contexts.specs.Meaning.{next_decision}
use Rattle.ebcot_contexts.proofs.Loops.{column_read}
use Rattle.ebcot_reader.specs.Columns.{IsRow, IsSplit, IsColumnAt}
use Rattle.ebcot_reader.specs.Reading.{Holds, after}

counted_length : (n c : ℕ) → length (counted n c) ≡ n
counted_length zero c = refl
counted_length (suc n) c = let e = counted_length n (suc c) in omega arith

counted_at : (n c i : ℕ) → i < n → get_or (counted n c) i 0 ≡ c + i
counted_at zero c i h = absurd (omega arith)
counted_at (suc n) c zero h = omega arith
counted_at (suc n) c (suc i) h = counted_at n (suc c) i (omega arith) ∙ omega arith

pub scan_length : (w h : ℕ) → length (scan w h) ≡ w * ((h + 3) / 4)
unfolding scan
scan_length w h = length-map (counted (w * ((h + 3) / 4)) 0) (column_at w h)
    ∙ counted_length (w * ((h + 3) / 4)) 0

-- the column at x of stripe t
pub scan_at : (w h t x : ℕ) → x < w → t * w + x < w * ((h + 3) / 4) →
    get_or (scan w h) (t * w + x) [] ≡ column_from 4 w h x (4 * t)
unfolding scan
scan_at w h t x within inside =
    let n : ℕ = w * ((h + 3) / 4) in
    let long = counted_length n 0 in
    let at : get_or (map (column_at w h) (counted n 0)) (t * w + x) []
    ≡ column_at w h (get_or (counted n 0) (t * w + x) 0) =
    get_or-map (column_at w h) (counted n 0) (t * w + x) 0 [] (omega arith) in
    let is : get_or (counted n 0) (t * w + x) 0 ≡ t * w + x = counted_at n 0 (t * w + x) inside
    ∙ omega arith in
    at ∙ (ap (column_at w h) is
    ∙ (ap (λ (v : ℕ). column_from 4 w h v (4 * ((t * w + x) / w))) (mod-mul-add t w x within)
    ∙ ap (λ (v : ℕ). column_from 4 w h x (4 * v)) (div-mul-add t w x within)))

row_inside : (k w h x y : ℕ) → y < h →
    column_from (suc k) w h x y ≡ (y * w + x) ∷ column_from k w h x (suc y)
row_inside k w h x y l =
    ap (λ (t : Bool). elim t as (λ v. List ℕ) [
      | true ↦ (y * w + x)
          ∷ column_from k w h x (suc y)
      | false ↦ []
    ]) (lt-ltb y h l)

row_outside : (k w h x y : ℕ) → h ≤ y → column_from (suc k) w h x y ≡ []
row_outside k w h x y l =
    ap (λ (t : Bool). elim t as (λ v. List ℕ) [
      | true ↦ (y * w + x)
          ∷ column_from k w h x (suc y)
      | false ↦ []
    ]) (le-ltb y h l)

beyond : (w h x y : ℕ) → h ≤ y → w * h ≤ y * w + x
beyond w h x y l = let m : h * w ≤ y * w = mul-le-mul_right w l in omega arith

place_row : (w x t r : ℕ) → x < w → x < 32 → t < 8 → r < 4
    → IsRow w ((4 * t + r) * w + x) (suc x) (suc t) r (34 * suc t + suc x) (128 * t + x)
place_row w x t r within few low row =
    let d = div-mul-add (4 * t + r) w x within in
    let m = mod-mul-add (4 * t + r) w x within in
    record {
      place = record { column_is = ap suc (sym m); row_is = omega arith };
      index = refl;
      some = omega arith;
      few = omega arith;
      last = omega arith;
      grid = omega arith;
    }

split_at : (w h x y : ℕ) → y < h
    → IsSplit (w * h) (column_from 4 w h x y) (y * w + x) (suc y * w + x) (suc (suc y) * w + x)
    (suc (suc (suc y)) * w + x)
split_at w h x y l =
    let first = row_inside 3 w h x y l in
    elim (cases_lt (suc y) h) [
      | inl l1 ↦
          let second = first ∙ ap (λ (is : List ℕ). (y * w + x) ∷ is)
          (row_inside 2 w h x (suc y) l1) in
          elim (cases_lt (suc (suc y)) h) [
            | inl l2 ↦
                let third = second ∙ ap (λ (is : List ℕ). (y * w + x) ∷ (suc y * w + x) ∷ is)
                (row_inside 1 w h x (suc (suc y)) l2) in
                elim (cases_lt (suc (suc (suc y))) h) [
                  | inl l3 ↦ inl (third ∙ ap (λ (is : List ℕ). (y * w + x) ∷ (suc y * w + x)
                      ∷ (suc (suc y) * w + x) ∷ is) (row_inside 0 w h x (suc (suc (suc y))) l3))
                  | inr g3 ↦ inr (inl (
                    beyond w h x (suc (suc (suc y))) g3,
                    third ∙ ap (λ (is : List ℕ). (y * w + x) ∷ (suc y * w + x)
                        ∷ (suc (suc y) * w + x) ∷ is) (row_outside 0 w h x
                        (suc (suc (suc y))) g3),
                  ))
                ]
            | inr g2 ↦ inr (inr (inl (
              beyond w h x (suc (suc y)) g2,
              beyond w h x
                  (suc (suc (suc y))) (omega arith),
              second ∙ ap (λ (is : List ℕ). (y * w + x) ∷ (suc y * w + x) ∷ is)
                  (row_outside 1 w h x (suc (suc y)) g2),
            )))
          ]
      | inr g1 ↦ inr (inr (inr (
        beyond w h x (suc y) g1,
        beyond w h x (suc (suc y))
            (omega arith),
        beyond w h x (suc (suc (suc y))) (omega arith),
        first ∙ ap (λ (is : List ℕ). (y * w + x) ∷ is) (row_outside 2 w h x (suc y) g1),
      )))
    ]

pub column_is : (w h t x : ℕ) → x < w → w ≤ 32 → t < 8 → 4 * t < h
    → IsColumnAt w h (column_from 4 w h x (4 * t)) (suc x) (suc t) (34 * suc t + suc x)
    (128 * t + x)
column_is w h t x within few low inside =
    let r0 : 4 * t + 0 ≡ 4 * t = omega arith in
    let r1 : 4 * t + 1 ≡ suc (4 * t) = omega arith in
    let r2 : 4 * t + 2 ≡ suc (suc (4 * t)) = omega arith in
    let r3 : 4 * t + 3 ≡ suc (suc (suc (4 * t))) = omega arith in
    record {
      a = 4 * t * w + x;
      b = suc (4 * t) * w + x;
      c = suc (suc (4 * t)) * w + x;
      d = suc (suc (suc (4 * t))) * w + x;
      rows = record {
        first = rw r0 at (place_row w x t 0 within (omega arith) low (omega arith));
        second = rw r1 at (place_row w x t 1 within (omega arith) low (omega arith));
        third = rw r2 at (place_row w x t 2 within (omega arith) low (omega arith));
        fourth = rw r3 at (place_row w x t 3 within (omega arith) low (omega arith));
      };
      places = split_at w h x (4 * t) inside;
    }

-- what is known after the first columns of the scan
abbrev pub begun : List ℕ → Kind → Shape → ℕ → ℕ → List Cell × Interval → List Cell × Interval
begun bytes kind s p c st = after bytes st (columns kind s p (take c (scan s.width s.height)))

-- one column more
column_more : (bytes : List ℕ) (kind : Kind) (s : Shape) (p : ℕ) (cs : List (List ℕ)) (c : ℕ)
    (st : List Cell × Interval) → c < length cs
    → after bytes st (columns kind s p (take (c + 1) cs))
    ≡ after bytes (after bytes st (columns kind s p (take c cs)))
    (column kind s p (get_or cs c []))
column_more bytes kind s p cs c st inside =
    ap (λ (js : List (List ℕ)). after bytes st (columns kind s p js)) (take_more cs c [] inside)
    ∙ column_read (next_decision bytes) st.1 kind s p (take c cs) (get_or cs c []) st.0

-- one column more of stripe t
stripe_on_own : (bytes : List ℕ) (kind : Kind) (s : Shape) (p t x : ℕ)
    (st : List Cell × Interval) (words grid : List ℕ) (decoder : Decoder)
    → x < s.width → s.width ≤ 32 → t < 8 → 4 * t < s.height
    → ((is : List ℕ) → IsColumnAt s.width s.height is (suc x) (suc t) (34 * t + 35 + x)
    (128 * t + x)
    → Holds bytes s p (after bytes (begun bytes kind s p (t * s.width + x) st)
    (column kind s p is)) words grid decoder)
    → Holds bytes s p (begun bytes kind s p (t * s.width + (x + 1)) st) words grid decoder
stripe_on_own bytes kind s p t x st words grid decoder within few low inside step =
    let w : ℕ = s.width in
    let h : ℕ = s.height in
    let n : 34 * suc t + suc x ≡ 34 * t + 35 + x = omega arith in
    let col = rw n at (column_is w h t x within few low inside) in
    let row : t < (h + 3) / 4 = omega arith in
    let room : t * w + x < w * ((h + 3) / 4) = mul-add-lt t w x ((h + 3) / 4) row within in
    let long = scan_length w h in
    let is : get_or (scan w h) (t * w + x) [] ≡ column_from 4 w h x (4 * t) =
    scan_at w h t x within room in
    let held = subst (λ (js : List ℕ). Holds bytes s p
    (after bytes (begun bytes kind s p (t * w + x) st) (column kind s p js)) words grid decoder)
    (sym is) (step (column_from 4 w h x (4 * t)) col) in
    let e : t * w + x + 1 ≡ t * w + (x + 1) = omega arith in
    subst (λ (c : ℕ). Holds bytes s p (begun bytes kind s p c st) words grid decoder) e
    (subst (λ (known : List Cell × Interval). Holds bytes s p known words grid decoder)
    (sym (column_more bytes kind s p (scan w h) (t * w + x) st (omega arith))) held)

pub stripe_on : (bytes : List ℕ) (kind : Kind) (s : Shape) (p width t x : ℕ)
    (st : List Cell × Interval) (words grid : List ℕ) (decoder : Decoder)
    → s.width ≡ width → x < width → width ≤ 32 → t < 8 → 4 * t < s.height
    → ((is : List ℕ) → IsColumnAt s.width s.height is (suc x) (suc t) (34 * t + 35 + x)
    (128 * t + x)
    → Holds bytes s p (after bytes (begun bytes kind s p (t * width + x) st)
    (column kind s p is)) words grid decoder)
    → Holds bytes s p (begun bytes kind s p (t * width + (x + 1)) st) words grid decoder
stripe_on bytes kind s p width t x st words grid decoder e =
    subst (λ (v : ℕ). x < v → v ≤ 32 → t < 8 → 4 * t < s.height
    → ((is : List ℕ) → IsColumnAt s.width s.height is (suc x) (suc t) (34 * t + 35 + x)
    (128 * t + x)
    → Holds bytes s p (after bytes (begun bytes kind s p (t * v + x) st)
    (column kind s p is)) words grid decoder)
    → Holds bytes s p (begun bytes kind s p (t * v + (x + 1)) st) words grid decoder) e
    (stripe_on_own bytes kind s p t x st words grid decoder)

-- so many columns, counted in another way
pub same_count : (bytes : List ℕ) (kind : Kind) (s : Shape) (p c k : ℕ)
    (st : List Cell × Interval) (words grid : List ℕ) (decoder : Decoder)
    → c ≡ k → Holds bytes s p (begun bytes kind s p c st) words grid decoder
    → Holds bytes s p (begun bytes kind s p k st) words grid decoder
same_count bytes kind s p c k st words grid decoder e h =
    subst (λ (v : ℕ). Holds bytes s p (begun bytes kind s p v st) words grid decoder) e h

-- all columns
pub pass_done : (bytes : List ℕ) (kind : Kind) (s : Shape) (p width height t : ℕ)
    (st : List Cell × Interval) (words grid : List ℕ) (decoder : Decoder)
    → s.width ≡ width → s.height ≡ height → t ≡ (height + 3) / 4
    → Holds bytes s p (begun bytes kind s p (t * width) st) words grid decoder
    → Holds bytes s p (after bytes st (columns kind s p (scan s.width s.height)))
    words grid decoder
pass_done bytes kind s p width height t st words grid decoder wide high e h =
    let long = scan_length s.width s.height in
    let rows : t ≡ (s.height + 3) / 4 = e ∙ ap (λ (v : ℕ). (v + 3) / 4) (sym high) in
    let whole : t * width ≡ length (scan s.width s.height) =
    ap (λ (v : ℕ). t * v) (sym wide) ∙ (ap (λ (v : ℕ). v * s.width) rows ∙ (omega arith)) in
    subst (λ (cs : List (List ℕ)). Holds bytes s p (after bytes st (columns kind s p cs))
    words grid decoder)
    (ap (λ (c : ℕ). take c (scan s.width s.height)) whole ∙ take-length (scan s.width s.height)) h

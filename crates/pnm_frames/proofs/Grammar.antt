-- The grammar and the reading are one: what is read is spelled so, and what is spelled so is read.
use Rattle.std.proofs.Common.{◌≡◌, ℕ, suc, ◌+◌, ◌*◌, ◌-◌, ◌<◌, ◌≤◌, Bool, true, false, cond, ◌&&◌}
use Rattle.std.proofs.Common.{eqb, ◌⊎◌, List, [], ◌∷◌, ◌++◌, length, Option, Some, None, Result, Ok}
use Rattle.std.proofs.Common.{Err, refl, ap, subst, ◌∙◌, inl, inr, append_assoc, arith}
use Rattle.std.proofs.Common.{length-append}
use Rattle.std.specs.Prelude.{All, nat_lt, nat_le}
use Rattle.std.specs.Char.{is_ascii_digit}
use Rattle.std.proofs.lemmas.Bool.{and_parts, or_parts, ltb-true, leb-true, eqb-true}
use Rattle.std.proofs.lemmas.Option.{cond_some}
use Rattle.std.proofs.lemmas.List.{append-nil}
use Rattle.std.proofs.lemmas.List.Elements.{All-cons, All-nil}
use Rattle.pnm_frames.specs.declared.limits.SizeLimits.{SizeLimits}
use Rattle.pnm_frames.specs.declared.fault.FrameFault.{FrameFault}
use Rattle.pnm_frames.specs.declared.fault.FrameFault.TheVariants.{BadHeader, HeaderTooLong, NotPpm}
use Rattle.pnm_frames.specs.declared.fault.FrameFault.TheVariants.{WidthOutOfRange}
use Rattle.pnm_frames.specs.declared.fault.FrameFault.TheVariants.{HeightOutOfRange, WrongMaxval}
use Rattle.pnm_frames.specs.Fault.{◌>>=◌}
use Rattle.pnm_frames.specs.Picture.{Picture, IsWithin, raster}
use Rattle.pnm_frames.specs.Grammar.{begins_gap, ends_number, value_from, IsNumeral, Parts, header}
use Rattle.pnm_frames.specs.Grammar.{header_limit, IsHeader, Spells}
use Rattle.pnm_frames.specs.Reading.{Read, byte_at, magic_at, goes_on, stays_open, gap_at, digits_at}
use Rattle.pnm_frames.specs.Reading.{number_at, ranged_at, or_fault, header_at, ended}
use Rattle.pnm_frames.proofs.Files.{empty}
use Rattle.pnm_frames.proofs.Gaps.{Runs, gap-of}

-- which way a choice went
pub chosen : {A : Type 0} (b : Bool) (x y z : A) → cond b x y ≡ z →
    ((b ≡ true) × (x ≡ z)) ⊎ ((b ≡ false) × (y ≡ z))
chosen true x y z e = inl (refl, e)
chosen false x y z e = inr (refl, e)

abbrev value : {A : Type 0} → A → Result A FrameFault
value x = Ok x

abbrev pub refused : {A : Type 0} → FrameFault → Result A FrameFault
refused f = Err f

pub value-is : {A : Type 0} (x y : A) → value x ≡ value y → x ≡ y
value-is x y e = cc

pub no-value : {A : Type 0} {f : FrameFault} {x : A} → refused f ≡ value x → ⊥
no-value e = cc

neither : {A : Type 0} (t : Bool) (f g : FrameFault) (x : A) →
    cond t (refused f) (refused g) ≡ value x → ⊥
neither true f g x e = cc
neither false f g x e = cc

pub bind_ok : {A B : Type 0} (r : Result A FrameFault) (f : A → Result B FrameFault) (y : B) →
    (r >>= f) ≡ Ok y → (x : A) × (r ≡ Ok x) × (f x ≡ Ok y)
bind_ok (Ok x) f y e = (x, refl, e)
bind_ok (Err d) f y e = absurd cc

abbrev pub IsDigit : ℕ → Type 0
IsDigit b = is_ascii_digit b ≡ true

abbrev pub Point : Type 0
Point = ℕ × ℕ × List ℕ

-- ---- gaps

pub record GapRead (commented : Bool) (at : ℕ) (bytes : List ℕ) (read : Point) : Type 0 where
  pub gap : List ℕ
  pub runs : Runs commented gap false
  pub parts : bytes ≡ gap ++ (read.0 ∷ read.2)
  pub place : read.1 ≡ at + length gap + 1
  pub room : read.1 ≤ header_limit
  pub other : begins_gap read.0 ≡ false

pub gap-found : (commented : Bool) (at : ℕ) (bytes : List ℕ) (read : Point) →
    gap_at commented at bytes ≡ Ok read → GapRead commented at bytes read
gap-found commented at [] read e = absurd (neither (nat_lt at header_limit) _ _ read e)
gap-found commented at (x ∷ bytes) read e =
    let on : Read ℕ = gap_at (stays_open commented x) (suc at) bytes in
    elim (chosen (nat_lt at header_limit)
    (cond (goes_on commented x) on (Ok (x, suc at, bytes))) (Err HeaderTooLong)
    (Ok read) e) [
      | inr late ↦ absurd (no-value late.1)
      | inl early ↦
          let lt : at < header_limit = ltb-true at header_limit early.0 in
          elim (chosen (goes_on commented x) on (Ok (x, suc at, bytes)) (Ok read) early.1) [
            | inl more ↦
                let rest = gap-found (stays_open commented x) (suc at) bytes read more.1 in
                record {
                  gap = x ∷ rest.gap;
                  runs = (more.0, rest.runs);
                  parts = ap (λ (t : List ℕ). x ∷ t) rest.parts;
                  place = omega (arith, rest.place);
                  room = rest.room;
                  other = rest.other;
                }
            | inr last ↦
                let same : (let p : Point = (x, suc at, bytes) in p) ≡ read =
                value-is (x, suc at, bytes) read last.1 in
                let tests = or_parts commented (begins_gap x) last.0 in
                subst (λ (p : Point). GapRead commented at (x ∷ bytes) p) same (record {
                  gap = [];
                  runs = tests.0;
                  parts = refl;
                  place = omega arith;
                  room = omega arith;
                  other = tests.1;
                })
          ]
    ]

-- ---- digits

-- a number and the byte that ends it
abbrev pub Number : Type 0
Number = (ℕ × ℕ) × ℕ × List ℕ

pub record DigitsRead (last : Bool) (n at : ℕ) (bytes : List ℕ) (read : Number) : Type 0 where
  pub digits : List ℕ
  pub ascii : All IsDigit digits
  pub ends : ends_number last read.0.1 ≡ true
  pub worth : value_from n digits ≡ read.0.0
  pub parts : bytes ≡ digits ++ (read.0.1 ∷ read.2)
  pub place : read.1 ≡ at + length digits + 1
  pub room : read.1 ≤ header_limit

digits-found : (last : Bool) (n at : ℕ) (bytes : List ℕ) (read : Number) →
    digits_at last n at bytes ≡ Ok read → DigitsRead last n at bytes read
digits-found last n at [] read e = absurd (neither (nat_lt at header_limit) _ _ read e)
digits-found last n at (x ∷ bytes) read e =
    let on : Read (ℕ × ℕ) = digits_at last (10 * n + (x - 48)) (suc at) bytes in
    let inner : Read (ℕ × ℕ) = cond (is_ascii_digit x) on (Err (BadHeader at)) in
    elim (chosen (nat_lt at header_limit)
    (cond (ends_number last x) (Ok ((n, x), suc at, bytes)) inner)
    (Err HeaderTooLong) (Ok read) e) [
      | inr late ↦ absurd (no-value late.1)
      | inl early ↦
          let lt : at < header_limit = ltb-true at header_limit early.0 in
          elim (chosen (ends_number last x) (Ok ((n, x), suc at, bytes)) inner (Ok read) early.1) [
            | inl ends ↦
                let same : (let p : Number = ((n, x), suc at, bytes) in p) ≡ read =
                value-is ((n, x), suc at, bytes) read ends.1 in
                subst (λ (p : Number). DigitsRead last n at (x ∷ bytes) p) same (record {
                  digits = [];
                  ascii = All-nil IsDigit;
                  ends = ends.0;
                  worth = refl;
                  parts = refl;
                  place = omega arith;
                  room = omega arith;
                })
            | inr other ↦ elim (chosen (is_ascii_digit x) on (Err (BadHeader at))
                (Ok read) other.1) [
                  | inl more ↦
                      let rest = digits-found last
                      (10 * n + (x - 48)) (suc at) bytes read more.1 in
                      record {
                        digits = x ∷ rest.digits;
                        ascii = All-cons IsDigit x rest.digits more.0 rest.ascii;
                        ends = rest.ends;
                        worth = rest.worth;
                        parts = ap (λ (t : List ℕ). x ∷ t) rest.parts;
                        place = omega (arith, rest.place);
                        room = rest.room;
                      }
                  | inr bad ↦ absurd (no-value bad.1)
                ]
          ]
    ]

-- ---- numbers

pub record NumberRead (last : Bool) (begun at : ℕ) (bytes : List ℕ)
    (read : Number) : Type 0 where
  pub gap : List ℕ
  pub digits : List ℕ
  pub runs : Runs (eqb begun 35) gap false
  pub numeral : IsNumeral digits read.0.0
  pub ends : ends_number last read.0.1 ≡ true
  pub parts : bytes ≡ gap ++ (digits ++ (read.0.1 ∷ read.2))
  pub place : read.1 ≡ at + length gap + length digits + 1
  pub room : read.1 ≤ header_limit

abbrev pub behind_gap : Bool → Point → Read (ℕ × ℕ)
behind_gap last first = cond (is_ascii_digit first.0)
    (digits_at last (first.0 - 48) first.1 first.2) (Err (BadHeader (first.1 - 1)))

pub number-found : (last : Bool) (begun at : ℕ) (bytes : List ℕ) (read : Number) →
    number_at last begun at bytes ≡ Ok read → NumberRead last begun at bytes read
unfolding number_at
number-found last begun at bytes read e =
    let prefix = bind_ok (gap_at (eqb begun 35) at bytes) (behind_gap last) read e in
    let first = prefix.0 in
    let found = gap-found (eqb begun 35) at bytes first prefix.1 in
    elim (chosen (is_ascii_digit first.0) (digits_at last (first.0 - 48) first.1 first.2)
    (Err (BadHeader (first.1 - 1))) (Ok read) prefix.2) [
      | inr bad ↦ absurd (no-value bad.1)
      | inl good ↦
          let rest = digits-found last (first.0 - 48) first.1 first.2 read good.1 in
          let from : 10 * 0 + (first.0 - 48) ≡ first.0 - 48 = omega arith in
          record {
            gap = found.gap;
            digits = first.0 ∷ rest.digits;
            runs = found.runs;
            numeral = record {
              some = omega arith;
              ascii = All-cons IsDigit first.0 rest.digits good.0 rest.ascii;
              worth = ap (λ (k : ℕ). value_from k rest.digits) from ∙ rest.worth;
            };
            ends = rest.ends;
            parts = found.parts ∙ ap (λ (t : List ℕ). found.gap ++ (first.0 ∷ t)) rest.parts;
            place = omega (arith, found.place, rest.place);
            room = rest.room;
          }
    ]

abbrev pub Choice : Type 0
Choice = (Option ℕ × ℕ) × ℕ × List ℕ

abbrev pub choice_of : ℕ → ℕ → Number → Choice
choice_of low high number = (
  (
    cond (nat_le low number.0.0 && nat_le number.0.0 high) (Some number.0.0) None,
    number.0.1,
  ),
  number.1,
  number.2,
)

abbrev pub judged : ℕ → ℕ → Number → Read (Option ℕ × ℕ)
judged low high number = Ok (choice_of low high number)

-- a number within the range
ranged-found : (last : Bool) (low high begun at : ℕ) (bytes : List ℕ) (n : ℕ) (read : Choice) →
    ranged_at last low high begun at bytes ≡ Ok read → read.0.0 ≡ Some n
    → NumberRead last begun at bytes ((n, read.0.1), read.1, read.2) × (low ≤ n) × (n ≤ high)
unfolding ranged_at
ranged-found last low high begun at bytes n read e is =
    let number = bind_ok (number_at last begun at bytes) (judged low high) read e in
    let x = number.0 in
    let same : choice_of low high x ≡ read =
    value-is (choice_of low high x) read number.2 in
    let chose = cond_some (nat_le low x.0.0 && nat_le x.0.0 high) x.0.0 n
    (ap (λ (p : Choice). p.0.0) same ∙ is) in
    let tests = and_parts (nat_le low x.0.0) (nat_le x.0.0 high) chose.0 in
    let end : x.0.1 ≡ read.0.1 = ap (λ (p : Choice). p.0.1) same in
    let place : x.1 ≡ read.1 = ap (λ (p : Choice). p.1) same in
    let behind : x.2 ≡ read.2 = ap (λ (p : Choice). p.2) same in
    let point : (let p : Number = ((x.0.0, x.0.1), x.1, x.2) in p)
    ≡ ((n, read.0.1), read.1, read.2) =
    rw (chose.1, end, place, behind) refl in
    let low_is : low ≤ n = rw chose.1 at (leb-true low x.0.0 tests.0) in
    let high_is : n ≤ high = rw chose.1 at (leb-true x.0.0 high tests.1) in (
      subst (λ (p : Number). NumberRead last begun at bytes p) point
          (number-found last begun at bytes x number.1),
      low_is,
      high_is,
    )

-- ---- the header

some-of : (fault : FrameFault) (o : Option ℕ) (n : ℕ) → or_fault fault o ≡ Ok n → o ≡ Some n
some-of fault None n e = absurd cc
some-of fault (Some x) n e = let same : x ≡ n = value-is x n e in rw same refl

byte-found : (at : ℕ) (bytes : List ℕ) (read : Point) → byte_at at bytes ≡ Ok read →
    (bytes ≡ read.0 ∷ read.2) × (read.1 ≡ suc at)
byte-found at [] read e = absurd (neither (nat_lt at header_limit) _ _ read e)
byte-found at (b ∷ bytes) read e =
    elim (chosen (nat_lt at header_limit) (Ok (b, suc at, bytes)) (Err HeaderTooLong) (Ok read) e) [
      | inr late ↦ absurd (no-value late.1)
      | inl early ↦
          let same : (let p : Point = (b, suc at, bytes) in p) ≡ read =
          value-is (b, suc at, bytes) read early.1 in
          subst (λ (p : Point). (b ∷ bytes ≡ p.0 ∷ p.2) × (p.1 ≡ suc at)) same (refl, refl)
    ]

abbrev behind_first : ℕ → Point → Read ℕ
behind_first wanted first = cond (eqb first.0 wanted) (byte_at first.1 first.2) (Err NotPpm)

-- one byte of the magic number, and the byte after it
letter-found : (wanted : ℕ) (first read : Point) → behind_first wanted first ≡ Ok read →
    (first.0 ≡ wanted) × (first.2 ≡ read.0 ∷ read.2) × (read.1 ≡ suc first.1)
letter-found wanted first read e =
    elim (chosen (eqb first.0 wanted) (byte_at first.1 first.2) (Err NotPpm) (Ok read) e) [
      | inr other ↦ absurd (no-value other.1)
      | inl right ↦
          let rest = byte-found first.1 first.2 read right.1 in
          (eqb-true first.0 wanted right.0, rest.0, rest.1)
    ]

abbrev magic_end : Point → Point → Read ℕ
magic_end second gap = cond (begins_gap gap.0) (Ok (gap.0, gap.1, gap.2)) (Err (BadHeader second.1))

abbrev behind_second : Point → Read ℕ
behind_second second = behind_first 54 second >>= magic_end second

abbrev behind_letter : Point → Read ℕ
behind_letter first = behind_first 80 first >>= behind_second

pub record MagicRead (bytes : List ℕ) (read : Point) : Type 0 where
  pub begins : begins_gap read.0 ≡ true
  pub parts : bytes ≡ 80 ∷ 54 ∷ read.0 ∷ read.2
  pub place : read.1 ≡ 3

pub magic-found : (bytes : List ℕ) (read : Point) → magic_at 0 bytes ≡ Ok read →
    MagicRead bytes read
unfolding magic_at
magic-found bytes read e =
    let a = bind_ok (byte_at 0 bytes) behind_letter read e in
    let b = bind_ok (behind_first 80 a.0) behind_second read a.2 in
    let c = bind_ok (behind_first 54 b.0) (magic_end b.0) read b.2 in
    let p = byte-found 0 bytes a.0 a.1 in
    let six = letter-found 80 a.0 b.0 b.1 in
    let gap = letter-found 54 b.0 c.0 c.1 in
    let whole : bytes ≡ 80 ∷ 54 ∷ c.0.0 ∷ c.0.2 =
    joined bytes a.0 b.0 c.0 p.0 six.0 six.1 gap.0 gap.1 in
    elim (chosen (begins_gap c.0.0) (Ok (c.0.0, c.0.1, c.0.2)) (Err (BadHeader b.0.1))
    (Ok read) c.2) [
      | inr other ↦ absurd (no-value other.1)
      | inl begins ↦
          let same : (let m : Point = (c.0.0, c.0.1, c.0.2) in m) ≡ read =
          value-is (c.0.0, c.0.1, c.0.2) read begins.1 in
          subst (λ (m : Point). MagicRead bytes m) same (record {
            begins = begins.0;
            parts = whole;
            place = omega (arith, p.1, six.2, gap.2);
          })
    ]
  where
    joined : (bytes : List ℕ) (a b c : Point) → bytes ≡ a.0 ∷ a.2 → a.0 ≡ 80 → a.2 ≡ b.0 ∷ b.2 →
        b.0 ≡ 54 → b.2 ≡ c.0 ∷ c.2 → bytes ≡ 80 ∷ 54 ∷ c.0 ∷ c.2
    joined bytes a b c p q r s t = cc

pub whole-header : (g e1 e2 e3 : ℕ) (g1 w g2 h g3 m rest a b c bytes : List ℕ) →
    bytes ≡ 80 ∷ 54 ∷ g ∷ a → a ≡ g1 ++ (w ++ (e1 ∷ b)) → b ≡ g2 ++ (h ++ (e2 ∷ c)) →
    c ≡ g3 ++ (m ++ (e3 ∷ rest))
    → bytes ≡ header (record {
      gap1 = g ∷ g1;
      width = w;
      gap2 = e1 ∷ g2;
      height = h;
      gap3 =
          e2 ∷ g3;
      maxval = m;
      end = e3;
    }) ++ rest
whole-header g e1 e2 e3 g1 w g2 h g3 m rest a b c bytes p q r s =
    p ∙ rw (q, r, s) (simp append_assoc)

pub length-header : (g e1 e2 e3 : ℕ) (g1 w g2 h g3 m : List ℕ)
    → length (header (record {
      gap1 = g ∷ g1;
      width = w;
      gap2 = e1 ∷ g2;
      height = h;
      gap3 =
          e2 ∷ g3;
      maxval = m;
      end = e3;
    }))
    ≡ 3 + length g1 + length w + 1 + length g2 + length h + 1 + length g3 + length m + 1
length-header g e1 e2 e3 g1 w g2 h g3 m = simp length-append (omega arith)

abbrev pub Sizes : Type 0
Sizes = (ℕ × ℕ) × ℕ × List ℕ

abbrev pub step7 : ℕ → ℕ → Choice → ℕ → Result Sizes FrameFault
step7 w h maxval m = Ok ((w, h), maxval.1, maxval.2)

abbrev pub step6 : ℕ → ℕ → Choice → Result Sizes FrameFault
step6 w h maxval = or_fault WrongMaxval maxval.0.0 >>= step7 w h maxval

abbrev pub step5 : ℕ → Choice → ℕ → Result Sizes FrameFault
step5 w height h = ranged_at true 4095 4095 height.0.1 height.1 height.2 >>= step6 w h

abbrev pub step4 : ℕ → Choice → Result Sizes FrameFault
step4 w height = or_fault HeightOutOfRange height.0.0 >>= step5 w height

abbrev pub step3 : SizeLimits → Choice → ℕ → Result Sizes FrameFault
step3 limits width w = ranged_at false 1 limits.height width.0.1 width.1 width.2 >>= step4 w

abbrev pub step2 : SizeLimits → Choice → Result Sizes FrameFault
step2 limits width = or_fault WidthOutOfRange width.0.0 >>= step3 limits width

abbrev pub step1 : SizeLimits → Point → Result Sizes FrameFault
step1 limits magic = ranged_at false 1 limits.width magic.0 magic.1 magic.2 >>= step2 limits

pub record HeaderRead (limits : SizeLimits) (bytes : List ℕ) (read : Sizes) : Type 0 where
  pub parts : Parts
  pub is_header : IsHeader parts read.0.0 read.0.1
  pub whole : bytes ≡ header parts ++ read.2
  pub within : IsWithin limits read.0.0 read.0.1
  pub place : read.1 ≡ length (header parts)

pub header-found : (limits : SizeLimits) (bytes : List ℕ) (read : Sizes) →
    header_at limits bytes ≡ Ok read → HeaderRead limits bytes read
unfolding header_at
header-found limits bytes read e =
    let a = bind_ok (magic_at 0 bytes) (step1 limits) read e in
    let b = bind_ok (ranged_at false 1 limits.width a.0.0 a.0.1 a.0.2) (step2 limits) read a.2 in
    let w = bind_ok (or_fault WidthOutOfRange b.0.0.0) (step3 limits b.0) read b.2 in
    let c = bind_ok (ranged_at false 1 limits.height b.0.0.1 b.0.1 b.0.2) (step4 w.0) read w.2 in
    let h = bind_ok (or_fault HeightOutOfRange c.0.0.0) (step5 w.0 c.0) read c.2 in
    let d = bind_ok (ranged_at true 4095 4095 c.0.0.1 c.0.1 c.0.2) (step6 w.0 h.0) read h.2 in
    let m = bind_ok (or_fault WrongMaxval d.0.0.0) (step7 w.0 h.0 d.0) read d.2 in
    let magic = magic-found bytes a.0 a.1 in
    let width = ranged-found false 1 limits.width a.0.0 a.0.1 a.0.2 w.0 b.0 b.1
    (some-of WidthOutOfRange b.0.0.0 w.0 w.1) in
    let height = ranged-found false 1 limits.height b.0.0.1 b.0.1 b.0.2 h.0 c.0 c.1
    (some-of HeightOutOfRange c.0.0.0 h.0 h.1) in
    let maxval = ranged-found true 4095 4095 c.0.0.1 c.0.1 c.0.2 m.0 d.0 d.1
    (some-of WrongMaxval d.0.0.0 m.0 m.1) in
    put a.0.0 w.0 b.0.0.1 h.0 c.0.0.1 m.0 d.0.0.1 a.0.1 b.0.1 c.0.1 d.0.1 a.0.2 b.0.2 c.0.2 d.0.2
    bytes read magic.begins
    magic.parts magic.place width.0 height.0 maxval.0
    (omega (arith, maxval.1, maxval.2))
    (record {
      some_width = width.1;
      width_in_limits = width.2;
      some_height =
          height.1;
      height_in_limits = height.2;
    }) (value-is ((w.0, h.0), d.0.1, d.0.2) read m.2)
  where
    put : (g w e1 h e2 m e3 at1 at2 at3 at4 : ℕ) (r1 r2 r3 r4 bytes : List ℕ) (read : Sizes) →
        begins_gap g ≡ true → bytes ≡ 80 ∷ 54 ∷ g ∷ r1 → at1 ≡ 3
        → NumberRead false g at1 r1 ((w, e1), at2, r2) →
        NumberRead false e1 at2 r2 ((h, e2), at3, r3) →
        NumberRead true e2 at3 r3 ((m, e3), at4, r4) → m ≡ 4095
        → IsWithin limits w h → (let s : Sizes = ((w, h), at4, r4) in s) ≡ read →
        HeaderRead limits bytes read
    put g w e1 h e2 m e3 at1 at2 at3 at4 r1 r2 r3 r4 bytes read begins magic three width height
        maxval is within same =
        subst (λ (s : Sizes). HeaderRead limits bytes s) same (record {
          parts = record {
            gap1 = g ∷ width.gap;
            width = width.digits;
            gap2 = e1 ∷ height.gap;
            height = height.digits;
            gap3 = e2 ∷ maxval.gap;
            maxval = maxval.digits;
            end = e3;
          };
          is_header = record {
            gap1 = gap-of g width.gap (begins, width.runs);
            width_is = width.numeral;
            gap2 = gap-of e1 height.gap (width.ends, height.runs);
            height_is = height.numeral;
            gap3 = gap-of e2 maxval.gap (height.ends, maxval.runs);
            maxval = rw is at maxval.numeral;
            ended = maxval.ends;
            short = omega (
              arith,
              length-header g e1 e2 e3 width.gap width.digits height.gap
                  height.digits maxval.gap maxval.digits,
              width.place,
              height.place,
              maxval.place,
              maxval.room,
            );
          };
          whole = whole-header g e1 e2 e3 width.gap width.digits height.gap
              height.digits maxval.gap maxval.digits r4 r1 r2 r3 bytes
              magic width.parts height.parts maxval.parts;
          within = within;
          place = omega (
            arith,
            length-header g e1 e2 e3 width.gap width.digits height.gap
                height.digits maxval.gap maxval.digits,
            three,
            width.place,
            height.place,
            maxval.place,
          );
        })

-- ---- the file

abbrev nothing_in : List ℕ → Result (Unit {0}) FrameFault
nothing_in rest = ended empty rest

at-end : (rest : List ℕ) → nothing_in rest ≡ value empty → rest ≡ []
at-end [] e = refl
at-end (x ∷ rest) e = absurd cc

pub file-found : (limits : SizeLimits) (p : Picture) (bytes : List ℕ) (w h at : ℕ)
    (prefix rest : List ℕ) → header_at limits bytes ≡ Ok ((w, h), at, prefix)
    → p.width ≡ w → p.height ≡ h → prefix ≡ raster p ++ rest → nothing_in rest ≡ value empty →
    Spells bytes p
file-found limits p bytes w h at prefix rest e wide tall parts last =
    let head = header-found limits bytes ((w, h), at, prefix) e in
    let behind : prefix ≡ raster p = parts ∙ ap (λ (t : List ℕ). raster p ++ t) (at-end rest last)
    ∙ append-nil (raster p) in (
      head.parts,
      rw (wide, tall) head.is_header,
      head.whole
          ∙ ap (λ (t : List ℕ). header head.parts ++ t) behind,
    )

-- What a reader of bits has opened.
use Rattle.std.proofs.Common.{◌≡◌, ℕ, suc, zero, ◌+◌, ◌-◌, ◌*◌, ◌/◌, ◌%◌, ◌^◌, ◌<◌, ◌≤◌, Bool, true}
use Rattle.std.proofs.Common.{false, List, [], ◌∷◌, ◌++◌, length, take, drop, get_or, refl, sym, ap}
use Rattle.std.proofs.Common.{◌∙◌, inl, inr, arith, append_assoc, length-append, add-one, ltb}
use Rattle.std.specs.Prelude.{◌==◌, ◌⊎◌}
use Rattle.std.proofs.lemmas.Bool.{leb-false, ne_eqb, eq-eqb, le-leb, lt-leb, lt-ltb, le-ltb}
use Rattle.std.proofs.lemmas.Bool.{cases_lt, cases_eq}
use Rattle.std.proofs.lemmas.Bool.Decides.{eqb_tells}
use Rattle.std.proofs.lemmas.List.{append-nil, take_at, length-take-le, take_more, drop_more}
use Rattle.std.proofs.lemmas.List.{drop_all, take-take, take-append-drop, length-drop, get_or-take}
use Rattle.std.proofs.lemmas.List.{get_or-append_right}
use Rattle.std.proofs.Math.Nat.{pow-succ', div-div-eq-div-mul}
use Rattle.bit_stuffing.specs.Bits.{number, byte_width, useful, IsStuffed, ends_in_ff}
use Rattle.bit_stuffing.specs.Stuffing.{Closes, Stuffs, is_broken, supply_from, supply, fault_from}
use Rattle.bit_stuffing.specs.Stuffing.{fault_of, place_from, place_of}
use Rattle.bit_stuffing.specs.Source.{BitSource}
use Rattle.bit_stuffing.specs.Inside.{Opens, opened_bits}
use Rattle.bit_stuffing.specs.declared.fault.BitFault.{BitFault}
use Rattle.bit_stuffing.specs.declared.fault.BitFault.TheVariants.{OutOfBits, StuffedBitSet}
use Rattle.bit_stuffing.proofs.BitLemmas.{number-length, useful-append, useful-push, useful-length}
use Rattle.bit_stuffing.proofs.BitLemmas.{ends-push, stuffed-push, stuffed-split, width_le}
use Rattle.bit_stuffing.proofs.PackLemmas.{closes_none, closes_byte}

-- the bit of n above its low r bits
abbrev pub bit_above : ℕ → ℕ → Bool
bit_above n r = (n / 2 ^ r) % 2 == 1

pub number-head : (r n : ℕ) → number (suc r) n ≡ bit_above n r ∷ number r n
unfolding number
number-head zero n = let e : n / 1 ≡ n = omega arith in rw e refl
number-head (suc r) n =
    let d : n / 2 / 2 ^ r ≡ n / 2 ^ suc r = div-div-eq-div-mul n 2 (2 ^ r)
    ∙ ap (λ k. n / k) (sym (pow-succ' 2 r)) in
    ap (λ bits. bits ++ (n % 2 == 1) ∷ []) (number-head r (n / 2))
    ∙ ap (λ k. (k % 2 == 1) ∷ (number r (n / 2) ++ (n % 2 == 1) ∷ [])) d

pub number-head_at : (w r n : ℕ) → w ≡ r + 1 → number w n ≡ bit_above n r ∷ number r n
number-head_at w r n e = rw (e, add-one) (number-head r n)

front_of : (whole front back : List Bool) (k : ℕ) → whole ≡ front ++ back → length back ≡ k
    → take (length whole - k) whole ≡ front
front_of whole front back k e l =
    let n : length front ≡ length (front ++ back) - k = omega (arith, length-append front back) in
    rw e (take_at front back (length (front ++ back) - k) n)

-- the bits of a reader, split after one more
one_more : (whole front back : List Bool) (bit : Bool) → whole ≡ front ++ bit ∷ back
    → whole ≡ (front ++ bit ∷ []) ++ back
one_more whole front back bit e = e ∙ sym (append_assoc front (bit ∷ []) back)

-- A bit of the byte that is open.
module _ (bytes : List ℕ) (opened last left less : ℕ) (opens : Opens bytes opened last left)
    (some : left ≡ less + 1) where
  less_split : useful false (take opened bytes) ≡ (opened_bits bytes opened left
      ++ bit_above last less ∷ []) ++ number less last
  less_split = one_more _ _ _ _ (opens.split ∙ ap (λ b. opened_bits bytes opened left
      ++ b) (number-head_at left less last some))

  pub less_taken : opened_bits bytes opened less ≡ opened_bits bytes opened left
      ++ bit_above last less ∷ []
  less_taken = front_of _ _ _ less less_split (number-length less last)

  pub less_opens : Opens bytes opened last less
  less_opens =
      let few : left < 8 = opens.few in
      record {
        short = opens.short;
        within = opens.within;
        few = omega arith;
        stuffed = opens.stuffed;
        behind = opens.behind;
        split = less_split ∙ ap (λ b. b ++ number less last) (sym less_taken);
        begun = elim opens.begun [
          | inl h ↦ absurd (let l : left ≡ 0 = h.1 in omega arith)
          | inr h ↦
              inr (omega arith)
        ];
      }

  pub less_ahead : number left last ++ supply_from (last == 255) (drop opened bytes)
      ≡ bit_above last less ∷ (number less last ++ supply_from (last == 255) (drop opened bytes))
  less_ahead = ap (λ b. b ++ supply_from (last == 255) (drop opened bytes))
      (number-head_at left less last some)

unbroken : (a : Bool) (byte : ℕ) → is_broken a byte ≡ false → byte < 256 → byte < 2 ^ byte_width a
unbroken true byte h b = leb-false 128 byte h
unbroken false byte h b = b

none_left : (left n : ℕ) → left ≤ 0 → number left n ≡ []
unfolding number
none_left zero n h = refl
none_left (suc left) n h = absurd (omega arith)

-- The first bit of a byte that is opened.
module _ (bytes : List ℕ) (opened last left byte less : ℕ) (opens : Opens bytes opened last left)
    (none : left ≤ 0)
    (inside : opened < length bytes) (byte_is : get_or bytes opened 0 ≡ byte) (small : byte < 256)
    (whole : is_broken (last == 255) byte ≡ false) (less_is : byte_width (last == 255) ≡ less + 1)
  where
    more_taken : take (opened + 1) bytes ≡ take opened bytes ++ byte ∷ []
    more_taken = take_more bytes opened 0 inside ∙ ap (λ b. take opened bytes ++ b ∷ []) byte_is

    more_useful : useful false (take (opened + 1) bytes) ≡ useful false (take opened bytes)
        ++ number (byte_width (last == 255)) byte
    more_useful = ap (useful false) more_taken
        ∙ useful-push false (take opened bytes) byte
        ∙ ap (λ e. useful false (take opened bytes) ++ number (byte_width e) byte) opens.behind

    all_taken : useful false (take opened bytes) ≡ opened_bits bytes opened left
    all_taken = opens.split ∙ ap (λ b. opened_bits bytes opened left
        ++ b) (none_left left last none)
        ∙ append-nil (opened_bits bytes opened left)

    open_split : useful false (take (opened + 1) bytes) ≡ (opened_bits bytes opened left
        ++ bit_above byte less ∷ []) ++ number less byte
    open_split = one_more _ _ _ _ (more_useful
        ∙ ap (λ b. b ++ number (byte_width (last == 255)) byte) all_taken
        ∙ ap (λ b. opened_bits bytes opened left
        ++ b) (number-head_at (byte_width (last == 255)) less byte less_is))

    pub open_taken : opened_bits bytes (opened + 1) less ≡ opened_bits bytes opened left
        ++ bit_above byte less ∷ []
    open_taken = front_of _ _ _ less open_split (number-length less byte)

    open_begun : length (useful false (take (opened + 1 - 1) bytes)) + less
        < length (useful false (take (opened + 1) bytes))
    open_begun =
        let back : opened + 1 - 1 ≡ opened = omega arith in
        rw (back, more_useful, length-append, number-length) (omega arith)

    pub open_opens : Opens bytes (opened + 1) byte less
    open_opens = record {
      short = opens.short;
      within = omega arith;
      few = omega (arith, width_le (last == 255));
      stuffed = rw more_taken (stuffed-push false (take opened bytes) byte opens.stuffed
          (rw opens.behind (unbroken (last == 255) byte whole small)));
      behind = rw more_taken (ends-push false (take opened bytes) byte);
      split = open_split ∙ ap (λ b. b ++ number less byte) (sym open_taken);
      begun = inr open_begun;
    }

    pub open_ahead : number left last ++ supply_from (last == 255) (drop opened bytes)
        ≡ bit_above byte less ∷ (number less byte
        ++ supply_from (byte == 255) (drop (opened + 1) bytes))
    unfolding supply_from
    open_ahead =
        ap (λ b. b ++ supply_from (last == 255) (drop opened bytes)) (none_left left last none)
        ∙ ap (supply_from (last == 255)) (drop_more bytes opened 0 inside
        ∙ ap (λ b. b ∷ drop (opened + 1) bytes) byte_is)
        ∙ rw whole refl
        ∙ ap (λ b. b ++ supply_from (byte == 255) (drop (opened + 1) bytes))
        (number-head_at (byte_width (last == 255)) less byte less_is)

stuffed_unbroken : (a : Bool) (byte : ℕ) → byte < 2 ^ byte_width a → is_broken a byte ≡ false
stuffed_unbroken true byte h = lt-leb 128 byte h
stuffed_unbroken false byte h = refl

-- the fault lies after bytes that can be read
fault-append : (place : ℕ) (a : Bool) (xs ys : List ℕ) → IsStuffed a xs
    → fault_from place a (xs ++ ys) ≡ fault_from (place + length xs) (ends_in_ff a xs) ys
unfolding fault_from IsStuffed ends_in_ff
fault-append place a [] ys s = let e : place + 0 ≡ place = omega arith in rw e refl
fault-append place a (x ∷ xs) ys s =
    let e : place + suc (length xs) ≡ place + 1 + length xs = omega arith in
    rw (stuffed_unbroken a x s.0, e) (fault-append (place + 1) (x == 255) xs ys s.1)

pub supply-append : (a : Bool) (xs ys : List ℕ) → IsStuffed a xs
    → supply_from a (xs ++ ys) ≡ useful a xs ++ supply_from (ends_in_ff a xs) ys
unfolding supply_from IsStuffed ends_in_ff useful
supply-append a [] ys s = refl
supply-append a (x ∷ xs) ys s =
    rw (stuffed_unbroken a x s.0) (ap (λ b. number (byte_width a) x
    ++ b) (supply-append (x == 255) xs ys s.1)
    ∙ sym (append_assoc (number (byte_width a) x) (useful (x == 255) xs)
    (supply_from (ends_in_ff (x == 255) xs) ys)))

-- the fault, from what is opened on
pub fault_ahead : (bytes : List ℕ) (opened last left : ℕ) → Opens bytes opened last left
    → fault_of bytes ≡ fault_from opened (last == 255) (drop opened bytes)
fault_ahead bytes opened last left opens =
    let l : length (take opened bytes) ≡ opened = length-take-le opened bytes opens.within in
    ap (fault_from 0 false) (sym (take-append-drop opened bytes))
    ∙ fault-append 0 false (take opened bytes) (drop opened bytes) opens.stuffed
    ∙ ap (λ n. fault_from n (ends_in_ff false (take opened bytes)) (drop opened bytes))
    (let e : 0 + length (take opened bytes) ≡ opened = omega arith in e)
    ∙ ap (λ e. fault_from opened e (drop opened bytes)) opens.behind

-- at the end of the bytes
pub end_ahead : (bytes : List ℕ) (opened last left : ℕ) → opened ≡ length bytes → left ≤ 0
    → number left last ++ supply_from (last == 255) (drop opened bytes) ≡ []
unfolding supply_from
end_ahead bytes opened last left e none =
    ap (λ b. b ++ supply_from (last == 255) (drop opened bytes)) (none_left left last none)
    ∙ ap (supply_from (last == 255)) (drop_all opened bytes (omega arith))

-- a stuffed bit that is 1
pub is_broken-true : (last byte : ℕ) → last ≡ 255 → 128 ≤ byte → is_broken (last == 255) byte ≡ true
is_broken-true last byte e h = let f = eq-eqb last 255 e in let b = le-leb 128 byte h in
    rw (f, b) refl

-- the fault that the fields' reader tells is the reader's
pub fault_along : (s t : BitSource) (f : BitFault) → s ≡ t → f ≡ fault_of s.bytes
    → f ≡ fault_of t.bytes
fault_along s t f e h = h ∙ ap (λ (r : BitSource). fault_of r.bytes) e

pub end_fault : (bytes : List ℕ) (opened last left : ℕ) → Opens bytes opened last left
    → opened ≡ length bytes
    → OutOfBits opened ≡ fault_of bytes
unfolding fault_from
end_fault bytes opened last left opens e =
    sym (fault_ahead bytes opened last left opens
    ∙ ap (fault_from opened (last == 255)) (drop_all opened bytes (omega arith)))

-- at a byte that can't be read
pub broken_ahead : (bytes : List ℕ) (opened last left byte : ℕ) → opened < length bytes
    → get_or bytes opened 0 ≡ byte → left ≤ 0
    → is_broken (last == 255) byte ≡ true → number left last
    ++ supply_from (last == 255) (drop opened bytes) ≡ []
unfolding supply_from
broken_ahead bytes opened last left byte inside is none broken =
    ap (λ b. b ++ supply_from (last == 255) (drop opened bytes)) (none_left left last none)
    ∙ ap (supply_from (last == 255)) (drop_more bytes opened 0 inside
    ∙ ap (λ b. b ∷ drop (opened + 1) bytes) is)
    ∙ rw broken refl

pub broken_fault : (bytes : List ℕ) (opened last left byte : ℕ) → Opens bytes opened last left
    → opened < length bytes → get_or bytes opened 0 ≡ byte
    → is_broken (last == 255) byte ≡ true → StuffedBitSet opened ≡ fault_of bytes
unfolding fault_from
broken_fault bytes opened last left byte opens inside is broken =
    sym (fault_ahead bytes opened last left opens
    ∙ ap (fault_from opened (last == 255)) (drop_more bytes opened 0 inside
    ∙ ap (λ b. b ∷ drop (opened + 1) bytes) is)
    ∙ rw broken refl)

-- Of two beginnings of the bytes the longer has at least seven bits more for each byte more.
useful_more : (bytes : List ℕ) (i k : ℕ) → i ≤ k → k ≤ length bytes
    → length (useful false (take i bytes)) + 7 * (k - i) ≤ length (useful false (take k bytes))
useful_more bytes i k h l =
    let front : take i (take k bytes) ≡ take i bytes = take-take i k bytes h in
    let e = sym (ap (λ b. b ++ drop i (take k bytes)) front) ∙ take-append-drop i (take k bytes) in
    let u = ap (λ b. length (useful false b)) e in
    let a = useful-append false (take i bytes) (drop i (take k bytes)) in
    let n : length (drop i (take k bytes)) ≡ k - i = length-drop i (take k bytes)
    ∙ ap (λ n. n - i) (length-take-le k bytes l) in
    let seven = useful-length (ends_in_ff false (take i bytes)) (drop i (take k bytes)) in
    let whole = ap length a ∙ length-append (useful false (take i bytes))
    (useful (ends_in_ff false (take i bytes)) (drop i (take k bytes))) in
    omega arith

take_of : (n c : ℕ) (bytes core more : List ℕ) → take n bytes ≡ core ++ more → length core ≡ c
    → n ≤ length bytes → take c bytes ≡ core
take_of n c bytes core more e l h =
    let within : c ≤ n = omega (
      arith,
      ap length e,
      length-append core more,
      length-take-le n bytes h,
    ) in
    sym (take-take c n bytes within) ∙ ap (take c) e ∙ take_at core more c l

-- The whole of what is taken and left.
lengths : (bytes : List ℕ) (opened last left : ℕ) → Opens bytes opened last left
    → length (useful false (take opened bytes)) ≡ length (opened_bits bytes opened left) + left
lengths bytes opened last left opens =
    ap length opens.split ∙ length-append (opened_bits bytes opened left) (number left last)
    ∙ ap (λ n. length (opened_bits bytes opened left) + n) (number-length left last)

-- what follows a header's core
after_core : (n c : ℕ) (bytes core more : List ℕ) → take n bytes ≡ core ++ more → length core ≡ c
    → n ≤ length bytes → n ≡ c + length more
after_core n c bytes core more e l h = omega (
  arith,
  ap length e,
  length-append core more,
  length-take-le n bytes h,
)

closes_length : (e : Bool) (more : List ℕ) → e ≡ false → Closes e more → length more ≡ 0
closes_length false [] h k = refl
closes_length false (x ∷ more) h k = absurd k
closes_length true more h k = cc

-- one byte more
useful_next : (bytes : List ℕ) (opened last left : ℕ) → Opens bytes opened last left
    → opened < length bytes
    → length (useful false (take (opened + 1) bytes)) ≡ length (useful false (take opened bytes))
    + byte_width (last == 255)
useful_next bytes opened last left opens h =
    ap (λ b. length (useful false b)) (take_more bytes opened 0 h)
    ∙ ap length (useful-push false (take opened bytes) (get_or bytes opened 0))
    ∙ length-append (useful false (take opened bytes))
    (number (byte_width (ends_in_ff false (take opened bytes))) (get_or bytes opened 0))
    ∙ ap (λ n. length (useful false (take opened bytes)) + n)
    (number-length (byte_width (ends_in_ff false (take opened bytes))) (get_or bytes opened 0))
    ∙ ap (λ e. length (useful false (take opened bytes)) + byte_width e) opens.behind

-- the core of a header of the bits taken: what is opened, or after FF one byte more
core_is : (bytes : List ℕ) (opened last left c p : ℕ) → Opens bytes opened last left
    → c ≤ length bytes → p < 8
    → length (useful false (take c bytes)) ≡ length (opened_bits bytes opened left) + p
    → (c ≡ opened) ⊎ ((last ≡ 255) × (c ≡ opened + 1))
core_is bytes opened last left c p opens within small u =
    let whole = lengths bytes opened last left opens in
    elim (cases_eq c opened) [
      | inl e ↦ inl e
      | inr ne ↦ elim (cases_lt c opened) [
        | inl less ↦ absurd (elim opens.begun [
          | inl h ↦ (let z : opened ≡ 0 = h.0 in omega arith)
          | inr b ↦ (let m = useful_more bytes c (opened - 1) (omega arith)
              (omega (arith, opens.within)) in omega arith)
        ])
        | inr more ↦
            (let inside : opened < length bytes = omega arith in
            let m = useful_more bytes (opened + 1) c (omega arith) within in
            let next = useful_next bytes opened last left opens inside in
            elim (eqb_tells last 255) [
              | inl t ↦ inr (t.1, (let w = rw t.0 at next in omega arith))
              | inr t ↦ absurd (let w = rw t.0 at next in omega arith)
            ])
      ]
    ]

-- a header of the bits taken
module _ (bytes : List ℕ) (opened last left n : ℕ) (opens : Opens bytes opened last left)
    (inside : n ≤ length bytes)
    (s : Stuffs (opened_bits bytes opened left) (take n bytes)) where
  core_front : take (length s.core) bytes ≡ s.core
  core_front = take_of n (length s.core) bytes s.core s.last s.bytes_are refl inside

  core_place : (length s.core ≡ opened) ⊎ ((last ≡ 255) × (length s.core ≡ opened + 1))
  core_place =
      let after = after_core n (length s.core) bytes s.core s.last s.bytes_are refl inside in
      core_is bytes opened last left (length s.core) (length s.padding) opens (omega arith) s.padded
      (ap (λ b. length (useful false b)) core_front ∙ ap length s.bits_are
      ∙ length-append (opened_bits bytes opened left) s.padding)

  -- where the reader's last byte isn't FF, the header ends with it
  pub only_opened : (last ≡ 255 → ⊥) → n ≡ opened
  only_opened other =
      let after = after_core n (length s.core) bytes s.core s.last s.bytes_are refl inside in
      elim core_place [
        | inl e ↦ (let ends : ends_in_ff false s.core ≡ false =
            ap (ends_in_ff false) (sym core_front) ∙ ap (λ c. ends_in_ff false (take c bytes)) e
            ∙ opens.behind ∙ ne_eqb last 255 other in
            let none = closes_length (ends_in_ff false s.core) s.last ends s.closed in omega arith)
        | inr h ↦ absurd (other h.0)
      ]

byte_closes : (e : Bool) (more : List ℕ) → e ≡ true → Closes e more → (length more ≡ 1)
    × (get_or more 0 0 < 128)
byte_closes true (y ∷ []) h k = (refl, k)
byte_closes true [] h k = absurd k
byte_closes true (_ ∷ _ ∷ _) h k = absurd k
byte_closes false more h k = cc

low_byte : (xs : List ℕ) (y : ℕ) (e : Bool) → ends_in_ff false xs ≡ e → e ≡ true
    → IsStuffed false (xs ++ y ∷ []) → y < 128
unfolding IsStuffed
low_byte xs y e h t s = let r = stuffed-split false xs (y ∷ []) s in let f = (r.1).0 in let w =
    rw (h, t) at f in w

-- where it is FF, one byte more, which is there and has the high bit 0
pub only_next : (bytes : List ℕ) (opened last left n : ℕ) → Opens bytes opened last left
    → n ≤ length bytes
    → Stuffs (opened_bits bytes opened left) (take n bytes) → last ≡ 255
    → (n ≡ opened + 1) × (opened < length bytes) × (get_or bytes opened 0 < 128)
only_next bytes opened last left n opens inside s is =
    let after = after_core n (length s.core) bytes s.core s.last s.bytes_are refl inside in
    let front = core_front bytes opened last left n opens inside s in
    let ff : (last == 255) ≡ true = eq-eqb last 255 is in
    elim (core_place bytes opened last left n opens inside s) [
      | inl e ↦ (let ends : ends_in_ff false s.core ≡ true =
          ap (ends_in_ff false) (sym front) ∙ ap (λ c. ends_in_ff false (take c bytes)) e
          ∙ opens.behind ∙ ff in
          let one = byte_closes (ends_in_ff false s.core) s.last ends s.closed in
          let l : length s.last ≡ 1 = one.0 in
          let n_is : n ≡ opened + 1 = omega arith in
          let byte : get_or bytes opened 0 ≡ get_or s.last 0 0 =
          sym (get_or-take n bytes opened 0 (omega arith)) ∙ ap (λ b. get_or b opened 0) s.bytes_are
          ∙ get_or-append_right s.core s.last opened opened 0 e (omega arith)
          ∙ ap (λ i. get_or s.last i 0) (let z : opened - opened ≡ 0 = omega arith in z) in
          (n_is, omega arith, rw byte one.1))
      | inr h ↦ (let c : length s.core ≡ opened + 1 = h.1 in
          let within : opened < length bytes = omega arith in
          let core : s.core ≡ take opened bytes ++ get_or bytes opened 0 ∷ [] =
          sym front ∙ ap (λ c. take c bytes) h.1 ∙ take_more bytes opened 0 within in
          let st = s.stuffed in
          let st' = rw core at st in
          let low : get_or bytes opened 0 < 128 =
          low_byte (take opened bytes) (get_or bytes opened 0) (last == 255) opens.behind ff
          st' in
          let ends : ends_in_ff false s.core ≡ false =
          ap (ends_in_ff false) core ∙ ends-push false (take opened bytes) (get_or bytes opened 0)
          ∙ ne_eqb (get_or bytes opened 0) 255 (λ k. omega arith) in
          let none = closes_length (ends_in_ff false s.core) s.last ends s.closed in
          (omega arith, within, low))
    ]

-- the header that ends with the reader's last byte
pub stuffs_opened : (bytes : List ℕ) (opened last left : ℕ) → Opens bytes opened last left
    → (last ≡ 255 → ⊥)
    → Stuffs (opened_bits bytes opened left) (take opened bytes)
stuffs_opened bytes opened last left opens other = record {
  core = take opened bytes;
  last = [];
  padding = number left last;
  bytes_are = sym (append-nil (take opened bytes));
  bits_are = opens.split;
  padded = rw (number-length left last) opens.few;
  stuffed = opens.stuffed;
  closed = closes_none (ends_in_ff false (take opened bytes)) (opens.behind
      ∙ ne_eqb last 255 other);
}

-- and the one with a byte more
pub stuffs_next : (bytes : List ℕ) (opened last left : ℕ) → Opens bytes opened last left
    → last ≡ 255 → opened < length bytes → get_or bytes opened 0 < 128
    → Stuffs (opened_bits bytes opened left) (take (opened + 1) bytes)
stuffs_next bytes opened last left opens is inside low = record {
  core = take opened bytes;
  last = get_or bytes opened 0 ∷ [];
  padding = number left last;
  bytes_are = take_more bytes opened 0 inside;
  bits_are = opens.split;
  padded = rw (number-length left last) opens.few;
  stuffed = opens.stuffed;
  closed = closes_byte (ends_in_ff false (take opened bytes)) (get_or bytes opened 0) (opens.behind
      ∙ eq-eqb last 255 is) low;
}

-- the byte of a bit after whole bytes
place-append : (place : ℕ) (a : Bool) (xs : List ℕ) (y : ℕ) (ys : List ℕ) (m n : ℕ)
    → m < byte_width (ends_in_ff a xs) → n ≡ length (useful a xs) + m
    → place_from place a n (xs ++ y ∷ ys) ≡ place + length xs
unfolding place_from ends_in_ff useful
place-append place a [] y ys m n h e =
    let l : ltb n (byte_width a) ≡ true = lt-ltb n (byte_width a) (omega arith) in
    let z : place ≡ place + 0 = omega arith in rw l z
place-append place a (x ∷ xs) y ys m n h e =
    let len = length-append (number (byte_width a) x) (useful (x == 255) xs) in
    let num = number-length (byte_width a) x in
    let l : ltb n (byte_width a) ≡ false = le-ltb n (byte_width a) (omega arith) in
    let z : place + 1 + length xs ≡ place + suc (length xs) = omega arith in
    rw l (place-append (place + 1) (x == 255) xs y ys m (n - byte_width a) h (omega arith) ∙ z)

place_of_some : (bytes : List ℕ) (n : ℕ) → 0 < n → place_of bytes n
    ≡ place_from 0 false (n - 1) bytes
place_of_some bytes zero h = absurd (omega arith)
place_of_some bytes (suc n) h = ap (λ k. place_from 0 false k bytes) (let e : n ≡ suc n - 1 =
    omega arith in e)

-- the place of the last bit taken
pub place_none : (bytes : List ℕ) (opened last left : ℕ) → Opens bytes opened last left → opened ≡ 0
    → 0 ≡ place_of bytes (length (opened_bits bytes opened left))
unfolding useful
place_none bytes opened last left opens e =
    let whole = lengths bytes opened last left opens in
    let u = ap (λ n. length (useful false (take n bytes))) e in
    let t : length (opened_bits bytes opened left) ≡ 0 = omega arith in rw t refl

pub place_last : (bytes : List ℕ) (opened last left : ℕ) → Opens bytes opened last left
    → (opened ≡ 0 → ⊥) → opened - 1 ≡ place_of bytes (length (opened_bits bytes opened left))
place_last bytes opened last left opens some =
    let whole = lengths bytes opened last left opens in
    let before : length (useful false (take (opened - 1) bytes)) + left
    < length (useful false (take opened bytes)) =
    elim opens.begun [ inl h ↦ absurd (some h.0) | inr b ↦ b ] in
    let inside : opened - 1 < length bytes = omega (arith, opens.within) in
    let again : opened - 1 + 1 ≡ opened = omega arith in
    let front = take_more bytes (opened - 1) 0 inside in
    let u = ap (λ b. length (useful false b)) (ap (λ k. take k bytes) (sym again) ∙ front)
    ∙ ap length (useful-push false (take (opened - 1) bytes) (get_or bytes (opened - 1) 0))
    ∙ length-append (useful false (take (opened - 1) bytes))
    (number (byte_width (ends_in_ff false (take (opened - 1) bytes)))
    (get_or bytes (opened - 1) 0)) in
    let w = number-length (byte_width (ends_in_ff false (take (opened - 1) bytes)))
    (get_or bytes (opened - 1) 0) in
    let bytes_are : bytes ≡ take (opened - 1) bytes ++ get_or bytes (opened - 1) 0
    ∷ drop (opened - 1 + 1) bytes =
    sym (take-append-drop (opened - 1) bytes) ∙ ap (λ b. take (opened - 1) bytes
    ++ b) (drop_more bytes (opened - 1) 0 inside) in
    let t = length (opened_bits bytes opened left) in
    let len : length (take (opened - 1) bytes) ≡ opened - 1 =
    length-take-le (opened - 1) bytes (omega arith) in
    let at = place-append 0 false (take (opened - 1) bytes) (get_or bytes (opened - 1) 0)
    (drop (opened - 1 + 1) bytes)
    (length (opened_bits bytes opened left) - 1 - length (useful false (take (opened - 1) bytes)))
    (length (opened_bits bytes opened left) - 1) (omega arith) (omega arith) in
    sym (place_of_some bytes (length (opened_bits bytes opened left)) (omega arith)
    ∙ ap (place_from 0 false (length (opened_bits bytes opened left) - 1)) bytes_are ∙ at
    ∙ (let z : 0 + length (take (opened - 1) bytes) ≡ opened - 1 = omega arith in z))

-- Whatever follows a header of these bits, they are the first that can be taken.
pub stuffs_supply : (bits : List Bool) (bytes rest : List ℕ) → Stuffs bits bytes
    → (more : List Bool) × (supply (bytes ++ rest) ≡ bits ++ more)
stuffs_supply bits bytes rest s = (
  s.padding ++ supply_from (ends_in_ff false s.core) (s.last ++ rest),
  ap (λ b. supply (b ++ rest)) s.bytes_are
      ∙ ap supply (append_assoc s.core s.last rest)
      ∙ supply-append false s.core (s.last ++ rest) s.stuffed
      ∙ ap (λ b. b ++ supply_from (ends_in_ff false s.core) (s.last ++ rest)) s.bits_are
      ∙ append_assoc bits s.padding (supply_from (ends_in_ff false s.core) (s.last ++ rest)),
)

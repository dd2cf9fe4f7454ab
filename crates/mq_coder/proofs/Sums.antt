-- The value of a string, as a sum of weighted bytes, is its digits.
use Rattle.std.proofs.Common.{◌≡◌, ℕ, zero, suc, ◌+◌, ◌-◌, ◌*◌, ◌/◌, ◌^◌, ◌<◌, ◌≤◌, Bool, true}
use Rattle.std.proofs.Common.{false, eqb, List, [], ◌∷◌, length, get_or, drop, refl, sym, ap, ◌∙◌}
use Rattle.std.proofs.Common.{arith, inl, inr, drop-cons}
use Rattle.std.proofs.lemmas.Bool.{cases_lt, cases_Bool, cond-true, cond-false, lt-ltb, le-ltb}
use Rattle.std.proofs.lemmas.Bool.{and_right}
use Rattle.std.proofs.lemmas.List.{drop_all, get_or_past}
use Rattle.mq_coder.specs.Decisions.{kept, byte_at, width_after, place, total, last_counting, value}
use Rattle.mq_coder.specs.Decisions.{look, digits, width}
use Rattle.mq_coder.proofs.Ends.{ones_short, ones_long}
use Rattle.mq_coder.proofs.Consumed.{width_low}
use Rattle.mq_coder.proofs.Held.{digits_look}
use Rattle.mq_coder.proofs.Look.{cut, join, look_cut, look_short_by, look_long_by, look_end}
use Rattle.mq_coder.proofs.Look.{look_cases}

-- no byte is cut
abbrev Uncut : Bool → List ℕ → Type 0
Uncut ff [] = Unit {0}
Uncut ff (b ∷ r) = (cut ff b ≡ false) × Uncut (eqb b 255) r

kept_cut : (b next : ℕ) (rest : List ℕ) → cut (eqb b 255) next ≡ true →
    kept (b ∷ next ∷ rest) ≡ b ∷ []
unfolding kept
kept_cut b next rest h = cond-true _ _ _ h

kept_more : (b next : ℕ) (rest : List ℕ) → cut (eqb b 255) next ≡ false →
    kept (b ∷ next ∷ rest) ≡ b ∷ kept (next ∷ rest)
unfolding kept
kept_more b next rest h = cond-false _ _ _ h

kept_one : (b : ℕ) → kept (b ∷ []) ≡ b ∷ []
unfolding kept
kept_one b = refl

kept_none : kept [] ≡ []
unfolding kept
kept_none = refl

kept_uncut : (ff : Bool) (b : ℕ) (r : List ℕ) → cut ff b ≡ false → Uncut ff (kept (b ∷ r))
kept_uncut ff b [] h = rw (kept_one b) (h, tt)
kept_uncut ff b (next ∷ rest) h =
    elim (cases_Bool (cut (eqb b 255) next)) [
      | inl c ↦ rw (kept_cut b next rest c) (h, tt)
      | inr c ↦ rw (kept_more b next rest c) (h, kept_uncut (eqb b 255) next rest c)
    ]

same_rest : (acc : ℕ) (ff : Bool) (b : ℕ) (r r' : List ℕ) (d : ℕ) →
    ((k : ℕ) → look (join acc ff b) (eqb b 255) r k ≡ look (join acc ff b) (eqb b 255) r' k) →
    look acc ff (b ∷ r) d ≡ look acc ff (b ∷ r') d
same_rest acc ff b r r' d h =
    look_cases (λ y. y ≡ look acc ff (b ∷ r') d) acc ff b r d
    (λ c. sym (look_cut acc ff b r' d c))
    (λ k c e. sym (look_short_by acc ff b r' d k c e))
    (λ k c p e. h k ∙ sym (look_long_by acc ff b r' d k c p e))

-- the digits are those of the kept bytes
kept_look : (acc : ℕ) (ff : Bool) (b : ℕ) (r : List ℕ) (d : ℕ) →
    look acc ff (b ∷ r) d ≡ look acc ff (kept (b ∷ r)) d
kept_look acc ff b [] d = rw (kept_one b) refl
kept_look acc ff b (next ∷ rest) d =
    elim (cases_Bool (cut (eqb b 255) next)) [
      | inl c ↦
          rw (kept_cut b next rest c)
          (same_rest acc ff b (next ∷ rest) [] d
          (λ k. look_cut (join acc ff b) (eqb b 255) next rest k c
          ∙ sym (look_end (join acc ff b) (eqb b 255) k)))
      | inr c ↦
          rw (kept_more b next rest c)
          (same_rest acc ff b (next ∷ rest) (kept (next ∷ rest)) d
          (λ k. kept_look (join acc ff b) (eqb b 255) next rest k))
    ]

uncut_at : (ff : Bool) (ks : List ℕ) (i : ℕ) → Uncut ff ks → suc i < length ks →
    cut (eqb (get_or ks i 255) 255) (get_or ks (suc i) 255) ≡ false
uncut_at ff [] i h lt = absurd (omega arith)
uncut_at ff (b ∷ []) i h lt = absurd (omega arith)
uncut_at ff (b ∷ c ∷ r) zero h lt = h.1.0
uncut_at ff (b ∷ c ∷ r) (suc i) h lt = uncut_at (eqb b 255) (c ∷ r) i h.1 (omega arith)

-- the digits after those of bytes 0 to i
abbrev after : List ℕ → ℕ → ℕ → ℕ
after ks i d = look (total ks i) (eqb (get_or ks i 255) 255) (drop (suc i) ks) d

width_inside : (ks : List ℕ) (i : ℕ) → suc i < length ks →
    width_after ks i ≡ width (eqb (get_or ks i 255) 255)
unfolding width_after byte_at
width_inside ks i lt =
    elim (cases_Bool (eqb (get_or ks i 255) 255)) [
      | inl h ↦ rw (h, lt-ltb (i + 1) (length ks) (omega arith)) refl
      | inr h ↦ rw h refl
    ]

width_past : (ks : List ℕ) (i : ℕ) → length ks ≤ suc i → width_after ks i ≡ 8
unfolding width_after byte_at
width_past ks i le = cond-false _ _ _ (and_right _ _ (le-ltb (i + 1) (length ks) (omega arith)))

total_next : (ks : List ℕ) (i : ℕ) →
    total ks (suc i) ≡ total ks i * 2 ^ width_after ks i + get_or ks (suc i) 255
unfolding total byte_at
total_next ks i = refl

place_next : (ks : List ℕ) (i : ℕ) → place ks (suc i) ≡ place ks i + width_after ks i
unfolding place
place_next ks i = refl

rest_inside : (ks : List ℕ) (i : ℕ) → suc i < length ks →
    drop (suc i) ks ≡ get_or ks (suc i) 255 ∷ drop (suc (suc i)) ks
rest_inside ks i lt = drop-cons ks (suc i) 255 lt

-- byte i + 1 gives the last digits
fed_short : (ks : List ℕ) (i d k : ℕ) → Uncut false ks → d + k ≡ width_after ks i →
    after ks i d ≡ total ks (suc i) / 2 ^ k
fed_short ks i d k clean e =
    elim (cases_lt (suc i) (length ks)) [
      | inl lt ↦
          let w : width_after ks i ≡ width (eqb (get_or ks i 255) 255) = width_inside ks i lt in
          rw (rest_inside ks i lt, total_next ks i, w)
          (look_short_by (total ks i) (eqb (get_or ks i 255) 255) (get_or ks (suc i) 255)
          (drop (suc (suc i)) ks) d k (uncut_at false ks i clean lt) (e ∙ w))
      | inr le ↦
          let w : width_after ks i ≡ 8 = width_past ks i le in
          rw (drop_all (suc i) ks le, total_next ks i, w, get_or_past ks (suc i) 255 le)
          (look_end (total ks i) _ d ∙ sym (ones_short (total ks i) d k (e ∙ w)))
    ]

fed_long : (ks : List ℕ) (i d k : ℕ) → Uncut false ks → 1 ≤ k → d ≡ width_after ks i + k →
    after ks i d ≡ after ks (suc i) k
fed_long ks i d k clean one e =
    elim (cases_lt (suc i) (length ks)) [
      | inl lt ↦
          let w : width_after ks i ≡ width (eqb (get_or ks i 255) 255) = width_inside ks i lt in
          rw (rest_inside ks i lt, total_next ks i, w)
          (look_long_by (total ks i) (eqb (get_or ks i 255) 255) (get_or ks (suc i) 255)
          (drop (suc (suc i)) ks) d k (uncut_at false ks i clean lt) one
          (e ∙ ap (λ v. v + k) w))
      | inr le ↦
          let w : width_after ks i ≡ 8 = width_past ks i le in
          let le' : length ks ≤ suc (suc i) = omega arith in
          rw (
            drop_all (suc i) ks le,
            drop_all
                (suc (suc i)) ks le',
            total_next ks i,
            w,
            get_or_past ks (suc i) 255 le,
          )
          (look_end (total ks i) _ d ∙ sym (ones_long (total ks i) d k (e ∙ ap (λ v. v + k) w))
          ∙ sym (look_end _ _ k))
    ]

first_byte : (ks : List ℕ) (d k : ℕ) → Uncut false ks → 1 ≤ k → d ≡ 8 + k →
    look 0 false ks d ≡ after ks 0 k
unfolding total byte_at
first_byte [] d k clean one e = look_end 0 false d ∙ sym (ones_long 0 d k e)
    ∙ sym (look_end 255 true k)
first_byte (b ∷ r) d k clean one e = look_long_by 0 false b r d k clean.0 one e
    ∙ ap (λ v. look v (eqb b 255) r k) (let h : 0 * 2 ^ 8 + b ≡ b = omega arith in h)

place_first : (ks : List ℕ) → place ks 0 ≡ 8
unfolding place
place_first ks = refl

width_least : (ks : List ℕ) (i : ℕ) → 7 ≤ width_after ks i
width_least ks i =
    elim (cases_lt (suc i) (length ks)) [
      | inl lt ↦ rw (width_inside ks i lt) (width_low (eqb (get_or ks i 255) 255))
      | inr le ↦ rw (width_past ks i le) (omega arith)
    ]

-- as long as the bytes up to i give fewer digits than are asked for
read_on : (ks : List ℕ) (i d k : ℕ) → Uncut false ks → 1 ≤ k → d ≡ place ks i + k →
    look 0 false ks d ≡ after ks i k
read_on ks zero d k clean one e = first_byte ks d k clean one (e ∙ ap (λ v. v + k) (place_first ks))
read_on ks (suc i) d k clean one e =
    let p : place ks (suc i) ≡ place ks i + width_after ks i = place_next ks i in
    read_on ks i d (width_after ks i + k) clean (omega arith) (omega arith)
    ∙ fed_long ks i (width_after ks i + k) k clean one refl

read_last : (ks : List ℕ) (i d k : ℕ) → Uncut false ks → place ks i < d → d + k ≡ place ks (suc i) →
    look 0 false ks d ≡ total ks (suc i) / 2 ^ k
read_last ks i d k clean lt e =
    let p : place ks (suc i) ≡ place ks i + width_after ks i = place_next ks i in
    read_on ks i d (d - place ks i) clean (omega arith) (omega arith)
    ∙ fed_short ks i (d - place ks i) k clean (omega arith)

counts : (ks : List ℕ) (s i : ℕ) → place ks i < s + 15 → last_counting ks s (suc i) ≡ suc i
unfolding last_counting
counts ks s i lt = cond-true _ _ _ (lt-ltb _ _ lt)

counts_not : (ks : List ℕ) (s i : ℕ) → s + 15 ≤ place ks i →
    last_counting ks s (suc i) ≡ last_counting ks s i
unfolding last_counting
counts_not ks s i le = cond-false _ _ _ (le-ltb _ _ le)

sum_digits : (ks : List ℕ) (s i : ℕ) → Uncut false ks → s + 15 ≤ place ks i →
    look 0 false ks (s + 15) ≡ total ks (last_counting ks s i) / 2 ^
    (place ks (last_counting ks s i) - (s + 15))
sum_digits ks s zero clean enough = absurd (let p : place ks 0 ≡ 8 = place_first ks in omega arith)
sum_digits ks s (suc i) clean enough =
    elim (cases_lt (place ks i) (s + 15)) [
      | inl lt ↦ rw (counts ks s i lt)
          (read_last ks i (s + 15) (place ks (suc i) - (s + 15)) clean lt (omega arith))
      | inr ge ↦ rw (counts_not ks s i ge) (sum_digits ks s i clean ge)
    ]

place_grows : (ks : List ℕ) (i : ℕ) → 7 * i + 8 ≤ place ks i
place_grows ks zero = let p : place ks 0 ≡ 8 = place_first ks in omega arith
place_grows ks (suc i) =
    let p : place ks (suc i) ≡ place ks i + width_after ks i = place_next ks i in
    let w : 7 ≤ width_after ks i = width_least ks i in
    let h : 7 * i + 8 ≤ place ks i = place_grows ks i in
    omega arith

value_kept : (bytes : List ℕ) (s : ℕ) → Uncut false (kept bytes) →
    look 0 false (kept bytes) (s + 15) ≡ value bytes s
unfolding value
value_kept bytes s clean =
    sum_digits (kept bytes) s (s + 1) clean
    (let h : 7 * (s + 1) + 8 ≤ place (kept bytes) (s + 1) =
    place_grows (kept bytes) (s + 1) in omega arith)

-- the value of a string, in weights, is its digits
pub value_is_digits : (bytes : List ℕ) (scale : ℕ) → value bytes scale ≡ digits bytes scale
value_is_digits [] scale =
    sym (value_kept [] scale (rw kept_none tt)) ∙ ap (λ v. look 0 false v (scale + 15)) kept_none
    ∙ sym (digits_look [] scale)
value_is_digits (b ∷ r) scale =
    sym (value_kept (b ∷ r) scale (kept_uncut false b r refl))
    ∙ sym (kept_look 0 false b r (scale + 15)) ∙ sym (digits_look (b ∷ r) scale)

-- What BYTEOUT does, in one form for its four cases.
use Rattle.std.proofs.Common.{◌≡◌, ℕ, ◌+◌, ◌-◌, ◌*◌, ◌/◌, ◌%◌, ◌^◌, ◌<◌, ◌≤◌, Bool, true, false}
use Rattle.std.proofs.Common.{eqb, List, [], ◌∷◌, ◌++◌, length, get_or, set, refl, sym, ap, ◌∙◌}
use Rattle.std.proofs.Common.{arith, inl, inr}
use Rattle.std.proofs.lemmas.Bool.{cases_lt, cases_eq, cases_Bool, cond-true, cond-false}
use Rattle.std.proofs.lemmas.Bool.{false≢true, eq-eqb, ne_eqb, lt-ltb, le-ltb}
use Rattle.std.proofs.lemmas.List.{length-append}
use Rattle.std.proofs.Math.Seq.{get_or-append_seam, set-append_seam}
use Rattle.std.proofs.lemmas.Nat.{pow_pos, div_below, div-add-mod', mod_below}
use Rattle.mq_coder.specs.Decisions.{look, width}
use Rattle.mq_coder.specs.Code.{Coding, last_byte, raise_last, put_7, put_8, byte_out}
use Rattle.mq_coder.proofs.Look.{cut}
use Rattle.mq_coder.proofs.Consumed.{taken, bits, ends_ff, Clean, taken_snoc, bits_snoc, ends_snoc}
use Rattle.mq_coder.proofs.Consumed.{Clean-snoc, Clean-prefix, Clean-last, look_raised}

pub last_place : (pre : List ℕ) (x : ℕ) → length (pre ++ x ∷ []) - 1 ≡ length pre
last_place pre x = let h : length (pre ++ x ∷ []) ≡ length pre + 1 =
    length-append pre (x ∷ []) in omega arith

pub last_snoc : (pre : List ℕ) (x : ℕ) → last_byte (pre ++ x ∷ []) ≡ x
last_snoc pre x = ap (λ i. get_or (pre ++ x ∷ []) i 0) (last_place pre x)
    ∙ get_or-append_seam pre x [] 0

pub raise_snoc : (pre : List ℕ) (x : ℕ) → raise_last (pre ++ x ∷ []) ≡ pre ++ (x + 1) ∷ []
raise_snoc pre x =
    ap (λ i. set (pre ++ x ∷ []) i (last_byte (pre ++ x ∷ []) + 1)) (last_place pre x)
    ∙ set-append_seam pre x [] (last_byte (pre ++ x ∷ []) + 1)
    ∙ ap (λ v. pre ++ (v + 1) ∷ []) (last_snoc pre x)

pub byte_ff : (x : Coding) → last_byte x.bytes ≡ 255 → byte_out x ≡ put_7 x x.bytes x.c
unfolding byte_out
byte_ff x h = cond-true _ _ _ (eq-eqb _ _ h)

pub byte_plain : (x : Coding) → (last_byte x.bytes ≡ 255 → ⊥) → x.c < 2 ^ 27 →
    byte_out x ≡ put_8 x x.bytes x.c
unfolding byte_out
byte_plain x h lt = cond-false _ _ _ (ne_eqb _ _ h) ∙ cond-true _ _ _ (lt-ltb _ _ lt)

pub byte_carry_ff : (x : Coding) → (last_byte x.bytes ≡ 255 → ⊥) → 2 ^ 27 ≤ x.c →
    last_byte x.bytes + 1 ≡ 255 → byte_out x ≡ put_7 x (raise_last x.bytes) (x.c - 2 ^ 27)
unfolding byte_out
byte_carry_ff x h le e = cond-false _ _ _ (ne_eqb _ _ h) ∙ cond-false _ _ _ (le-ltb _ _ le)
    ∙ cond-true _ _ _ (eq-eqb _ _ e)

pub byte_carry : (x : Coding) → (last_byte x.bytes ≡ 255 → ⊥) → 2 ^ 27 ≤ x.c →
    (last_byte x.bytes + 1 ≡ 255 → ⊥) → byte_out x ≡ put_8 x (raise_last x.bytes) (x.c - 2 ^ 27)
unfolding byte_out
byte_carry x h le e = cond-false _ _ _ (ne_eqb _ _ h) ∙ cond-false _ _ _ (le-ltb _ _ le)
    ∙ cond-false _ _ _ (ne_eqb _ _ e)

-- The bytes put out and a bound on (C + A) * 2 ^ CT, by which a carry finds a byte that isn't FF,
-- and one after FF stays at most 8F.
pub data Shape (bs : List ℕ) (bound ct : ℕ) : Type 0 where
  none : bs ≡ [] → bound ≤ 2 ^ 27 → Shape bs bound ct
  some : (pre : List ℕ) (x : ℕ) → bs ≡ pre ++ x ∷ [] → Clean false (pre ++ x ∷ []) → ct ≤ 8 →
      bound ≤ 144 * 2 ^ 20 → (ends_ff false pre ≡ true → x * 2 ^ 27 + bound ≤ 144 * 2 ^ 27) →
      Shape bs bound ct

-- y is x after BYTEOUT, at an interval of the given size
pub record Out (x : Coding) (size : ℕ) (y : Coding) : Type 0 where
  pub base : List ℕ
  pub carry : ℕ
  pub byte : ℕ
  pub k : ℕ
  pub bytes_are : y.bytes ≡ base ++ byte ∷ []
  pub width_is : width (ends_ff false base) ≡ y.ct
  pub unit : y.ct + k ≡ 27
  pub split : x.c ≡ carry * 2 ^ 27 + byte * 2 ^ k + y.c
  pub small : y.c < 2 ^ k
  pub taken_is : taken 0 false base ≡ taken 0 false x.bytes + carry
  pub bits_are : bits false base ≡ bits false x.bytes
  pub length_is : length base ≡ length x.bytes
  pub clean : Clean false base
  pub clean_all : Clean false (base ++ byte ∷ [])
  pub grows : (d : ℕ) → d ≤ bits false x.bytes → look 0 false x.bytes d ≤ look 0 false base d
  pub shape : Shape y.bytes ((y.c + size) * 2 ^ y.ct) y.ct
  pub same_a : y.a ≡ x.a
  pub same_contexts : y.contexts ≡ x.contexts

-- what a carry leaves: the bytes before the new one
record Base (x : Coding) (base : List ℕ) (carry c : ℕ) : Type 0 where
  is_c : x.c ≡ carry * 2 ^ 27 + c
  taken_is : taken 0 false base ≡ taken 0 false x.bytes + carry
  bits_are : bits false base ≡ bits false x.bytes
  length_is : length base ≡ length x.bytes
  clean : Clean false base
  grows : (d : ℕ) → d ≤ bits false x.bytes → look 0 false x.bytes d ≤ look 0 false base d

bound_8 : (c size : ℕ) → size < 2 ^ 16 → (c % 2 ^ 19 + size) * 2 ^ 8 ≤ 144 * 2 ^ 20
bound_8 c size lt = let h : c % 2 ^ 19 < 2 ^ 19 = mod_below c (2 ^ 19) (pow_pos 19) in omega arith

bound_7 : (c size : ℕ) → size < 2 ^ 16 → (c % 2 ^ 20 + size) * 2 ^ 7 ≤ 144 * 2 ^ 20
bound_7 c size lt = let h : c % 2 ^ 20 < 2 ^ 20 = mod_below c (2 ^ 20) (pow_pos 20) in omega arith

behind_ff : (c size : ℕ) → c + size ≤ 144 * 2 ^ 20 →
    c / 2 ^ 20 * 2 ^ 27 + (c % 2 ^ 20 + size) * 2 ^ 7 ≤ 144 * 2 ^ 27
behind_ff c size le = let h : c / 2 ^ 20 * 2 ^ 20 + c % 2 ^ 20 ≡ c =
    div-add-mod' c (2 ^ 20) in omega arith

cut_low : (ff : Bool) (b : ℕ) → b ≤ 143 → cut ff b ≡ false
cut_low true b le = le-ltb 143 b le
cut_low false b le = refl

out_8 : (x : Coding) (size : ℕ) (base : List ℕ) (carry c : ℕ) → Base x base carry c →
    ends_ff false base ≡ false → c < 2 ^ 27 → size < 2 ^ 16 → Out x size (put_8 x base c)
out_8 x size base carry c h ends lt top =
    let whole : c / 2 ^ 19 * 2 ^ 19 + c % 2 ^ 19 ≡ c = div-add-mod' c (2 ^ 19) in
    let byte : c / 2 ^ 19 < 256 = div_below c (2 ^ 19) 256 (pow_pos 19) (omega arith) in
    let fits : c / 2 ^ 19 ≤ 255 = omega arith in
    let uncut : cut (ends_ff false base) (c / 2 ^ 19) ≡ false = rw ends refl in
    let all : Clean false (base ++ (c / 2 ^ 19) ∷ []) =
    Clean-snoc false base (c / 2 ^ 19) h.clean fits uncut in
    let is : x.c ≡ carry * 2 ^ 27 + c = h.is_c in
    record {
      base = base;
      carry = carry;
      byte = c / 2 ^ 19;
      k = 19;
      bytes_are = refl;
      width_is = rw ends refl;
      unit = refl;
      split = omega arith;
      small = mod_below c (2 ^ 19) (pow_pos 19);
      taken_is = h.taken_is;
      bits_are = h.bits_are;
      length_is = h.length_is;
      clean = h.clean;
      clean_all = all;
      grows = h.grows;
      shape = some base (c / 2 ^ 19) refl all (omega arith) (bound_8 c size top)
          (λ e. absurd (false≢true (sym ends ∙ e)));
      same_a = refl;
      same_contexts = refl;
    }

out_7 : (x : Coding) (size : ℕ) (base : List ℕ) (carry c : ℕ) → Base x base carry c →
    ends_ff false base ≡ true → c + size ≤ 144 * 2 ^ 20 → 1 ≤ size → size < 2 ^ 16 →
    Out x size (put_7 x base c)
out_7 x size base carry c h ends le pos top =
    let whole : c / 2 ^ 20 * 2 ^ 20 + c % 2 ^ 20 ≡ c = div-add-mod' c (2 ^ 20) in
    let byte : c / 2 ^ 20 < 144 = div_below c (2 ^ 20) 144 (pow_pos 20) (omega arith) in
    let fits : c / 2 ^ 20 ≤ 143 = omega arith in
    let uncut : cut (ends_ff false base) (c / 2 ^ 20) ≡ false =
    cut_low (ends_ff false base) (c / 2 ^ 20) fits in
    let all : Clean false (base ++ (c / 2 ^ 20) ∷ []) =
    Clean-snoc false base (c / 2 ^ 20) h.clean (omega arith) uncut in
    let is : x.c ≡ carry * 2 ^ 27 + c = h.is_c in
    record {
      base = base;
      carry = carry;
      byte = c / 2 ^ 20;
      k = 20;
      bytes_are = refl;
      width_is = rw ends refl;
      unit = refl;
      split = omega arith;
      small = mod_below c (2 ^ 20) (pow_pos 20);
      taken_is = h.taken_is;
      bits_are = h.bits_are;
      length_is = h.length_is;
      clean = h.clean;
      clean_all = all;
      grows = h.grows;
      shape = some base (c / 2 ^ 20) refl all (omega arith) (bound_7 c size top)
          (λ e. behind_ff c size le);
      same_a = refl;
      same_contexts = refl;
    }

base_same : (x : Coding) → Clean false x.bytes → Base x x.bytes 0 x.c
base_same x clean = record {
  is_c = omega arith;
  taken_is = omega arith;
  bits_are = refl;
  length_is = refl;
  clean = clean;
  grows = λ d le. omega arith;
}

raised_clean : (pre : List ℕ) (l : ℕ) → Clean false (pre ++ l ∷ []) → l + 1 ≤ 255 →
    (ends_ff false pre ≡ true → l + 1 ≤ 143) → Clean false (pre ++ (l + 1) ∷ [])
raised_clean pre l clean top after =
    let uncut : cut (ends_ff false pre) (l + 1) ≡ false =
    elim (cases_Bool (ends_ff false pre)) [
      | inl h ↦ cut_low (ends_ff false pre) (l + 1) (after h)
      | inr h ↦ rw h refl
    ] in
    Clean-snoc false pre (l + 1) (Clean-prefix false pre l clean) top uncut

base_raised : (x : Coding) (pre : List ℕ) (l : ℕ) → x.bytes ≡ pre ++ l ∷ [] →
    Clean false (pre ++ l ∷ []) → Clean false (pre ++ (l + 1) ∷ []) → 2 ^ 27 ≤ x.c →
    Base x (pre ++ (l + 1) ∷ []) 1 (x.c - 2 ^ 27)
base_raised x pre l e clean clean' le =
    let t1 : taken 0 false (pre ++ (l + 1) ∷ [])
    ≡ taken 0 false pre * 2 ^ width (ends_ff false pre) + (l + 1) =
    taken_snoc 0 false pre (l + 1) in
    let t2 : taken 0 false (pre ++ l ∷ []) ≡ taken 0 false pre * 2 ^ width (ends_ff false pre) + l =
    taken_snoc 0 false pre l in
    record {
      is_c = omega arith;
      taken_is = rw e (omega arith);
      bits_are = rw e (bits_snoc false pre (l + 1) ∙ sym (bits_snoc false pre l));
      length_is = rw e (length-append pre ((l + 1) ∷ []) ∙ sym (length-append pre (l ∷ [])));
      clean = clean';
      grows = λ d h. rw e (look_raised 0 false pre l d clean clean'
          (let i : d ≤ bits false (pre ++ l ∷ []) = rw e at h in i));
    }

out_none : (x : Coding) (size : ℕ) → x.bytes ≡ [] → x.c + size ≤ 2 ^ 27 → 1 ≤ size → size < 2 ^ 16 →
    Out x size (byte_out x)
out_none x size e le pos top =
    let clean : Clean false x.bytes = rw e tt in
    let ends : ends_ff false x.bytes ≡ false = rw e refl in
    let not_ff : last_byte x.bytes ≡ 255 → ⊥ = rw e (λ h. omega arith) in
    let lt : x.c < 2 ^ 27 = omega arith in
    rw (byte_plain x not_ff lt) (out_8 x size x.bytes 0 x.c (base_same x clean) ends lt top)

out_some : (x : Coding) (size : ℕ) (pre : List ℕ) (l : ℕ) → x.bytes ≡ pre ++ l ∷ [] →
    Clean false (pre ++ l ∷ []) → x.c + size ≤ 144 * 2 ^ 20 →
    (ends_ff false pre ≡ true → l * 2 ^ 27 + (x.c + size) ≤ 144 * 2 ^ 27) → 1 ≤ size →
    size < 2 ^ 16 → Out x size (byte_out x)
out_some x size pre l e clean le after pos top =
    let here : Clean false x.bytes = rw e clean in
    let ends : ends_ff false x.bytes ≡ eqb l 255 = rw e (ends_snoc false pre l) in
    let last : last_byte x.bytes ≡ l = rw e (last_snoc pre l) in
    let raise : raise_last x.bytes ≡ pre ++ (l + 1) ∷ [] = rw e (raise_snoc pre l) in
    let top_l : l ≤ 255 = (Clean-last false pre l clean).0 in
    elim (cases_eq l 255) [
      | inl is ↦
          rw (byte_ff x (last ∙ is))
          (out_7 x size x.bytes 0 x.c (base_same x here) (ends ∙ eq-eqb l 255 is) le pos top)
      | inr isnt ↦
          let not_ff : last_byte x.bytes ≡ 255 → ⊥ = λ h. isnt (sym last ∙ h) in
          elim (cases_lt x.c (2 ^ 27)) [
            | inl lt ↦
                rw (byte_plain x not_ff lt)
                (out_8 x size x.bytes 0 x.c (base_same x here) (ends ∙ ne_eqb l 255 isnt) lt top)
            | inr ge ↦
                let clean' : Clean false (pre ++ (l + 1) ∷ []) =
                raised_clean pre l clean (omega arith)
                (λ h. let b : l * 2 ^ 27 + (x.c + size) ≤ 144 * 2 ^ 27 =
                after h in omega arith) in
                let base : Base x (pre ++ (l + 1) ∷ []) 1 (x.c - 2 ^ 27) =
                base_raised x pre l e clean clean' ge in
                let ends' : ends_ff false (pre ++ (l + 1) ∷ []) ≡ eqb (l + 1) 255 =
                ends_snoc false pre (l + 1) in
                elim (cases_eq (l + 1) 255) [
                  | inl is' ↦
                      let is'' : last_byte x.bytes + 1 ≡ 255 = rw last is' in
                      rw (byte_carry_ff x not_ff ge is'', raise)
                      (out_7 x size (pre ++ (l + 1) ∷ []) 1 (x.c - 2 ^ 27) base
                      (ends' ∙ eq-eqb (l + 1) 255 is') (omega arith) pos top)
                  | inr isnt' ↦
                      let isnt'' : last_byte x.bytes + 1 ≡ 255 →
                      ⊥ = λ h. isnt' (ap (λ v. v + 1) (sym last) ∙ h) in
                      rw (byte_carry x not_ff ge isnt'', raise)
                      (out_8 x size (pre ++ (l + 1) ∷ []) 1 (x.c - 2 ^ 27) base
                      (ends' ∙ ne_eqb (l + 1) 255 isnt') (omega arith) top)
                ]
          ]
    ]

-- BYTEOUT, at an interval of which C is the low end
pub out : (x : Coding) (size : ℕ) → Shape x.bytes (x.c + size) 0 → 1 ≤ size → size < 2 ^ 16 →
    Out x size (byte_out x)
out x size (none e le) pos top = out_none x size e le pos top
out x size (some pre l e clean low le after) pos top =
    out_some x size pre l e clean le after pos top

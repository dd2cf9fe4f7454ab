-- The form of an ended code.
use Rattle.std.proofs.Common.{ℕ, ◌+◌, ◌-◌, ◌*◌, ◌/◌, ◌^◌, ◌<◌, ◌≤◌, ◌≡◌, inl, inr, Bool, true}
use Rattle.std.proofs.Common.{false, ◌==◌, nat_lt, if◌then◌else◌, List, [], ◌∷◌, ◌++◌, length}
use Rattle.std.proofs.Common.{get_or, take, arith, refl, ap, sym, ◌∙◌}
use Rattle.std.proofs.lemmas.List.{length-append, length-set, take_more, length_push}
use Rattle.std.proofs.Math.Seq.{take-append_seam}
use Rattle.std.proofs.lemmas.Bool.{cases_eq, eq-eqb, ne_eqb, lt-ltb}
use Rattle.mq_coder.specs.Code.{Coding, last_byte, raise_last, byte_out, shift_out, set_bits}
use Rattle.mq_coder.specs.Code.{drop_ff, flush}
use Rattle.mq_coder.proofs.After.{outs, byte_out_is}
use Rattle.mq_coder.proofs.Out.{last_snoc}

outs_length : (b c d : Bool) (raised : List ℕ) (x : Coding) → length raised ≡ length x.bytes
    → length (outs b c d raised x).bytes ≡ length x.bytes + 1
outs_length true c d raised x e = simp length-append (omega arith)
outs_length false true d raised x e = simp length-append (omega arith)
outs_length false false true raised x e = simp length-append (omega arith)
outs_length false false false raised x e = simp length-append (omega arith)

outs_rest : (b c d : Bool) (raised : List ℕ) (x : Coding)
    → (outs b c d raised x).c * 2 ^ (outs b c d raised x).ct < 2 ^ 27
outs_rest true c d raised x = omega arith
outs_rest false true d raised x = omega arith
outs_rest false false true raised x = omega arith
outs_rest false false false raised x = omega arith

-- a byte after others with no carry; after FF it has 7 bits
pub record Appends (bytes next : List ℕ) : Type 0 where
  pub byte : ℕ
  pub appended : next ≡ bytes ++ byte ∷ []
  pub seven : last_byte bytes ≡ 255 → byte < 128

outs_appends : (b d : Bool) (raised : List ℕ) (x : Coding) → x.c < 2 ^ 27
    → (last_byte x.bytes ≡ 255 → b ≡ true) → Appends x.bytes (outs b true d raised x).bytes
outs_appends true d raised x low h =
    record { byte = x.c / 2 ^ 20; appended = refl; seven = λ e. omega arith }
outs_appends false d raised x low h =
    record { byte = x.c / 2 ^ 19; appended = refl; seven = λ e. let no = h e in cc }

-- one byte more
pub byte_out_length : (x : Coding) → length (byte_out x).bytes ≡ length x.bytes + 1
byte_out_length x = rw byte_out_is
    (outs_length (last_byte x.bytes == 255) (nat_lt x.c 0x8000000) (last_byte x.bytes + 1 == 255)
    (raise_last x.bytes) x (length-set x.bytes (length x.bytes - 1) (last_byte x.bytes + 1)))

-- what stays in C is less than one unit of the byte
byte_out_rest : (x : Coding) → (byte_out x).c * 2 ^ (byte_out x).ct < 2 ^ 27
byte_out_rest x = rw byte_out_is
    (outs_rest (last_byte x.bytes == 255) (nat_lt x.c 0x8000000) (last_byte x.bytes + 1 == 255)
    (raise_last x.bytes) x)

byte_out_appends : (x : Coding) → x.c < 2 ^ 27 → Appends x.bytes (byte_out x).bytes
byte_out_appends x low =
    rw (byte_out_is, lt-ltb x.c 0x8000000 low)
    (outs_appends (last_byte x.bytes == 255) (last_byte x.bytes + 1 == 255)
    (raise_last x.bytes) x low
    (eq-eqb (last_byte x.bytes) 255))

take_but_last : (bytes : List ℕ) (byte : ℕ) →
    take (length (bytes ++ byte ∷ []) - 1) (bytes ++ byte ∷ []) ≡ bytes
take_but_last bytes byte =
    let e : length (bytes ++ byte ∷ []) - 1 ≡ length bytes =
    omega (arith, length_push bytes byte) in
    rw e (take-append_seam bytes (byte ∷ []))

-- the ended code with its second byte, which is dropped where it is FF
drop_ff_more : (bytes : List ℕ) (byte : ℕ)
    → drop_ff (bytes ++ byte ∷ []) ≡ (if byte == 255 then bytes else bytes ++ byte ∷ [])
unfolding drop_ff
drop_ff_more bytes byte =
    ap (λ (n : ℕ). if n == 255 then take (length (bytes ++ byte ∷ []) - 1)
    (bytes ++ byte ∷ []) else bytes ++ byte ∷ [])
    (last_snoc bytes byte)
    ∙ ap (λ (ys : List ℕ). if byte == 255 then ys else bytes ++ byte ∷ [])
    (take_but_last bytes byte)

-- a form of the ended code
pub record IsEnded (count : ℕ) (bytes : List ℕ) : Type 0 where
  pub one_more : count + 1 ≤ length bytes
  pub two_more : length bytes ≤ count + 2
  pub no_ff : last_byte bytes ≡ 255 → ⊥

dropped_ended : (bytes : List ℕ) (byte : ℕ) → 1 ≤ length bytes →
    (last_byte bytes ≡ 255 → byte < 128)
    → IsEnded (length bytes - 1) (drop_ff (bytes ++ byte ∷ []))
dropped_ended bytes byte some seven = elim (cases_eq byte 255) [
  | inl e ↦ rw (drop_ff_more, eq-eqb byte 255 e) (record {
    one_more = omega arith;
    two_more = omega arith;
    no_ff = λ f. let lt = seven f in omega arith;
  })
  | inr n ↦ rw (drop_ff_more, ne_eqb byte 255 n) (record {
    one_more = omega (arith, length_push bytes byte);
    two_more = omega (arith, length_push bytes byte);
    no_ff = λ f. n (sym (last_snoc bytes byte) ∙ f);
  })
]

-- the ended code has one or two bytes more than were put out, and does not end in FF
pub ended_form : (x : Coding) → IsEnded (length x.bytes) (flush x)
unfolding flush shift_out set_bits
ended_form x =
    let y : Coding = shift_out (set_bits x) in
    let long : length y.bytes ≡ length x.bytes + 1 =
    byte_out_length (record (set_bits x) { c = (set_bits x).c * 2 ^ x.ct; ct = 0 }) in
    let low : y.c * 2 ^ y.ct < 2 ^ 27 =
    byte_out_rest (record (set_bits x) { c = (set_bits x).c * 2 ^ x.ct; ct = 0 }) in
    let more = byte_out_appends (record y { c = y.c * 2 ^ y.ct; ct = 0 }) low in
    let e : length y.bytes - 1 ≡ length x.bytes = omega arith in
    rw (more.appended) (rw (← e) (dropped_ended y.bytes more.byte (omega arith) more.seven))

-- the last of the first bytes left out, where it is FF
pub drop_ff_take : (xs : List ℕ) (n : ℕ) → n < length xs
    → drop_ff (take (n + 1) xs) ≡ (if get_or xs n 0 == 255 then take n xs else take (n + 1) xs)
drop_ff_take xs n room = rw (take_more xs n 0 room) (drop_ff_more (take n xs) (get_or xs n 0))

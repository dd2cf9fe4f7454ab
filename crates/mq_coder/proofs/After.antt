-- The procedures change no byte before the last one.
use Rattle.std.proofs.Common.{ℕ, ◌+◌, ◌-◌, ◌*◌, ◌^◌, ◌≤◌, ◌≡◌, ◌⊎◌, inl, inr, Bool, true, false}
use Rattle.std.proofs.Common.{◌==◌, nat_lt, if◌then◌else◌, List, [], ◌++◌, length, set, take, arith}
use Rattle.std.proofs.Common.{refl, ap, sym, ◌∙◌, append_assoc}
use Rattle.std.proofs.lemmas.List.{length-append, get_or-append-add, set-append_right}
use Rattle.std.proofs.Math.Seq.{take-append-add}
use Rattle.mq_coder.specs.Code.{Coding, last_byte, raise_last, put_7, put_8, byte_out, shift_out}
use Rattle.mq_coder.specs.Code.{set_bits, drop_ff, flush}
use Rattle.mq_coder.proofs.FlushShifts.{set_bytes}

-- a state with other bytes before its own, and other contexts
abbrev pub after : List ℕ → List (ℕ × Bool) → Coding → Coding
after prefix contexts x = record x { bytes = prefix ++ x.bytes; contexts = contexts }

-- nothing in prefix, or a last byte of its own
abbrev pub OwnsLast : List ℕ → List ℕ → Type 0
OwnsLast prefix bytes = (prefix ≡ []) ⊎ (1 ≤ length bytes)

last_place : (prefix bytes : List ℕ) → 1 ≤ length bytes
    → length (prefix ++ bytes) - 1 ≡ length prefix + (length bytes - 1)
last_place prefix bytes some = omega (arith, length-append prefix bytes)

last_byte_behind : (prefix bytes : List ℕ) → OwnsLast prefix bytes →
    last_byte (prefix ++ bytes) ≡ last_byte bytes
last_byte_behind prefix bytes (inl none) = rw none refl
last_byte_behind prefix bytes (inr some) =
    rw (last_place prefix bytes some) (get_or-append-add prefix bytes (length bytes - 1) 0)

raise_last_behind : (prefix bytes : List ℕ) → OwnsLast prefix bytes →
    raise_last (prefix ++ bytes) ≡ prefix ++ raise_last bytes
raise_last_behind prefix bytes (inl none) = rw none refl
raise_last_behind prefix bytes (inr some) =
    let e = last_byte_behind prefix bytes (inr some) in
    let back : length prefix + (length bytes - 1) - length prefix ≡ length bytes - 1 =
    omega arith in
    let right = set-append_right prefix bytes (length prefix) (length prefix + (length bytes - 1))
    (last_byte bytes + 1) refl (omega arith) in
    ap (set (prefix ++ bytes) (length (prefix ++ bytes) - 1)) (ap (λ (b : ℕ). b + 1) e)
    ∙ (ap (λ (i : ℕ). set (prefix ++ bytes) i (last_byte bytes + 1)) (last_place prefix bytes some)
    ∙ (right ∙ ap (λ (i : ℕ). prefix ++ set bytes i (last_byte bytes + 1)) back))

-- BYTEOUT by the returns of its tests
abbrev pub outs : Bool → Bool → Bool → List ℕ → Coding → Coding
outs after_ff fits new_ff raised x =
    if after_ff then put_7 x x.bytes x.c
    else (if fits then put_8 x x.bytes x.c
    else (if new_ff then put_7 x raised (x.c - 0x8000000)
    else put_8 x raised (x.c - 0x8000000)))

outs_behind : (prefix : List ℕ) (contexts : List (ℕ × Bool)) (b c d : Bool) (raised : List ℕ)
    (x : Coding)
    → outs b c d (prefix ++ raised) (after prefix contexts x)
    ≡ after prefix contexts (outs b c d raised x)
outs_behind prefix contexts true c d raised x = simp append_assoc
outs_behind prefix contexts false true d raised x = simp append_assoc
outs_behind prefix contexts false false true raised x = simp append_assoc
outs_behind prefix contexts false false false raised x = simp append_assoc

outs_some : (b c d : Bool) (raised : List ℕ) (x : Coding) → 1 ≤ length (outs b c d raised x).bytes
outs_some true c d raised x = simp length-append (omega arith)
outs_some false true d raised x = simp length-append (omega arith)
outs_some false false true raised x = simp length-append (omega arith)
outs_some false false false raised x = simp length-append (omega arith)

abbrev pub outs_of : ℕ → List ℕ → Coding → Coding
outs_of last raised x = outs (last == 255) (nat_lt x.c 0x8000000) (last + 1 == 255) raised x

pub byte_out_is : (x : Coding) → byte_out x ≡ outs_of (last_byte x.bytes) (raise_last x.bytes) x
unfolding byte_out
byte_out_is x = refl

pub byte_out_some : (x : Coding) → 1 ≤ length (byte_out x).bytes
byte_out_some x = rw byte_out_is (outs_some _ _ _ (raise_last x.bytes) x)

pub byte_out_behind : (prefix : List ℕ) (contexts : List (ℕ × Bool)) (x : Coding) →
    OwnsLast prefix x.bytes
    → byte_out (after prefix contexts x) ≡ after prefix contexts (byte_out x)
byte_out_behind prefix contexts x owns =
    let y : Coding = after prefix contexts x in
    byte_out_is y
    ∙ (ap (λ (l : ℕ). outs_of l (raise_last (prefix ++ x.bytes)) y)
    (last_byte_behind prefix x.bytes owns)
    ∙ (ap (λ (r : List ℕ). outs_of (last_byte x.bytes) r y) (raise_last_behind prefix x.bytes owns)
    ∙ (outs_behind prefix contexts (last_byte x.bytes == 255) (nat_lt x.c 0x8000000)
    (last_byte x.bytes + 1 == 255) (raise_last x.bytes) x
    ∙ ap (after prefix contexts) (sym (byte_out_is x)))))

shift_out_behind : (prefix : List ℕ) (contexts : List (ℕ × Bool)) (x : Coding) →
    OwnsLast prefix x.bytes
    → shift_out (after prefix contexts x) ≡ after prefix contexts (shift_out x)
unfolding shift_out
shift_out_behind prefix contexts x owns =
    byte_out_behind prefix contexts (record x { c = x.c * 2 ^ x.ct; ct = 0 }) owns

shift_out_some : (x : Coding) → 1 ≤ length (shift_out x).bytes
unfolding shift_out
shift_out_some x = byte_out_some (record x { c = x.c * 2 ^ x.ct; ct = 0 })

set_bits_behind : (prefix : List ℕ) (contexts : List (ℕ × Bool)) (x : Coding)
    → set_bits (after prefix contexts x) ≡ after prefix contexts (set_bits x)
unfolding set_bits
set_bits_behind prefix contexts x = refl

either_behind : (prefix : List ℕ) (b : Bool) (xs ys : List ℕ)
    → (if b then prefix ++ xs else prefix ++ ys) ≡ prefix ++ (if b then xs else ys)
either_behind prefix true xs ys = refl
either_behind prefix false xs ys = refl

drop_ff_behind : (prefix bytes : List ℕ) → 1 ≤ length bytes →
    drop_ff (prefix ++ bytes) ≡ prefix ++ drop_ff bytes
unfolding drop_ff
drop_ff_behind prefix bytes some =
    let l = last_byte_behind prefix bytes (inr some) in
    let t : take (length (prefix ++ bytes) - 1) (prefix ++ bytes)
    ≡ prefix ++ take (length bytes - 1) bytes =
    ap (λ (n : ℕ). take n (prefix ++ bytes)) (last_place prefix bytes some)
    ∙ take-append-add prefix bytes (length bytes - 1) in
    ap (λ (n : ℕ). if n == 255 then take (length (prefix ++ bytes) - 1)
    (prefix ++ bytes) else prefix ++ bytes) l
    ∙ (ap (λ (ys : List ℕ). if last_byte bytes == 255 then ys else prefix ++ bytes) t
    ∙ either_behind prefix (last_byte bytes == 255) (take (length bytes - 1) bytes) bytes)

-- the ended code of a state with other bytes in prefix
pub ended_behind : (prefix : List ℕ) (contexts : List (ℕ × Bool)) (x : Coding) →
    OwnsLast prefix x.bytes
    → flush (after prefix contexts x) ≡ prefix ++ flush x
unfolding flush
ended_behind prefix contexts x owns =
    let set = set_bits_behind prefix contexts x in
    let first = shift_out_behind prefix contexts (set_bits x) (rw set_bytes owns) in
    let second = shift_out_behind prefix contexts (shift_out (set_bits x))
    (inr (shift_out_some (set_bits x))) in
    let both : shift_out (shift_out (set_bits (after prefix contexts x)))
    ≡ after prefix contexts (shift_out (shift_out (set_bits x))) =
    ap (λ (y : Coding). shift_out (shift_out y)) set ∙ (ap shift_out first ∙ second) in
    ap (λ (y : Coding). drop_ff y.bytes) both
    ∙ drop_ff_behind prefix (shift_out (shift_out (set_bits x))).bytes
    (shift_out_some (shift_out (set_bits x)))

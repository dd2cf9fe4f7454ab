-- How many bytes the symbols of a list put out.
use Rattle.std.proofs.Common.{ℕ, zero, suc, ◌+◌, ◌*◌, ◌-◌, ◌^◌, ◌≤◌, ◌≡◌, inl, inr, Bool, true}
use Rattle.std.proofs.Common.{false, ◌==◌, nat_lt, nat_le, if◌then◌else◌, List, [], ◌∷◌, ◌++◌}
use Rattle.std.proofs.Common.{length, fold, arith, refl}
use Rattle.std.proofs.lemmas.Bool.{cases_lt, cases_eq}
use Rattle.std.proofs.lemmas.List.Sums.{fold-append}
use Rattle.mq_coder.specs.States.{context_at, same}
use Rattle.mq_coder.specs.Decisions.{estimate}
use Rattle.mq_coder.specs.Code.{Coding, start_coding, last_byte, raise_last, byte_out, shift}
use Rattle.mq_coder.specs.Code.{renormalise, learn, take_lower, take_upper, code_mps, code_lps}
use Rattle.mq_coder.specs.Code.{code_symbol, coded, code}
use Rattle.mq_coder.proofs.After.{outs, byte_out_is}
use Rattle.mq_coder.proofs.FlushForm.{byte_out_length, ended_form}
use Rattle.mq_coder.proofs.Marks.{between}
use Rattle.mq_coder.proofs.Shifting.{shift_none, shift_full}
use Rattle.mq_coder.proofs.Turns.{renormalise_turn, renormalise_done, renormalise_none}

-- At least n bytes are put out, and each of them took seven doublings of the d made so far.
pub record Paced (n d : ℕ) (x : Coding) : Type 0 where
  pub least : n ≤ length x.bytes
  pub some : 1 ≤ x.ct
  pub pace : 7 * length x.bytes + 7 ≤ d + x.ct

outs_seven : (b c d : Bool) (raised : List ℕ) (x : Coding) → 7 ≤ (outs b c d raised x).ct
outs_seven true c d raised x = omega arith
outs_seven false true d raised x = omega arith
outs_seven false false true raised x = omega arith
outs_seven false false false raised x = omega arith

byte_out_seven : (x : Coding) → 7 ≤ (byte_out x).ct
byte_out_seven x = rw byte_out_is
    (outs_seven (last_byte x.bytes == 255) (nat_lt x.c 0x8000000) (last_byte x.bytes + 1 == 255)
    (raise_last x.bytes) x)

shift_paced : (n d : ℕ) (x : Coding) → Paced n d x → Paced n (d + 1) (shift x)
shift_paced n d x h =
    let least = h.least in
    let some = h.some in
    let pace = h.pace in
    elim (cases_eq x.ct 1) [
      | inl one ↦
          let y : Coding = record x { a = 2 * x.a; c = 2 * x.c; ct = 0 } in
          let long = byte_out_length y in
          let seven = byte_out_seven y in
          rw (shift_full x one) (record {
            least = omega arith;
            some = omega arith;
            pace =
                omega arith;
          })
      | inr other ↦
          let more : 2 ≤ x.ct = elim (cases_lt x.ct 2) [
            | inl lt ↦ absurd
                (other (omega arith))
            | inr ge ↦ ge
          ] in
          rw (shift_none x other) (record { least = least; some = omega arith; pace = omega arith })
    ]

paced_later : (n d e : ℕ) (x : Coding) → d ≤ e → Paced n d x → Paced n e x
paced_later n d e x le h =
    let pace = h.pace in
    record { least = h.least; some = h.some; pace = omega arith }

renormalise_paced : (m n d : ℕ) (x : Coding) → Paced n d x → Paced n (d + m) (renormalise m x)
renormalise_paced zero n d x h = rw (renormalise_none x) (paced_later n d (d + 0) x (omega arith) h)
renormalise_paced (suc m) n d x h = elim (cases_lt x.a (2 ^ 15)) [
  | inl small ↦ rw (renormalise_turn m x small)
      (paced_later n (d + 1 + m) (d + suc m) (renormalise m (shift x)) (omega arith)
      (renormalise_paced m n (d + 1) (shift x) (shift_paced n d x h)))
  | inr wide ↦ rw (renormalise_done (suc m) x wide) (paced_later n d (d + suc m) x (omega arith) h)
]

either : (P : Coding → Type 0) (b : Bool) (x y : Coding) → P x → P y → P (if b then x else y)
either P true x y h k = h
either P false x y h k = k

symbol_paced : (n d : ℕ) (x : Coding) (cx : ℕ) (bit : Bool) → Paced n d x →
    Paced n (d + 15) (code_symbol x (cx, bit))
unfolding code_symbol code_mps code_lps
symbol_paced n d x cx bit h =
    let P : Coding → Type 0 = λ y. Paced n (d + 15) y in
    let qe : ℕ = estimate x.contexts cx in
    let kept : (y : Coding) → y.ct ≡ x.ct → y.bytes ≡ x.bytes → Paced n d y =
    λ y e f. record { least = rw f h.least; some = rw e h.some; pace = rw (e, f) h.pace } in
    let moved : (y : Coding) → y.ct ≡ x.ct → y.bytes ≡ x.bytes → P (renormalise 15 y) =
    λ y e f. renormalise_paced 15 n d y (kept y e f) in
    let up : P (renormalise 15 (learn (take_upper x qe) cx bit)) =
    moved (learn (take_upper x qe) cx bit) refl refl in
    let low : P (renormalise 15 (learn (take_lower x qe) cx bit)) =
    moved (learn (take_lower x qe) cx bit) refl refl in
    let stays : P (take_upper x qe) =
    paced_later n d (d + 15) (take_upper x qe) (omega arith)
    (kept (take_upper x qe) refl refl) in
    either P (same bit (context_at x.contexts cx).1) (code_mps x cx bit) (code_lps x cx bit)
    (either P (nat_le 0x8000 (x.a - qe)) (take_upper x qe) _ stays
    (either P (nat_lt (x.a - qe) qe) _ _ low up))
    (either P (nat_lt (x.a - qe) qe) _ _ up low)

symbols_paced : (ys : List (ℕ × Bool)) (n d : ℕ) (x : Coding) → Paced n d x →
    Paced n (d + 15 * length ys) (fold code_symbol x ys)
symbols_paced [] n d x h = paced_later n d (d + 15 * 0) x (omega arith) h
symbols_paced ((cx, bit) ∷ ys) n d x h =
    paced_later n (d + 15 + 15 * length ys) (d + 15 * length ((cx, bit) ∷ ys))
    (fold code_symbol (code_symbol x (cx, bit)) ys) (omega arith)
    (symbols_paced ys n (d + 15) (code_symbol x (cx, bit)) (symbol_paced n d x cx bit h))

start_paced : Paced 0 0 start_coding
unfolding start_coding
start_paced = record { least = omega arith; some = omega arith; pace = omega arith }

-- a list of symbols puts out at most 15 bytes for 7 of them
pub few_bytes : (symbols : List (ℕ × Bool)) →
    7 * length (coded symbols).bytes ≤ 15 * length symbols + 5
unfolding coded
few_bytes symbols =
    let h = symbols_paced symbols 0 0 start_coding start_paced in
    let pace = h.pace in
    let few = (between symbols).few in
    omega arith

-- the bytes put out never get fewer
pub bytes_grow : (symbols later : List (ℕ × Bool))
    → length (coded symbols).bytes ≤ length (coded (symbols ++ later)).bytes
unfolding coded
bytes_grow symbols later =
    let x : Coding = coded symbols in
    let some = (between symbols).some in
    let h : Paced (length x.bytes) (7 * length x.bytes + 7) x =
    record { least = omega arith; some = some; pace = omega arith } in
    rw (fold-append code_symbol start_coding symbols later)
    (symbols_paced later (length x.bytes) (7 * length x.bytes + 7) x h).least

-- each code from some symbols on is longer than what they put out
pub later_long : (symbols later : List (ℕ × Bool))
    → length (coded symbols).bytes + 1 ≤ length (code (symbols ++ later))
unfolding code
later_long symbols later =
    let grown = bytes_grow symbols later in
    let form = (ended_form (coded (symbols ++ later))).one_more in
    omega arith

-- Pieces behind pieces.
use Rattle.std.proofs.Common.{ℕ, ◌≡◌, ◌≤◌, ◌+◌, ◌-◌, ◌∙◌, List, ◌++◌, Option, Some, None}
use Rattle.std.proofs.Common.{option_map, length, take, drop, refl, ap, sym, subst, arith}
use Rattle.std.proofs.lemmas.List.{append_assoc, take-append-le, length-append, length-take}
use Rattle.std.proofs.lemmas.List.{length-take-le, take_rest}
use Rattle.std.proofs.Math.Seq.{take-add, take-append-add}
use borrow.Rule.Slice.PartMut.{put_mid, post_of}
use Rattle.cine_ports.specs.Source.{File}
use Rattle.cine_ports.specs.Outputs.{Kept, file_with, with_more}
use Rattle.cine_ports.specs.WholePieces.{said_with}

file_with-twice : (a b : List ℕ) (file : Option File) →
    file_with b (file_with a file) ≡ file_with (a ++ b) file
file_with-twice a b None = refl
file_with-twice a b (Some file) =
    ap (λ bytes. Some (record { name = file.name; bytes = bytes })) (append_assoc file.bytes a b)

-- a piece, and the next one behind it
pub with_more-twice : (a b : List ℕ) (kept : Option Kept) →
    option_map (with_more b) (option_map (with_more a) kept) ≡ option_map (with_more (a ++ b)) kept
with_more-twice a b None = refl
with_more-twice a b (Some kept) =
    ap (λ file. Some (record { finished = kept.finished; unfinished = file }))
    (file_with-twice a b kept.unfinished)

-- the part of a piece that a call was given, from a place on, and then the part that it took
taken : (i n : ℕ) (piece : List ℕ) →
    take i piece ++ take n (take (length piece - i) (drop i piece)) ≡ take (i + n) piece
taken i n piece =
    ap (λ rest. take i piece ++ take n rest) (take_rest piece i) ∙ sym (take-add i n piece)

-- a call takes no more than it was given
pub part-within : (i n : ℕ) (piece : List ℕ) → i ≤ length piece →
    n ≤ length (take (length piece - i) (drop i piece)) → i + n ≤ length piece
part-within i n piece in_piece in_part =
    let part = subst (λ m. n ≤ m) (length-take (length piece - i) (drop i piece)) in_part in
    omega (arith, part)

-- the first bytes of a piece, and then the first ones of the rest
pub with_more-step : (i n : ℕ) (piece : List ℕ) (kept : Option Kept) →
    option_map (with_more (take n (take (length piece - i) (drop i piece))))
    (option_map (with_more (take i piece)) kept)
    ≡ option_map (with_more (take (i + n) piece)) kept
with_more-step i n piece kept =
    with_more-twice (take i piece) (take n (take (length piece - i) (drop i piece))) kept
    ∙ ap (λ bytes. option_map (with_more bytes) kept) (taken i n piece)

pub said_with-step : (i n : ℕ) (piece : List ℕ) (said : Option (List ℕ)) →
    option_map (said_with (take n (take (length piece - i) (drop i piece))))
    (option_map (said_with (take i piece)) said)
    ≡ option_map (said_with (take (i + n) piece)) said
said_with-step i n piece None = refl
said_with-step i n piece (Some bytes) =
    ap Some (append_assoc bytes (take i piece) (take n (take (length piece - i) (drop i piece)))
    ∙ ap (λ more. bytes ++ more) (taken i n piece))

-- a buffer whose rest was read into is long enough for what was read
pub read-within : (i n : ℕ) (buf part : List ℕ) → i ≤ length buf → n ≤ length part →
    i + n ≤ length (put_mid i (length buf - i) buf part)
read-within i n buf part in_buf in_part =
    let front = length-take-le i buf in_buf in
    let whole = length-append (take i buf) (part ++ post_of i (length buf - i) buf) in
    let rest = length-append part (post_of i (length buf - i) buf) in
    omega (arith, front, whole, rest)

-- bytes that left a frame into a buffer, and then more of them into its rest
pub read-step : (i n : ℕ) (buf part before left : List ℕ) → i ≤ length buf → n ≤ length part →
    take i buf ++ before ≡ take i buf ++ (take n part ++ left) →
    take i buf ++ before ≡ take (i + n) (put_mid i (length buf - i) buf part) ++ left
read-step i n buf part before left in_buf in_part moved =
    moved
    ∙ sym (append_assoc (take i buf) (take n part) left)
    ∙ ap (λ bytes. bytes ++ left) (sym (front ∙ parts))
  where
    k : ℕ
    k = length buf - i

    front : take (i + n) (put_mid i k buf part) ≡ take i buf ++ take n (part ++ post_of i k buf)
    front = ap (λ m. take (m + n) (put_mid i k buf part)) (sym (length-take-le i buf in_buf))
        ∙ take-append-add (take i buf) (part ++ post_of i k buf) n

    parts : take i buf ++ take n (part ++ post_of i k buf) ≡ take i buf ++ take n part
    parts = ap (λ bytes. take i buf ++ bytes) (take-append-le n part (post_of i k buf) in_part)

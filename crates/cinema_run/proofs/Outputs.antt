-- What the steps of a whole output make.
use Rattle.std.proofs.Common.{◌≡◌, ℕ, List, Option, Some, None, Result, Ok, Err, OnErr, length}
use Rattle.std.proofs.Common.{take, option_map, arith, refl, ◌∙◌, ap, inr}
use Rattle.std.proofs.Math.Seq.{take-length}
use Rattle.cine_ports.specs.Outputs.{Kept, with_begun, with_more}
use Rattle.cinema_run.specs.Output.{kept_and_part, OutputBrokeOff}

-- what holds anyway holds of an error
pub on_err : {T E : Type 0} {P : Type 0} (r : Result T E) → P → OnErr r P
on_err (Ok x) p = tt
on_err (Err e) p = p

-- and so does what follows from what holds of an error
pub err_more : {T E : Type 0} {P Q : Type 0} (r : Result T E) → (P → Q) → OnErr r P → OnErr r Q
err_more (Ok x) more p = tt
err_more (Err e) more p = more p

-- all the bytes follow those of the file that was begun, of which there are none
begun_and_more : (name bytes : List ℕ) (k : Option Kept) →
    option_map (with_more bytes) (option_map (with_begun name) k)
    ≡ option_map (kept_and_part name bytes) k
begun_and_more name bytes None = refl
begun_and_more name bytes (Some kept) = refl

-- an output that was written and not finished
pub whole_part : (name bytes : List ℕ) (before begun written now : Option Kept) →
    begun ≡ option_map (with_begun name) before → written ≡ option_map (with_more bytes) begun →
    now ≡ written → OutputBrokeOff name bytes before now
whole_part name bytes before begun written now p q r =
    let whole : take (length bytes) bytes ≡ bytes = take-length bytes in
    let made : now ≡ option_map (kept_and_part name bytes) before = r ∙ q
    ∙ ap (option_map (with_more bytes)) p ∙ begun_and_more name bytes before in
    inr (length bytes, omega arith, rw whole made)

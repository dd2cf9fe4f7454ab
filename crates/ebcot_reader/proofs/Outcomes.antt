-- What is read is the meaning of the bytes.
use Rattle.std.proofs.Common.{ℕ, ◌-◌, ◌*◌, ◌≤◌, ◌≡◌, Bool, List, length, sym, ap, ◌∙◌, subst}
use Rattle.std.proofs.lemmas.List.{length-map}
use Rattle.mq_coder.specs.Code.{code}
use Rattle.mq_coder.proofs.Inverts.{inverts}
use Rattle.ebcot_contexts.specs.Cells.{Cell, view, coef_of}
use Rattle.ebcot_contexts.specs.Contexts.{Shape}
use Rattle.ebcot_contexts.specs.Meaning.{IsBlock, Means, DecidedBy, read_block, symbols_of}
use Rattle.ebcot_contexts.specs.Meaning.{unknown_after}
use Rattle.ebcot_contexts.proofs.Meanings.{meaning_holds, one_meaning_of_bytes, written_read_back}
use Rattle.ebcot_reader.specs.Results.{AreSmall}
use Rattle.ebcot_reader.proofs.Showing.{small_of_block}

pub block_long : (bytes : List ℕ) (s : Shape) (k : ℕ) → k ≤ 3 * s.planes - 2
    → length (read_block bytes s k) ≡ s.width * s.height
block_long bytes s k few =
    sym (length-map (read_block bytes s k) coef_of) ∙ (meaning_holds bytes s k few).fits.long

pub block_small : (bytes : List ℕ) (s : Shape) (k : ℕ) → k ≤ 3 * s.planes - 2 → s.planes ≤ 31
    → AreSmall (read_block bytes s k)
block_small bytes s k few planes =
    small_of_block s (read_block bytes s k) planes (meaning_holds bytes s k few).fits

pub means_of : (bytes : List ℕ) (s : Shape) (k : ℕ) (cells : List Cell) → k ≤ 3 * s.planes - 2
    → cells ≡ read_block bytes s k → Means (DecidedBy bytes) s k cells
means_of bytes s k cells few e =
    subst (λ (v : List Cell). Means (DecidedBy bytes) s k v) (sym e) (meaning_holds bytes s k few)

pub only_of : (bytes : List ℕ) (s : Shape) (k : ℕ) (cells : List Cell)
    → cells ≡ read_block bytes s k → (other : List Cell) → Means (DecidedBy bytes) s k other
    → other ≡ cells
only_of bytes s k cells e other m = one_meaning_of_bytes bytes s k other m ∙ sym e

pub back_of : (bytes : List ℕ) (s : Shape) (k : ℕ) (cells : List Cell)
    → cells ≡ read_block bytes s k → (coefs : List (ℕ × Bool)) → IsBlock coefs s
    → bytes ≡ code (symbols_of coefs s k) → cells ≡ view coefs (unknown_after coefs s k)
back_of bytes s k cells e coefs block string =
    e ∙ (ap (λ (v : List ℕ). read_block v s k) string ∙ written_read_back inverts coefs s k block)

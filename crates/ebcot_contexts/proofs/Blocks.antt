-- Passes ask honestly, from the start of a block.
use Rattle.std.proofs.Common.{ℕ, zero, suc, ◌+◌, ◌-◌, ◌*◌, ◌/◌, ◌%◌, Bool, List, [], ◌∷◌, get_or}
use Rattle.std.proofs.Common.{replicate, refl}
use Rattle.std.proofs.lemmas.List.{length-replicate}
use Rattle.ebcot_contexts.specs.Cells.{Cell, fresh, AllShow, IsPlain}
use Rattle.ebcot_contexts.specs.Contexts.{Shape}
use Rattle.ebcot_contexts.specs.Passes.{Kind, column, columns, kind_at, scan, pass, passes, start}
use Rattle.ebcot_contexts.specs.Passes.{block}
use Rattle.ebcot_contexts.proofs.Shown.{Sound}
use Rattle.ebcot_contexts.proofs.Trees.{Honest, honest_known, honest_chain}
use Rattle.ebcot_contexts.proofs.Scanned.{AllRising, scan_rises}
use Rattle.ebcot_contexts.proofs.Columns.{column_honest}

pub columns_honest : (n : ℕ) (coefs : List (ℕ × Bool)) (s : Shape) (p : ℕ) (kind : Kind)
    (cs : List (List ℕ)) (cells : List Cell) → AllRising n cs → Sound n cells
    → Honest n coefs (AllShow cells coefs) (columns kind s p cs cells)
columns_honest n coefs s p kind [] cells r sound =
    honest_known n coefs _ cells sound (λ a. a, λ a. a)
columns_honest n coefs s p kind (is ∷ rest) cells r sound =
    honest_chain n coefs _ (column kind s p is cells) (columns kind s p rest)
    (column_honest n coefs s p kind is cells r.0 sound)
    (λ c h. columns_honest n coefs s p kind rest c r.1 h)

pass_honest : (coefs : List (ℕ × Bool)) (s : Shape) (j : ℕ) (cells : List Cell) →
    Sound (s.width * s.height) cells
    → Honest (s.width * s.height) coefs (AllShow cells coefs) (pass s j cells)
unfolding pass
pass_honest coefs s j cells sound =
    columns_honest (s.width * s.height) coefs s (s.planes - 1 - (j + 2) / 3) (kind_at ((j + 2) % 3))
    (scan s.width s.height) cells (scan_rises s.width s.height) sound

passes_honest : (coefs : List (ℕ × Bool)) (s : Shape) (k : ℕ) (cells : List Cell) →
    Sound (s.width * s.height) cells
    → Honest (s.width * s.height) coefs (AllShow cells coefs) (passes s k cells)
passes_honest coefs s zero cells sound = honest_known _ coefs _ cells sound (λ a. a, λ a. a)
passes_honest coefs s (suc k) cells sound =
    honest_chain (s.width * s.height) coefs _ (passes s k cells) (pass s k)
    (passes_honest coefs s k cells sound) (λ c h. pass_honest coefs s k c h)

-- a cell of a block of which nothing is known
at_start : (P : Cell → Type 0) (n i : ℕ) (x d : Cell) → P x → P d → P (get_or (replicate n x) i d)
at_start P zero i x d h k = k
at_start P (suc n) zero x d h k = h
at_start P (suc n) (suc i) x d h k = at_start P n i x d h k

start_sound : (s : Shape) → Sound (s.width * s.height) (start s)
start_sound s =
    record {
      long = length-replicate (s.width * s.height) (fresh s.planes);
      plain = λ i. at_start IsPlain (s.width * s.height) i (fresh s.planes) (fresh 0) (λ e. refl)
          (λ e. refl);
    }

pub block_honest : (coefs : List (ℕ × Bool)) (s : Shape) (k : ℕ) →
    Honest (s.width * s.height) coefs (AllShow (start s) coefs) (block s k)
unfolding block
block_honest coefs s k = passes_honest coefs s k (start s) (start_sound s)

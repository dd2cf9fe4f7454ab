-- A row of the matrix at whole samples, over 2^3, is that row at samples with 13 bits after the
-- point, over 2^16.
use Rattle.std.proofs.Common.{◌≡◌, ℕ, ℤ, pos, negsuc, neg_ℤ, ◌+◌, ◌*◌, ◌+ℤ◌, ◌-ℤ◌, ◌*ℤ◌, arith, ap}
use Rattle.std.proofs.Common.{sym, ◌∙◌}
use Rattle.std.specs.Int.{int_shr}
use Rattle.std.proofs.lemmas.Int.{ints}
use Rattle.colour_ict.specs.Ict.{component0, component1, component2}

shr_scaled : (z : ℤ) → int_shr (z *ℤ pos 8192) 16 ≡ int_shr z 3
shr_scaled (pos a) = ap pos (omega arith)
shr_scaled (negsuc a) =
    let product : negsuc a *ℤ pos 8192 ≡ negsuc (a * 8192 + 8191) = omega (arith, ints) in
    ap (λ z. int_shr z 16) product ∙ ap negsuc (omega arith)

-- the matrix with its rows over 2^3, at samples that are less half of their range
row0 : ℤ → ℤ → ℤ → ℤ
row0 a b c = (((pos 19595 *ℤ a) +ℤ (pos 38470 *ℤ b)) +ℤ (pos 7471 *ℤ c)) +ℤ pos 4

row1 : ℤ → ℤ → ℤ → ℤ
row1 a b c = (((neg_ℤ (pos 11059) *ℤ a) +ℤ (neg_ℤ (pos 21709) *ℤ b)) +ℤ (pos 32768 *ℤ c)) +ℤ pos 4

row2 : ℤ → ℤ → ℤ → ℤ
row2 a b c = (((pos 32768 *ℤ a) +ℤ (neg_ℤ (pos 27439) *ℤ b)) +ℤ (neg_ℤ (pos 5329) *ℤ c)) +ℤ pos 4

scaled0 : (a b c : ℤ) → row0 a b c *ℤ pos 8192 ≡
    (((pos 19595 *ℤ (a *ℤ pos 8192)) +ℤ (pos 38470 *ℤ (b *ℤ pos 8192))) +ℤ
    (pos 7471 *ℤ (c *ℤ pos 8192))) +ℤ pos 32768
unfolding row0
scaled0 a b c = omega (arith, ints)

scaled1 : (a b c : ℤ) → row1 a b c *ℤ pos 8192 ≡
    (((neg_ℤ (pos 11059) *ℤ (a *ℤ pos 8192)) +ℤ (neg_ℤ (pos 21709) *ℤ (b *ℤ pos 8192))) +ℤ
    (pos 32768 *ℤ (c *ℤ pos 8192))) +ℤ pos 32768
unfolding row1
scaled1 a b c = omega (arith, ints)

scaled2 : (a b c : ℤ) → row2 a b c *ℤ pos 8192 ≡
    (((pos 32768 *ℤ (a *ℤ pos 8192)) +ℤ (neg_ℤ (pos 27439) *ℤ (b *ℤ pos 8192))) +ℤ
    (neg_ℤ (pos 5329) *ℤ (c *ℤ pos 8192))) +ℤ pos 32768
unfolding row2
scaled2 a b c = omega (arith, ints)

pub component0-is : (x y z : ℕ) →
    int_shr ((((pos 19595 *ℤ (pos x -ℤ pos 2048)) +ℤ (pos 38470 *ℤ (pos y -ℤ pos 2048))) +ℤ
    (pos 7471 *ℤ (pos z -ℤ pos 2048))) +ℤ pos 4) 3
    ≡ component0 x y z
unfolding component0 row0
component0-is x y z =
    sym (shr_scaled (row0 (pos x -ℤ pos 2048) (pos y -ℤ pos 2048) (pos z -ℤ pos 2048)))
    ∙ ap (λ s. int_shr s 16) (scaled0 (pos x -ℤ pos 2048) (pos y -ℤ pos 2048) (pos z -ℤ pos 2048))

pub component1-is : (x y z : ℕ) →
    int_shr ((((neg_ℤ (pos 11059) *ℤ (pos x -ℤ pos 2048)) +ℤ
    (neg_ℤ (pos 21709) *ℤ (pos y -ℤ pos 2048))) +ℤ
    (pos 32768 *ℤ (pos z -ℤ pos 2048))) +ℤ pos 4) 3
    ≡ component1 x y z
unfolding component1 row1
component1-is x y z =
    sym (shr_scaled (row1 (pos x -ℤ pos 2048) (pos y -ℤ pos 2048) (pos z -ℤ pos 2048)))
    ∙ ap (λ s. int_shr s 16) (scaled1 (pos x -ℤ pos 2048) (pos y -ℤ pos 2048) (pos z -ℤ pos 2048))

pub component2-is : (x y z : ℕ) →
    int_shr ((((pos 32768 *ℤ (pos x -ℤ pos 2048)) +ℤ (neg_ℤ (pos 27439) *ℤ (pos y -ℤ pos 2048))) +ℤ
    (neg_ℤ (pos 5329) *ℤ (pos z -ℤ pos 2048))) +ℤ pos 4) 3
    ≡ component2 x y z
unfolding component2 row2
component2-is x y z =
    sym (shr_scaled (row2 (pos x -ℤ pos 2048) (pos y -ℤ pos 2048) (pos z -ℤ pos 2048)))
    ∙ ap (λ s. int_shr s 16) (scaled2 (pos x -ℤ pos 2048) (pos y -ℤ pos 2048) (pos z -ℤ pos 2048))

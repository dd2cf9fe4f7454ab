-- The numbers of a block in a packet header: coding passes (ISO/IEC 15444-1, Table B.4) and length
-- (B.10.7).
use Rattle.std.specs.Prelude.{ℕ, ◌+◌, ◌-◌, nat_le, Bool, true, false, if◌then◌else◌, List, [], ◌∷◌}
use Rattle.std.specs.Prelude.{◌++◌, replicate}
use Rattle.cine_nums.specs.Bits.{bit_len}
use Rattle.bit_stuffing.specs.Bits.{number}

-- the bits of a number of coding passes, 1 to 164
unfoldable pub pass_bits : ℕ → List Bool
pass_bits passes =
    if nat_le passes 1 then false ∷ []
    else if nat_le passes 2 then true ∷ false ∷ []
    else if nat_le passes 5 then replicate 2 true ++ number 2 (passes - 3)
    else if nat_le passes 36 then replicate 4 true ++ number 5 (passes - 6)
    else replicate 9 true ++ number 7 (passes - 37)

-- the largest number whose power of two is at most this one, which is above 0
abbrev pub log2 : ℕ → ℕ
log2 n = bit_len n - 1

-- how many bits a length has: Lblock, which starts at 3 and has been raised so often, and the
-- logarithm of the passes
abbrev pub length_width : ℕ → ℕ → ℕ
length_width passes raise = 3 + raise + log2 passes

-- the bits of a length: a 1 for each time that Lblock is raised, a 0, and the length itself
unfoldable pub length_bits : ℕ → ℕ → ℕ → List Bool
length_bits passes raise len = replicate raise true
    ++ false ∷ number (length_width passes raise) len

-- the least raise that lets the length fit
abbrev pub least_raise : ℕ → ℕ → ℕ
least_raise passes len = bit_len len - (3 + log2 passes)

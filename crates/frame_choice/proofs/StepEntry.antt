-- The entry of a block after a step.
use Rattle.std.proofs.Common.{◌≡◌, ℕ, zero, suc, ◌+◌, ◌-◌, ◌*◌, ◌/◌, ◌≤◌, Bool, true}
use Rattle.std.proofs.Common.{List, length, ap, ◌∙◌, arith}
use Rattle.ebcot_contexts.specs.Contexts.{Shape}
use Rattle.ebcot_passes.specs.Code.{passes_of}
use Rattle.packet_headers.specs.Written.{CanWriteEntry}
use Rattle.packet_headers.specs.declared.entry.Entry.{Entry}
use Rattle.profile_reader.specs.Chosen.{written_of}

abbrev pub included_entry : ℕ → ℕ → ℕ → Entry
included_entry zero_planes passes len =
    record { included = true; zero_planes = zero_planes; passes = passes; len = len }

-- an entry with some bytes, those of the code, is that of the block
pub entry_is : (band : ℕ) (coefs : List (ℕ × Bool)) (s : Shape) (k z len : ℕ) →
    z ≡ band - s.planes → len ≡ length (written_of band coefs s k).code → 1 ≤ len →
    included_entry z k len ≡ (written_of band coefs s k).entry
entry_is band coefs s zero z len is long some =
    let none : len ≡ 0 = long in absurd (omega (arith, none, some))
entry_is band coefs s (suc k) z len is long some =
    ap (λ n. included_entry n (suc k) len) is
    ∙ ap (λ n. included_entry (band - s.planes) (suc k) n) long

-- and can be written in its band
pub entry_can : (band : ℕ) (coefs : List (ℕ × Bool)) (s : Shape) (k z len : ℕ) →
    z ≡ band - s.planes → len ≡ length (written_of band coefs s k).code → 1 ≤ len →
    len ≤ 131072 → s.planes ≤ band → k ≤ passes_of s.planes →
    CanWriteEntry band (included_entry z k len)
entry_can band coefs s zero z len is long some short below within =
    let none : len ≡ 0 = long in absurd (omega (arith, none, some))
entry_can band coefs s (suc k) z len is long some short below within = λ included. record {
  fewer = omega (arith, is, below, within);
  some_passes = omega arith;
  passes = omega (arith, is, below, within);
  some_bytes = some;
  len = short;
}

-- P bit-planes have 3 P - 2 passes
pub planes_back : (n p : ℕ) → n ≡ 3 * p - 2 → (n + 2) / 3 ≡ p
planes_back n p is = omega (arith, is)

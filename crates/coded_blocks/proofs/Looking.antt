-- What is looked up of a block is what is written of it.
use Rattle.std.proofs.Common.{◌≡◌, ℕ, zero, suc, ◌+◌, ◌-◌, ◌<◌, ◌≤◌, Bool, true, List, length}
use Rattle.std.proofs.Common.{◌++◌, take, append_assoc, get_or, drop, arith, sym, subst, ap, refl, ◌∙◌}
use Rattle.band_geometry.specs.Bands.{IsBlock}
use Rattle.band_geometry.specs.Counts.{number_of}
use Rattle.band_geometry.specs.declared.geometry.Geometry.{Geometry}
use Rattle.band_geometry.specs.declared.places.BlockId.{BlockId}
use Rattle.dz_quantiser.specs.Bands.{band_planes}
use Rattle.dz_quantiser.specs.declared.steps.StepSizes.{StepSizes}
use Rattle.distortion_sums.specs.Distortion.{distortion}
use Rattle.ebcot_contexts.specs.Contexts.{Shape}
use Rattle.ebcot_contexts.specs.Meaning.{symbols_of}
use Rattle.mq_coder.specs.Code.{code}
use Rattle.mq_coder.specs.Mark.{IsMarkOf}
use Rattle.packet_headers.specs.Written.{CanWriteIncluded}
use Rattle.packet_headers.specs.declared.entry.Entry.{Entry}
use Rattle.profile_reader.specs.Chosen.{Planes, block_coefs, block_shape, written_of}
use Rattle.coded_blocks.specs.Coded.{IsCodedBlock, AreCoded, count_of, row_at}
use Rattle.ebcot_passes.specs.Code.{IsPass}
use Rattle.coded_blocks.specs.declared.blocks.CodedBlocks.{CodedBlocks}
use Rattle.ebcot_passes.specs.declared.coded.CodedPass.{CodedPass}
use Rattle.coded_blocks.specs.declared.row.CodedBlock.{CodedBlock}

-- what is kept of the block with a number
pub coded_at : (g : Geometry) (steps : StepSizes) (planes : Planes) (b : BlockId) (n : ℕ)
    (s : CodedBlocks) → AreCoded g steps planes s → IsBlock g b → number_of g b ≡ n →
    n < count_of s →
    IsCodedBlock (block_coefs g planes b) (block_shape g planes b)
    (band_planes steps b.res b.orient) (row_at s n) s.passes.items s.bytes.items
coded_at g steps planes b n s are is number lt =
    subst (λ m. IsCodedBlock (block_coefs g planes b) (block_shape g planes b)
    (band_planes steps b.res b.orient) (row_at s m) s.passes.items s.bytes.items) number
    (are.each b is (omega (arith, number, lt, are.count)))

-- the last of the first k passes, one or more
pub record IsLast (coefs : List (ℕ × Bool)) (s : Shape) (k : ℕ) (pass : CodedPass)
    (buffer : List ℕ) : Type 0 where
  pub mark : IsMarkOf pass.mark buffer (symbols_of coefs s k)
  pub few : pass.mark.count ≤ 68023
  pub distortion_is : pass.distortion ≡ distortion coefs s k

last-of : (coefs : List (ℕ × Bool)) (s : Shape) (k : ℕ) (pass : CodedPass) (buffer : List ℕ) →
    1 ≤ k → IsPass coefs s (k - 1) pass buffer → IsLast coefs s k pass buffer
last-of coefs s k pass buffer some is =
    let e : suc (k - 1) ≡ k = omega (arith, some) in
    record {
      mark = subst (λ j. IsMarkOf pass.mark buffer (symbols_of coefs s j)) e is.mark;
      few = is.few;
      distortion_is = subst (λ j. pass.distortion ≡ distortion coefs s j) e is.distortion_is;
    }

pub last_at : (coefs : List (ℕ × Bool)) (s : Shape) (planes : ℕ) (row : CodedBlock)
    (passes : List CodedPass) (bytes : List ℕ) (k : ℕ) (pass : CodedPass) →
    IsCodedBlock coefs s planes row passes bytes → 1 ≤ k → k ≤ row.passes →
    ((other : CodedPass) → pass ≡ get_or passes (row.first + (k - 1)) other) →
    IsLast coefs s k pass (drop row.at bytes)
last_at coefs s planes row passes bytes k pass is some few found =
    last-of coefs s k pass (drop row.at bytes) some
    (subst (λ p. IsPass coefs s (k - 1) p (drop row.at bytes)) (sym (found pass))
    (is.each (k - 1) pass (omega arith)))

-- the entry and the bytes of an included block
pub entry_of : (planes : ℕ) (coefs : List (ℕ × Bool)) (s : Shape) (k zero_planes len : ℕ) → 1 ≤ k →
    zero_planes ≡ planes - s.planes → len ≡ length (code (symbols_of coefs s k)) →
    (let entry : Entry =
    record { included = true; zero_planes = zero_planes; passes = k; len = len } in entry) ≡
    (written_of planes coefs s k).entry
entry_of planes coefs s zero zero_planes len some zeros_are len_is = absurd (omega (arith, some))
entry_of planes coefs s (suc k) zero_planes len some zeros_are len_is =
    let made : ℕ → ℕ → Entry =
    λ z l. record { included = true; zero_planes = z; passes = suc k; len = l } in
    ap (λ z. made z len) zeros_are ∙ ap (made (planes - s.planes)) len_is

pub code_of : (planes : ℕ) (coefs : List (ℕ × Bool)) (s : Shape) (k : ℕ) → 1 ≤ k →
    code (symbols_of coefs s k) ≡ (written_of planes coefs s k).code
code_of planes coefs s zero some = absurd (omega (arith, some))
code_of planes coefs s (suc k) some = refl

-- it can be written
pub can_be_written : (coefs : List (ℕ × Bool)) (s : Shape) (planes : ℕ) (row : CodedBlock)
    (passes : List CodedPass) (bytes : List ℕ) (k zero_planes len : ℕ) →
    IsCodedBlock coefs s planes row passes bytes → zero_planes ≡ row.zero_planes → 1 ≤ k →
    k ≤ row.passes → 1 ≤ len → len ≤ 131072 →
    CanWriteIncluded planes
    (record { included = true; zero_planes = zero_planes; passes = k; len = len })
can_be_written coefs s planes row passes bytes k zero_planes len is same some few some_bytes
    few_bytes =
    let zeros = same ∙ is.zero_planes in
    let count = is.passes_are in
    let most = is.planes in
    record {
      fewer = omega (arith, zeros, count, most, some, few);
      some_passes = some;
      passes = omega (arith, zeros, count, most, some, few);
      some_bytes = some_bytes;
      len = few_bytes;
    }

-- the kept bytes and the tail, appended one after the other
pub appended : (out middle new bytes bytes' tail tail' whole : List ℕ) (at at' kept : ℕ) →
    middle ≡ out ++ take (at' + kept - at') (drop at' bytes') → new ≡ middle ++ tail' →
    at' ≡ at → bytes' ≡ bytes → tail' ≡ tail →
    take kept (drop at bytes) ++ tail ≡ whole → new ≡ out ++ whole
appended out middle new bytes bytes' tail tail' whole at at' kept first second at_is bytes_are
    tail_is whole_is =
    let count : at' + kept - at' ≡ kept = omega arith in
    second ∙ ap (λ l. l ++ tail') first
    ∙ ap (λ n. out ++ take n (drop at' bytes') ++ tail') count
    ∙ ap (λ n. out ++ take kept (drop n bytes') ++ tail') at_is
    ∙ ap (λ l. out ++ take kept (drop at l) ++ tail') bytes_are
    ∙ ap (λ l. out ++ take kept (drop at bytes) ++ l) tail_is
    ∙ append_assoc out (take kept (drop at bytes)) tail
    ∙ ap (λ l. out ++ l) whole_is

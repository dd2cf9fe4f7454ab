-- What is written of a block by its chosen passes can be written, and means the block's
-- coefficients cut to what these passes leave known.
use Rattle.std.proofs.Common.{◌≡◌, ℕ, zero, suc, ◌+◌, ◌-◌, ◌*◌, ◌^◌, ◌<◌, ◌≤◌, Bool}
use Rattle.std.proofs.Common.{List, [], ◌∷◌, map, length, refl, sym, subst, ◌∙◌, arith}
use Rattle.std.proofs.lemmas.Simd.{map-map}
use Rattle.std.proofs.lemmas.List.{length-map, map-id}
use Rattle.std.proofs.lemmas.Bool.{true≢false, false≢true}
use Rattle.std.proofs.Math.Pow.{pow_mono}
use Rattle.cine_nums.proofs.BitLength.{bit_len-above}
use Rattle.band_geometry.specs.Bands.{block_of}
use Rattle.band_geometry.specs.Bands.{IsBlock as IsBlockIn}
use Rattle.band_geometry.specs.declared.geometry.Geometry.{Geometry}
use Rattle.band_geometry.specs.declared.places.BlockId.{BlockId}
use Rattle.codeblock_views.specs.Magnitudes.{largest, block_planes}
use Rattle.codeblock_views.specs.RectangleLaws.{cells_in-length}
use Rattle.distortion_sums.specs.Coefs.{coefs_of}
use Rattle.dz_quantiser.specs.Bands.{band_planes}
use Rattle.dz_quantiser.specs.Coefficient.{Coefficient, zero_coefficient}
use Rattle.dz_quantiser.specs.declared.steps.StepSizes.{StepSizes}
use Rattle.ebcot_contexts.specs.Cells.{Cell, coef_at, view}
use Rattle.ebcot_contexts.specs.Contexts.{Shape}
use Rattle.ebcot_contexts.specs.Laws.{MeaningHolds, ReadBack, FewSymbols}
use Rattle.ebcot_contexts.specs.Meaning.{IsBlock, Means, DecidedBy, symbols_of, unknown_after}
use Rattle.ebcot_contexts.specs.Meaning.{read_block}
use Rattle.ebcot_contexts.specs.Passes.{block}
use Rattle.mq_coder.specs.Code.{code, coded}
use Rattle.mq_coder.specs.Laws.{IsCodeForm}
use Rattle.profile_reader.specs.Chosen.{Planes, block_cells, block_coefs, block_shape, chosen}
use Rattle.profile_reader.specs.Chosen.{chosen_passes, written_of}
use Rattle.profile_reader.specs.Reads.{BlockMeans, shape_with, known_of, cell_of_known}
use Rattle.profile_reader.specs.Shown.{CanChoose, decoded_planes, chosen_read, chosen_unknown}
use Rattle.profile_reader.specs.Shown.{chosen_cells, ChosenReads}
use Rattle.profile_reader.specs.Spelled.{IsWritable, CanSpell, SpelledReads}
use Rattle.profile_reader.proofs.StepLemmas.{few_planes}

-- the laws of the passes and of their code, as they come from below
pub record CodeLaws : Type 0 where
  pub few_symbols : FewSymbols
  pub code_form : (symbols : List (ℕ × Bool)) → IsCodeForm symbols
  pub few_bytes : (symbols : List (ℕ × Bool)) →
      7 * length (coded symbols).bytes ≤ 15 * length symbols + 5
  pub meaning_holds : MeaningHolds
  pub read_back : ReadBack

-- The coefficients of a block.

at_most_largest : (qs : List Coefficient) (i : ℕ) → (coef_at (coefs_of qs) i).0 ≤ largest qs
at_most_largest [] i = omega arith
at_most_largest (q ∷ qs) zero = omega arith
at_most_largest (q ∷ qs) (suc i) = let rest = at_most_largest qs i in omega (arith, rest)

below_planes : (qs : List Coefficient) (i : ℕ) → (coef_at (coefs_of qs) i).0 < 2 ^ block_planes qs
below_planes qs i =
    let least = at_most_largest qs i in
    let above = bit_len-above (largest qs) in
    omega (arith, least, above)

pub is_block : (g : Geometry) (planes : Planes) (b : BlockId) →
    IsBlock (block_coefs g planes b) (block_shape g planes b)
unfolding block_cells
is_block g planes b = record {
  long = length-map (block_cells g planes b) (λ q. (q.magnitude, q.negative))
      ∙ cells_in-length zero_coefficient g.width (block_of g b) (planes b.component) ∙ omega arith;
  below = below_planes (block_cells g planes b);
}

-- What is written of a block.

code_length : CodeLaws → (coefs : List (ℕ × Bool)) (s : Shape) (k : ℕ) → s.width ≤ 32 →
    s.height ≤ 32 → s.planes ≤ 20 → k ≤ 3 * s.planes - 2 →
    (1 ≤ length (code (symbols_of coefs s k))) × (length (code (symbols_of coefs s k)) ≤ 131072)
code_length laws coefs s k wide high few within =
    let form = laws.code_form (symbols_of coefs s k) in
    let symbols = laws.few_symbols coefs s k wide high few within in
    let bytes = laws.few_bytes (symbols_of coefs s k) in
    let most = form.few in
    (form.some, omega (arith, symbols, bytes, most))

writable : CodeLaws → (m : ℕ) (coefs : List (ℕ × Bool)) (s : Shape) (k : ℕ) → s.width ≤ 32 →
    s.height ≤ 32 → m ≤ 20 → s.planes ≤ m → k ≤ 3 * s.planes - 2 →
    IsWritable m (written_of m coefs s k)
writable laws m coefs s zero wide high few below within = record {
  can_write = λ included. absurd (false≢true included);
  plain = λ e. record { zero_planes = refl; passes = refl; len = refl };
  len = refl;
}
writable laws m coefs s (suc k) wide high few below within =
    let bytes = code_length laws coefs s (suc k) wide high (omega (arith, few, below)) within in
    record {
      can_write = λ included. record {
        fewer = omega (arith, below, within);
        some_passes = omega arith;
        passes = omega (arith, below, within);
        some_bytes = bytes.0;
        len = bytes.1;
      };
      plain = λ e. absurd (true≢false e);
      len = refl;
    }

-- What it means.

no_passes : (bytes other : List ℕ) (s : Shape) → read_block bytes s 0 ≡ read_block other s 0
unfolding block
no_passes bytes other s = refl

below_more : (coefs : List (ℕ × Bool)) (s : Shape) (m : ℕ) → IsBlock coefs s → s.planes ≤ m →
    IsBlock coefs (record s { planes = m })
below_more coefs s m is below = record {
  long = is.long;
  below = λ i. let less = is.below i in let more : 2 ^ s.planes ≤ 2 ^ m = pow_mono below in
      omega (arith, less, more);
}

meaning : CodeLaws → (m : ℕ) (coefs : List (ℕ × Bool)) (s : Shape) (k : ℕ) → IsBlock coefs s →
    s.planes ≤ m → k ≤ 3 * s.planes - 2 →
    Means (DecidedBy (written_of m coefs s k).code)
    (record s { planes = decoded_planes m s.planes k }) k
    (view coefs (unknown_after coefs (record s { planes = decoded_planes m s.planes k }) k))
meaning laws m coefs s zero is below within =
    let t : Shape = record s { planes = m } in
    subst (Means (DecidedBy []) t 0)
    (no_passes [] (code (symbols_of coefs t 0)) t
    ∙ laws.read_back coefs t 0 (below_more coefs s m is below))
    (laws.meaning_holds [] t 0 (omega arith))
meaning laws m coefs s (suc k) is below within =
    subst (Means (DecidedBy (code (symbols_of coefs s (suc k)))) s (suc k))
    (laws.read_back coefs s (suc k) is)
    (laws.meaning_holds (code (symbols_of coefs s (suc k))) s (suc k) within)

planes_add : (m p k : ℕ) (coefs : List (ℕ × Bool)) (s : Shape) → s.planes ≡ p → p ≤ m →
    decoded_planes m p k + (written_of m coefs s k).entry.zero_planes ≡ m
planes_add m p zero coefs s same below = omega arith
planes_add m p (suc k) coefs s same below = omega (arith, same, below)

passes_same : (m k : ℕ) (coefs : List (ℕ × Bool)) (s : Shape) →
    k ≡ (written_of m coefs s k).entry.passes
passes_same m zero coefs s = refl
passes_same m (suc k) coefs s = refl

known_again : (cells : List Cell) → map cell_of_known (map known_of cells) ≡ cells
known_again cells = map-map cell_of_known known_of cells ∙ map-id cells

pub chosen_means : CodeLaws → (g : Geometry) (steps : StepSizes) (planes : Planes)
    (choice : List ℕ) → CanChoose g steps planes choice → (b : BlockId) → IsBlockIn g b →
    BlockMeans g (band_planes steps b.res b.orient) b (chosen g steps planes choice b)
    (chosen_read g steps planes choice b) (chosen_cells g steps planes choice b)
unfolding chosen chosen_read chosen_cells chosen_unknown
chosen_means laws g steps planes choice can b is =
    let m = band_planes steps b.res b.orient in
    let s = block_shape g planes b in
    let k = chosen_passes g choice b in
    let coefs = block_coefs g planes b in
    record {
      planes = planes_add m s.planes k coefs s refl (can.below b is);
      passes = passes_same m k coefs s;
      decoded = subst (Means (DecidedBy (written_of m coefs s k).code)
          (shape_with g b (decoded_planes m s.planes k)) k)
          (sym (known_again (view coefs
          (unknown_after coefs (shape_with g b (decoded_planes m s.planes k)) k))))
          (meaning laws m coefs s k (is_block g planes b) (can.below b is) (can.passes b is));
    }

can_spell : CodeLaws → (g : Geometry) (steps : StepSizes) (planes : Planes) (choice : List ℕ) →
    CanChoose g steps planes choice → CanSpell g steps (chosen g steps planes choice)
unfolding chosen
can_spell laws g steps planes choice can = record {
  levels = can.levels;
  steps_usable = can.steps_usable;
  lengths = can.lengths;
  writable = λ b is.
      let few = few_planes g steps b.res b.orient can.steps_usable is.band in
      writable laws (band_planes steps b.res b.orient) (block_coefs g planes b)
      (block_shape g planes b) (chosen_passes g choice b) (omega arith) (omega arith) few.1
      (can.below b is) (can.passes b is);
}

pub chosen_is_read : CodeLaws → SpelledReads → ChosenReads
chosen_is_read laws spelled_reads g steps planes choice can =
    spelled_reads g steps (chosen g steps planes choice) (chosen_read g steps planes choice)
    (chosen_cells g steps planes choice) (can_spell laws g steps planes choice can)
    (chosen_means laws g steps planes choice can)

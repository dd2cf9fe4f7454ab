-- Points and hulls of code-blocks.
use Rattle.std.proofs.Common.{◌≡◌, ℕ, zero, suc, ◌+◌, ◌≤◌, List, length, refl, sym, ap}
use Rattle.std.proofs.Common.{◌∙◌, arith, Bool}
use Rattle.std.proofs.lemmas.List.FromFn.{length-map-range_with_len, get_or-map-range_with_len}
use Rattle.std.proofs.Math.Nat.{zero-add}
use Rattle.cine_nums.specs.declared.orient.Orient.{Orient}
use Rattle.cine_nums.specs.declared.orient.Orient.TheVariants.{LL, HL, LH, HH}
use Rattle.band_geometry.specs.Bands.{IsBlock, IsOrientAt}
use Rattle.band_geometry.specs.declared.geometry.Geometry.{Geometry}
use Rattle.band_geometry.specs.declared.places.BlockId.{BlockId}
use Rattle.coded_blocks.proofs.Planes.{few_planes_of}
use Rattle.dz_quantiser.specs.Bands.{AreUsable, band_planes}
use Rattle.dz_quantiser.specs.declared.steps.StepSizes.{StepSizes}
use Rattle.ebcot_contexts.specs.Contexts.{Shape}
use Rattle.packet_headers.specs.declared.entry.Entry.{Entry}
use Rattle.profile_reader.specs.Chosen.{Planes, block_shape, written_of}
use Rattle.rd_hulls.specs.Points.{point_at}
use Rattle.frame_choice.specs.Blocks.{point_of, points_of}
use Rattle.frame_choice.specs.Choice.{block_passes}
use Rattle.frame_choice.specs.HeldLaws.{code_is_long}
use Rattle.frame_choice.specs.PriceLaws.{planes_in}
use Rattle.frame_choice.specs.declared.quantised.QuantisedFrame.{QuantisedFrame}

-- ---- how many bit-planes a block can have

pub usable_few : (levels : ℕ) (steps : StepSizes) (r : ℕ) (o : Orient) → AreUsable levels steps →
    r ≤ levels → IsOrientAt r o → band_planes steps r o ≤ 20
usable_few levels steps zero LL usable below is = usable.lowest.planes_high
usable_few levels steps zero HL usable below is = absurd (omega (arith, is))
usable_few levels steps zero LH usable below is = absurd (omega (arith, is))
usable_few levels steps zero HH usable below is = absurd (omega (arith, is))
usable_few levels steps (suc r) o usable below is =
    (usable.above (suc r) o (omega arith) below).planes_high

-- no more than its band
pub within_band : (f : QuantisedFrame) (b : BlockId) → IsBlock f.geometry.now b →
    (block_shape f.geometry.now (planes_in f) b).planes ≤ band_planes f.steps.now b.res b.orient
within_band f b is =
    few_planes_of f.geometry.now f.steps.now (planes_in f) f.c0.now f.c1.now f.c2.now f.first
    f.second f.third refl refl refl b is

-- ---- points

pub point_is : (g : Geometry) (steps : StepSizes) (planes : Planes) (b : BlockId) (k : ℕ) →
    k ≤ block_passes g planes b →
    point_at (points_of g steps planes b) k ≡ point_of g steps planes b k
point_is g steps planes b k below =
    get_or-map-range_with_len (point_of g steps planes b) 0 (block_passes g planes b + 1) k k
    (record { len = 0; dist = 0; passes = 0 }) (omega (arith, below)) (zero-add k)

pub points_long : (g : Geometry) (steps : StepSizes) (planes : Planes) (b : BlockId) →
    length (points_of g steps planes b) ≡ block_passes g planes b + 1
points_long g steps planes b =
    length-map-range_with_len (point_of g steps planes b) 0 (block_passes g planes b + 1)

-- ---- what a packet header says

pub entry_bytes : (band : ℕ) (coefs : List (ℕ × Bool)) (s : Shape) (k : ℕ) (entry : Entry) →
    entry ≡ (written_of band coefs s k).entry → entry.len ≡ length (written_of band coefs s k).code
entry_bytes band coefs s k entry is =
    ap (λ (e : Entry). e.len) is ∙ sym (code_is_long band coefs s k)

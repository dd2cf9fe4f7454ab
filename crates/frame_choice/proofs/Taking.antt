-- A step that is taken of a frame.
use Rattle.std.proofs.Common.{◌≡◌, ℕ, ◌<◌, ◌≤◌, List, length, get_or, set, sym, ap, ◌∙◌}
use Rattle.std.proofs.Common.{subst, arith, length-append, Some, inl, inr, suc, ◌+◌, [], ◌∷◌, ◌++◌}
use Rattle.std.specs.List.{slice_get}
use Rattle.std.proofs.Math.Seq.{get_or-append_seam}
use Rattle.std.proofs.lemmas.List.{get_or-map, length-map, length-set, get_or-set_other}
use Rattle.std.proofs.lemmas.List.{get_or_append_left}
use Rattle.std.proofs.lemmas.Option.{slice_get-get_or}
use Rattle.std.proofs.lemmas.Grind.{get_or-set_at}
use Rattle.cine_nums.specs.declared.orient.Orient.TheVariants.{LL}
use Rattle.band_geometry.specs.Bands.{IsBlock}
use Rattle.band_geometry.specs.Counts.{number_of}
use Rattle.band_geometry.specs.Numbering.{all_blocks}
use Rattle.band_geometry.specs.declared.geometry.Geometry.{Geometry}
use Rattle.band_geometry.specs.declared.places.BlockId.{BlockId}
use Rattle.budget_duals.specs.Price.{AreCounts, CanTake}
use Rattle.dz_quantiser.specs.Bands.{band_planes}
use Rattle.dz_quantiser.specs.declared.steps.StepSizes.{StepSizes}
use Rattle.frame_packets.specs.Changes.{IsChanged}
use Rattle.packet_headers.specs.Written.{IsPlain}
use Rattle.packet_headers.specs.declared.entry.Entry.{Entry}
use Rattle.rd_hulls.specs.declared.step.Step.{Step}
use Rattle.profile_reader.specs.Chosen.{Planes, block_coefs, block_shape, chosen}
use Rattle.frame_choice.specs.Blocks.{block_numbered, most_passes}
use Rattle.frame_choice.specs.Choice.{block_bytes, block_passes}
use Rattle.frame_choice.specs.HeldLaws.{chosen_changed, is_plain, number_cases}
use Rattle.frame_choice.specs.NumberLaws.{found_is, is_block, number_is}
use Rattle.frame_choice.specs.Present.{ArePresent, ArePresentBelow, IsPresent}
use Rattle.frame_choice.specs.Present.{IsKnownStep, block_written}
use Rattle.frame_choice.specs.PriceLaws.{planes_in}
use Rattle.frame_choice.specs.declared.present.PresentBlock.{PresentBlock}
use Rattle.frame_choice.specs.declared.quantised.QuantisedFrame.{QuantisedFrame}

pub most_at : (g : Geometry) (planes : Planes) (n d : ℕ) → n < length (all_blocks g) →
    get_or (most_passes g planes) n d ≡ block_passes g planes (block_numbered g n)
most_at g planes n d below =
    get_or-map (block_passes g planes) (all_blocks g) n
    (record { component = 0; res = 0; orient = LL; x = 0; y = 0 }) d below

module _ (f : QuantisedFrame) (n : ℕ) (id : BlockId)
    (below : n < length (most_passes f.geometry.now (planes_in f)))
    (found : slice_get (all_blocks f.geometry.now) n ≡ Some id) where
  pub inside : n < length (all_blocks f.geometry.now)
  inside =
      let long = length-map (all_blocks f.geometry.now)
      (block_passes f.geometry.now (planes_in f)) in
      omega (arith, below, long)

  pub numbered : block_numbered f.geometry.now n ≡ id
  numbered = found_is f.geometry.now n id found

  pub block : IsBlock f.geometry.now id
  block = subst (IsBlock f.geometry.now) numbered (is_block f.geometry.now n inside)

  pub number : number_of f.geometry.now id ≡ n
  number = ap (number_of f.geometry.now) (sym numbered) ∙ number_is f.geometry.now n inside

  pub changed : (counts : List ℕ) (to : ℕ) (entry : Entry) →
      length counts ≡ length (most_passes f.geometry.now (planes_in f)) →
      entry ≡ (block_written f.geometry.now f.steps.now (planes_in f) id to).entry →
      IsChanged f.geometry.now id entry
      (chosen f.geometry.now f.steps.now (planes_in f) counts)
      (chosen f.geometry.now f.steps.now (planes_in f) (set counts n to))
  changed counts to entry long is =
      let given = chosen f.geometry.now f.steps.now (planes_in f) counts in
      let after = chosen f.geometry.now f.steps.now (planes_in f) (set counts n to) in
      let whole = length-map (all_blocks f.geometry.now)
      (block_passes f.geometry.now (planes_in f)) in
      subst (λ e. IsChanged f.geometry.now id e given after) (sym is)
      (subst (λ b. IsChanged f.geometry.now b
      (block_written f.geometry.now f.steps.now (planes_in f) b to).entry given after) numbered
      (chosen_changed f.geometry.now f.steps.now (planes_in f) counts n to inside (long ∙ whole)))

  pub plain : (to : ℕ) (entry : Entry) →
      entry ≡ (block_written f.geometry.now f.steps.now (planes_in f) id to).entry → IsPlain entry
  plain to entry is = subst IsPlain (sym is)
      (is_plain (band_planes f.steps.now id.res id.orient)
      (block_coefs f.geometry.now (planes_in f) id)
      (block_shape f.geometry.now (planes_in f) id) to)

  pub counts_after : (counts : List ℕ) (to : ℕ) →
      AreCounts (most_passes f.geometry.now (planes_in f)) counts →
      to ≤ get_or (most_passes f.geometry.now (planes_in f)) n 0 →
      AreCounts (most_passes f.geometry.now (planes_in f)) (set counts n to)
  counts_after counts to are within = record {
    long = length-set counts n to ∙ are.long;
    most = λ b below_b. elim (number_cases b n) [
      | inl is ↦ (let at = get_or-set_at counts n b to 0 is (let l = are.long in
          omega (arith, below, l)) in
          let same = ap (λ m. get_or (most_passes f.geometry.now (planes_in f)) m 0) is in
          omega (arith, at, same, within))
      | inr other ↦ (let at = get_or-set_other counts n b to 0 other in
          let old = are.most b below_b in omega (arith, at, old))
    ];
  }

-- ---- what is kept of the blocks

abbrev pub no_block : PresentBlock
no_block = record { bytes = 0; planes = 0 }

-- a row that was read is that of the list
pub row_is : (present : List PresentBlock) (n : ℕ) (read : PresentBlock) → n < length present →
    read ≡ get_or present n read → read ≡ get_or present n no_block
row_is present n read below is =
    let first = slice_get-get_or present n read below in
    let second = slice_get-get_or present n no_block below in
    let both : Some (get_or present n read) ≡ Some (get_or present n no_block) =
    sym first ∙ second in
    cc

pub present_after : (g : Geometry) (steps : StepSizes) (planes : Planes) (counts : List ℕ)
    (present : List PresentBlock) (n to : ℕ) (kept : PresentBlock) → n < length (all_blocks g) →
    length counts ≡ length (all_blocks g) → ArePresent g steps planes counts present →
    IsPresent g steps planes (block_numbered g n) to kept →
    ArePresent g steps planes (set counts n to) (set present n kept)
present_after g steps planes counts present n to kept below long are here = record {
  long = length-set present n kept ∙ are.long;
  each = λ b below_b. elim (number_cases b n) [
    | inl is ↦
        subst (λ k. IsPresent g steps planes (block_numbered g b) k
        (get_or (set present n kept) b no_block))
        (sym (get_or-set_at counts n b to 0 is (omega (arith, below, long))))
        (subst (λ (p : PresentBlock). IsPresent g steps planes (block_numbered g b) to p)
        (sym (get_or-set_at present n b kept no_block is
        (let l = are.long in omega (arith, below, l))))
        (subst (λ m. IsPresent g steps planes (block_numbered g m) to kept) (sym is) here))
    | inr other ↦
        subst (λ k. IsPresent g steps planes (block_numbered g b) k
        (get_or (set present n kept) b no_block))
        (sym (get_or-set_other counts n b to 0 other))
        (subst (λ (p : PresentBlock). IsPresent g steps planes (block_numbered g b)
        (get_or counts b 0) p)
        (sym (get_or-set_other present n b kept no_block other)) (are.each b below_b))
  ];
}

pub present_more : (g : Geometry) (steps : StepSizes) (planes : Planes) (n : ℕ)
    (present : List PresentBlock) (kept : PresentBlock) →
    ArePresentBelow g steps planes (λ b. 0) n present →
    IsPresent g steps planes (block_numbered g n) 0 kept →
    ArePresentBelow g steps planes (λ b. 0) (suc n) (present ++ kept ∷ [])
present_more g steps planes n present kept are here = record {
  long = length-append present (kept ∷ []) ∙ (let l = are.long in omega (arith, l));
  each = λ b below. elim (number_cases b n) [
    | inl is ↦
        subst (λ (p : PresentBlock). IsPresent g steps planes (block_numbered g b) 0 p)
        (sym (ap (λ m. get_or (present ++ kept ∷ []) m no_block) (is ∙ sym are.long)
        ∙ get_or-append_seam present kept [] no_block))
        (subst (λ m. IsPresent g steps planes (block_numbered g m) 0 kept) (sym is) here)
    | inr other ↦
        subst (λ (p : PresentBlock). IsPresent g steps planes (block_numbered g b) 0 p)
        (sym (get_or_append_left present (kept ∷ []) no_block b
        (let l = are.long in omega (arith, l, below, other))))
        (are.each b (omega (arith, below, other)))
  ];
}

-- a step from the present count
module _ (g : Geometry) (steps : StepSizes) (planes : Planes) (counts : List ℕ)
    (present : List PresentBlock) (are : ArePresent g steps planes counts present) (s : Step)
    (id : BlockId) (is : block_numbered g s.block ≡ id)
    (can : CanTake (most_passes g planes) counts s) (known : IsKnownStep g steps planes s) where
  step_inside : s.block < length (all_blocks g)
  step_inside =
      let long = length-map (all_blocks g) (block_passes g planes) in
      let below = can.block in
      omega (arith, below, long)

  kept_here : IsPresent g steps planes (block_numbered g s.block) (get_or counts s.block 0)
      (get_or present s.block no_block)
  kept_here = are.each s.block step_inside

  pub row_inside : s.block < length present
  row_inside = let long = are.long in let below = step_inside in omega (arith, below, long)

  pub grown : (get_or present s.block no_block).bytes + s.len ≡ block_bytes g steps planes id s.to
  grown =
      let bytes = kept_here.bytes in
      let same = ap (block_bytes g steps planes (block_numbered g s.block)) can.from in
      let len = known.len in
      subst (λ b. (get_or present s.block no_block).bytes + s.len
      ≡ block_bytes g steps planes b s.to) is (omega (arith, bytes, same, len))

  pub grown_short : (get_or present s.block no_block).bytes + s.len ≤ 131072
  grown_short =
      let short = subst (λ b. block_bytes g steps planes b s.to ≤ 131072) is known.short in
      let sum = grown in
      omega (arith, short, sum)

  pub planes_here : (get_or present s.block no_block).planes ≡ (block_shape g planes id).planes
  planes_here = kept_here.planes_are ∙ ap (λ b. (block_shape g planes b).planes) is

  pub passes_within : s.to ≤ block_passes g planes id
  passes_within =
      let most = most_at g planes s.block 0 step_inside in
      let same = ap (block_passes g planes) is in
      let to = can.to in
      omega (arith, most, same, to)

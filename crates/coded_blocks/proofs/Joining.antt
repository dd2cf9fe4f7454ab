-- Blocks stay coded as others are joined to them.
use Rattle.std.proofs.Common.{◌≡◌, ℕ, suc, ◌+◌, ◌-◌, ◌<◌, ◌≤◌, Bool, List, [], ◌∷◌, ◌++◌, length}
use Rattle.std.proofs.Common.{get_or, take, drop, arith, sym, subst, ap, ◌∙◌, inl, inr, slice_get}
use Rattle.std.proofs.Common.{take-take, length-append, length-drop}
use Rattle.std.proofs.Math.Seq.{drop-append_seam, get_or-append_seam}
use Rattle.std.proofs.lemmas.Bool.{cases_lt}
use Rattle.std.proofs.lemmas.List.{take-append-le, drop-append-le, get_or_append_left}
use Rattle.std.proofs.lemmas.List.{get_or-append-add}
use Rattle.std.proofs.lemmas.List.Elements.{All-get_or}
use Rattle.std.proofs.lemmas.Option.{same_Some}
use Rattle.band_geometry.specs.Bands.{IsBlock}
use Rattle.band_geometry.specs.Counts.{number_of}
use Rattle.band_geometry.specs.Numbering.{all_blocks}
use Rattle.band_geometry.specs.declared.geometry.Geometry.{Geometry}
use Rattle.band_geometry.specs.declared.places.BlockId.{BlockId}
use Rattle.band_geometry.proofs.NumberLemmas.{listed_at_number}
use Rattle.dz_quantiser.specs.Bands.{band_planes}
use Rattle.dz_quantiser.specs.declared.steps.StepSizes.{StepSizes}
use Rattle.distortion_sums.specs.Distortion.{distortion}
use Rattle.ebcot_contexts.specs.Contexts.{Shape}
use Rattle.mq_coder.specs.Mark.{kept_at}
use Rattle.profile_reader.specs.Chosen.{Planes, block_coefs, block_shape}
use Rattle.coded_blocks.specs.Coded.{IsCodedBlock, AreCodedBelow, IsJoined, count_of, row_for, row_at}
use Rattle.ebcot_passes.specs.Code.{IsPass, ArePasses, IsBlockCode}
use Rattle.coded_blocks.specs.Rows.{IsRowIn, KeepAtMost, Grow}
use Rattle.coded_blocks.specs.declared.blocks.CodedBlocks.{CodedBlocks}
use Rattle.ebcot_passes.specs.declared.coded.BlockCode.{BlockCode}
use Rattle.ebcot_passes.specs.declared.coded.CodedPass.{CodedPass}
use Rattle.coded_blocks.specs.declared.row.CodedBlock.{CodedBlock}

-- the marks of a block's passes, whose bytes fit in the buffer
pub grows : (coefs : List (ℕ × Bool)) (s : Shape) (k : ℕ) (passes : List CodedPass)
    (buffer : List ℕ) → ArePasses coefs s k passes buffer → Grow passes
grows coefs s k passes buffer are = λ i j other le lt.
    are.grows i j other le (omega (arith, are.count))

pub kept_within : (coefs : List (ℕ × Bool)) (s : Shape) (k : ℕ) (passes : List CodedPass)
    (buffer : List ℕ) → ArePasses coefs s k passes buffer → 68023 ≤ length buffer →
    KeepAtMost passes (length buffer)
kept_within coefs s k passes buffer are room = λ j other lt.
    let pass = are.each j other (omega (arith, are.count)) in
    omega (arith, pass.few)

-- a mark stands for its symbols beside any buffer that begins with the same kept bytes
pass-moves : (coefs : List (ℕ × Bool)) (s : Shape) (k : ℕ) (pass : CodedPass) (a b : List ℕ) →
    take (kept_at pass.mark) b ≡ take (kept_at pass.mark) a →
    IsPass coefs s k pass a → IsPass coefs s k pass b
pass-moves coefs s k pass a b same is = record {
  mark = record {
    a = is.mark.a;
    c = is.mark.c;
    ct = is.mark.ct;
    last = is.mark.last;
    count = is.mark.count;
    prefix = same ∙ is.mark.prefix;
  };
  few = is.few;
  distortion_is = is.distortion_is;
}

-- the kept bytes of a block among those of all, before and after others are joined to them
still-kept : (at k : ℕ) (bytes more : List ℕ) → at + k ≤ length bytes →
    take k (drop at (bytes ++ more)) ≡ take k (drop at bytes)
still-kept at k bytes more inside =
    ap (take k) (drop-append-le at bytes more (omega arith))
    ∙ take-append-le k (drop at bytes) more (omega (arith, length-drop at bytes))

-- and when it is joined itself
now-kept : (k most : ℕ) (bytes buffer : List ℕ) → k ≤ most →
    take k (drop (length bytes) (bytes ++ take most buffer)) ≡ take k buffer
now-kept k most bytes buffer le =
    ap (take k) (drop-append_seam bytes (take most buffer)) ∙ take-take k most buffer le

-- a block that is coded stays so
pub stays : (coefs : List (ℕ × Bool)) (s : Shape) (band_planes : ℕ) (row : CodedBlock)
    (passes more : List CodedPass) (bytes more' : List ℕ) → IsRowIn passes bytes row →
    IsCodedBlock coefs s band_planes row passes bytes →
    IsCodedBlock coefs s band_planes row (passes ++ more) (bytes ++ more')
stays coefs s band_planes row passes more bytes more' inside is = record {
  planes = is.planes;
  zero_planes = is.zero_planes;
  passes_are = is.passes_are;
  start_is = is.start_is;
  each = λ k other lt.
      let pass = get_or passes (row.first + k) other in
      let same : get_or (passes ++ more) (row.first + k) other ≡ pass =
      get_or_append_left passes more other (row.first + k) (omega (arith, inside.passes_in)) in
      let kept = still-kept row.at (kept_at pass.mark) bytes more' (inside.bytes_in k other lt) in
      subst (λ p. IsPass coefs s k p (drop row.at (bytes ++ more'))) (sym same)
      (pass-moves coefs s k pass (drop row.at bytes) (drop row.at (bytes ++ more')) kept
      (is.each k other lt));
}

-- a block that is joined is coded
pub joins : (coefs : List (ℕ × Bool)) (s : Shape) (band_planes zero_planes : ℕ)
    (old new : CodedBlocks) (code : BlockCode) (buffer : List ℕ) →
    IsJoined code zero_planes buffer old new → IsBlockCode coefs s code.passes.items buffer →
    s.planes ≤ band_planes → zero_planes ≡ band_planes - s.planes →
    code.start ≡ distortion coefs s 0 →
    IsCodedBlock coefs s band_planes (row_for old code zero_planes) new.passes.items new.bytes.items
joins coefs s band_planes zero_planes old new code buffer is codes few zeros start = record {
  planes = few;
  zero_planes = zeros;
  passes_are = codes.count;
  start_is = start;
  each = λ k other lt.
      let ps = old.passes.items in
      let bs = old.bytes.items in
      let at_new : get_or new.passes.items (length ps + k) other
      ≡ get_or code.passes.items k other =
      ap (λ l. get_or l (length ps + k) other) is.passes
      ∙ get_or-append-add ps code.passes.items k other in
      let pass = get_or code.passes.items k other in
      let kept : take (kept_at pass.mark) (drop (length bs) new.bytes.items)
      ≡ take (kept_at pass.mark) buffer =
      ap (λ l. take (kept_at pass.mark) (drop (length bs) l)) is.bytes
      ∙ now-kept (kept_at pass.mark) is.kept bs buffer (is.enough k other lt) in
      subst (λ p. IsPass coefs s k p (drop (length bs) new.bytes.items)) (sym at_new)
      (pass-moves coefs s k pass buffer (drop (length bs) new.bytes.items) kept
      (codes.each k other (omega (arith, codes.count))));
}

-- the rows of the blocks before, and that of the new one
row-before : (code : BlockCode) (zero_planes : ℕ) (buffer : List ℕ) (old new : CodedBlocks)
    (n : ℕ) → IsJoined code zero_planes buffer old new → n < length old.rows.items →
    row_at new n ≡ row_at old n
row-before code zero_planes buffer old new n is lt =
    let none : CodedBlock = record { zero_planes = 0; passes = 0; first = 0; at = 0; start = 0 } in
    ap (λ l. get_or l n none) is.rows
    ∙ get_or_append_left old.rows.items (row_for old code zero_planes ∷ []) none n lt

row-new : (code : BlockCode) (zero_planes : ℕ) (buffer : List ℕ) (old new : CodedBlocks) →
    IsJoined code zero_planes buffer old new →
    row_at new (length old.rows.items) ≡ row_for old code zero_planes
row-new code zero_planes buffer old new is =
    let none : CodedBlock = record { zero_planes = 0; passes = 0; first = 0; at = 0; start = 0 } in
    ap (λ l. get_or l (length old.rows.items) none) is.rows
    ∙ get_or-append_seam old.rows.items (row_for old code zero_planes) [] none

-- a block has one number
same_block : (g : Geometry) (a b : BlockId) → IsBlock g a → IsBlock g b →
    number_of g a ≡ number_of g b → a ≡ b
same_block g a b is_a is_b same =
    same_Some a b (sym (listed_at_number g a is_a) ∙ ap (slice_get (all_blocks g)) same
    ∙ listed_at_number g b is_b)

-- the row of a block that was coded before
before : (g : Geometry) (steps : StepSizes) (planes : Planes) (b : BlockId) (code : BlockCode)
    (zero_planes : ℕ) (buffer : List ℕ) (old new : CodedBlocks) (n : ℕ) →
    IsJoined code zero_planes buffer old new → AreCodedBelow g steps planes n old →
    IsBlock g b → number_of g b < n →
    IsCodedBlock (block_coefs g planes b) (block_shape g planes b)
    (band_planes steps b.res b.orient) (row_at new (number_of g b)) new.passes.items new.bytes.items
before g steps planes b code zero_planes buffer old new n is are is_block lt =
    let k = number_of g b in
    let within : k < length old.rows.items = omega (arith, are.count) in
    let none : CodedBlock = record { zero_planes = 0; passes = 0; first = 0; at = 0; start = 0 } in
    let inside : IsRowIn old.passes.items old.bytes.items (row_at old k) =
    All-get_or (IsRowIn old.passes.items old.bytes.items) old.rows.items k none within old.rows_in
    in
    let stays = stays (block_coefs g planes b) (block_shape g planes b)
    (band_planes steps b.res b.orient) (row_at old k) old.passes.items code.passes.items
    old.bytes.items (take is.kept buffer) inside (are.each b is_block lt) in
    subst (λ row. IsCodedBlock (block_coefs g planes b) (block_shape g planes b)
    (band_planes steps b.res b.orient) row new.passes.items new.bytes.items)
    (sym (row-before code zero_planes buffer old new k is within))
    (subst (λ ps. IsCodedBlock (block_coefs g planes b) (block_shape g planes b)
    (band_planes steps b.res b.orient) (row_at old k) ps new.bytes.items) (sym is.passes)
    (subst (λ bs. IsCodedBlock (block_coefs g planes b) (block_shape g planes b)
    (band_planes steps b.res b.orient) (row_at old k) (old.passes.items ++ code.passes.items) bs)
    (sym is.bytes) stays))

-- one row more
pub one_more : (old new : CodedBlocks) (code : BlockCode) (zero_planes : ℕ) (buffer : List ℕ) →
    IsJoined code zero_planes buffer old new → count_of new ≡ count_of old + 1
one_more old new code zero_planes buffer is =
    ap length is.rows ∙ length-append old.rows.items (row_for old code zero_planes ∷ [])

-- one block more
pub next : (g : Geometry) (steps : StepSizes) (planes : Planes) (id : BlockId) (code : BlockCode)
    (zero_planes : ℕ) (buffer : List ℕ) (old new : CodedBlocks) →
    IsBlock g id → IsJoined code zero_planes buffer old new →
    IsCodedBlock (block_coefs g planes id) (block_shape g planes id)
    (band_planes steps id.res id.orient) (row_for old code zero_planes) new.passes.items
    new.bytes.items →
    AreCodedBelow g steps planes (number_of g id) old →
    AreCodedBelow g steps planes (suc (number_of g id)) new
next g steps planes id code zero_planes buffer old new is_block is coded are = record {
  count = one_more old new code zero_planes buffer is ∙ omega (arith, are.count);
  each = λ b is_b lt. elim (cases_lt (number_of g b) (number_of g id)) [
    | inl less ↦ before g steps planes b code zero_planes buffer old new (number_of g id) is are
        is_b less
    | inr le ↦
        let same : id ≡ b = same_block g id b is_block is_b (omega arith) in
        let row : row_at new (number_of g id) ≡ row_for old code zero_planes =
        ap (row_at new) (sym are.count) ∙ row-new code zero_planes buffer old new is in
        subst (λ i. IsCodedBlock (block_coefs g planes i) (block_shape g planes i)
        (band_planes steps i.res i.orient) (row_at new (number_of g i)) new.passes.items
        new.bytes.items)
        same
        (subst (λ r. IsCodedBlock (block_coefs g planes id) (block_shape g planes id)
        (band_planes steps id.res id.orient) r new.passes.items new.bytes.items) (sym row) coded)
  ];
}

-- no block
pub none_coded : (g : Geometry) (steps : StepSizes) (planes : Planes) (s : CodedBlocks) →
    s.rows.items ≡ [] → AreCodedBelow g steps planes 0 s
none_coded g steps planes s none = record {
  count = ap length none;
  each = λ b is lt. absurd (omega (arith, lt));
}

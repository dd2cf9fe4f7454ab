-- The writings and the bits of one block more.
use Rattle.std.proofs.Common.{◌≡◌, ℕ, ◌+◌, ◌/◌, ◌%◌, ◌<◌, List, [], ◌∷◌, ◌++◌, length, refl, sym}
use Rattle.std.proofs.Common.{ap, ◌∙◌, arith, append_assoc}
use Rattle.std.specs.Prelude.{if◌then◌else◌}
use Rattle.std.proofs.Common.{map, take, get_or, length-take}
use Rattle.std.proofs.lemmas.List.{append-nil, take_more, map_push, length-map}
use Rattle.packet_headers.specs.declared.entry.Entry.{Entry}
use Rattle.packet_headers.specs.Words.{BandTrees, BlockWords, leaf_writing, inclusion_writings}
use Rattle.packet_headers.specs.Words.{zero_plane_writings, block_bits, blocks_bits}
use Rattle.packet_headers.specs.Written.{written_block}

-- the block after these stands in this column and row
pub record AtPlace (words : BandTrees) (before : List BlockWords) (x y : ℕ) : Type 0 where
  pub column : x ≡ length before % words.width
  pub row : y ≡ length before / words.width

-- the writings of one block more
pub inclusion_writings-push : (width place : ℕ) (before : List BlockWords) (block : BlockWords)
    → inclusion_writings width place (before ++ block ∷ []) ≡ inclusion_writings width place before
    ++ leaf_writing width (place + length before) 1 ∷ []
unfolding inclusion_writings
inclusion_writings-push width place [] block = let e : place + 0 ≡ place = omega arith in rw e refl
inclusion_writings-push width place (b ∷ before) block =
    let e : place + 1 + length before ≡ place + length (b ∷ before) = omega arith in
    ap (λ w. leaf_writing width place 1 ∷ w) (inclusion_writings-push width (place + 1) before block
    ∙ ap (λ p. inclusion_writings width (place + 1) before ++ leaf_writing width p 1 ∷ []) e)

pub zero_plane_writings-push : (width place : ℕ) (before : List BlockWords) (block : BlockWords)
    → zero_plane_writings width place (before ++ block ∷ [])
    ≡ zero_plane_writings width place before
    ++ (if block.entry.included then leaf_writing width (place + length before)
    (block.entry.zero_planes + 1) ∷ [] else [])
unfolding zero_plane_writings
zero_plane_writings-push width place [] block =
    let e : place + 0 ≡ place = omega arith in
    rw e (append-nil (if block.entry.included then leaf_writing width place
    (block.entry.zero_planes + 1) ∷ [] else []))
zero_plane_writings-push width place (b ∷ before) block =
    let e : place + 1 + length before ≡ place + length (b ∷ before) = omega arith in
    let own = if b.entry.included then leaf_writing width place (b.entry.zero_planes + 1) ∷ []
    else [] in
    ap (λ w. own ++ w) (zero_plane_writings-push width (place + 1) before block
    ∙ ap (λ p. zero_plane_writings width (place + 1) before
    ++ (if block.entry.included then leaf_writing width p (block.entry.zero_planes + 1) ∷ []
    else [])) e)
    ∙ sym (append_assoc own (zero_plane_writings width (place + 1) before)
    (if block.entry.included then leaf_writing width (place + length (b ∷ before))
    (block.entry.zero_planes + 1) ∷ [] else []))

-- the bits of one block more
pub blocks_bits-push : (trees : BandTrees) (before blocks : List BlockWords) (block : BlockWords)
    → blocks_bits trees before (blocks ++ block ∷ []) ≡ blocks_bits trees before blocks
    ++ block_bits trees (before ++ blocks) block
unfolding blocks_bits
blocks_bits-push trees before [] block =
    rw (append-nil before) (append-nil (block_bits trees before block))
blocks_bits-push trees before (b ∷ blocks) block =
    ap (λ r. block_bits trees before b ++ r) (blocks_bits-push trees (before ++ b ∷ []) blocks block
    ∙ ap (λ k. blocks_bits trees (before ++ b ∷ []) blocks
    ++ block_bits trees k block) (append_assoc before (b ∷ []) blocks))
    ∙ sym (append_assoc (block_bits trees before b) (blocks_bits trees (before ++ b ∷ []) blocks)
    (block_bits trees (before ++ b ∷ blocks) block))

-- the writing of the block at a place
pub at_place : (words : BandTrees) (before : List BlockWords) (x y threshold : ℕ)
    → AtPlace words before x y
    → leaf_writing words.width (0 + length before) threshold ≡ record {
      column = x;
      row = y;
      threshold = threshold;
    }
at_place words before x y threshold at =
    let n : 0 + length before ≡ length before = omega arith in
    rw n (rw (at.column, at.row) refl)

-- the words of one entry more
pub written_push : (entries items : List Entry) (place : ℕ) (d : Entry) → items ≡ entries
    → place < length items
    → map written_block (take (place + 1) entries) ≡ map written_block (take place entries)
    ++ written_block (get_or items place d) ∷ []
written_push entries items place d e h =
    let k : map written_block (take (place + 1) items) ≡ map written_block (take place items)
    ++ written_block (get_or items place d) ∷ [] =
    ap (map written_block) (take_more items place d h)
    ∙ map_push written_block (take place items) (get_or items place d) in
    ap (λ i. map written_block (take (place + 1) i)) (sym e) ∙ k
    ∙ ap (λ i. map written_block (take place i) ++ written_block (get_or items place d) ∷ []) e

pub written_place : (words : BandTrees) (entries items : List Entry) (place : ℕ) → items ≡ entries
    → place < length items
    → AtPlace words (map written_block (take place entries)) (place % words.width)
    (place / words.width)
written_place words entries items place e h =
    let l = ap length e in
    let n : length (map written_block (take place entries)) ≡ place =
    simp (length-map, length-take) (omega arith) in
    record { column = ap (λ k. k % words.width) (sym n); row = ap (λ k. k / words.width) (sym n) }

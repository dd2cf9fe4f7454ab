-- The bits of a block's path in the two trees, from what is kept of the nodes above it.
use Rattle.std.proofs.Common.{◌≡◌, ℕ, suc, zero, ◌+◌, ◌-◌, ◌<◌, ◌≤◌, min, Bool, true, false, List}
use Rattle.std.proofs.Common.{[], ◌∷◌, ◌++◌, refl, sym, ap, ◌∙◌, arith, ltb}
use Rattle.std.specs.Prelude.{not, ◌&&◌, max}
use Rattle.std.proofs.lemmas.Bool.{lt-ltb, le-ltb}
use Rattle.std.proofs.lemmas.List.{append-nil}
use Rattle.bit_stuffing.specs.Bits.{number, bit_value}
use Rattle.tag_trees.specs.TagTree.{leaf_node, middle_node, path_of, node_bits, path_bits}
use Rattle.bit_stuffing.proofs.RegisterLemmas.{number-one}
use Rattle.packet_headers.specs.InsideWriting.{Includes, IsPastValue, TopIncludes, TopInclusion}
use Rattle.packet_headers.specs.InsideWriting.{TopLeast, TopZeroPlanes, MiddleIncludes}
use Rattle.packet_headers.specs.InsideWriting.{MiddleInclusion, MiddleLeast, MiddleZeroPlanes}
use Rattle.packet_headers.specs.InsideWriting.{bit_if, zeros_if}

-- a node of the inclusion tree, up to 1: it starts at 0 where the node above it includes a block
inclusion_node : (above includes inclusion : Bool) (v s : ℕ)
    → (includes ≡ true → above ≡ true) → Includes includes v → s ≡ bit_value inclusion
    → node_bits (bit_value (not above)) v s 1 ≡ bit_if (not inclusion && above) includes
unfolding node_bits
inclusion_node true true true v s o i e = let l : ltb v s ≡ true = lt-ltb v s (omega arith) in
    rw l refl
inclusion_node true true false v s o i e =
    let l : ltb v s ≡ false = le-ltb v s (omega arith) in
    let m : ltb v 1 ≡ true = lt-ltb v 1 (omega arith) in
    let z : min 1 v - max (min s v) 0 ≡ 0 = omega arith in rw (l, m, z) refl
inclusion_node true false true v s o i e =
    let l : ltb v s ≡ false = le-ltb v s (omega arith) in
    let m : ltb v 1 ≡ false = le-ltb v 1 (omega arith) in
    let z : min 1 v - max (min s v) 0 ≡ 0 = omega arith in rw (l, m, z) refl
inclusion_node true false false v s o i e =
    let l : ltb v s ≡ false = le-ltb v s (omega arith) in
    let m : ltb v 1 ≡ false = le-ltb v 1 (omega arith) in
    let z : min 1 v - max (min s v) 0 ≡ 1 = omega arith in rw (l, m, z) refl
inclusion_node false true inclusion v s o i e = absurd (let k = o refl in cc)
inclusion_node false false true v s o i e =
    let l : ltb v s ≡ false = le-ltb v s (omega arith) in
    let m : ltb v 1 ≡ false = le-ltb v 1 (omega arith) in
    let z : min 1 v - max (min s v) 1 ≡ 0 = omega arith in rw (l, m, z) refl
inclusion_node false false false v s o i e =
    let l : ltb v s ≡ false = le-ltb v s (omega arith) in
    let m : ltb v 1 ≡ false = le-ltb v 1 (omega arith) in
    let z : min 1 v - max (min s v) 1 ≡ 0 = omega arith in rw (l, m, z) refl

-- where the next one starts
inclusion_next : (includes inclusion : Bool) (v s : ℕ) → Includes includes v
    → s ≡ bit_value inclusion → min (max 1 s) v ≡ bit_value (not includes)
inclusion_next true inclusion v s i e = omega arith
inclusion_next false true v s i e = omega arith
inclusion_next false false v s i e = omega arith

-- a node of the zero plane tree, up to a threshold above its value
zero_node : (zero_planes : Bool) (start v s t : ℕ) → IsPastValue zero_planes v s → start ≤ v → v < t
    → node_bits start v s t ≡ zeros_if (not zero_planes) (v - start)
unfolding node_bits
zero_node true start v s t b h k = let l : ltb v s ≡ true = lt-ltb v s b in rw l refl
zero_node false start v s t b h k =
    let l : ltb v s ≡ false = le-ltb v s (omega arith) in
    let m : ltb v t ≡ true = lt-ltb v t k in
    let z : min t v - max (min s v) start ≡ v - start = omega arith in
    rw (l, m, z) (sym (number-one (v - start)))

zero_next : (v s t : ℕ) → v < t → min (max t s) v ≡ v
zero_next v s t h = omega arith

inclusion_same : (first top : Bool) (more last : List Bool) → bit_if (first && true) top
    ++ (more ++ (last ++ [])) ≡ bit_if first top ++ (more ++ last)
inclusion_same true top more last = ap (λ r. top ∷ (more ++ r)) (append-nil last)
inclusion_same false top more last = ap (λ r. more ++ r) (append-nil last)

zeros_same : (zeros middle value : ℕ) → value ≡ zeros → middle ≡ 0
    → number (value - 0 + 1) 1 ≡ number (zeros - middle + 1) 1
zeros_same zeros middle value z m = let e : value - 0 + 1 ≡ zeros - middle + 1 = omega arith in
    ap (λ k. number k 1) e

zeros_join : (put : Bool) (a b c d : ℕ) → a ≡ c → b ≡ d → zeros_if put a
    ++ (number (b + 1) 1 ++ []) ≡ zeros_if put c ++ number (d + 1) 1
zeros_join put a b c d e f = ap (λ r. zeros_if put a ++ r) (append-nil (number (b + 1) 1))
    ∙ ap (λ k. zeros_if put k ++ number (b + 1) 1) e ∙ ap (λ k. zeros_if put c
    ++ number (k + 1) 1) f

-- the inclusion bits of a leaf's path
pub inclusion_path : (levels x y : ℕ) (v s : ℕ → ℕ) (quarter : ℕ)
    (top inclusion middle seen includes : Bool) → middle_node x y ≡ 16 + quarter
    → TopIncludes levels v top → TopInclusion levels s inclusion
    → MiddleIncludes levels v quarter middle → MiddleInclusion levels s quarter seen
    → Includes includes (v (leaf_node x y)) → s (leaf_node x y) ≡ 0 → (middle ≡ true → top ≡ true)
    → (includes ≡ true → middle ≡ true)
    → path_bits v s 1 0 (path_of levels x y) ≡ bit_if (not inclusion) top
    ++ (bit_if (not seen && top) middle ++ bit_if middle includes)
unfolding path_of path_bits
inclusion_path zero x y v s q top inclusion middle seen includes qe t tv m ms i l mt im =
    let leaf = inclusion_node true includes false (v (leaf_node x y)) (s (leaf_node x y))
    (λ k. refl) i l in
    rw (tv, ms, m) (append-nil (node_bits 0 (v (leaf_node x y)) (s (leaf_node x y)) 1) ∙ leaf)
inclusion_path (suc zero) x y v s q top inclusion middle seen includes qe t tv m ms i l mt im =
    rw (qe, tv, t) (
    let mid = inclusion_node true middle seen (v (16 + q)) (s (16 + q)) (λ k. refl) m ms in
    let next = inclusion_next middle seen (v (16 + q)) (s (16 + q)) m ms in
    let leaf = inclusion_node middle includes false (v (leaf_node x y)) (s (leaf_node x y)) im i
    l in
    rw (next, mid, leaf) (ap (λ r. bit_if (not seen && true) middle
    ++ r) (append-nil (bit_if middle includes))))
inclusion_path (suc (suc k)) x y v s q top inclusion middle seen includes qe t tv m ms i l mt im =
    rw qe (
    let up = inclusion_node true top inclusion (v 20) (s 20) (λ k. refl) t tv in
    let down = inclusion_next top inclusion (v 20) (s 20) t tv in
    let mid = inclusion_node top middle seen (v (16 + q)) (s (16 + q)) mt m ms in
    let next = inclusion_next middle seen (v (16 + q)) (s (16 + q)) m ms in
    let leaf = inclusion_node middle includes false (v (leaf_node x y)) (s (leaf_node x y)) im i
    l in
    rw (up, down, mid, next, leaf) (inclusion_same (not inclusion) top
    (bit_if (not seen && top) middle) (bit_if middle includes)))

-- the zero plane bits of a leaf's path, up to its value and one more
pub zero_path : (levels x y : ℕ) (v s : ℕ → ℕ) (quarter top middle zeros : ℕ)
    (zero_planes seen : Bool) → middle_node x y ≡ 16 + quarter
    → TopLeast levels v top → TopZeroPlanes levels v s zero_planes
    → MiddleLeast levels v quarter middle → MiddleZeroPlanes levels v s quarter seen
    → v (leaf_node x y) ≡ zeros → s (leaf_node x y) ≡ 0 → top ≤ middle → middle ≤ zeros
    → path_bits v s (zeros + 1) 0 (path_of levels x y) ≡ zeros_if (not zero_planes) top
    ++ (zeros_if (not seen) (middle - top) ++ number (zeros - middle + 1) 1)
unfolding path_of path_bits
zero_path zero x y v s q top middle zeros zero_planes seen qe t tb m mb z l tm mz =
    let leaf = zero_node false 0 (v (leaf_node x y)) (s (leaf_node x y)) (zeros + 1) l (omega arith)
    (omega arith) in
    rw (tb, mb) (append-nil (node_bits 0 (v (leaf_node x y)) (s (leaf_node x y)) (zeros + 1)) ∙ leaf
    ∙ zeros_same zeros middle (v (leaf_node x y)) z m)
zero_path (suc zero) x y v s q top middle zeros zero_planes seen qe t tb m mb z l tm mz =
    rw (qe, tb) (
    let below : v (16 + q) < zeros + 1 = omega arith in
    let mid = zero_node seen 0 (v (16 + q)) (s (16 + q)) (zeros + 1) mb (omega arith) below in
    let next = zero_next (v (16 + q)) (s (16 + q)) (zeros + 1) below in
    let leaf = zero_node false (v (16 + q)) (v (leaf_node x y)) (s (leaf_node x y)) (zeros + 1) l
    (omega arith) (omega arith) in
    let a : v (16 + q) - 0 ≡ middle - top = omega arith in
    let b : v (leaf_node x y) - v (16 + q) ≡ zeros - middle = omega arith in
    rw (mid, next, leaf) (zeros_join (not seen) (v (16 + q) - 0) (v (leaf_node x y) - v (16 + q))
    (middle - top) (zeros - middle) a b))
zero_path (suc (suc k)) x y v s q top middle zeros zero_planes seen qe t tb m mb z l tm mz =
    rw qe (
    let above : v 20 < zeros + 1 = omega arith in
    let below : v (16 + q) < zeros + 1 = omega arith in
    let up = zero_node zero_planes 0 (v 20) (s 20) (zeros + 1) tb (omega arith) above in
    let down = zero_next (v 20) (s 20) (zeros + 1) above in
    let mid = zero_node seen (v 20) (v (16 + q)) (s (16 + q)) (zeros + 1) mb (omega arith) below in
    let next = zero_next (v (16 + q)) (s (16 + q)) (zeros + 1) below in
    let leaf = zero_node false (v (16 + q)) (v (leaf_node x y)) (s (leaf_node x y)) (zeros + 1) l
    (omega arith) (omega arith) in
    let a : v 20 - 0 ≡ top = omega arith in
    let b : v (16 + q) - v 20 ≡ middle - top = omega arith in
    let c : v (leaf_node x y) - v (16 + q) ≡ zeros - middle = omega arith in
    rw (up, down, mid, next, leaf) (
    ap (λ k. zeros_if (not zero_planes) k ++ (zeros_if (not seen) (v (16 + q) - v 20)
    ++ (number (v (leaf_node x y) - v (16 + q) + 1) 1 ++ []))) a
    ∙ ap (λ r. zeros_if (not zero_planes) top
    ++ r) (zeros_join (not seen) (v (16 + q) - v 20) (v (leaf_node x y) - v (16 + q)) (middle - top)
    (zeros - middle) b c)))

-- All passes of a block leave no bit-plane unknown, and so no distortion.
use Rattle.std.proofs.Common.{ℕ, zero, suc, ◌*◌, ◌/◌, ◌^◌, ◌<◌, ◌≡◌, Bool, List, []}
use Rattle.std.proofs.Common.{◌∷◌, length, refl, ap, ◌∙◌, subst, arith}
use Rattle.std.proofs.lemmas.List.{length-replicate, get_or-replicate}
use Rattle.dz_quantiser.specs.Error.{middle, distance, square, squared_error}
use Rattle.ebcot_contexts.specs.Cells.{Cell, fresh, cell_at}
use Rattle.ebcot_contexts.specs.Contexts.{Shape}
use Rattle.ebcot_contexts.specs.Passes.{block, pass, passes, plane_of, start}
use Rattle.ebcot_contexts.specs.Meaning.{known_after}
use Rattle.ebcot_contexts.proofs.Trees.{AtEnds, at_chain, at_outcome}
use Rattle.ebcot_contexts.proofs.Levels.{Between, AllUnknown, pass_between, pass_done, before_pass}
use Rattle.distortion_sums.specs.Distortion.{error_sum, distortion}
use Rattle.ebcot_passes.specs.Code.{passes_of}

-- a whole index has no error
same_none : (a : ℕ) → square (distance a a) ≡ 0
same_none a =
    let none : distance a a ≡ 0 = omega arith in
    ap square none

whole_none : (m : ℕ) → squared_error m 0 ≡ 0
whole_none m =
    let whole : m / 2 ^ 0 ≡ m = omega arith in
    ap (λ (v : ℕ). square (distance (middle m 0) (middle v 0))) whole ∙ same_none (middle m 0)

known_none : (coefs : List (ℕ × Bool)) (cells : List Cell) →
    ((i : ℕ) → i < length cells → (cell_at cells i).unknown ≡ 0) → error_sum coefs cells ≡ 0
known_none [] cells all = refl
known_none (m ∷ ms) [] all = refl
known_none (m ∷ ms) (c ∷ cs) all =
    let first : squared_error m.0 c.unknown ≡ 0 =
    ap (squared_error m.0) (all 0 (omega arith)) ∙ whole_none m.0 in
    let rest : error_sum ms cs ≡ 0 = known_none ms cs (λ i l. all (suc i) (omega (arith, l))) in
    omega (arith, first, rest)

-- after the cleanup of the least significant plane
last_between : (s : Shape) (n : ℕ) → s.planes ≡ suc n →
    AtEnds (Between (s.width * s.height) 0) (passes s (suc (3 * n)) (start s))
last_between s n e =
    let j : ℕ = 3 * n in
    let low : plane_of s j ≡ 0 = omega (arith, e) in
    subst (λ (p : ℕ). AtEnds (Between (s.width * s.height) p) (passes s (suc j) (start s))) low
    (at_chain (Between (s.width * s.height) (plane_of s j))
    (Between (s.width * s.height) (plane_of s j)) (passes s j (start s)) (pass s j)
    (before_pass s j (omega (arith, e))) (λ c r. pass_between s j c r))

last_unknown : (s : Shape) (n : ℕ) → s.planes ≡ suc n →
    AtEnds (AllUnknown (s.width * s.height) 0) (passes s (suc (3 * n)) (start s))
last_unknown s n e =
    let j : ℕ = 3 * n in
    let low : plane_of s j ≡ 0 = omega (arith, e) in
    subst (λ (p : ℕ). AtEnds (AllUnknown (s.width * s.height) p) (passes s (suc j) (start s))) low
    (at_chain (Between (s.width * s.height) (plane_of s j))
    (AllUnknown (s.width * s.height) (plane_of s j)) (passes s j (start s)) (pass s j)
    (before_pass s j (omega (arith, e)))
    (λ c r. pass_done s j c (omega arith) r))

some_planes : (coefs : List (ℕ × Bool)) (s : Shape) (n : ℕ) → s.planes ≡ suc n →
    distortion coefs s (suc (3 * n)) ≡ 0
unfolding block
some_planes coefs s n e =
    let between = at_outcome (Between (s.width * s.height) 0) coefs
    (passes s (suc (3 * n)) (start s)) (last_between s n e) in
    let unknown = at_outcome (AllUnknown (s.width * s.height) 0) coefs
    (passes s (suc (3 * n)) (start s)) (last_unknown s n e) in
    known_none coefs (known_after coefs s (suc (3 * n)))
    (λ i l. unknown i (subst (λ (v : ℕ). i < v) between.long l))

no_planes : (coefs : List (ℕ × Bool)) (s : Shape) → s.planes ≡ 0 → distortion coefs s 0 ≡ 0
unfolding block
no_planes coefs s e =
    known_none coefs (start s)
    (λ i l. ap (λ (c : Cell). c.unknown)
    (get_or-replicate (s.width * s.height) i (fresh s.planes) (fresh 0)
    (subst (λ (v : ℕ). i < v) (length-replicate (s.width * s.height) (fresh s.planes)) l)) ∙ e)

by_planes : (coefs : List (ℕ × Bool)) (s : Shape) (n : ℕ) → s.planes ≡ n →
    distortion coefs s (passes_of n) ≡ 0
by_planes coefs s zero e = no_planes coefs s e
by_planes coefs s (suc n) e =
    let last : suc (3 * n) ≡ passes_of (suc n) = omega arith in
    subst (λ (k : ℕ). distortion coefs s k ≡ 0) last (some_planes coefs s n e)

pub all_passes_leave_none : (coefs : List (ℕ × Bool)) (s : Shape) →
    distortion coefs s (passes_of s.planes) ≡ 0
all_passes_leave_none coefs s = by_planes coefs s s.planes refl

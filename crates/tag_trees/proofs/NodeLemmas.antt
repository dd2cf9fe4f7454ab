-- One node's part of a writing or a reading.
use Rattle.std.proofs.Common.{◌≡◌, ℕ, suc, zero, ◌-◌, ◌<◌, ◌≤◌, min, Bool, true, false, List, []}
use Rattle.std.proofs.Common.{◌∷◌, ◌++◌, length, refl, sym, ap, ◌∙◌, inl, inr, arith, append_assoc}
use Rattle.std.proofs.Common.{length-append, ltb}
use Rattle.std.specs.Prelude.{◌⊎◌, max, nat_lt, replicate, if◌then◌else◌}
use Rattle.std.proofs.lemmas.Bool.{lt-ltb, le-ltb, cases_lt}
use Rattle.std.proofs.lemmas.List.{append-nil, append_cancel_left, length-replicate}
use Rattle.tag_trees.specs.TagTree.{node_bits}
use Rattle.tag_trees.specs.TreeState.{AllowsValue}
use Rattle.tag_trees.specs.Inside.{IsStep, step_bits, RunsOut}
use Rattle.tag_trees.specs.TreeState.{NodeStands}

-- what is known above: the parent's value is known, or its bound has reached the threshold
abbrev pub Reaches : Bool → ℕ → ℕ → Type 0
Reaches above_known start threshold = (above_known ≡ true) ⊎ (threshold ≤ start)

-- the bits of a node from this bound on
abbrev pub bits_from : ℕ → ℕ → ℕ → List Bool
bits_from from value threshold = replicate (min threshold value - from) false
    ++ (if nat_lt value threshold then true ∷ [] else [])

pub normal_known : (start : ℕ) (up_known : Bool) (bound earlier value a t : ℕ)
    → NodeStands start up_known bound true earlier → AllowsValue true bound value
    → node_bits a value earlier t ≡ []
unfolding node_bits
normal_known start up_known bound earlier value a t s v =
    let h : bound < earlier = s.0 in
    let e : value ≡ bound = v in
    let l : ltb value earlier ≡ true = lt-ltb value earlier (omega arith) in rw l refl

-- a start that differs only where no zeros are left
same_zeros : (t value x y : ℕ) (tail : List Bool) → (x ≡ y) ⊎ ((t ≤ x) × (t ≤ y))
    → replicate (min t value - x) false ++ tail ≡ replicate (min t value - y) false ++ tail
same_zeros t value x y tail (inl e) = ap (λ k. replicate (min t value - k) false ++ tail) e
same_zeros t value x y tail (inr h) =
    let a : min t value - x ≡ 0 = omega arith in
    let b : min t value - y ≡ 0 = omega arith in rw (a, b) refl

start_within : (up_known : Bool) (start up : ℕ) → AllowsValue up_known start up → start ≤ up
start_within true start up h = omega arith
start_within false start up h = h

start_cases : (up_known : Bool) (start up t e : ℕ) → AllowsValue up_known start up
    → Reaches up_known start t
    → (min (max t e) up ≡ start) ⊎ ((t ≤ min (max t e) up) × (t ≤ start))
start_cases true start up t e a r = elim (cases_lt (max t e) start) [
  | inl h ↦ (let u : up ≡ start = a in inr (omega arith))
  | inr h ↦ (let u : up ≡ start = a in inl (omega arith))
]
start_cases false start up t e a (inl h) = cc
start_cases false start up t e a (inr h) = let u : start ≤ up = a in inr (omega arith)

max_cases : (earlier bound start a t : ℕ) → earlier ≤ bound → bound ≤ max earlier start
    → (a ≡ start) ⊎ ((t ≤ a) × (t ≤ start))
    → (max earlier a ≡ max bound start) ⊎ ((t ≤ max earlier a) × (t ≤ max bound start))
max_cases earlier bound start a t h k (inl e) = inl (omega arith)
max_cases earlier bound start a t h k (inr e) = let x : t ≤ a = e.0 in let y : t ≤ start = e.1 in
    inr (omega arith)

pub from_within : (start : ℕ) (up_known : Bool) (bound earlier value up : ℕ)
    → NodeStands start up_known bound false earlier → AllowsValue false bound value
    → AllowsValue up_known start up → up ≤ value → max bound start ≤ value
from_within start up_known bound earlier value up s v u h =
    let k : start ≤ up = start_within up_known start up u in
    let b : bound ≤ value = v in omega arith

pub normal_unknown : (start : ℕ) (up_known : Bool) (bound earlier value up t e : ℕ)
    → NodeStands start up_known bound false earlier → AllowsValue false bound value
    → AllowsValue up_known start up → Reaches up_known start t
    → node_bits (min (max t e) up) value earlier t ≡ bits_from (max bound start) value t
unfolding node_bits
normal_unknown start up_known bound earlier value up t e s v u r =
    let low : earlier ≤ bound = s.0 in
    let b : bound ≤ value = v in
    let l : ltb value earlier ≡ false = le-ltb value earlier (omega arith) in
    let m : min earlier value ≡ earlier = omega arith in
    let c = start_cases up_known start up t e u r in
    let z = same_zeros t value (max earlier (min (max t e) up)) (max bound start)
    (if nat_lt value t then true ∷ [] else [])
    (max_cases earlier bound start (min (max t e) up) t low s.1 c) in
    rw (l, m) z

-- the bits of a step, where the value is allowed afterwards
pub step_is : (from t bound value : ℕ) (known : Bool) → IsStep from t false bound known
    → AllowsValue known bound value → from ≤ value
    → bits_from from value t ≡ step_bits from false bound known
step_is from t bound value true s v h =
    let e : value ≡ bound = v in
    let low : bound < t = s.1 in
    let l : ltb value t ≡ true = lt-ltb value t (omega arith) in
    let m : min t value ≡ bound = omega arith in
    rw (l, m) refl
step_is from t bound value false s v h =
    let e : bound ≡ max from t = s in
    let low : bound ≤ value = v in
    let l : ltb value t ≡ false = le-ltb value t (omega arith) in
    let m : min t value - from ≡ bound - from = omega arith in
    rw (l, m) refl

-- zeros and then a one
same_run : (i j : ℕ) (x y : List Bool) → replicate i false ++ true ∷ x ≡ replicate j false
    ++ true ∷ y → (i ≡ j) × (x ≡ y)
same_run zero zero x y h = (refl, cc)
same_run zero (suc j) x y h = cc
same_run (suc i) zero x y h = cc
same_run (suc i) (suc j) x y h =
    let t : replicate i false ++ true ∷ x ≡ replicate j false ++ true ∷ y = cc in
    let r = same_run i j x y t in (ap suc r.0, r.1)

run_within : (i j : ℕ) (x y : List Bool) → replicate i false ++ true ∷ x ≡ replicate j false ++ y
    → j ≤ i
run_within i zero x y h = omega arith
run_within zero (suc j) x y h = cc
run_within (suc i) (suc j) x y h =
    let t : replicate i false ++ true ∷ x ≡ replicate j false ++ y = cc in
    let r = run_within i j x y t in omega arith

one_then : (n : ℕ) (rest : List Bool) → (replicate n false ++ true ∷ []) ++ rest ≡ replicate n false
    ++ true ∷ rest
one_then n rest = append_assoc (replicate n false) (true ∷ []) rest

none_then : (n : ℕ) (rest : List Bool) → (replicate n false ++ []) ++ rest ≡ replicate n false
    ++ rest
none_then n rest = ap (λ b. b ++ rest) (append-nil (replicate n false))

bits_low : (from value t : ℕ) (rest : List Bool) → value < t → bits_from from value t
    ++ rest ≡ replicate (min t value - from) false ++ true ∷ rest
bits_low from value t rest h = let l : ltb value t ≡ true = lt-ltb value t h in
    rw l (one_then (min t value - from) rest)

bits_high : (from value t : ℕ) (rest : List Bool) → t ≤ value → bits_from from value t
    ++ rest ≡ replicate (min t value - from) false ++ rest
bits_high from value t rest h = let l : ltb value t ≡ false = le-ltb value t h in
    rw l (none_then (min t value - from) rest)

-- what was written is read
pub step_reads : (from t bound value : ℕ) (known : Bool) (rest new : List Bool)
    → IsStep from t false bound known → from ≤ value
    → bits_from from value t ++ rest ≡ step_bits from false bound known ++ new
    → AllowsValue known bound value × (rest ≡ new)
step_reads from t bound value true rest new s h e =
    let low : from ≤ bound = s.0 in
    let less : bound < t = s.1 in
    elim (cases_lt value t) [
      | inl l ↦ (let r = same_run (min t value - from) (bound - from) rest new
          (sym (bits_low from value t rest l) ∙ e ∙ one_then (bound - from) new) in
          let k : min t value - from ≡ bound - from = r.0 in (omega arith, r.1))
      | inr l ↦ absurd (let r = run_within (bound - from) (min t value - from) new rest
          (sym (one_then (bound - from) new) ∙ sym e ∙ bits_high from value t rest l) in
          omega arith)
    ]
step_reads from t bound value false rest new s h e =
    let b : bound ≡ max from t = s in
    elim (cases_lt value t) [
      | inl l ↦ absurd (let r = run_within (min t value - from) (bound - from) rest new
          (sym (bits_low from value t rest l) ∙ e ∙ none_then (bound - from) new) in omega arith)
      | inr l ↦ (let same : bound - from ≡ min t value - from = omega arith in
          let r = append_cancel_left (replicate (min t value - from) false) rest new
          (sym (bits_high from value t rest l) ∙ e ∙ none_then (bound - from) new
          ∙ ap (λ k. replicate k false ++ new) same) in
          (omega arith, r))
    ]

-- bits that end among the zeros are not what was written
pub step_ends : (from t value : ℕ) (known : Bool) (ahead rest : List Bool)
    → RunsOut ahead from t known → from ≤ value
    → ahead ≡ bits_from from value t ++ rest → ⊥
step_ends from t value known ahead rest r h e =
    let short = r.short in
    let len = ap length e in
    elim (cases_lt value t) [
      | inl l ↦ (let run = sym (bits_low from value t rest l) ∙ sym e ∙ r.zeros
          ∙ sym (append-nil (replicate (length ahead) false)) in
          let w = run_within (min t value - from) (length ahead) rest [] run in
          let n = ap length run in
          let a = length-append (replicate (min t value - from) false) (true ∷ rest) in
          let b = length-replicate (min t value - from) false in
          let c = length-append (replicate (length ahead) false) [] in
          let d = length-replicate (length ahead) false in omega arith)
      | inr l ↦ (let run = ap length (e ∙ bits_high from value t rest l) in
          let a = length-append (replicate (min t value - from) false) rest in
          let b = length-replicate (min t value - from) false in omega arith)
    ]

-- a step's node afterwards
pub step_reaches : (from t bound : ℕ) (known old : Bool) → IsStep from t old bound known
    → Reaches known bound t
step_reaches from t bound known true s = inl s.1
step_reaches from t bound true false s = inl refl
step_reaches from t bound false false s = let b : bound ≡ max from t = s in inr (omega arith)

pub stands_step : (start : ℕ) (up_known : Bool) (bound earlier t bound' : ℕ) (known known' : Bool)
    → NodeStands start up_known bound known earlier
    → IsStep (max bound start) t known bound' known' → Reaches up_known start t
    → NodeStands start up_known bound' known' (max earlier t)
stands_step start up_known bound earlier t bound' true true s i r =
    let a : bound < earlier = s.0 in
    let b : start ≤ bound = s.1 in
    let c : bound' ≡ max bound start = i.0 in (omega arith, omega arith, s.2)
stands_step start up_known bound earlier t bound' true false s i r =
    absurd (let c : false ≡ true = i.1 in cc)
stands_step start up_known bound earlier t bound' false true s i (inl r) =
    let c : max bound start ≤ bound' = i.0 in
    let d : bound' < t = i.1 in (omega arith, omega arith, r)
stands_step start up_known bound earlier t bound' false true s i (inr r) =
    absurd (let c : max bound start ≤ bound' = i.0 in let d : bound' < t = i.1 in omega arith)
stands_step start up_known bound earlier t bound' false false s i r =
    let a : earlier ≤ bound = s.0 in
    let b : bound ≤ max earlier start = s.1 in
    let c : bound' ≡ max (max bound start) t = i in (omega arith, omega arith)

-- the children of a step's node
pub stands_below : (start start' : ℕ) (up_known up_known' : Bool) (bound earlier : ℕ) (known : Bool)
    → start ≤ start'
    → (up_known ≡ true → (up_known' ≡ true) × (start' ≡ start))
    → NodeStands start up_known bound known earlier
    → NodeStands start' up_known' bound known earlier
stands_below start start' up_known up_known' bound earlier true le same s =
    let f = same s.2 in
    let e : start' ≡ start = f.1 in
    let b : start ≤ bound = s.1 in (s.0, omega arith, f.0)
stands_below start start' up_known up_known' bound earlier false le same s =
    let b : bound ≤ max earlier start = s.1 in (s.0, omega arith)

-- a step's bound never falls, and a known value stays
pub step_rises : (start : ℕ) (up_known : Bool) (bound earlier t bound' : ℕ) (known known' : Bool)
    → NodeStands start up_known bound known earlier
    → IsStep (max bound start) t known bound' known' → (bound ≤ bound')
    × (known ≡ true → (known' ≡ true) × (bound' ≡ bound))
step_rises start up_known bound earlier t bound' true known' s i =
    let b : start ≤ bound = s.1 in
    let c : bound' ≡ max bound start = i.0 in
    let e : bound' ≡ bound = omega arith in (omega arith, λ _. (i.1, e))
step_rises start up_known bound earlier t bound' false true s i =
    let c : max bound start ≤ bound' = i.0 in (omega arith, λ k. cc)
step_rises start up_known bound earlier t bound' false false s i =
    let c : bound' ≡ max (max bound start) t = i in (omega arith, λ k. cc)

-- what is allowed afterwards was allowed before
pub allowed_before : (start : ℕ) (up_known : Bool) (bound earlier t bound' value : ℕ)
    (known known' : Bool) → NodeStands start up_known bound known earlier
    → IsStep (max bound start) t known bound' known' → AllowsValue known' bound' value
    → AllowsValue known bound value
allowed_before start up_known bound earlier t bound' value true true s i v =
    let b : start ≤ bound = s.1 in
    let c : bound' ≡ max bound start = i.0 in
    let e : value ≡ bound' = v in
    let r : value ≡ bound = omega arith in r
allowed_before start up_known bound earlier t bound' value true false s i v =
    absurd (let c : false ≡ true = i.1 in cc)
allowed_before start up_known bound earlier t bound' value false true s i v =
    let c : max bound start ≤ bound' = i.0 in
    let e : value ≡ bound' = v in
    let r : bound ≤ value = omega arith in r
allowed_before start up_known bound earlier t bound' value false false s i v =
    let c : bound' ≡ max (max bound start) t = i in
    let e : bound' ≤ value = v in
    let r : bound ≤ value = omega arith in r

-- the value is allowed from where a step begins
pub allowed_from : (start : ℕ) (up_known : Bool) (bound earlier value up : ℕ) (known : Bool)
    → NodeStands start up_known bound known earlier → AllowsValue known bound value
    → AllowsValue up_known start up → up ≤ value → AllowsValue known (max bound start) value
allowed_from start up_known bound earlier value up true s v u h =
    let b : start ≤ bound = s.1 in
    let e : value ≡ bound = v in
    let r : value ≡ max bound start = omega arith in r
allowed_from start up_known bound earlier value up false s v u h =
    from_within start up_known bound earlier value up s v u h

-- the bits of a step are the node's, where the value is allowed afterwards
pub step_bits_are : (start : ℕ) (up_known : Bool) (bound earlier t bound' value up e : ℕ)
    (known known' : Bool) → NodeStands start up_known bound known earlier
    → IsStep (max bound start) t known bound' known' → AllowsValue known' bound' value
    → AllowsValue up_known start up → up ≤ value → Reaches up_known start t
    → step_bits (max bound start) known bound' known' ≡ node_bits (min (max t e) up) value earlier t
step_bits_are start up_known bound earlier t bound' value up e true known' s i v u h r =
    sym (normal_known start up_known bound earlier value (min (max t e) up) t s
    (allowed_before start up_known bound earlier t bound' value true known' s i v))
step_bits_are start up_known bound earlier t bound' value up e false known' s i v u h r =
    let before = allowed_before start up_known bound earlier t bound' value false known' s i v in
    sym (normal_unknown start up_known bound earlier value up t e s before u r
    ∙ step_is (max bound start) t bound' value known' i v
    (from_within start up_known bound earlier value up s before u h))

-- the node's bits are read back
pub node_reads : (start : ℕ) (up_known : Bool) (bound earlier t bound' value up e : ℕ)
    (known known' : Bool) (rest new : List Bool) → NodeStands start up_known bound known earlier
    → IsStep (max bound start) t known bound' known' → AllowsValue known bound value
    → AllowsValue up_known start up → up ≤ value → Reaches up_known start t
    → node_bits (min (max t e) up) value earlier t
    ++ rest ≡ step_bits (max bound start) known bound' known' ++ new
    → AllowsValue known' bound' value × (rest ≡ new)
node_reads start up_known bound earlier t bound' value up e true true rest new s i v u h r eq =
    let b : start ≤ bound = s.1 in
    let c : bound' ≡ max bound start = i.0 in
    let w : value ≡ bound = v in
    let is : value ≡ bound' = omega arith in (
      is,
      ap (λ b. b ++ rest) (sym (normal_known start up_known bound earlier value
          (min (max t e) up) t s v)) ∙ eq,
    )
node_reads start up_known bound earlier t bound' value up e true false rest new s i v u h r eq =
    absurd (let c : false ≡ true = i.1 in cc)
node_reads start up_known bound earlier t bound' value up e false known' rest new s i v u h r eq =
    step_reads (max bound start) t bound' value known' rest new i
    (from_within start up_known bound earlier value up s v u h)
    (ap (λ b. b ++ rest) (sym (normal_unknown start up_known bound earlier value up t e s v u r))
    ∙ eq)

-- and the bits don't end among them
pub node_ends : (start : ℕ) (up_known : Bool) (bound earlier t value up e : ℕ) (known : Bool)
    (ahead rest : List Bool) → NodeStands start up_known bound known earlier
    → RunsOut ahead (max bound start) t known → AllowsValue known bound value
    → AllowsValue up_known start up → up ≤ value → Reaches up_known start t
    → ahead ≡ node_bits (min (max t e) up) value earlier t ++ rest → ⊥
node_ends start up_known bound earlier t value up e true ahead rest s out v u h r eq =
    absurd (let c = out.unknown in cc)
node_ends start up_known bound earlier t value up e false ahead rest s out v u h r eq =
    step_ends (max bound start) t value false ahead rest out
    (from_within start up_known bound earlier value up s v u h)
    (eq ∙ ap (λ b. b ++ rest) (normal_unknown start up_known bound earlier value up t e s v u r))

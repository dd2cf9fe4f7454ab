-- The lower bound, the account of the gap, and rivals, for any multipliers.
use Rattle.std.proofs.Common.{ℕ, ◌≡◌, ◌+◌, ◌*◌, ◌<◌, ◌≤◌, arith, ap}
use Rattle.std.proofs.Math.Nat.{mul-le-mul_left}
use Rattle.allocation_bound.specs.Steps.{scale}
use Rattle.allocation_bound.specs.Sums.{upto}
use Rattle.allocation_bound.specs.Budgets.{IsNested}
use Rattle.allocation_bound.specs.Ledger.{Ledger, rate_of, distortion, body_of, FitsBeside}
use Rattle.allocation_bound.specs.Ledger.{least_terms, held_worth, limit_worth, IsBelow, IsGap}
use Rattle.allocation_bound.specs.Ledger.{rounded_up}
use Rattle.allocation_bound.proofs.Products.{up_reaches, up_least}
use Rattle.allocation_bound.proofs.SumLemmas.{exchange, upto_le, upto_same, upto_add, upto_scaled}
use Rattle.allocation_bound.proofs.SumLemmas.{worth_add}

-- the worth of what budgets have unused
abbrev pub unused_worth : Ledger → (ℕ → ℕ) → ℕ
unused_worth l slack = upto l.number (λ j. l.multipliers j * slack j)

split_limit : (m limit body held slack : ℕ) → slack + held ≡ limit
    → m * (limit + body) ≡ m * (held + (slack + body))
split_limit m limit body held slack e = ap (λ n. m * n) (omega arith)

module _ (l : Ledger) (nested : IsNested l.around)
    (inside : (b : ℕ) → b < l.blocks → l.node b < l.number) where
  -- what a choice costs, block by block, is its distortion and, budget by budget, the worth of its
  -- bytes
  costs : (dist bytes : ℕ → ℕ) → upto l.blocks (λ b. scale * dist b + rate_of l b * bytes b)
      ≡ scale * upto l.blocks dist + upto l.number (λ j. l.multipliers j * body_of l bytes j)
  costs dist bytes =
      let s : upto l.blocks (λ b. scale * dist b + rate_of l b * bytes b) ≡
      upto l.blocks (λ b. scale * dist b) + upto l.blocks (λ b. rate_of l b * bytes b) =
      upto_add l.blocks (λ b. scale * dist b) (λ b. rate_of l b * bytes b) in
      let d : upto l.blocks (λ b. scale * dist b)
      ≡ scale * upto l.blocks dist = upto_scaled l.blocks dist in
      let e : upto l.blocks (λ b. rate_of l b * bytes b) ≡
      upto l.number (λ j. l.multipliers j * body_of l bytes j) =
      exchange l.around nested l.number l.node l.multipliers bytes l.blocks inside in
      omega arith

  -- no choice that fits, whose terms are at least the least ones, is below the bound
  lower_bound : (dist bytes : ℕ → ℕ)
      → ((b : ℕ) → b < l.blocks → l.least b ≤ scale * dist b + rate_of l b * bytes b)
      → FitsBeside l bytes
      → least_terms l + held_worth l ≤ scale * upto l.blocks dist + limit_worth l
  lower_bound dist bytes terms fits =
      let a : least_terms l ≤ upto l.blocks (λ b. scale * dist b + rate_of l b * bytes b) =
      upto_le l.blocks l.least (λ b. scale * dist b + rate_of l b * bytes b) terms in
      let c : upto l.blocks (λ b. scale * dist b + rate_of l b * bytes b) ≡
      scale * upto l.blocks dist + upto l.number (λ j. l.multipliers j * body_of l bytes j) =
      costs dist bytes in
      let s : upto l.number (λ j. l.multipliers j * (body_of l bytes j + l.held j)) ≡
      upto l.number (λ j. l.multipliers j * body_of l bytes j) + held_worth l =
      worth_add l.number l.multipliers (body_of l bytes) l.held in
      let m : upto l.number (λ j. l.multipliers j * (body_of l bytes j + l.held j))
      ≤ limit_worth l =
      upto_le l.number (λ j. l.multipliers j * (body_of l bytes j + l.held j))
      (λ j. l.multipliers j * (l.limit j + body_of l l.bytes j))
      (λ j lt. mul-le-mul_left (l.multipliers j) (fits j lt)) in
      omega arith

  -- by how much the chosen terms are above the least, and what unused bytes are worth, are the gap
  -- before rounding
  pub accounting : (over slack : ℕ → ℕ)
      → ((b : ℕ) → b < l.blocks → scale * l.dist b + rate_of l b * l.bytes b ≡ l.least b + over b)
      → ((j : ℕ) → j < l.number → slack j + l.held j ≡ l.limit j)
      → scale * distortion l + limit_worth l
      ≡ least_terms l + held_worth l + (upto l.blocks over + unused_worth l slack)
  accounting over slack terms unused =
      let c : upto l.blocks (λ b. scale * l.dist b + rate_of l b * l.bytes b) ≡
      scale * distortion l + upto l.number (λ j. l.multipliers j * body_of l l.bytes j) =
      costs l.dist l.bytes in
      let t : upto l.blocks (λ b. scale * l.dist b + rate_of l b * l.bytes b) ≡
      upto l.blocks (λ b. l.least b + over b) =
      upto_same l.blocks (λ b. scale * l.dist b + rate_of l b * l.bytes b) (λ b. l.least b + over b)
      terms in
      let a : upto l.blocks (λ b. l.least b + over b) ≡ least_terms l + upto l.blocks over =
      upto_add l.blocks l.least over in
      let r : limit_worth l ≡
      upto l.number (λ j. l.multipliers j * (l.held j + (slack j + body_of l l.bytes j))) =
      upto_same l.number (λ j. l.multipliers j * (l.limit j + body_of l l.bytes j))
      (λ j. l.multipliers j * (l.held j + (slack j + body_of l l.bytes j)))
      (λ j lt. split_limit (l.multipliers j) (l.limit j) (body_of l l.bytes j) (l.held j) (slack j)
      (unused j lt)) in
      let p : upto l.number (λ j. l.multipliers j * (l.held j + (slack j + body_of l l.bytes j))) ≡
      held_worth l + upto l.number (λ j. l.multipliers j * (slack j + body_of l l.bytes j)) =
      worth_add l.number l.multipliers l.held (λ j. slack j + body_of l l.bytes j) in
      let q : upto l.number (λ j. l.multipliers j * (slack j + body_of l l.bytes j)) ≡
      unused_worth l slack + upto l.number (λ j. l.multipliers j * body_of l l.bytes j) =
      worth_add l.number l.multipliers slack (body_of l l.bytes) in
      omega arith

  pub gap_is : (over slack : ℕ → ℕ)
      → ((b : ℕ) → b < l.blocks → scale * l.dist b + rate_of l b * l.bytes b ≡ l.least b + over b)
      → ((j : ℕ) → j < l.number → slack j + l.held j ≡ l.limit j)
      → IsGap l (rounded_up (upto l.blocks over + unused_worth l slack))
  gap_is over slack terms unused =
      let sum : ℕ = upto l.blocks over + unused_worth l slack in
      let a : scale * distortion l + limit_worth l ≡ least_terms l + held_worth l + sum =
      accounting over slack terms unused in
      record {
        enough = (let u : sum
            ≤ scale * rounded_up sum = up_reaches sum (rounded_up sum) (omega arith) in omega
            arith);
        least = λ g h. up_least sum g (omega arith);
      }

  -- no choice that fits has a distortion below the chosen one's, less the gap
  pub rivals : (g : ℕ) → IsBelow l g → (dist bytes : ℕ → ℕ)
      → ((b : ℕ) → b < l.blocks → l.least b ≤ scale * dist b + rate_of l b * bytes b)
      → FitsBeside l bytes → distortion l ≤ upto l.blocks dist + g
  rivals g below dist bytes terms fits =
      let b : least_terms l + held_worth l ≤ scale * upto l.blocks dist + limit_worth l =
      lower_bound dist bytes terms fits in
      omega arith

-- two gaps of one ledger are equal
pub gap_once : (l : Ledger) (g h : ℕ) → IsGap l g → IsGap l h → g ≡ h
gap_once l g h a b =
    let x : g ≤ h = a.least h b.enough in
    let y : h ≤ g = b.least g a.enough in
    omega arith

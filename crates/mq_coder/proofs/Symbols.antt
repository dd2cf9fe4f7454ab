-- The coding of one symbol, by what its encoder tests.
use Rattle.std.proofs.Common.{ℕ, ◌-◌, ◌^◌, ◌<◌, ◌≤◌, ◌≡◌, ◌⊎◌, inl, inr, Bool, true, false, not}
use Rattle.std.proofs.Common.{nat_lt, if◌then◌else◌, List, [], ◌∷◌, ◌++◌, arith, refl, ap, sym, ◌∙◌}
use Rattle.std.proofs.lemmas.Grind.{common_steps}
use Rattle.std.proofs.Math.Bool.{beq}
use Rattle.std.proofs.lemmas.List.Sums.{fold-append}
use Rattle.mq_coder.specs.States.{context_at, same, after_symbol}
use Rattle.mq_coder.specs.Decisions.{estimate}
use Rattle.mq_coder.specs.Code.{Coding, start_coding, learn, take_lower, take_upper, renormalise}
use Rattle.mq_coder.specs.Code.{code_mps, code_lps, code_symbol, coded}

-- a symbol more
pub coded_more : (symbols : List (ℕ × Bool)) (s : ℕ × Bool)
    → coded (symbols ++ s ∷ []) ≡ code_symbol (coded symbols) s
unfolding coded
coded_more symbols s = fold-append code_symbol start_coding symbols (s ∷ [])

-- the more probable symbol in an upper part of three quarters
pub code_stays : (x : Coding) (cx : ℕ) (bit mps : Bool) → mps ≡ (context_at x.contexts cx).1
    → beq bit mps ≡ true → 2 ^ 15 ≤ x.a - estimate x.contexts cx
    → code_symbol x (cx, bit) ≡ take_upper x (estimate x.contexts cx)
unfolding code_symbol code_mps
code_stays x cx true true e f wide = grind (arith, common_steps)
code_stays x cx false false e f wide = grind (arith, common_steps)
code_stays x cx true false e f wide = cc
code_stays x cx false true e f wide = cc

-- the state from which a symbol renormalises
abbrev pub part_taken : Coding → ℕ → ℕ → Bool → Coding
part_taken x a qe is_mps = if same is_mps
    (nat_lt (a - qe) qe) then take_lower x qe else take_upper x qe

-- any other symbol renormalises
pub code_moves : (x : Coding) (cx : ℕ) (bit mps : Bool) → mps ≡ (context_at x.contexts cx).1
    → (beq bit mps ≡ false) ⊎ (x.a - estimate x.contexts cx < 2 ^ 15)
    → code_symbol x (cx, bit)
    ≡ renormalise 15 (part_taken (learn x cx bit) x.a (estimate x.contexts cx) (beq bit mps))
unfolding code_symbol code_mps code_lps
code_moves x cx true true e (inl f) = cc
code_moves x cx true true e (inr f) = grind (arith, common_steps)
code_moves x cx false false e (inl f) = cc
code_moves x cx false false e (inr f) = grind (arith, common_steps)
code_moves x cx true false e h = grind (arith, common_steps)
code_moves x cx false true e h = grind (arith, common_steps)

-- a list of symbols for which a state stands, and one more
pub coded_next : (x next : Coding) (s : ℕ × Bool) → next ≡ code_symbol x s
    → (symbols : List (ℕ × Bool)) → x ≡ coded symbols → next ≡ coded (symbols ++ s ∷ [])
coded_next x next s step symbols stood =
    step ∙ (ap (λ (y : Coding). code_symbol y s) stood ∙ sym (coded_more symbols s))

-- the bit of a symbol, by whether it is the MPS
learnt_bit : (bit mps : Bool) → (if not (beq bit mps) then not mps else mps) ≡ bit
learnt_bit true true = refl
learnt_bit true false = refl
learnt_bit false true = refl
learnt_bit false false = refl

pub not_false : (b : Bool) → not b ≡ false → b ≡ true
not_false true h = refl
not_false false h = cc

-- the lower subinterval for the MPS where the upper one is smaller
pub lower_first : (is_mps smaller : Bool) (upper lower : Coding)
    → (if same (not is_mps) smaller then upper else lower)
    ≡ (if same is_mps smaller then lower else upper)
lower_first true true upper lower = refl
lower_first true false upper lower = refl
lower_first false true upper lower = refl
lower_first false false upper lower = refl

-- a context after a symbol, by whether it is the MPS
pub learnt_symbol : (p : ℕ × Bool) (bit mps : Bool) → mps ≡ p.1
    → after_symbol p (if not (beq bit mps) then not p.1 else p.1) ≡ after_symbol p bit
learnt_symbol p bit mps e =
    ap (after_symbol p) (ap (λ (b : Bool). if not (beq bit mps) then not b else b) (sym e)
    ∙ learnt_bit bit mps)

use Rattle.std.proofs.Common.{ℕ, ◌<◌, ◌≡◌, ◌⊎◌, inl, inr, true, get_or, refl, sym, subst}
use Rattle.std.specs.Prelude.{◌==◌}
use Rattle.std.proofs.lemmas.Bool.{agree_below_at, eqb-true}
use Rattle.cine_nums.specs.declared.orient.Orient.{Orient}
use Rattle.cine_nums.specs.declared.orient.Orient.TheVariants.{LL, HL, LH, HH}
use Rattle.ebcot_contexts.specs.Contexts.{lh_context, hh_context}
use Rattle.flag_words.specs.Lookups.{neighbour_context}
use Rattle.flag_words.specs.declared.contexts.TheConstants.{LH_CONTEXTS, HL_CONTEXTS, HH_CONTEXTS}
use Rattle.flag_words.proofs.contexts.significance_contexts.Goals as goal

low_entry : (k : ℕ) → k < 512 → get_or LH_CONTEXTS k 0 ≡ neighbour_context LL k
unfolding neighbour_context lh_context
low_entry k l =
    eqb-true _ _ (agree_below_at (λ (k : ℕ). get_or LH_CONTEXTS k 0 == neighbour_context LL k)
    (λ (k : ℕ). true) 512 k refl l)

same_entry : (k : ℕ) → neighbour_context LL k ≡ neighbour_context LH k
unfolding neighbour_context
same_entry k = refl

lh_entry : (o : Orient) (k : ℕ) → (o ≡ LL) ⊎ (o ≡ LH) → k < 512 →
    get_or LH_CONTEXTS k 0 ≡ neighbour_context o k
lh_entry o k (inl e) l = subst (λ (v : Orient). get_or LH_CONTEXTS k 0 ≡ neighbour_context v k)
    (sym e) (low_entry k l)
lh_entry o k (inr e) l =
    subst (λ (v : Orient). get_or LH_CONTEXTS k 0 ≡ neighbour_context v k) (sym e)
    (subst (λ (n : ℕ). get_or LH_CONTEXTS k 0 ≡ n) (same_entry k) (low_entry k l))

hl_entry : (o : Orient) (k : ℕ) → o ≡ HL → k < 512 → get_or HL_CONTEXTS k 0 ≡ neighbour_context o k
unfolding neighbour_context lh_context
hl_entry o k e l =
    subst (λ (v : Orient). get_or HL_CONTEXTS k 0 ≡ neighbour_context v k) (sym e)
    (eqb-true _ _ (agree_below_at (λ (k : ℕ). get_or HL_CONTEXTS k 0 == neighbour_context HL k)
    (λ (k : ℕ). true) 512 k refl l))

hh_entry : (o : Orient) (k : ℕ) → o ≡ HH → k < 512 → get_or HH_CONTEXTS k 0 ≡ neighbour_context o k
unfolding neighbour_context hh_context
hh_entry o k e l =
    subst (λ (v : Orient). get_or HH_CONTEXTS k 0 ≡ neighbour_context v k) (sym e)
    (eqb-true _ _ (agree_below_at (λ (k : ℕ). get_or HH_CONTEXTS k 0 == neighbour_context HH k)
    (λ (k : ℕ). true) 512 k refl l))

pub returns-in-LL : goal.returns-in-LL
returns-in-LL c = λ k l. lh_entry c.args.orient k c.in-LL.is l

pub returns-in-HL : goal.returns-in-HL
returns-in-HL c = λ k l. hl_entry c.args.orient k c.in-HL.is l

pub returns-in-HH : goal.returns-in-HH
returns-in-HH c = λ k l. hh_entry c.args.orient k c.in-HH.is l

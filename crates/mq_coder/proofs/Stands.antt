-- An encoder between two symbols, and the interval that these symbols leave.
use Rattle.std.proofs.Common.{◌≡◌, ℕ, zero, suc, ◌+◌, ◌-◌, ◌*◌, ◌^◌, ◌<◌, ◌≤◌, Bool, true, false}
use Rattle.std.proofs.Common.{cond, ltb, List, set, refl, sym, ap, ◌∙◌, arith, inl, inr}
use Rattle.std.proofs.lemmas.Bool.{cases_lt, cases_eq, cases_Bool, cond-true, cond-false, eq-eqb}
use Rattle.std.proofs.lemmas.Bool.{ne_eqb, lt-ltb, le-ltb, le-leb, lt-leb}
use Rattle.std.proofs.Math.Nat.{pow-succ'}
use Rattle.mq_coder.specs.States.{context_at, same, after_symbol}
use Rattle.mq_coder.specs.Decisions.{width, Interval, start_interval, estimate, part_symbol}
use Rattle.mq_coder.specs.Decisions.{part_contexts, part, twice, doubled}
use Rattle.mq_coder.specs.Code.{Coding, start_coding, byte_out, shift, renormalise, take_lower}
use Rattle.mq_coder.specs.Code.{take_upper, learn, code_mps, code_lps, code_symbol}
use Rattle.mq_coder.proofs.Consumed.{ends_ff, width_low}
use Rattle.mq_coder.proofs.Out.{Shape.none, Out, out}
use Rattle.mq_coder.proofs.Turns.{renormalise_turn, renormalise_done}
use Rattle.mq_coder.proofs.Held.{Held, less_bound, narrowed, moved, out_held, fresh}
use Rattle.mq_coder.proofs.Estimates.{estimate_bounded, lower_of, symbol_of_part}

-- x holds the interval it
pub record Stands (from to p : ℕ) (x : Coding) (it : Interval) : Type 0 where
  pub held : Held from to p x.bytes x.c x.ct it.low it.size it.scale
  pub live : 1 ≤ x.ct
  pub a_is : x.a ≡ it.size
  pub contexts_are : x.contexts ≡ it.contexts

same_held : (from to p : ℕ) (bs : List ℕ) (c c' ct low low' size size' s : ℕ) → c ≡ c' →
    low ≡ low' → size ≡ size' → Held from to p bs c ct low size s →
    Held from to p bs c' ct low' size' s
same_held from to p bs c c' ct low low' size size' s e1 e2 e3 h = rw (← e1, ← e2, ← e3) h

abbrev turned : Coding → Coding
turned x = record x { a = 2 * x.a; c = 2 * x.c; ct = x.ct - 1 }

turned_held : (from to p : ℕ) (x : Coding) (it : Interval) → Stands from to p x it →
    it.size < 2 ^ 15 → Held from to p x.bytes (2 * x.c) (x.ct - 1) (2 * it.low) (2 * it.size)
    (it.scale + 1)
turned_held from to p x it h lt =
    let live : 1 ≤ x.ct = h.live in
    same_held from to p x.bytes (x.c * 2 ^ 1) (2 * x.c) (x.ct - 1) (it.low * 2 ^ 1) (2 * it.low)
    (it.size * 2 ^ 1) (2 * it.size) (it.scale + 1)
    (omega arith) (omega arith) (omega arith)
    (moved from to p x.bytes x.c x.ct it.low it.size it.scale 1 (x.ct - 1) h.held (omega arith)
    (omega arith))

shift_last : (x : Coding) → x.ct ≡ 1 → shift x ≡ byte_out (turned x)
unfolding shift
shift_last x e = cond-true _ _ _ (eq-eqb _ _ e)

shift_more : (x : Coding) → (x.ct ≡ 1 → ⊥) → shift x ≡ turned x
unfolding shift
shift_more x e = cond-false _ _ _ (ne_eqb _ _ e)

shift_stands : (from to p : ℕ) (x : Coding) (it : Interval) → Stands from to p x it →
    it.size < 2 ^ 15 → Stands from to p (shift x) (twice it)
shift_stands from to p x it h lt =
    let held : Held from to p x.bytes (2 * x.c) (x.ct - 1) (2 * it.low) (2 * it.size)
    (it.scale + 1) = turned_held from to p x it h lt in
    let a_is : x.a ≡ it.size = h.a_is in
    let live : 1 ≤ x.ct = h.live in
    elim (cases_eq x.ct 1) [
      | inl last ↦
          let none : x.ct - 1 ≡ 0 = omega arith in
          let held' : Held from to p x.bytes (2 * x.c) 0 (2 * it.low) (2 * it.size) (it.scale + 1) =
          rw (← none) held in
          let o : Out (turned x) (2 * it.size) (byte_out (turned x)) =
          out (turned x) (2 * it.size)
          (less_bound x.bytes ((2 * x.c + 2 * it.size) * 2 ^ 0)
          (2 * x.c + 2 * it.size) 0 0 held'.shape (omega arith) (omega arith))
          held'.pos held'.top in
          let held'' : Held from to p (turned x).bytes (turned x).c 0 (2 * it.low) (2 * it.size)
          (it.scale + 1) = held' in
          let wide : 7 ≤ width (ends_ff false o.base) = width_low (ends_ff false o.base) in
          let is : width (ends_ff false o.base) ≡ (byte_out (turned x)).ct = o.width_is in
          rw (shift_last x last) record {
            held = out_held from to p (turned x) (byte_out (turned x)) (2 * it.low) (2 * it.size)
                (it.scale + 1) held'' o;
            live = omega arith;
            a_is = o.same_a ∙ ap (λ v. 2 * v) a_is;
            contexts_are = o.same_contexts ∙ h.contexts_are;
          }
      | inr more ↦
          rw (shift_more x more) record {
            held = held;
            live = omega arith;
            a_is = ap (λ v. 2 * v) a_is;
            contexts_are = h.contexts_are;
          }
    ]

-- the turns of the interval, as a loop counts them
pub doubled_turn : (n : ℕ) (it : Interval) → it.size < 2 ^ 15 →
    doubled (suc n) it ≡ doubled n (twice it)
unfolding doubled
doubled_turn n it lt = cond-true _ _ _ (lt-ltb _ _ lt)

pub doubled_done : (n : ℕ) (it : Interval) → 2 ^ 15 ≤ it.size → doubled n it ≡ it
unfolding doubled
doubled_done zero it ge = refl
doubled_done (suc n) it ge = cond-false _ _ _ (le-ltb _ _ ge)

-- ready for a symbol
pub record Ready (from to p : ℕ) (x : Coding) (it : Interval) : Type 0 where
  pub stands : Stands from to p x it
  pub wide : 2 ^ 15 ≤ it.size

renormalise_ready : (from to p n : ℕ) (x : Coding) (it : Interval) → Stands from to p x it →
    2 ^ 15 ≤ it.size * 2 ^ n → Ready from to p (renormalise n x) (doubled n it)
renormalise_ready from to p zero x it h wide =
    let wide' : 2 ^ 15 ≤ it.size = omega arith in
    rw (renormalise_done 0 x (rw h.a_is wide'), doubled_done 0 it wide') record {
      stands = h;
      wide =
          wide';
    }
renormalise_ready from to p (suc n) x it h wide =
    let a_is : x.a ≡ it.size = h.a_is in
    elim (cases_lt it.size (2 ^ 15)) [
      | inl lt ↦
          rw (renormalise_turn n x (rw a_is lt), doubled_turn n it lt)
          (renormalise_ready from to p n (shift x) (twice it) (shift_stands from to p x it h lt)
          (further it.size n wide))
      | inr ge ↦
          rw (renormalise_done (suc n) x (rw a_is ge), doubled_done (suc n) it ge) record {
            stands =
                h;
            wide = ge;
          }
    ]
  where
    further : (size n : ℕ) → 2 ^ 15 ≤ size * 2 ^ suc n → 2 ^ 15 ≤ 2 * size * 2 ^ n
    further size n h = let e : 2 ^ suc n ≡ 2 * 2 ^ n =
        pow-succ' 2 n in let m : size * 2 ^ suc n ≡ size * (2 * 2 ^ n) =
        ap (λ x. size * x) e in omega arith

-- the part of x that a symbol takes, before the turns
abbrev pub chosen : Coding → ℕ → Bool → Coding
chosen x cx lower = record x {
  a = cond lower (estimate x.contexts cx) (x.a - estimate x.contexts cx);
  c = cond lower x.c (x.c + estimate x.contexts cx);
  contexts = part_contexts x.contexts x.a cx lower;
}

kept_contexts : (contexts : List (ℕ × Bool)) (size cx : ℕ) → 2 ^ 15 ≤ size - estimate contexts cx →
    part_contexts contexts size cx false ≡ contexts
unfolding part_contexts
kept_contexts contexts size cx ge = cond-true _ _ _ (le-leb _ _ ge)

learnt_upper : (contexts : List (ℕ × Bool)) (size cx : ℕ) → size - estimate contexts cx < 2 ^ 15 →
    part_contexts contexts size cx false
    ≡ set contexts cx (after_symbol (context_at contexts cx)
    (part_symbol contexts size cx false))
unfolding part_contexts
learnt_upper contexts size cx lt = cond-false _ _ _ (lt-leb _ _ lt)

learnt_lower : (contexts : List (ℕ × Bool)) (size cx : ℕ) →
    part_contexts contexts size cx true
    ≡ set contexts cx (after_symbol (context_at contexts cx)
    (part_symbol contexts size cx true))
unfolding part_contexts
learnt_lower contexts size cx = refl

-- the procedures take the part of the symbol
chosen_lower : (x : Coding) (cx : ℕ) (bit : Bool) → lower_of x.contexts x.a cx bit ≡ true →
    learn (take_lower x (estimate x.contexts cx)) cx bit ≡ chosen x cx true
chosen_lower x cx bit e =
    let s : part_symbol x.contexts x.a cx true ≡ bit =
    ap (λ l. part_symbol x.contexts x.a cx l) (sym e) ∙ symbol_of_part x.contexts x.a cx bit in
    rw (learnt_lower x.contexts x.a cx, s) refl

chosen_upper : (x : Coding) (cx : ℕ) (bit : Bool) → lower_of x.contexts x.a cx bit ≡ false →
    x.a - estimate x.contexts cx < 2 ^ 15 →
    learn (take_upper x (estimate x.contexts cx)) cx bit ≡ chosen x cx false
chosen_upper x cx bit e lt =
    let s : part_symbol x.contexts x.a cx false ≡ bit =
    ap (λ l. part_symbol x.contexts x.a cx l) (sym e) ∙ symbol_of_part x.contexts x.a cx bit in
    rw (learnt_upper x.contexts x.a cx lt, s) refl

chosen_kept : (x : Coding) (cx : ℕ) → 2 ^ 15 ≤ x.a - estimate x.contexts cx →
    take_upper x (estimate x.contexts cx) ≡ chosen x cx false
chosen_kept x cx ge = rw (kept_contexts x.contexts x.a cx ge) refl

more_kept : (x : Coding) (cx : ℕ) (bit : Bool) → 2 ^ 15 ≤ x.a - estimate x.contexts cx →
    code_mps x cx bit ≡ take_upper x (estimate x.contexts cx)
unfolding code_mps
more_kept x cx bit ge = cond-true _ _ _ (le-leb _ _ ge)

more_lower : (x : Coding) (cx : ℕ) (bit : Bool) → x.a - estimate x.contexts cx < 2 ^ 15 →
    x.a - estimate x.contexts cx < estimate x.contexts cx →
    code_mps x cx bit ≡ renormalise 15 (learn (take_lower x (estimate x.contexts cx)) cx bit)
unfolding code_mps
more_lower x cx bit lt lt' = cond-false _ _ _ (lt-leb _ _ lt) ∙ cond-true _ _ _ (lt-ltb _ _ lt')

more_upper : (x : Coding) (cx : ℕ) (bit : Bool) → x.a - estimate x.contexts cx < 2 ^ 15 →
    estimate x.contexts cx ≤ x.a - estimate x.contexts cx →
    code_mps x cx bit ≡ renormalise 15 (learn (take_upper x (estimate x.contexts cx)) cx bit)
unfolding code_mps
more_upper x cx bit lt ge = cond-false _ _ _ (lt-leb _ _ lt) ∙ cond-false _ _ _ (le-ltb _ _ ge)

less_upper : (x : Coding) (cx : ℕ) (bit : Bool) →
    x.a - estimate x.contexts cx < estimate x.contexts cx →
    code_lps x cx bit ≡ renormalise 15 (learn (take_upper x (estimate x.contexts cx)) cx bit)
unfolding code_lps
less_upper x cx bit lt = cond-true _ _ _ (lt-ltb _ _ lt)

less_lower : (x : Coding) (cx : ℕ) (bit : Bool) →
    estimate x.contexts cx ≤ x.a - estimate x.contexts cx →
    code_lps x cx bit ≡ renormalise 15 (learn (take_lower x (estimate x.contexts cx)) cx bit)
unfolding code_lps
less_lower x cx bit ge = cond-false _ _ _ (le-ltb _ _ ge)

code_of_more : (x : Coding) (cx : ℕ) (bit : Bool) → same bit (context_at x.contexts cx).1 ≡ true →
    code_symbol x (cx, bit) ≡ code_mps x cx bit
unfolding code_symbol
code_of_more x cx bit e = cond-true _ _ _ e

code_of_less : (x : Coding) (cx : ℕ) (bit : Bool) → same bit (context_at x.contexts cx).1 ≡ false →
    code_symbol x (cx, bit) ≡ code_lps x cx bit
unfolding code_symbol
code_of_less x cx bit e = cond-false _ _ _ e

part_of : (x : Coding) (cx : ℕ) (bit is_more swap : Bool) →
    same bit (context_at x.contexts cx).1 ≡ is_more →
    ltb (x.a - estimate x.contexts cx) (estimate x.contexts cx) ≡ swap →
    lower_of x.contexts x.a cx bit ≡ same is_more swap
part_of x cx bit is_more swap e1 e2 =
    ap (λ v. same v (ltb (x.a - estimate x.contexts cx) (estimate x.contexts cx))) e1
    ∙ ap (λ v. same is_more v) e2

-- a symbol is a part and its turns
pub code_chosen : (x : Coding) (cx : ℕ) (bit : Bool) →
    code_symbol x (cx, bit) ≡ renormalise 15 (chosen x cx (lower_of x.contexts x.a cx bit))
code_chosen x cx bit =
    let qe : ℕ = estimate x.contexts cx in
    let few : (1 ≤ estimate x.contexts cx) × (estimate x.contexts cx ≤ 22017) =
    estimate_bounded x.contexts cx in
    elim (cases_Bool (same bit (context_at x.contexts cx).1)) [
      | inl more ↦ code_of_more x cx bit more
          ∙ elim (cases_lt (x.a - estimate x.contexts cx) (estimate x.contexts cx)) [
            | inl swap ↦
                let l : lower_of x.contexts x.a cx bit ≡ true =
                part_of x cx bit true true more (lt-ltb _ _ swap) in
                more_lower x cx bit (omega arith) swap
                ∙ ap (λ v. renormalise 15 v) (chosen_lower x cx bit l)
                ∙ ap (λ v. renormalise 15 (chosen x cx v)) (sym l)
            | inr not_swap ↦
                let l : lower_of x.contexts x.a cx bit ≡ false =
                part_of x cx bit true false more (le-ltb _ _ not_swap) in
                elim (cases_lt (x.a - estimate x.contexts cx) (2 ^ 15)) [
                  | inl short ↦
                      more_upper x cx bit short not_swap
                      ∙ ap (λ v. renormalise 15 v) (chosen_upper x cx bit l short)
                      ∙ ap (λ v. renormalise 15 (chosen x cx v)) (sym l)
                  | inr long ↦
                      more_kept x cx bit long ∙ sym (renormalise_done 15
                      (take_upper x (estimate x.contexts cx)) long)
                      ∙ ap (λ v. renormalise 15 v) (chosen_kept x cx long)
                      ∙ ap (λ v. renormalise 15 (chosen x cx v)) (sym l)
                ]
          ]
      | inr less ↦ code_of_less x cx bit less
          ∙ elim (cases_lt (x.a - estimate x.contexts cx) (estimate x.contexts cx)) [
            | inl swap ↦
                let l : lower_of x.contexts x.a cx bit ≡ false =
                part_of x cx bit false true less (lt-ltb _ _ swap) in
                less_upper x cx bit swap ∙ ap (λ v. renormalise 15 v)
                (chosen_upper x cx bit l (omega arith))
                ∙ ap (λ v. renormalise 15 (chosen x cx v)) (sym l)
            | inr not_swap ↦
                let l : lower_of x.contexts x.a cx bit ≡ true =
                part_of x cx bit false false less (le-ltb _ _ not_swap) in
                less_lower x cx bit not_swap ∙ ap (λ v. renormalise 15 v) (chosen_lower x cx bit l)
                ∙ ap (λ v. renormalise 15 (chosen x cx v)) (sym l)
          ]
    ]

pub part_lower : (it : Interval) (cx : ℕ) →
    part it cx true ≡ record {
      low = it.low;
      size = estimate it.contexts cx;
      scale =
          it.scale;
      contexts = part_contexts it.contexts it.size cx true;
    }
unfolding part
part_lower it cx = refl

pub part_upper : (it : Interval) (cx : ℕ) →
    part it cx false ≡ record {
      low = it.low + estimate it.contexts cx;
      size =
          it.size - estimate it.contexts cx;
      scale = it.scale;
      contexts =
          part_contexts it.contexts it.size cx false;
    }
unfolding part
part_upper it cx = refl

-- a part, bounded by itself
chosen_stands : (from to p : ℕ) (x : Coding) (it : Interval) (cx : ℕ) (lower : Bool) →
    Ready from to p x it → Stands from to p (chosen x cx lower) (part it cx lower)
chosen_stands from to p x it cx true h =
    let e1 : x.a ≡ it.size = h.stands.a_is in
    let e2 : x.contexts ≡ it.contexts = h.stands.contexts_are in
    let wide : 2 ^ 15 ≤ it.size = h.wide in
    let few : (1 ≤ estimate it.contexts cx) × (estimate it.contexts cx ≤ 22017) =
    estimate_bounded it.contexts cx in
    rw (part_lower it cx) record {
      held = same_held from to p x.bytes (x.c + 0) x.c x.ct (it.low + 0) it.low
          (estimate it.contexts cx) (estimate it.contexts cx) it.scale (omega arith)
          (omega arith) refl
          (narrowed from to p x.bytes x.c x.ct it.low it.size it.scale 0
          (estimate it.contexts cx) h.stands.held few.0 (omega arith));
      live = h.stands.live;
      a_is = ap (λ v. estimate v cx) e2;
      contexts_are = ap (λ v. part_contexts v x.a cx true) e2
          ∙ ap (λ v. part_contexts it.contexts v cx true) e1;
    }
chosen_stands from to p x it cx false h =
    let e1 : x.a ≡ it.size = h.stands.a_is in
    let e2 : x.contexts ≡ it.contexts = h.stands.contexts_are in
    let e3 : estimate x.contexts cx ≡ estimate it.contexts cx = ap (λ v. estimate v cx) e2 in
    let wide : 2 ^ 15 ≤ it.size = h.wide in
    let few : (1 ≤ estimate it.contexts cx) × (estimate it.contexts cx ≤ 22017) =
    estimate_bounded it.contexts cx in
    rw (part_upper it cx) record {
      held = same_held from to p x.bytes (x.c + estimate it.contexts cx)
          (x.c + estimate x.contexts cx) x.ct (it.low + estimate it.contexts cx)
          (it.low + estimate it.contexts cx) (it.size - estimate it.contexts cx)
          (it.size - estimate it.contexts cx) it.scale (omega arith) refl refl
          (narrowed from to p x.bytes x.c x.ct it.low it.size it.scale (estimate it.contexts cx)
          (it.size - estimate it.contexts cx) h.stands.held (omega arith) (omega arith));
      live = h.stands.live;
      a_is = omega arith;
      contexts_are = ap (λ v. part_contexts v x.a cx false) e2
          ∙ ap (λ v. part_contexts it.contexts v cx false) e1;
    }

part_pos : (from to p : ℕ) (x : Coding) (it : Interval) → Stands from to p x it →
    2 ^ 15 ≤ it.size * 2 ^ 15
part_pos from to p x it h = let pos : 1 ≤ it.size = h.held.pos in omega arith

-- a symbol keeps an earlier bound
pub coded_ready : (from to p : ℕ) (x : Coding) (it : Interval) (cx : ℕ) (bit : Bool) →
    Ready from to p x it → Ready from to p (code_symbol x (cx, bit))
    (doubled 15 (part it cx (lower_of x.contexts x.a cx bit)))
coded_ready from to p x it cx bit h =
    let s : Stands from to p (chosen x cx (lower_of x.contexts x.a cx bit))
    (part it cx (lower_of x.contexts x.a cx bit)) =
    chosen_stands from to p x it cx (lower_of x.contexts x.a cx bit) h in
    rw (code_chosen x cx bit) (renormalise_ready from to p 15 _ _ s (part_pos from to p _ _ s))

-- and the part that it takes is a bound of its own
pub coded_fresh : (from to p : ℕ) (x : Coding) (it : Interval) (cx : ℕ) (bit : Bool) →
    Ready from to p x it →
    let it' = part it cx (lower_of x.contexts x.a cx bit) in
    Ready it'.low (it'.low + it'.size) it'.scale (code_symbol x (cx, bit)) (doubled 15 it')
coded_fresh from to p x it cx bit h =
    let s : Stands from to p (chosen x cx (lower_of x.contexts x.a cx bit))
    (part it cx (lower_of x.contexts x.a cx bit)) =
    chosen_stands from to p x it cx (lower_of x.contexts x.a cx bit) h in
    rw (code_chosen x cx bit) (renormalise_ready _ _ _ 15 _ _ (renewed from to p _ _ s)
    (part_pos from to p _ _ s))
  where
    renewed : (from to p : ℕ) (x : Coding) (it : Interval) → Stands from to p x it →
        Stands it.low (it.low + it.size) it.scale x it
    renewed from to p x it h = record {
      held = fresh from to p x.bytes x.c x.ct it.low it.size it.scale h.held;
      live = h.live;
      a_is = h.a_is;
      contexts_are = h.contexts_are;
    }

pub start_ready : Ready 0 (2 ^ 15) 0 start_coding start_interval
unfolding start_coding start_interval
start_ready = record {
  stands = record {
    held = record {
      pos = omega arith;
      top = omega arith;
      few = omega arith;
      bits_are = omega arith;
      low_is = omega arith;
      shape = none refl (omega arith);
      later = omega arith;
      above = omega arith;
      below = omega arith;
      reached = λ h. absurd (omega arith);
    };
    live = omega arith;
    a_is = refl;
    contexts_are = refl;
  };
  wide = omega arith;
}

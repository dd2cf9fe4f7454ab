-- Questions in turn: what holds of what is known after them.
use Rattle.std.proofs.Common.{ℕ, ◌≡◌, ◌↔◌, Bool, List, ◌∷◌, ◌++◌, refl, ap, ◌∙◌, subst}
use Rattle.ebcot_contexts.specs.Cells.{Cell, AllShow}
use Rattle.ebcot_contexts.specs.Asks.{Question, truth, Asks, done, ask, chain, symbols, outcome}
use Rattle.ebcot_contexts.specs.Asks.{read, Decides}
use Rattle.ebcot_contexts.proofs.Shown.{Sound}

-- whatever the answers are
abbrev pub AtEnds : (List Cell → Type 0) → Asks → Type 0
AtEnds P (done cells) = P cells
AtEnds P (ask cx q answered) = (b : Bool) → AtEnds P (answered b)

-- where the cells at the end show the coefficients, P holds and every answer was theirs
abbrev pub Leads : List (ℕ × Bool) → Type 0 → Asks → Type 0
Leads coefs P (done cells) = AllShow cells coefs → P
Leads coefs P (ask cx q answered) = (b : Bool) → Leads coefs (P × (b ≡ truth coefs q)) (answered b)

pub at_outcome : (P : List Cell → Type 0) (coefs : List (ℕ × Bool)) (t : Asks) → AtEnds P t →
    P (outcome coefs t)
at_outcome P coefs (done cells) h = h
at_outcome P coefs (ask cx q answered) h =
    at_outcome P coefs (answered (truth coefs q)) (h (truth coefs q))

pub at_read : {S : Type 0} (next : S → ℕ → Bool × S) (P : List Cell → Type 0) (d : S) (t : Asks) →
    AtEnds P t → P (read next d t).0
at_read next P d (done cells) h = h
at_read next P d (ask cx q answered) h =
    at_read next P (next d cx).1 (answered (next d cx).0) (h (next d cx).0)

pub at_chain : (P Q : List Cell → Type 0) (t : Asks) (f : List Cell → Asks) → AtEnds P t →
    ((cells : List Cell) → P cells → AtEnds Q (f cells)) → AtEnds Q (chain t f)
at_chain P Q (done cells) f h k = k cells h
at_chain P Q (ask cx q answered) f h k = λ b. at_chain P Q (answered b) f (h b) k

pub outcome_chain : (coefs : List (ℕ × Bool)) (t : Asks) (f : List Cell → Asks) →
    outcome coefs (chain t f) ≡ outcome coefs (f (outcome coefs t))
outcome_chain coefs (done cells) f = refl
outcome_chain coefs (ask cx q answered) f = outcome_chain coefs (answered (truth coefs q)) f

pub symbols_chain : (coefs : List (ℕ × Bool)) (t : Asks) (f : List Cell → Asks) →
    symbols coefs (chain t f) ≡ symbols coefs t ++ symbols coefs (f (outcome coefs t))
symbols_chain coefs (done cells) f = refl
symbols_chain coefs (ask cx q answered) f =
    ap (λ (l : List (ℕ × Bool)). (cx, truth coefs q) ∷ l)
    (symbols_chain coefs (answered (truth coefs q)) f)

leads_more : (coefs : List (ℕ × Bool)) (P Q : Type 0) (t : Asks) → (P → Q) → Leads coefs P t →
    Leads coefs Q t
leads_more coefs P Q (done cells) f h = λ a. f (h a)
leads_more coefs P Q (ask cx q answered) f h =
    λ b. leads_more coefs (P × (b ≡ truth coefs q)) (Q × (b ≡ truth coefs q)) (answered b)
    (λ r. (f r.0, r.1)) (h b)

leads_chain : (n : ℕ) (coefs : List (ℕ × Bool)) (P : Type 0) (t : Asks) (f : List Cell → Asks) →
    AtEnds (Sound n) t → Leads coefs P t
    → ((cells : List Cell) → Sound n cells → Leads coefs (AllShow cells coefs) (f cells)) →
    Leads coefs P (chain t f)
leads_chain n coefs P (done cells) f e h k =
    leads_more coefs (AllShow cells coefs) P (f cells) h (k cells e)
leads_chain n coefs P (ask cx q answered) f e h k =
    λ b. leads_chain n coefs (P × (b ≡ truth coefs q)) (answered b) f (e b) (h b) k

-- Questions are honest where P, what is true before them, goes on to what is true after them, and
-- is, with the truth of every answer, all that this says.
pub record Honest (n : ℕ) (coefs : List (ℕ × Bool)) (P : Type 0) (t : Asks) : Type 0 where
  pub ends : AtEnds (Sound n) t
  pub on : P → AllShow (outcome coefs t) coefs
  pub back : Leads coefs P t

pub honest_known : (n : ℕ) (coefs : List (ℕ × Bool)) (P : Type 0) (cells : List Cell) →
    Sound n cells → (P ↔ AllShow cells coefs) → Honest n coefs P (done cells)
honest_known n coefs P cells s e = record { ends = s; on = e.0; back = e.1 }

pub honest_ask : (n : ℕ) (coefs : List (ℕ × Bool)) (P : Type 0) (cx : ℕ) (q : Question)
    (answered : Bool → Asks)
    → ((b : Bool) → Honest n coefs (P × (b ≡ truth coefs q)) (answered b)) →
    Honest n coefs P (ask cx q answered)
honest_ask n coefs P cx q answered h =
    record {
      ends = λ b. (h b).ends;
      on = λ p. (h (truth coefs q)).on (p, refl);
      back =
          λ b. (h b).back;
    }

pub honest_chain : (n : ℕ) (coefs : List (ℕ × Bool)) (P : Type 0) (t : Asks)
    (f : List Cell → Asks) → Honest n coefs P t
    → ((cells : List Cell) → Sound n cells → Honest n coefs (AllShow cells coefs) (f cells)) →
    Honest n coefs P (chain t f)
honest_chain n coefs P t f h k =
    record {
      ends = at_chain (Sound n) (Sound n) t f h.ends (λ c s. (k c s).ends);
      on = λ p. rw (outcome_chain coefs t f)
          ((k (outcome coefs t) (at_outcome (Sound n) coefs t h.ends)).on (h.on p));
      back = leads_chain n coefs P t f h.ends h.back (λ c s. (k c s).back);
    }

pub honest_same : (n : ℕ) (coefs : List (ℕ × Bool)) (P Q : Type 0) (t : Asks) → (P ↔ Q) →
    Honest n coefs P t → Honest n coefs Q t
honest_same n coefs P Q t e h =
    record { ends = h.ends; on = λ q. h.on (e.1 q); back = leads_more coefs P Q t e.0 h.back }

-- Reading what a source decides gives what the coefficients give.
pub follow : {S : Type 0} (next : S → ℕ → Bool × S) (coefs : List (ℕ × Bool)) (d : S) (t : Asks) →
    Decides next d (symbols coefs t) → (read next d t).0 ≡ outcome coefs t
follow next coefs d (done cells) h = refl
follow next coefs d (ask cx q answered) h =
    ap (λ (b : Bool). (read next (next d cx).1 (answered b)).0) h.0
    ∙ follow next coefs (next d cx).1 (answered (truth coefs q)) h.1

-- What was read decides the symbols of all coefficients that its cells show.
pub backward : {S : Type 0} (next : S → ℕ → Bool × S) (coefs : List (ℕ × Bool)) (P : Type 0) (d : S)
    (t : Asks) → Leads coefs P t → AllShow (read next d t).0 coefs
    → P × Decides next d (symbols coefs t)
backward next coefs P d (done cells) h all = (h all, tt)
backward next coefs P d (ask cx q answered) h all =
    let r : (P × ((next d cx).0 ≡ truth coefs q)) × Decides next (next d cx).1
    (symbols coefs (answered (next d cx).0)) =
    backward next coefs (P × ((next d cx).0 ≡ truth coefs q)) (next d cx).1 (answered (next d cx).0)
    (h (next d cx).0) all in (
      r.0.0,
      (
        r.0.1,
        subst (λ (b : Bool). Decides next (next d cx).1
            (symbols coefs (answered b))) r.0.1 r.1,
      ),
    )

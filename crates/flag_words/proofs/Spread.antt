-- Words that are changed one after the other, until all of them show a cell's new value.
use Rattle.std.proofs.Common.{ℕ, ◌+◌, ◌*◌, ◌<◌, ◌≡◌, ◌⊎◌, inl, inr}
use Rattle.std.proofs.Common.{List, [], ◌∷◌, length, get_or, set, sym, ap}
use Rattle.std.proofs.Common.{◌∙◌, arith, subst}
use Rattle.std.proofs.lemmas.Bool.{cases_eq}
use Rattle.std.proofs.lemmas.List.{get_or-set_same, get_or-set_other, length-set, set_comm}
use Rattle.std.specs.Int.RustNames.{bit_or}
use Rattle.ebcot_contexts.specs.Cells.{Cell}
use Rattle.flag_words.specs.Words.{IsFlagWord, AreFlags, or_at}
use Rattle.flag_words.proofs.Words.{Shows, word_with, word_without, Changes}

abbrev pub In : ℕ → List ℕ → Type 0
In k [] = ⊥
In k (j ∷ js) = (k ≡ j) ⊎ In k js

module _ (w p : ℕ) (cells : List Cell) (i : ℕ) (d : Cell) where
  -- the words of a list of indexes show the new value, and the others the old one
  pub record Mixed (js words : List ℕ) : Type 0 where
    pub long : length words ≡ 340
    pub now : (column stripe : ℕ) → column < 34 → stripe < 10 → In (34 * stripe + column) js
        → IsFlagWord w p (set cells i d) column stripe (get_or words (34 * stripe + column) 0)
    pub old : (column stripe : ℕ) → column < 34 → stripe < 10 → (In (34 * stripe + column) js → ⊥)
        → IsFlagWord w p cells column stripe (get_or words (34 * stripe + column) 0)

  pub mixed_start : (words : List ℕ) → AreFlags w p cells words → Mixed [] words
  mixed_start words a = record {
    long = a.long;
    now = λ c s lc ls m. absurd m;
    old =
        λ c s lc ls m. a.each c s lc ls;
  }

  pub column_same : (c s column stripe j : ℕ) → c < 34 → column < 34 → 34 * s + c ≡ j →
      34 * stripe + column ≡ j → column ≡ c
  column_same c s column stripe j l m e f = omega arith

  pub stripe_same : (c s column stripe j : ℕ) → c < 34 → column < 34 → 34 * s + c ≡ j →
      34 * stripe + column ≡ j → stripe ≡ s
  stripe_same c s column stripe j l m e f = omega arith

  -- one word more
  pub mixed_more : (js words : List ℕ) (j c s r q v : ℕ) → Mixed js words → (In j js → ⊥) →
      j ≡ 34 * s + c → c < 34 → s < 10
      → 0 < w → i < length cells → Shows w p cells i d c s r q →
      Changes w p cells i d c s r q (get_or words j 0) v → Mixed (j ∷ js) (set words j v)
  mixed_more js words j c s r q v m apart at lc ls some inside shows changes =
      let lj : j < length words = omega (arith, m.long) in
      let was : IsFlagWord w p cells c s (get_or words j 0) =
      subst (λ (k : ℕ). IsFlagWord w p cells c s (get_or words k 0)) (sym at)
      (m.old c s lc ls (subst (λ (k : ℕ). In k js → ⊥) at apart)) in
      let here : IsFlagWord w p (set cells i d) c s v =
      word_with w p cells i d c s r q (get_or words j 0) v some inside shows changes was in
      record {
        long = length-set words j v ∙ m.long;
        now = λ column stripe l n h. elim (cases_eq (34 * stripe + column) j) [
          | inl e ↦
              subst (λ (x : ℕ). IsFlagWord w p (set cells i d) x stripe
              (get_or (set words j v) (34 * stripe + x) 0))
              (sym (column_same c s column stripe j lc l (sym at) e))
              (subst (λ (y : ℕ). IsFlagWord w p (set cells i d) c y
              (get_or (set words j v) (34 * y + c) 0))
              (sym (stripe_same c s column stripe j lc l (sym at) e))
              (subst (λ (k : ℕ). IsFlagWord w p (set cells i d) c s (get_or (set words j v) k 0)) at
              (subst (IsFlagWord w p (set cells i d) c s)
              (sym (get_or-set_same words j v 0 lj)) here)))
          | inr e ↦
              subst (IsFlagWord w p (set cells i d) column stripe)
              (sym (get_or-set_other words j (34 * stripe + column) v 0 e))
              (m.now column stripe l n (elim h [ inl f ↦ absurd (e f) | inr f ↦ f ]))
        ];
        old = λ column stripe l n h.
            subst (IsFlagWord w p cells column stripe)
            (sym (get_or-set_other words j (34 * stripe + column) v 0 (λ e. h (inl e))))
            (m.old column stripe l n (λ f. h (inr f)));
      }

  -- no other word shows the cell
  pub mixed_end : (js words : List ℕ) → Mixed js words
      → ((column stripe : ℕ) → column < 34 → stripe < 10 → (In (34 * stripe + column) js → ⊥) →
      (r c : ℕ) → r < 6 → c < 3 → Shows w p cells i d column stripe r c → ⊥)
      → ((column stripe : ℕ) → In (34 * stripe + column) js ⊎ (In (34 * stripe + column) js → ⊥))
      → AreFlags w p (set cells i d) words
  mixed_end js words m none decide =
      record {
        long = m.long;
        each = λ column stripe l n. elim (decide column stripe) [
          | inl h ↦ m.now column stripe l n h
          | inr h ↦ word_without w p cells i d column stripe (get_or words (34 * stripe + column) 0)
              (none column stripe l n h) (m.old column stripe l n h)
        ];
      }

-- whether an index is one of a list
pub decide_in : (k : ℕ) (js : List ℕ) → In k js ⊎ (In k js → ⊥)
decide_in k [] = inr (λ m. m)
decide_in k (j ∷ js) =
    elim (cases_eq k j) [
      | inl e ↦ inl (inl e)
      | inr e ↦ elim (decide_in k js) [
        | inl m ↦ inl (inr m)
        | inr m ↦ inr (λ h. elim h [ inl f ↦ e f | inr f ↦ m f ])
      ]
    ]

-- a change of one word while another one is held apart
pub or_under : (words : List ℕ) (n v j m : ℕ) → (j ≡ n → ⊥) →
    or_at (set words n v) j m ≡ set (or_at words j m) n v
or_under words n v j m e =
    ap (λ (x : ℕ). set (set words n v) j (bit_or x m)) (get_or-set_other words n j v 0 e)
    ∙ set_comm words n j v (bit_or (get_or words j 0) m) (λ f. e (sym f))

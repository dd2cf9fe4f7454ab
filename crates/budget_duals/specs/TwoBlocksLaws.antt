-- The law of what two blocks' budgets hold.
use Rattle.std.specs.Prelude.{ℕ, zero, suc, Bool, true, false, IsTrue, ◌≡◌, ◌+◌, ◌<◌, ◌≤◌}
use Rattle.std.specs.Prelude.{List, [], ◌∷◌, length, set, get_or, refl}
use Rattle.std.proofs.Common.{arith, sym, ap, subst, ◌∙◌}
use Rattle.cine_nums.specs.declared.budget.Budget.{Budget}
use Rattle.cine_nums.specs.declared.budget.Budget.TheVariants.{Frame, Inner, C0, C1, C2}
use Rattle.budget_duals.specs.Held.{held_in}
use Rattle.budget_duals.specs.Members.{is_in}
use Rattle.budget_duals.specs.Price.{AreCounts, HasLaw, AgreeBeside}
use Rattle.budget_duals.specs.TwoBlocks.{low, part, size_at, two_parts, two_held, two_inside}
use Rattle.budget_duals.specs.declared.held.Held.{Held}
use Rattle.budget_duals.specs.declared.members.Members.{Members}

most_of : (x y : ℕ) → x ≤ 3 → y ≤ 3 → (b : ℕ) → b < 2 → get_or (x ∷ y ∷ []) b 0
    ≤ get_or (3 ∷ 3 ∷ []) b 0
most_of x y first second zero below = first
most_of x y first second (suc zero) below = second
most_of x y first second (suc (suc b)) below = absurd (omega arith)

pub two_counts : (x y : ℕ) → x ≤ 3 → y ≤ 3 → AreCounts (3 ∷ 3 ∷ []) (x ∷ y ∷ [])
two_counts x y first second = record { long = refl; most = most_of x y first second }

two_of : (c : List ℕ) → length c ≡ 2 → (x : ℕ) × ((y : ℕ) × (c ≡ x ∷ y ∷ []))
two_of [] long = absurd (omega arith)
two_of (x ∷ []) long = absurd (omega arith)
two_of (x ∷ y ∷ []) long = (x, (y, refl))
two_of (x ∷ y ∷ z ∷ rest) long = absurd (omega arith)

part_in : (test : Bool) (n : ℕ) → IsTrue test → part test n ≡ n
part_in true n is = refl
part_in false n is = let bad : ⊥ = cc in absurd bad

part_out : (test : Bool) (n : ℕ) → ¬ IsTrue test → part test n ≡ 0
part_out true n off = absurd (off refl)
part_out false n off = refl

-- sums in which one number changes
one_first : (ni oj nj oi a b s t u v : ℕ) → ni ≡ a + (s + u) → oj ≡ b + (t + v) → nj ≡ b + (s + v)
    → oi ≡ a + (t + u) → ni + oj ≡ nj + oi
one_first ni oj nj oi a b s t u v p q r w = omega arith

one_second : (ni oj nj oi a b s t u v : ℕ) → ni ≡ a + (u + s) → oj ≡ b + (v + t) → nj ≡ b + (v + s)
    → oi ≡ a + (u + t) → ni + oj ≡ nj + oi
one_second ni oj nj oi a b s t u v p q r w = omega arith

agree_first : (w x y z a s t u v k : ℕ) → w ≡ a + (s + v) → x ≡ a + (t + u) → y ≡ a + (s + u) → z
    ≡ a + (k + v)
    → k ≡ t → w + x ≡ y + z
agree_first w x y z a s t u v k p q r e same = omega arith

agree_second : (w x y z a s t u v k : ℕ) → w ≡ a + (v + s) → x ≡ a + (u + t) → y ≡ a + (u + s) → z
    ≡ a + (v + k)
    → k ≡ t → w + x ≡ y + z
agree_second w x y z a s t u v k p q r e same = omega arith

module _ (base : Held) (m n : Members) (xs ys : List ℕ) where
  held_is : (c : List ℕ) (j : Budget) → held_in (two_held base m n xs ys c) j
      ≡ low (held_in base j) + two_parts (is_in m j) (is_in n j) xs ys c
  held_is c Frame = refl
  held_is c Inner = refl
  held_is c C0 = refl
  held_is c C1 = refl
  held_is c C2 = refl

  first_in : (x y : ℕ) (j : Budget) → IsTrue (is_in m j) →
      held_in (two_held base m n xs ys (x ∷ y ∷ [])) j
      ≡ low (held_in base j) + (size_at xs x + part (is_in n j) (size_at ys y))
  first_in x y j is = held_is (x ∷ y ∷ []) j
      ∙ ap (λ k. low (held_in base j) + (k + part (is_in n j) (size_at ys y)))
      (part_in (is_in m j) (size_at xs x) is)

  second_in : (x y : ℕ) (j : Budget) → IsTrue (is_in n j) →
      held_in (two_held base m n xs ys (x ∷ y ∷ [])) j
      ≡ low (held_in base j) + (part (is_in m j) (size_at xs x) + size_at ys y)
  second_in x y j is = held_is (x ∷ y ∷ []) j
      ∙ ap (λ k. low (held_in base j) + (part (is_in m j) (size_at xs x) + k))
      (part_in (is_in n j) (size_at ys y) is)

  same_two : (x y b to : ℕ) (i j : Budget) → b < 2
      → IsTrue (is_in (two_inside m n b) i) → IsTrue (is_in (two_inside m n b) j)
      → held_in (two_held base m n xs ys (set (x ∷ y ∷ []) b to)) i
      + held_in (two_held base m n xs ys (x ∷ y ∷ [])) j
      ≡ held_in (two_held base m n xs ys (set (x ∷ y ∷ []) b to)) j
      + held_in (two_held base m n xs ys (x ∷ y ∷ [])) i
  same_two x y zero to i j below in_i in_j =
      one_first _ _ _ _ _ _ _ _ _ _ (first_in to y i in_i) (first_in x y j in_j)
      (first_in to y j in_j) (first_in x y i in_i)
  same_two x y (suc zero) to i j below in_i in_j =
      one_second _ _ _ _ _ _ _ _ _ _ (second_in x to i in_i) (second_in x y j in_j)
      (second_in x to j in_j) (second_in x y i in_i)
  same_two x y (suc (suc b)) to i j below in_i in_j = absurd (omega arith)

  elsewhere_two : (x y b to : ℕ) (j : Budget) → b < 2 → ¬ IsTrue (is_in (two_inside m n b) j)
      → held_in (two_held base m n xs ys (set (x ∷ y ∷ []) b to)) j
      ≡ held_in (two_held base m n xs ys (x ∷ y ∷ [])) j
  elsewhere_two x y zero to j below off = held_is (to ∷ y ∷ []) j
      ∙ (ap (λ k. low (held_in base j) + (k + part (is_in n j) (size_at ys y)))
      (part_out (is_in m j) (size_at xs to) off ∙ sym (part_out (is_in m j) (size_at xs x) off))
      ∙ sym (held_is (x ∷ y ∷ []) j))
  elsewhere_two x y (suc zero) to j below off = held_is (x ∷ to ∷ []) j
      ∙ (ap (λ k. low (held_in base j) + (part (is_in m j) (size_at xs x) + k))
      (part_out (is_in n j) (size_at ys to) off ∙ sym (part_out (is_in n j) (size_at ys y) off))
      ∙ sym (held_is (x ∷ y ∷ []) j))
  elsewhere_two x y (suc (suc b)) to j below off = absurd (omega arith)

  depends_two : (x y u v b to : ℕ) (j : Budget) → b < 2
      → AgreeBeside (two_inside m n) 2 b (x ∷ y ∷ []) (u ∷ v ∷ [])
      → held_in (two_held base m n xs ys (set (u ∷ v ∷ []) b to)) j
      + held_in (two_held base m n xs ys (x ∷ y ∷ [])) j
      ≡ held_in (two_held base m n xs ys (set (x ∷ y ∷ []) b to)) j
      + held_in (two_held base m n xs ys (u ∷ v ∷ [])) j
  depends_two x y u v zero to j below agree =
      agree_first _ _ _ _ _ _ _ _ _ _ (held_is (to ∷ v ∷ []) j) (held_is (x ∷ y ∷ []) j)
      (held_is (to ∷ y ∷ []) j)
      (held_is (u ∷ v ∷ []) j)
      (ap (λ k. part (is_in m j) (size_at xs k)) (agree 0 (omega arith) refl))
  depends_two x y u v (suc zero) to j below agree =
      agree_second _ _ _ _ _ _ _ _ _ _ (held_is (u ∷ to ∷ []) j) (held_is (x ∷ y ∷ []) j)
      (held_is (x ∷ to ∷ []) j)
      (held_is (u ∷ v ∷ []) j)
      (ap (λ k. part (is_in n j) (size_at ys k)) (agree 1 (omega arith) refl))
  depends_two x y u v (suc (suc b)) to j below agree = absurd (omega arith)

  pub two_law : HasLaw 2 (two_inside m n) (two_held base m n xs ys)
  two_law = record {
    same_change = λ c b to i j long below in_i in_j.
        let p = two_of c long in
        subst (λ (l : List ℕ). held_in (two_held base m n xs ys (set l b to)) i
        + held_in (two_held base m n xs ys l) j
        ≡ held_in (two_held base m n xs ys (set l b to)) j + held_in (two_held base m n xs ys l) i)
        (sym p.1.1)
        (same_two p.0 p.1.0 b to i j below in_i in_j);
    elsewhere = λ c b to j long below off.
        let p = two_of c long in
        subst (λ (l : List ℕ). held_in (two_held base m n xs ys (set l b to)) j
        ≡ held_in (two_held base m n xs ys l) j) (sym p.1.1)
        (elsewhere_two p.0 p.1.0 b to j below off);
    depends = λ c d b to j long also below agree.
        let p = two_of c long in
        let q = two_of d also in
        subst (λ (l : List ℕ). held_in (two_held base m n xs ys (set d b to)) j
        + held_in (two_held base m n xs ys l) j
        ≡ held_in (two_held base m n xs ys (set l b to)) j + held_in (two_held base m n xs ys d) j)
        (sym p.1.1)
        (subst (λ (l : List ℕ). held_in (two_held base m n xs ys (set l b to)) j
        + held_in (two_held base m n xs ys (p.0 ∷ p.1.0 ∷ [])) j
        ≡ held_in (two_held base m n xs ys (set (p.0 ∷ p.1.0 ∷ []) b to)) j
        + held_in (two_held base m n xs ys l) j) (sym q.1.1)
        (depends_two p.0 p.1.0 q.0 q.1.0 b to j below
        (subst (λ (l : List ℕ). AgreeBeside (two_inside m n) 2 b (p.0 ∷ p.1.0 ∷ []) l) q.1.1
        (subst (λ (l : List ℕ). AgreeBeside (two_inside m n) 2 b l d) p.1.1 agree))));
  }

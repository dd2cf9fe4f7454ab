-- The passes of a block, one after the other.
use Rattle.std.proofs.Common.{ℕ, suc, ◌<◌, ◌≤◌, ◌≡◌, inl, inr, Bool, List, [], ◌∷◌}
use Rattle.std.proofs.Common.{◌++◌, length, get_or, sym, ap, ◌∙◌, subst, arith}
use Rattle.std.proofs.lemmas.Bool.{cases_lt}
use Rattle.std.proofs.Math.ListN.{get_or-append}
use Rattle.std.proofs.Math.Seq.{get_or-append_seam}
use Rattle.std.proofs.lemmas.List.{length-append}
use Rattle.cine_nums.specs.declared.orient.Orient.{Orient}
use Rattle.mq_coder.specs.Mark.{IsMarkOf}
use Rattle.mq_coder.specs.declared.mark.Mark.{Mark}
use Rattle.ebcot_contexts.specs.Contexts.{Shape}
use Rattle.ebcot_contexts.specs.Laws.{shaped}
use Rattle.ebcot_contexts.specs.Meaning.{symbols_of}
use Rattle.distortion_sums.specs.Distortion.{distortion}
use Rattle.ebcot_passes.specs.Code.{IsPass, ArePasses}
use Rattle.ebcot_passes.specs.declared.coded.CodedPass.{CodedPass}

-- a shape by its parts
pub shape_is : (s : Shape) (w h n : ℕ) (o : Orient) → s.orient ≡ o → s.width ≡ w → s.height ≡ h →
    s.planes ≡ n → s ≡ shaped w h n o
shape_is s w h n o orient wide high planes =
    λ i. record { orient = orient i; width = wide i; height = high i; planes = planes i }

-- before the first pass
pub none_coded : (coefs : List (ℕ × Bool)) (s : Shape) (passes : List CodedPass)
    (buffer : List ℕ) → passes ≡ [] → ArePasses coefs s 0 passes buffer
none_coded coefs s passes buffer none =
    record {
      count = ap length none;
      each = λ j other within. absurd (omega arith);
      grows = λ i j other order within. absurd (omega arith);
    }

-- what is true of the passes before and of the one that is pushed is true of each
pushed : (P : CodedPass → Type 0) (passes : List CodedPass) (pass : CodedPass) (k j : ℕ)
    (other : CodedPass) → length passes ≡ k → j < suc k →
    (j < k → P (get_or passes j other)) → P pass
    → P (get_or (passes ++ pass ∷ []) j other)
pushed P passes pass k j other long within before last = elim (cases_lt j k) [
  | inl lt ↦ subst P (sym (get_or-append passes (pass ∷ []) other j (omega arith))) (before lt)
  | inr ge ↦
      let e : length passes ≡ j = omega arith in
      subst P (sym (subst (λ (v : ℕ). get_or (passes ++ pass ∷ []) v other ≡ pass) e
      (get_or-append_seam passes pass [] other))) last
]

-- one pass more; `least` is the count of the mark before it
pub one_more : (coefs : List (ℕ × Bool)) (s : Shape) (k least : ℕ) (passes : List CodedPass)
    (pass : CodedPass) (old new : List ℕ)
    → ArePasses coefs s k passes old
    → ((j : ℕ) (other : CodedPass) → j < k → (get_or passes j other).mark.count ≤ least)
    → least ≤ pass.mark.count
    → ((m : Mark) (symbols : List (ℕ × Bool)) → m.count ≤ least → IsMarkOf m old symbols →
    IsMarkOf m new symbols)
    → IsMarkOf pass.mark new (symbols_of coefs s (suc k))
    → pass.distortion ≡ distortion coefs s (suc k) → pass.mark.count ≤ 68023
    → ArePasses coefs s (suc k) (passes ++ pass ∷ []) new
one_more coefs s k least passes pass old new before below grown kept mark left few =
    record {
      count = length-append passes (pass ∷ []) ∙ (let e = before.count in omega arith);
      each = λ j other within.
          elim (cases_lt j k) [
            | inl lt ↦ subst (λ (p : CodedPass). IsPass coefs s j p new)
                (sym (get_or-append passes (pass ∷ []) other j
                (let e = before.count in omega arith)))
                (let was = before.each j other lt in
                record {
                  mark = kept (get_or passes j other).mark (symbols_of coefs s (suc j))
                      (below j other lt) was.mark;
                  distortion_is = was.distortion_is;
                  few = was.few;
                })
            | inr ge ↦
                let e : k ≡ j = omega arith in
                subst (λ (v : ℕ). IsPass coefs s v (get_or (passes ++ pass ∷ []) v other) new) e
                (subst (λ (p : CodedPass). IsPass coefs s k p new)
                (sym (subst (λ (v : ℕ). get_or (passes ++ pass ∷ []) v other ≡ pass) before.count
                (get_or-append_seam passes pass [] other)))
                (record { mark = mark; distortion_is = left; few = few }))
          ];
      grows = λ i j other order within.
          pushed (λ p. (get_or (passes ++ pass ∷ []) i other).mark.count ≤ p.mark.count)
          passes pass k j other before.count within
          (λ lt. subst (λ (p : CodedPass). p.mark.count ≤ (get_or passes j other).mark.count)
          (sym (get_or-append passes (pass ∷ []) other i
          (let e = before.count in omega arith)))
          (before.grows i j other order lt))
          (pushed (λ p. p.mark.count ≤ pass.mark.count) passes pass k i other before.count
          (omega arith)
          (λ lt. let l = below i other lt in omega arith) (omega arith));
    }

-- the last mark has the most bytes
pub last_most : (k least most : ℕ) (passes : List CodedPass) (pass : CodedPass)
    → length passes ≡ k
    → ((j : ℕ) (other : CodedPass) → j < k → (get_or passes j other).mark.count ≤ least)
    → least ≤ most → pass.mark.count ≤ most
    → (j : ℕ) (other : CodedPass) → j < suc k →
    (get_or (passes ++ pass ∷ []) j other).mark.count ≤ most
last_most k least most passes pass long below grown own j other within =
    pushed (λ p. p.mark.count ≤ most) passes pass k j other long within
    (λ lt. let l = below j other lt in omega arith) own

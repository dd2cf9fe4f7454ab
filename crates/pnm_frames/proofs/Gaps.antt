-- Gaps as runs of bytes from one state to another: in a comment, or not.
use Rattle.std.proofs.Common.{◌≡◌, ℕ, suc, ◌<◌, Bool, true, false, ◌⊎◌, eqb, List, []}
use Rattle.std.proofs.Common.{◌∷◌, ◌++◌, length, refl, sym, ap, subst, ◌∙◌, inl, inr, append_assoc}
use Rattle.std.proofs.Common.{arith, length-append}
use Rattle.std.specs.Prelude.{All}
use Rattle.std.specs.Char.{is_ascii_digit}
use Rattle.std.specs.List.{concat}
use Rattle.std.proofs.lemmas.Bool.Decides.{nat_tests, eqb_tells}
use Rattle.std.proofs.lemmas.List.{append-nil}
use Rattle.std.proofs.lemmas.List.Elements.{All-cons, All-nil}
use Rattle.pnm_frames.specs.Grammar.{is_white, begins_gap, ends_comment, ends_number}
use Rattle.pnm_frames.specs.Grammar.{IsGapItem, IsGap}
use Rattle.pnm_frames.specs.Reading.{goes_on, stays_open}

-- all the bytes go on with a gap, from one state to another
abbrev pub Runs : Bool → List ℕ → Bool → Type 0
Runs from [] to = from ≡ to
Runs from (b ∷ bytes) to = (goes_on from b ≡ true) × Runs (stays_open from b) bytes to

pub runs-append : (a b c : Bool) (xs ys : List ℕ) → Runs a xs b → Runs b ys c → Runs a (xs ++ ys) c
runs-append a b c [] ys first second = subst (λ (s : Bool). Runs s ys c) (sym first) second
runs-append a b c (x ∷ xs) ys first second =
    (first.0, runs-append (stays_open a x) b c xs ys first.1 second)

pub runs-more : (from to : Bool) (gap : List ℕ) (b : ℕ) → Runs from gap to → goes_on to b ≡ true →
    Runs from (gap ++ (b ∷ [])) (stays_open to b)
runs-more from to gap b runs on =
    runs-append from to (stays_open to b) gap (b ∷ []) runs (on, refl)

-- ---- a gap is such a run

abbrev pub IsInside : ℕ → Type 0
IsInside b = ends_comment b ≡ false

pub text-runs : (text : List ℕ) → All IsInside text → Runs true text true
text-runs [] all = refl
text-runs (b ∷ text) all =
    let inside : ends_comment b ≡ false = all 0 0 (omega arith) in
    (refl, rw inside (text-runs text (λ k d lt. all (suc k) d (omega (arith, lt)))))

comment-runs : (text : List ℕ) (end : ℕ) → All IsInside text → ends_comment end ≡ true →
    Runs false (35 ∷ (text ++ (end ∷ []))) false
comment-runs text end all ended =
    (refl, runs-append true true false text (end ∷ []) (text-runs text all) (refl, rw ended refl))

white-runs : (b : ℕ) → is_white b ≡ true → Runs false (b ∷ []) false
white-runs b white = (rw white refl, grind (arith, nat_tests))

item-runs : (bytes : List ℕ) → IsGapItem bytes → Runs false bytes false
item-runs bytes (inl one) = subst (λ (t : List ℕ). Runs false t false) (sym one.2)
    (white-runs one.0 one.1)
item-runs bytes (inr comment) = subst (λ (t : List ℕ). Runs false t false) (sym comment.whole)
    (comment-runs comment.text comment.end comment.inside comment.ended)

pub items-run : (items : List (List ℕ)) → All IsGapItem items → Runs false (concat items) false
items-run [] all = refl
items-run (item ∷ items) all =
    runs-append false false false item (concat items) (item-runs item (all 0 [] (omega arith)))
    (items-run items (λ k d lt. all (suc k) d (omega (arith, lt))))

pub gap-runs : (gap : List ℕ) → IsGap gap → Runs false gap false
gap-runs gap is_gap = subst (λ (t : List ℕ). Runs false t false) (sym is_gap.whole)
    (items-run is_gap.items is_gap.each)

item-some : (bytes : List ℕ) → IsGapItem bytes → 0 < length bytes
item-some bytes (inl one) = rw one.2 (omega arith)
item-some bytes (inr comment) = rw comment.whole (omega arith)

items-some : (items : List (List ℕ)) → 0 < length items → All IsGapItem items →
    0 < length (concat items)
items-some [] some all = absurd (omega (arith, some))
items-some (item ∷ items) some all =
    omega (arith, item-some item (all 0 [] (omega arith)), length-append item (concat items))

pub gap-some : (gap : List ℕ) → IsGap gap → 0 < length gap
gap-some gap is_gap = rw is_gap.whole (items-some is_gap.items is_gap.some is_gap.each)

-- ---- such a run is a gap, and maybe a comment after it that hasn't ended

-- what is left open
abbrev pub Open : Bool → List ℕ → Type 0
Open false bytes = bytes ≡ []
Open true bytes = (text : List ℕ) × (bytes ≡ 35 ∷ text) × All IsInside text

pub record Items (to : Bool) (bytes : List ℕ) : Type 0 where
  pub items : List (List ℕ)
  pub left : List ℕ
  pub each : All IsGapItem items
  pub unended : Open to left
  pub whole : bytes ≡ concat items ++ left

-- the end of a comment, and what comes after it
pub record Ended (to : Bool) (bytes : List ℕ) : Type 0 where
  pub text : List ℕ
  pub end : ℕ
  pub rest : List ℕ
  pub inside : All IsInside text
  pub ended : ends_comment end ≡ true
  pub items : Items to rest
  pub whole : bytes ≡ text ++ (end ∷ rest)

abbrev pub Parsed : Bool → Bool → List ℕ → Type 0
Parsed false to bytes = Items to bytes
Parsed true to bytes = ((to ≡ true) × All IsInside bytes) ⊎ Ended to bytes

one-item : (to : Bool) (b : ℕ) (bytes : List ℕ) → is_white b ≡ true → Items to bytes →
    Items to (b ∷ bytes)
one-item to b bytes white rest = record {
  items = (b ∷ []) ∷ rest.items;
  left = rest.left;
  each = All-cons IsGapItem (b ∷ []) rest.items (inl (b, white, refl)) rest.each;
  unended = rest.unended;
  whole = ap (λ (t : List ℕ). b ∷ t) rest.whole;
}

one-comment : (to : Bool) (bytes : List ℕ) → Ended to bytes → Items to (35 ∷ bytes)
one-comment to bytes comment =
    let rest = comment.items in
    let item : List ℕ = 35 ∷ (comment.text ++ (comment.end ∷ [])) in
    let is_item : IsGapItem item = inr (record {
      text = comment.text;
      end = comment.end;
      inside = comment.inside;
      ended = comment.ended;
      whole = refl;
    }) in
    record {
      items = item ∷ rest.items;
      left = rest.left;
      each = All-cons IsGapItem item rest.items is_item rest.each;
      unended = rest.unended;
      whole = rw (comment.whole, rest.whole) (simp append_assoc);
    }

open-comment : (to : Bool) (text : List ℕ) → to ≡ true → All IsInside text → Items to (35 ∷ text)
open-comment to text is all = subst (λ (s : Bool). Items s (35 ∷ text)) (sym is) (record {
  items = [];
  left = 35 ∷ text;
  each = All-nil IsGapItem;
  unended = (text, refl, all);
  whole = refl;
})

no-items : (to : Bool) → false ≡ to → Items to []
no-items to is = subst (λ (s : Bool). Items s []) is (record {
  items = [];
  left = [];
  each = All-nil IsGapItem;
  unended = refl;
  whole = refl;
})

pub parsed : (from to : Bool) (bytes : List ℕ) → Runs from bytes to → Parsed from to bytes
parsed false to [] runs = no-items to runs
parsed true to [] runs = inl (sym runs, All-nil IsInside)
parsed false to (b ∷ bytes) runs =
    elim (eqb_tells b 35) [
      | inl hash ↦ rw hash.1 (commented to bytes (parsed true to bytes (rw hash.0 at runs.1)))
      | inr other ↦ one-item to b bytes (first-white b runs.0 other.0)
          (parsed false to bytes (rw other.0 at runs.1))
    ]
  where
    commented : (to : Bool) (bytes : List ℕ) → Parsed true to bytes → Items to (35 ∷ bytes)
    commented to bytes (inl still) = open-comment to bytes still.0 still.1
    commented to bytes (inr ended) = one-comment to bytes ended

    first-white : (b : ℕ) → begins_gap b ≡ true → eqb b 35 ≡ false → is_white b ≡ true
    first-white b begins other = grind (arith, nat_tests)
parsed true to (b ∷ bytes) runs =
    elim (by_test (ends_comment b)) [
      | inl ends ↦ inr (record {
        text = [];
        end = b;
        rest = bytes;
        inside = All-nil IsInside;
        ended = ends;
        items = parsed false to bytes (rw ends at runs.1);
        whole = refl;
      })
      | inr inside ↦ further to b bytes inside (parsed true to bytes (rw inside at runs.1))
    ]
  where
    by_test : (t : Bool) → (t ≡ true) ⊎ (t ≡ false)
    by_test true = inl refl
    by_test false = inr refl

    further : (to : Bool) (b : ℕ) (bytes : List ℕ) → ends_comment b ≡ false →
        Parsed true to bytes → Parsed true to (b ∷ bytes)
    further to b bytes inside (inl still) =
        inl (still.0, All-cons IsInside b bytes inside still.1)
    further to b bytes inside (inr ended) = inr (record {
      text = b ∷ ended.text;
      end = ended.end;
      rest = ended.rest;
      inside = All-cons IsInside b ended.text inside ended.inside;
      ended = ended.ended;
      items = ended.items;
      whole = ap (λ (t : List ℕ). b ∷ t) ended.whole;
    })

pub gap-of : (b : ℕ) (gap : List ℕ) → Runs false (b ∷ gap) false → IsGap (b ∷ gap)
gap-of b gap runs =
    let parts = parsed false false (b ∷ gap) runs in
    let whole : b ∷ gap ≡ concat parts.items = parts.whole
    ∙ ap (λ (t : List ℕ). concat parts.items ++ t) parts.unended ∙ append-nil (concat parts.items) in
    record {
      items = parts.items;
      some = some parts.items whole;
      each = parts.each;
      whole = whole;
    }
  where
    some : (items : List (List ℕ)) → b ∷ gap ≡ concat items → 0 < length items
    some [] none = absurd cc
    some (item ∷ items) whole = omega arith

-- ---- digits begin and end no gap

pub digit-ends : (last : Bool) (b : ℕ) → is_ascii_digit b ≡ true → ends_number last b ≡ false
digit-ends true b digit = grind (arith, nat_tests)
digit-ends false b digit = grind (arith, nat_tests)

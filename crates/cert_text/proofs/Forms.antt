-- Texts read part by part.
use Rattle.std.proofs.Common.{ℕ, ◌≡◌, ◌≢◌, ◌+◌, ◌<◌, ◌≤◌, ◌^◌, ◌++◌, List, ◌∷◌, length}
use Rattle.std.proofs.Common.{drop, take, get_or}
use Rattle.std.proofs.Common.{refl, ap, ap₂, sym, subst, ◌∙◌, arith, append_assoc, decimal, inl}
use Rattle.std.proofs.Common.{inr}
use Rattle.std.proofs.Math.Seq.{drop-append_seam, take-length}
use Rattle.std.proofs.Common.{◌-◌, length-drop, Result, IsErrAnd, IfErr}
use Rattle.std.proofs.lemmas.Result.{err_from_is_err_and}
use Rattle.std.proofs.lemmas.List.{length-take-le, get_or-drop}
use Rattle.std.proofs.lemmas.Bool.{cases_eq}
use Rattle.cert_text.specs.Stands.{Stands, digits_before}
use Rattle.cert_text.specs.Forms.{Part, Number, word, agreed, Form, exactly, number, after}
use Rattle.cert_text.specs.Forms.{labelled, both, Reads, Stops, Refuses}
use Rattle.cert_text.specs.declared.cert_refusal.CertRefusal.{CertRefusal}
use Rattle.cert_text.specs.declared.cert_refusal.CertRefusal.TheVariants.{BadLine, Memory}
use Rattle.cert_text.proofs.Digits.{decimal_same}
use Rattle.cert_text.proofs.Agreed.{agreed_word, agreed_part, agreed_number, agreed_no_number}
use Rattle.cert_text.proofs.Agreed.{stands_length}

-- parts after others
joined : (p q more : List Part) (bytes : List ℕ) → agreed ((p ++ q) ++ more) bytes
    ≡ agreed (p ++ (q ++ more)) bytes
joined p q more bytes = ap (λ (parts : List Part). agreed parts bytes) (append_assoc p q more)

-- a word

pub word_goes : (x w : List ℕ) (at end : ℕ) (more : List Part) → at ≤ length x → Stands x at w end
    → at + agreed (word w ++ more) (drop at x) ≡ end + agreed more (drop end x)
word_goes x w at end more h s =
    let long : end ≡ at + length w = stands_length x w at end h s in
    let all : agreed (word w ++ more) (drop at x) ≡ length w + agreed more (drop end x)
    = ap (agreed (word w ++ more)) s.same ∙ agreed_word w more (drop end x) in
    omega arith

pub exactly_reads : (x w : List ℕ) (at end : ℕ) → at ≤ length x → Stands x at w end
    → Reads (exactly w) x at tt end
exactly_reads x w at end h s =
    let long : end ≡ at + length w = stands_length x w at end h s in
    record {
      forward = omega arith;
      within = s.within;
      has = tt;
      goes = λ more. word_goes x w at end more h s;
      others = λ other has. inl refl;
    }

pub exactly_whole : (x w : List ℕ) (at k end : ℕ) → at ≤ length x → Stands x at (take k w) end
    → k ≤ length w → length w ≤ k
    → Reads (exactly w) x at tt end
exactly_whole x w at k end h s some all =
    let same : k ≡ length w = omega arith in
    exactly_reads x w at end h (subst (λ (part : List ℕ). Stands x at part end)
    (ap (λ (j : ℕ). take j w) same ∙ take-length w) s)

first_differs : (x w : List ℕ) (k end : ℕ) → (end < length x → get_or w k 0 ≢ get_or x end 0)
    → 0 < length (drop end x) → get_or w k 0 ≢ get_or (drop end x) 0 0
first_differs x w k end other some e =
    let long : length (drop end x) ≡ length x - end = length-drop end x in
    let here : get_or (drop end x) 0 0 ≡ get_or x (end + 0) 0 = get_or-drop end x 0 0 in
    let none : end + 0 ≡ end = omega arith in
    other (omega arith) (e ∙ (here ∙ ap (λ (i : ℕ). get_or x i 0) none))

pub exactly_stops : (x w : List ℕ) (at k end : ℕ) → at ≤ length x → Stands x at (take k w) end
    → k < length w
    → (end < length x → get_or w k 0 ≢ get_or x end 0) → Stops (exactly w) x at end
exactly_stops x w at k end h s less other =
    let long : end ≡ at + length (take k w) = stands_length x (take k w) at end h s in
    let short : length (take k w) ≡ k = length-take-le k w (omega arith) in
    let agrees : (more : List Part) → agreed (word w ++ more) (drop at x) ≡ k
    = λ more. ap (agreed (word w ++ more)) s.same ∙ agreed_part w k (drop end x) more less
    (λ some. first_differs x w k end other some) in
    record {
      forward = omega arith;
      within = s.within;
      some = tt;
      has = tt;
      reached = λ more. omega (arith, agrees more);
      none = λ o has more. omega (arith, agrees more);
    }

-- a number

pub number_reads : (x : List ℕ) (at end least most n : ℕ) → at ≤ length x → most < 10 ^ 64
    → Stands x at (decimal n) end
    → digits_before (drop at x) ≡ decimal n → least ≤ n → n ≤ most → Reads (number least most) x at
    n end
number_reads x at end least most n h wide s run lo hi =
    let long : end ≡ at + length (decimal n) = stands_length x (decimal n) at end h s in
    let rest : drop (length (decimal n)) (drop at x) ≡ drop end x
    = ap (drop (length (decimal n))) s.same ∙ drop-append_seam (decimal n) (drop end x) in
    record {
      forward = omega arith;
      within = s.within;
      has = (lo, hi);
      goes = λ more.
          let all : agreed (Number n ∷ more) (drop at x) ≡ length (decimal n) + agreed more
          (drop end x)
          = agreed_number n more (drop at x) run ∙ ap (λ (y : List ℕ). length (decimal n) + agreed
          more y) rest in
          omega arith;
      others = λ other has. elim (cases_eq n other) [
        | inl same ↦ inl same
        | inr differ ↦ inr (λ more.
            let none : agreed (Number other ∷ more) (drop at x) ≡ 0
            = agreed_no_number other more (drop at x)
            (λ e. differ (decimal_same n other (omega arith) (omega (arith, has.1))
            (sym run ∙ e))) in
            omega arith)
      ];
    }

pub number_stops : (x : List ℕ) (at least most : ℕ) → at ≤ length x → least ≤ most
    → ((n : ℕ) → least ≤ n → n ≤ most → digits_before (drop at x) ≢ decimal n)
    → Stops (number least most) x at at
number_stops x at least most h some none = record {
  forward = omega arith;
  within = h;
  some = least;
  has = (omega arith, some);
  reached = λ more. omega arith;
  none = λ n has more.
      let zero : agreed (Number n ∷ more) (drop at x) ≡ 0 = agreed_no_number n more (drop at x)
      (none n has.0 has.1) in
      omega arith;
}

-- some value of a form
abbrev pub HasSome : {V : Type 0} → Form V → Type 0
HasSome {V} f = (v : V) × f.Has v

pub labelled_some : (label : List ℕ) (least most : ℕ) → least ≤ most
    → HasSome (labelled label least most)
labelled_some label least most h = (least, (omega arith, h))

pub both_some : {V W : Type 0} (f : Form V) (g : V → Form W) → HasSome f → ((v : V) → HasSome (g v))
    → HasSome (both f g)
both_some f g s t = ((s.0, (t s.0).0), (s.1, (t s.0).1))

-- a word and then a text

pub after_reads : {V : Type 0} (w : List ℕ) (f : Form V) {x : List ℕ} {a m e : ℕ} {v : V}
    → Reads (exactly w) x a tt m → Reads f x m v e → Reads (after w f) x a v e
after_reads w f {x} {a} {m} {e} {v} r s =
    let r0 : a ≤ m = r.forward in
    let s0 : m ≤ e = s.forward in
    record {
      forward = omega arith;
      within = s.within;
      has = s.has;
      goes = λ more. ap (λ (k : ℕ). a + k) (joined (word w) (f.parts v) more (drop a x))
          ∙ (r.goes (f.parts v ++ more) ∙ s.goes more);
      others = λ other has. elim (s.others other has) [
        | inl same ↦ inl same
        | inr less ↦ inr (λ more. omega (
          arith,
          joined (word w) (f.parts other) more (drop a x),
          r.goes (f.parts other ++ more),
          less more,
        ))
      ];
    }

pub after_refuses : {V : Type 0} (w : List ℕ) (f : Form V) {x : List ℕ} {a m : ℕ} (e : CertRefusal)
    → Reads (exactly w) x a tt m → Refuses f x m e → Refuses (after w f) x a e
after_refuses w f {x} {a} {m} (BadLine p) r s =
    let r0 : a ≤ m = r.forward in
    let s0 : m ≤ p = s.forward in
    record {
      forward = omega arith;
      within = s.within;
      some = s.some;
      has = s.has;
      reached = λ more. omega (
        arith,
        joined (word w) (f.parts s.some) more (drop a x),
        r.goes
            (f.parts s.some ++ more),
        s.reached more,
      );
      none = λ other has more. omega (
        arith,
        joined (word w) (f.parts other) more (drop a x),
        r.goes
            (f.parts other ++ more),
        s.none other has more,
      );
    }
after_refuses w f Memory r s = tt

pub word_refuses : {V : Type 0} (w : List ℕ) (f : Form V) (x : List ℕ) (a : ℕ) (e : CertRefusal)
    → HasSome f → Refuses (exactly w) x a e → Refuses (after w f) x a e
word_refuses w f x a (BadLine p) v s = record {
  forward = s.forward;
  within = s.within;
  some = v.0;
  has = v.1;
  reached = λ more. omega (
    arith,
    joined (word w) (f.parts v.0) more (drop a x),
    s.reached
        (f.parts v.0 ++ more),
  );
  none = λ other h more. omega (
    arith,
    joined (word w) (f.parts other) more (drop a x),
    s.none tt tt
        (f.parts other ++ more),
  );
}
word_refuses w f x a Memory v s = tt

-- one text and then another

pub both_reads : {V W : Type 0} (f : Form V) (g : V → Form W) {x : List ℕ} {a m e : ℕ} {v : V}
    {w : W}
    → Reads f x a v m → Reads (g v) x m w e → Reads (both f g) x a (v, w) e
both_reads f g {x} {a} {m} {e} {v} {w} r s =
    let r0 : a ≤ m = r.forward in
    let s0 : m ≤ e = s.forward in
    record {
      forward = omega arith;
      within = s.within;
      has = (r.has, s.has);
      goes = λ more. ap (λ (k : ℕ). a + k) (joined (f.parts v) ((g v).parts w) more (drop a x))
          ∙ (r.goes ((g v).parts w ++ more) ∙ s.goes more);
      others = λ other has. elim (r.others other.0 has.0) [
        | inl same ↦ elim (s.others other.1 (subst (λ u. (g u).Has other.1) (sym same) has.1)) [
          | inl too ↦ inl (ap₂ (λ u t. (u, t)) same too)
          | inr less ↦ inr (subst (λ u. (more : List Part)
              → a + agreed ((f.parts u ++ (g u).parts other.1) ++ more) (drop a x) ≤ e) same
              (λ more. omega (
                arith,
                joined (f.parts v) ((g v).parts other.1) more (drop a x),
                r.goes ((g v).parts other.1 ++ more),
                less more,
              )))
        ]
        | inr less ↦ inr (λ more. omega (
          arith,
          joined (f.parts other.0) ((g other.0).parts other.1)
              more (drop a x),
          less ((g other.0).parts other.1 ++ more),
        ))
      ];
    }

pub both_refuses : {V W : Type 0} (f : Form V) (g : V → Form W) {x : List ℕ} {a m : ℕ} {v : V}
    (e : CertRefusal)
    → Reads f x a v m → Refuses (g v) x m e → Refuses (both f g) x a e
both_refuses f g {x} {a} {m} {v} (BadLine p) r s =
    let r0 : a ≤ m = r.forward in
    let s0 : m ≤ p = s.forward in
    record {
      forward = omega arith;
      within = s.within;
      some = (v, s.some);
      has = (r.has, s.has);
      reached = λ more. omega (
        arith,
        joined (f.parts v) ((g v).parts s.some) more (drop a x),
        r.goes ((g v).parts s.some ++ more),
        s.reached more,
      );
      none = λ other has more. elim (r.others other.0 has.0) [
        | inl same ↦ subst (λ u. a + agreed ((f.parts u ++ (g u).parts other.1) ++ more) (drop a x)
            ≤ p) same
            (omega (
              arith,
              joined (f.parts v) ((g v).parts other.1) more (drop a x),
              r.goes
                  ((g v).parts other.1 ++ more),
              s.none other.1 (subst (λ u. (g u).Has other.1) (sym same) has.1) more,
            ))
        | inr less ↦ omega (
          arith,
          joined (f.parts other.0) ((g other.0).parts other.1) more
              (drop a x),
          less ((g other.0).parts other.1 ++ more),
        )
      ];
    }
both_refuses f g Memory r s = tt

pub first_refuses : {V W : Type 0} (f : Form V) (g : V → Form W) (x : List ℕ) (a : ℕ)
    (e : CertRefusal)
    → ((v : V) → HasSome (g v)) → Refuses f x a e → Refuses (both f g) x a e
first_refuses f g x a (BadLine p) next s = record {
  forward = s.forward;
  within = s.within;
  some = (s.some, (next s.some).0);
  has = (s.has, (next s.some).1);
  reached = λ more. omega (
    arith,
    joined (f.parts s.some) ((g s.some).parts (next s.some).0) more
        (drop a x),
    s.reached ((g s.some).parts (next s.some).0 ++ more),
  );
  none = λ other has more. omega (
    arith,
    joined (f.parts other.0) ((g other.0).parts other.1) more
        (drop a x),
    s.none other.0 has.0 ((g other.0).parts other.1 ++ more),
  );
}
first_refuses f g x a Memory next s = tt

-- what `?` hands on
pub refused_on : {T : Type 0} (P : CertRefusal → Type 0) (r : Result T CertRefusal)
    (e : CertRefusal) → IsErrAnd r (λ y. y ≡ e) → P e → IfErr r P
refused_on P r e is h =
    let p = err_from_is_err_and r is in
    subst (λ k. IfErr k P) (sym p.1) (subst P (sym p.2) h)

-- a number in a range whose end is written in another way
pub within_reads : (label : List ℕ) (least m n : ℕ) {x : List ℕ} {a v e : ℕ} → m ≡ n
    → Reads (labelled label least m) x a v e
    → Reads (labelled label least n) x a v e
within_reads label least m n {x} {a} {v} {e} same r
    = subst (λ (k : ℕ). Reads (labelled label least k) x a v e) same r

pub within_refuses : (label : List ℕ) (least m n : ℕ) (x : List ℕ) (a : ℕ) (e : CertRefusal) → m ≡ n
    → least ≤ n
    → (least ≤ m → Refuses (labelled label least m) x a e) → Refuses (labelled label least n) x a e
within_refuses label least m n x a e same some r
    = subst (λ (k : ℕ). Refuses (labelled label least k) x a e) same (r (omega arith))

-- a word that is written in another way
pub word_is : (v w : List ℕ) {x : List ℕ} {a m : ℕ} → v ≡ w → Reads (exactly v) x a tt m
    → Reads (exactly w) x a tt m
word_is v w {x} {a} {m} same r = subst (λ (bytes : List ℕ). Reads (exactly bytes) x a tt m) same r

pub word_is_refused : (v w x : List ℕ) (a : ℕ) (e : CertRefusal) → v ≡ w → Refuses (exactly v) x a e
    → Refuses (exactly w) x a e
word_is_refused v w x a e same r = subst (λ (bytes : List ℕ). Refuses (exactly bytes) x a e) same r

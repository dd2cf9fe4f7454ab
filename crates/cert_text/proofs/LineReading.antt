-- The parts of a certificate line, read one after the other.
use Rattle.std.proofs.Common.{ℕ, ◌≡◌, ◌≢◌, ◌-◌, ◌<◌, ◌≤◌, ◌^◌, ◌++◌, List, ◌∷◌}
use Rattle.std.proofs.Common.{length, drop, get_or}
use Rattle.std.proofs.Common.{refl, ap, sym, arith, inl, inr, codes}
use Rattle.cine_nums.specs.Limits.{limit_of}
use Rattle.cine_nums.specs.Profile.{max_width_of, max_height_of}
use Rattle.cine_nums.specs.declared.profile.Profile.{Profile}
use Rattle.cine_nums.specs.declared.profile.Profile.TheVariants.{TwoK, FourK}
use Rattle.cine_nums.specs.declared.budget.Budget.{Budget}
use Rattle.cine_nums.specs.declared.budget.Budget.TheVariants.{Frame, Inner, C0, C1, C2}
use Rattle.cert_text.specs.Words.{profile_word, budget_word}
use Rattle.cert_text.specs.Stands.{Stands}
use Rattle.cert_text.specs.Forms.{Part, Byte, word, agreed, Form, exactly, after}
use Rattle.cert_text.specs.Forms.{labelled, both, Reads, Refuses}
use Rattle.cert_text.specs.LineForms.{profile, size, Field, budget, no_budget, inner_budget}
use Rattle.cert_text.specs.LineForms.{budgets, sums}
use Rattle.cert_text.specs.declared.cert_refusal.CertRefusal.{CertRefusal}
use Rattle.cert_text.specs.declared.cert_refusal.CertRefusal.TheVariants.{BadLine, Memory}
use Rattle.cert_text.proofs.Agreed.{agreed_none}
use Rattle.cert_text.proofs.Forms.{HasSome, labelled_some, both_some}
use Rattle.cert_text.proofs.Forms.{after_reads, after_refuses, word_refuses}
use Rattle.cert_text.proofs.Forms.{both_reads, both_refuses, first_refuses}

-- profile

four_not_two : (x : List ℕ) (at end : ℕ) (more : List Part) → Stands x at (codes "2k") end
    → agreed (word (codes "4k") ++ more) (drop at x) ≡ 0
four_not_two x at end more s = ap (agreed (word (codes "4k") ++ more)) s.same

two_not_four : (x : List ℕ) (at end : ℕ) (more : List Part) → Stands x at (codes "4k") end
    → agreed (word (codes "2k") ++ more) (drop at x) ≡ 0
two_not_four x at end more s = ap (agreed (word (codes "2k") ++ more)) s.same

pub profile_reads : (x : List ℕ) (at end : ℕ) (p : Profile) → at ≤ length x → Stands x at
    (profile_word p) end
    → Reads (exactly (profile_word p)) x at tt end → Reads profile x at p end
profile_reads x at end TwoK h s r =
    let go : at ≤ end = r.forward in
    record {
      forward = r.forward;
      within = r.within;
      has = tt;
      goes = r.goes;
      others = elim [
        | TwoK ↦ λ has. inl refl
        | FourK ↦ λ has. inr (λ more. omega (arith, four_not_two x at end more s))
      ];
    }
profile_reads x at end FourK h s r =
    let go : at ≤ end = r.forward in
    record {
      forward = r.forward;
      within = r.within;
      has = tt;
      goes = r.goes;
      others = elim [
        | TwoK ↦ λ has. inr (λ more. omega (arith, two_not_four x at end more s))
        | FourK ↦ λ has. inl refl
      ];
    }

pub profile_refuses_four : (x : List ℕ) (at : ℕ) (e : CertRefusal) → at < length x → get_or x at 0
    ≡ 52
    → Refuses (exactly (codes "4k")) x at e → Refuses profile x at e
profile_refuses_four x at (BadLine p) h four r =
    let go : at ≤ p = r.forward in
    record {
      forward = r.forward;
      within = r.within;
      some = FourK;
      has = tt;
      reached
          = r.reached;
      none = elim [
        | TwoK ↦ λ has more. omega (
          arith,
          agreed_none x at 50 (Byte 107 ∷ more)
              (λ past e. omega (arith, e, four)),
        )
        | FourK ↦ λ has more. r.none tt tt more
      ];
    }
profile_refuses_four x at Memory h four r = tt

pub profile_refuses_two : (x : List ℕ) (at : ℕ) (e : CertRefusal)
    → (at < length x → get_or x at 0 ≢ 52)
    → Refuses (exactly (codes "2k")) x at e → Refuses profile x at e
profile_refuses_two x at (BadLine p) other r =
    let go : at ≤ p = r.forward in
    record {
      forward = r.forward;
      within = r.within;
      some = TwoK;
      has = tt;
      reached
          = r.reached;
      none = elim [
        | TwoK ↦ λ has more. r.none tt tt more
        | FourK ↦ λ has more. omega (
          arith,
          agreed_none x at 52 (Byte 107 ∷ more)
              (λ past e. other past (sym e)),
        )
      ];
    }
profile_refuses_two x at Memory other r = tt

-- size

abbrev width : Profile → Form ℕ
width p = labelled (codes " ") 1 (max_width_of p)

abbrev height : Profile → Form ℕ
height p = labelled (codes "x") 1 (max_height_of p)

height_some : (p : Profile) → HasSome (height p)
height_some TwoK = labelled_some (codes "x") 1 1080 (omega arith)
height_some FourK = labelled_some (codes "x") 1 2160 (omega arith)

width_some : (p : Profile) → HasSome (width p)
width_some TwoK = labelled_some (codes " ") 1 2048 (omega arith)
width_some FourK = labelled_some (codes " ") 1 4096 (omega arith)

pub size_some : (p : Profile) → HasSome (size p)
size_some p = both_some (width p) (λ w. height p) (width_some p) (λ w. height_some p)

pub wide_enough : (p : Profile) → 1 ≤ max_width_of p
wide_enough TwoK = omega arith
wide_enough FourK = omega arith

pub high_enough : (p : Profile) → 1 ≤ max_height_of p
high_enough TwoK = omega arith
high_enough FourK = omega arith

pub size_reads : (p : Profile) {x : List ℕ} {a m e w h : ℕ} → Reads (width p) x a w m
    → Reads (height p) x m h e → Reads (size p) x a (w, h) e
size_reads p r s = both_reads (width p) (λ w. height p) r s

pub size_refuses : (p : Profile) (x : List ℕ) (a : ℕ) (e : CertRefusal) → Refuses (width p) x a e
    → Refuses (size p) x a e
size_refuses p x a e r = first_refuses (width p) (λ w. height p) x a e (λ w. height_some p) r

pub size_refuses_height : (p : Profile) {x : List ℕ} {a m w : ℕ} (e : CertRefusal) → Reads (width p)
    x a w m → Refuses (height p) x m e → Refuses (size p) x a e
size_refuses_height p e r s = both_refuses (width p) (λ w. height p) e r s

-- a budget

abbrev multiplier : Form ℕ
multiplier = labelled (codes "/") 0 (2 ^ 96 - 1)

abbrev limit : Profile → Budget → Form ℕ
limit p b = labelled (codes "/") 0 (limit_of p b)

abbrev held : Form ℕ
held = labelled (codes "=") 0 (2 ^ 32 - 1)

abbrev priced : Profile → Budget → Form (ℕ × ℕ)
priced p b = both (limit p b) (λ l. multiplier)

abbrev field : Profile → Budget → Form Field
field p b = both held (λ h. priced p b)

abbrev named : Profile → Budget → Form Field
named p b = after (budget_word b) (field p b)

priced_some : (p : Profile) (b : Budget) → HasSome (priced p b)
priced_some p b = ((0, 0), ((omega arith, omega arith), (omega arith, omega arith)))

field_some : (p : Profile) (b : Budget) → HasSome (field p b)
field_some p b = both_some held (λ h. priced p b) (labelled_some (codes "=") 0 (2 ^ 32 - 1)
    (omega arith)) (λ h. priced_some p b)

pub budget_some : (p : Profile) (b : Budget) → HasSome (budget p b)
budget_some p b = field_some p b

pub budget_reads : (p : Profile) (b : Budget) {x : List ℕ} {a c d e f g h l m : ℕ}
    → Reads (exactly (codes " ")) x a tt c → Reads (exactly (budget_word b)) x c tt d → Reads held x
    d h e
    → Reads (limit p b) x e l f → Reads multiplier x f m g → Reads (budget p b) x a (h, (l, m)) g
budget_reads p b r1 r2 r3 r4 r5 =
    after_reads (codes " ") (named p b) r1 (after_reads (budget_word b) (field p b) r2
    (both_reads held (λ h. priced p b) r3 (both_reads (limit p b) (λ l. multiplier) r4 r5)))

pub budget_refuses_space : (p : Profile) (b : Budget) (x : List ℕ) (a : ℕ) (e : CertRefusal)
    → Refuses (exactly (codes " ")) x a e → Refuses (budget p b) x a e
budget_refuses_space p b x a e r = word_refuses (codes " ") (named p b) x a e (field_some p b) r

pub budget_refuses_word : (p : Profile) (b : Budget) {x : List ℕ} {a c : ℕ} (e : CertRefusal)
    → Reads (exactly (codes " ")) x a tt c → Refuses (exactly (budget_word b)) x c e
    → Refuses (budget p b) x a e
budget_refuses_word p b {x} {c = c} e r1 r = after_refuses (codes " ") (named p b) e r1
    (word_refuses (budget_word b) (field p b) x c e (field_some p b) r)

pub budget_refuses_held : (p : Profile) (b : Budget) {x : List ℕ} {a c d : ℕ} (e : CertRefusal)
    → Reads (exactly (codes " ")) x a tt c → Reads (exactly (budget_word b)) x c tt d → Refuses held
    x d e → Refuses (budget p b) x a e
budget_refuses_held p b {x} {d = d} e r1 r2 r =
    after_refuses (codes " ") (named p b) e r1 (after_refuses (budget_word b) (field p b) e r2
    (first_refuses held (λ h. priced p b) x d e (λ h. priced_some p b) r))

pub budget_refuses_limit : (p : Profile) (b : Budget) {x : List ℕ} {a c d f h : ℕ} (e : CertRefusal)
    → Reads (exactly (codes " ")) x a tt c → Reads (exactly (budget_word b)) x c tt d → Reads held x
    d h f
    → Refuses (limit p b) x f e → Refuses (budget p b) x a e
budget_refuses_limit p b {x} {f = f} e r1 r2 r3 r =
    after_refuses (codes " ") (named p b) e r1 (after_refuses (budget_word b) (field p b) e r2
    (both_refuses held (λ h. priced p b) e r3
    (first_refuses (limit p b) (λ l. multiplier) x f e (λ l. labelled_some (codes "/") 0
    (2 ^ 96 - 1) (omega arith)) r)))

pub budget_refuses_multiplier : (p : Profile) (b : Budget) {x : List ℕ} {a c d f g h l : ℕ}
    (e : CertRefusal)
    → Reads (exactly (codes " ")) x a tt c → Reads (exactly (budget_word b)) x c tt d → Reads held x
    d h f
    → Reads (limit p b) x f l g → Refuses multiplier x g e → Refuses (budget p b) x a e
budget_refuses_multiplier p b e r1 r2 r3 r4 r =
    after_refuses (codes " ") (named p b) e r1 (after_refuses (budget_word b) (field p b) e r2
    (both_refuses held (λ h. priced p b) e r3 (both_refuses (limit p b) (λ l. multiplier) e r4 r)))

-- the inner budget of 2K

pub none_reads : (x : List ℕ) (at : ℕ) → at ≤ length x → Reads no_budget x at (0, (0, 0)) at
none_reads x at h = record {
  forward = omega arith;
  within = h;
  has = refl;
  goes = λ more. refl;
  others = λ other has. inl (sym has);
}

pub inner_some : (p : Profile) → HasSome (inner_budget p)
inner_some TwoK = ((0, (0, 0)), refl)
inner_some FourK = budget_some FourK Inner

-- the inner budget of 4K

pub inner_reads : (p : Profile) {x : List ℕ} {a e : ℕ} {v : Field} → p ≡ FourK
    → Reads (budget p Inner) x a v e → Reads (inner_budget p) x a v e
inner_reads TwoK is r = absurd cc
inner_reads FourK is r = r

pub inner_refuses : (p : Profile) (x : List ℕ) (a : ℕ) (r : CertRefusal) → p ≡ FourK
    → Refuses (budget p Inner) x a r → Refuses (inner_budget p) x a r
inner_refuses TwoK x a r is s = absurd cc
inner_refuses FourK x a r is s = s

-- the budgets

abbrev tail2 : Profile → Form (Field × Field)
tail2 p = both (budget p C1) (λ c1. budget p C2)

abbrev tail3 : Profile → Form (Field × (Field × Field))
tail3 p = both (budget p C0) (λ c0. tail2 p)

abbrev tail4 : Profile → Form (Field × (Field × (Field × Field)))
tail4 p = both (inner_budget p) (λ inner. tail3 p)

tail2_some : (p : Profile) → HasSome (tail2 p)
tail2_some p = both_some (budget p C1) (λ c1. budget p C2) (budget_some p C1)
    (λ c1. budget_some p C2)

tail3_some : (p : Profile) → HasSome (tail3 p)
tail3_some p = both_some (budget p C0) (λ c0. tail2 p) (budget_some p C0) (λ c0. tail2_some p)

tail4_some : (p : Profile) → HasSome (tail4 p)
tail4_some p = both_some (inner_budget p) (λ inner. tail3 p) (inner_some p) (λ inner. tail3_some p)

pub budgets_some : (p : Profile) → HasSome (budgets p)
budgets_some p = both_some (budget p Frame) (λ frame. tail4 p) (budget_some p Frame)
    (λ frame. tail4_some p)

pub budgets_read : (p : Profile) {x : List ℕ} {a b c d e f : ℕ} {f0 f1 f2 f3 f4 : Field}
    → Reads (budget p Frame) x a f0 b → Reads (inner_budget p) x b f1 c → Reads (budget p C0) x c f2
    d
    → Reads (budget p C1) x d f3 e → Reads (budget p C2) x e f4 f → Reads (budgets p) x a
    (f0, (f1, (f2, (f3, f4)))) f
budgets_read p r0 r1 r2 r3 r4 =
    both_reads (budget p Frame) (λ frame. tail4 p) r0
    (both_reads (inner_budget p) (λ inner. tail3 p) r1
    (both_reads (budget p C0) (λ c0. tail2 p) r2 (both_reads (budget p C1) (λ c1. budget p C2) r3
    r4)))

pub budgets_refuse_frame : (p : Profile) (x : List ℕ) (a : ℕ) (e : CertRefusal)
    → Refuses (budget p Frame) x a e → Refuses (budgets p) x a e
budgets_refuse_frame p x a e r = first_refuses (budget p Frame) (λ frame. tail4 p) x a e
    (λ frame. tail4_some p) r

pub budgets_refuse_inner : (p : Profile) {x : List ℕ} {a b : ℕ} {f0 : Field} (e : CertRefusal)
    → Reads (budget p Frame) x a f0 b → Refuses (inner_budget p) x b e → Refuses (budgets p) x a e
budgets_refuse_inner p {x} {b = b} e r0 r = both_refuses (budget p Frame) (λ frame. tail4 p) e r0
    (first_refuses (inner_budget p) (λ inner. tail3 p) x b e (λ inner. tail3_some p) r)

pub budgets_refuse_c0 : (p : Profile) {x : List ℕ} {a b c : ℕ} {f0 f1 : Field} (e : CertRefusal)
    → Reads (budget p Frame) x a f0 b → Reads (inner_budget p) x b f1 c → Refuses (budget p C0) x c
    e → Refuses (budgets p) x a e
budgets_refuse_c0 p {x} {c = c} e r0 r1 r = both_refuses (budget p Frame) (λ frame. tail4 p) e r0
    (both_refuses (inner_budget p) (λ inner. tail3 p) e r1
    (first_refuses (budget p C0) (λ c0. tail2 p) x c e (λ c0. tail2_some p) r))

pub budgets_refuse_c1 : (p : Profile) {x : List ℕ} {a b c d : ℕ} {f0 f1 f2 : Field}
    (e : CertRefusal)
    → Reads (budget p Frame) x a f0 b → Reads (inner_budget p) x b f1 c → Reads (budget p C0) x c f2
    d
    → Refuses (budget p C1) x d e → Refuses (budgets p) x a e
budgets_refuse_c1 p {x} {d = d} e r0 r1 r2 r = both_refuses (budget p Frame) (λ frame. tail4 p) e r0
    (both_refuses (inner_budget p) (λ inner. tail3 p) e r1
    (both_refuses (budget p C0) (λ c0. tail2 p) e r2
    (first_refuses (budget p C1) (λ c1. budget p C2) x d e (λ c1. budget_some p C2) r)))

pub budgets_refuse_c2 : (p : Profile) {x : List ℕ} {a b c d g : ℕ} {f0 f1 f2 f3 : Field}
    (e : CertRefusal)
    → Reads (budget p Frame) x a f0 b → Reads (inner_budget p) x b f1 c → Reads (budget p C0) x c f2
    d
    → Reads (budget p C1) x d f3 g → Refuses (budget p C2) x g e → Refuses (budgets p) x a e
budgets_refuse_c2 p e r0 r1 r2 r3 r = both_refuses (budget p Frame) (λ frame. tail4 p) e r0
    (both_refuses (inner_budget p) (λ inner. tail3 p) e r1
    (both_refuses (budget p C0) (λ c0. tail2 p) e r2
    (both_refuses (budget p C1) (λ c1. budget p C2) e r3 r)))

-- the sums

abbrev wide : List ℕ → Form ℕ
wide label = labelled label 0 (2 ^ 128 - 1)

abbrev passes : Form ℕ
passes = labelled (codes " passes=") 0 (2 ^ 64 - 1)

abbrev sums2 : Form (ℕ × ℕ)
sums2 = both (wide (codes " distortion=")) (λ d. wide (codes " gap="))

abbrev sums3 : Form (ℕ × (ℕ × ℕ))
sums3 = both (wide (codes " empty=")) (λ u. sums2)

wide_some : (label : List ℕ) → HasSome (wide label)
wide_some label = labelled_some label 0 (2 ^ 128 - 1) (omega arith)

sums2_some : HasSome sums2
sums2_some = both_some (wide (codes " distortion=")) (λ d. wide (codes " gap="))
    (wide_some (codes " distortion=")) (λ d. wide_some (codes " gap="))

sums3_some : HasSome sums3
sums3_some = both_some (wide (codes " empty=")) (λ u. sums2) (wide_some (codes " empty="))
    (λ u. sums2_some)

pub sums_some : HasSome sums
sums_some = both_some passes (λ n. sums3) (labelled_some (codes " passes=") 0 (2 ^ 64 - 1)
    (omega arith)) (λ n. sums3_some)

pub sums_read : {x : List ℕ} {a b c d e n u t g : ℕ} → Reads passes x a n b
    → Reads (wide (codes " empty=")) x b u c
    → Reads (wide (codes " distortion=")) x c t d → Reads (wide (codes " gap=")) x d g e
    → Reads sums x a (n, (u, (t, g))) e
sums_read r0 r1 r2 r3 = both_reads passes (λ n. sums3) r0 (both_reads (wide (codes " empty="))
    (λ u. sums2) r1
    (both_reads (wide (codes " distortion=")) (λ t. wide (codes " gap=")) r2 r3))

pub sums_refuse_passes : (x : List ℕ) (a : ℕ) (e : CertRefusal) → Refuses passes x a e
    → Refuses sums x a e
sums_refuse_passes x a e r = first_refuses passes (λ n. sums3) x a e (λ n. sums3_some) r

pub sums_refuse_empty : {x : List ℕ} {a b n : ℕ} (e : CertRefusal) → Reads passes x a n b
    → Refuses (wide (codes " empty=")) x b e → Refuses sums x a e
sums_refuse_empty {x} {b = b} e r0 r = both_refuses passes (λ n. sums3) e r0
    (first_refuses (wide (codes " empty=")) (λ u. sums2) x b e (λ u. sums2_some) r)

pub sums_refuse_distortion : {x : List ℕ} {a b c n u : ℕ} (e : CertRefusal) → Reads passes x a n b
    → Reads (wide (codes " empty=")) x b u c
    → Refuses (wide (codes " distortion=")) x c e → Refuses sums x a e
sums_refuse_distortion {x} {c = c} e r0 r1 r = both_refuses passes (λ n. sums3) e r0
    (both_refuses (wide (codes " empty=")) (λ u. sums2) e r1
    (first_refuses (wide (codes " distortion=")) (λ t. wide (codes " gap=")) x c e
    (λ t. wide_some (codes " gap=")) r))

pub sums_refuse_gap : {x : List ℕ} {a b c d n u t : ℕ} (e : CertRefusal) → Reads passes x a n b
    → Reads (wide (codes " empty=")) x b u c
    → Reads (wide (codes " distortion=")) x c t d → Refuses (wide (codes " gap=")) x d e
    → Refuses sums x a e
sums_refuse_gap e r0 r1 r2 r = both_refuses passes (λ n. sums3) e r0
    (both_refuses (wide (codes " empty=")) (λ u. sums2) e r1
    (both_refuses (wide (codes " distortion=")) (λ t. wide (codes " gap=")) e r2 r))

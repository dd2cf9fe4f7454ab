-- Characters in UTF-8, byte by byte.
use Rattle.std.proofs.Common.{ℕ, ◌≡◌, ◌≢◌, ◌-◌, ◌<◌, ◌≤◌, ◌==◌}
use Rattle.std.proofs.Common.{List, [], ◌∷◌, Some, None}
use Rattle.std.proofs.Common.{refl, ap, sym, subst, ◌∙◌, arith, inl, inr, true, false, nat_lt}
use Rattle.std.proofs.lemmas.Bool.{cases_eq, cases_lt, lt-ltb, le-ltb, eq-eqb, ne_eqb}
use Rattle.cert_text.specs.Characters.{between, begun, after, Ends, IsSound}
use Rattle.cert_text.specs.declared.characters.Character.{Character}

-- the state with so many bytes left
abbrev pub state : ℕ → ℕ → ℕ → Character
state left least most = record { left = left; least = least; most = most }

-- first bytes

pub begun_ascii : (b : ℕ) → b < 128 → begun b ≡ Some between
begun_ascii b hi = let e : nat_lt b 128 ≡ true = lt-ltb b 128 hi in rw e refl

pub begun_two : (b : ℕ) → 194 ≤ b → b < 224 → begun b ≡ Some (state 1 128 191)
begun_two b lo hi =
    let e1 : nat_lt b 128 ≡ false = le-ltb b 128 (omega arith) in
    let e2 : nat_lt b 194 ≡ false = le-ltb b 194 lo in
    let e3 : nat_lt b 224 ≡ true = lt-ltb b 224 hi in
    rw (e1, e2, e3) refl

pub begun_three : (b : ℕ) → 224 < b → b < 240 → b ≢ 237 → begun b ≡ Some (state 2 128 191)
begun_three b lo hi other =
    let e1 : nat_lt b 128 ≡ false = le-ltb b 128 (omega arith) in
    let e2 : nat_lt b 194 ≡ false = le-ltb b 194 (omega arith) in
    let e3 : nat_lt b 224 ≡ false = le-ltb b 224 (omega arith) in
    let e4 : (b == 224) ≡ false = ne_eqb b 224 (omega arith) in
    let e5 : (b == 237) ≡ false = ne_eqb b 237 other in
    let e6 : nat_lt b 240 ≡ true = lt-ltb b 240 hi in
    rw (e1, e2, e3, e4, e5, e6) refl

pub begun_four : (b : ℕ) → 240 < b → b < 244 → begun b ≡ Some (state 3 128 191)
begun_four b lo hi =
    let e1 : nat_lt b 128 ≡ false = le-ltb b 128 (omega arith) in
    let e2 : nat_lt b 194 ≡ false = le-ltb b 194 (omega arith) in
    let e3 : nat_lt b 224 ≡ false = le-ltb b 224 (omega arith) in
    let e4 : (b == 224) ≡ false = ne_eqb b 224 (omega arith) in
    let e5 : (b == 237) ≡ false = ne_eqb b 237 (omega arith) in
    let e6 : nat_lt b 240 ≡ false = le-ltb b 240 (omega arith) in
    let e7 : (b == 240) ≡ false = ne_eqb b 240 (omega arith) in
    let e8 : nat_lt b 244 ≡ true = lt-ltb b 244 hi in
    rw (e1, e2, e3, e4, e5, e6, e7, e8) refl

begun_low : (b : ℕ) → 128 ≤ b → b < 194 → begun b ≡ None
begun_low b lo hi =
    let e1 : nat_lt b 128 ≡ false = le-ltb b 128 lo in
    let e2 : nat_lt b 194 ≡ true = lt-ltb b 194 hi in
    rw (e1, e2) refl

begun_high : (b : ℕ) → 244 < b → begun b ≡ None
begun_high b lo =
    let e1 : nat_lt b 128 ≡ false = le-ltb b 128 (omega arith) in
    let e2 : nat_lt b 194 ≡ false = le-ltb b 194 (omega arith) in
    let e3 : nat_lt b 224 ≡ false = le-ltb b 224 (omega arith) in
    let e4 : (b == 224) ≡ false = ne_eqb b 224 (omega arith) in
    let e5 : (b == 237) ≡ false = ne_eqb b 237 (omega arith) in
    let e6 : nat_lt b 240 ≡ false = le-ltb b 240 (omega arith) in
    let e7 : (b == 240) ≡ false = ne_eqb b 240 (omega arith) in
    let e8 : nat_lt b 244 ≡ false = le-ltb b 244 (omega arith) in
    let e9 : (b == 244) ≡ false = ne_eqb b 244 (omega arith) in
    rw (e1, e2, e3, e4, e5, e6, e7, e8, e9) refl

-- what a first byte leaves
pub record Leads (b : ℕ) (next : Character) : Type 0 where
  pub one : b < 128 → next ≡ between
  pub two : 128 ≤ b → b < 224 → (194 ≤ b) ×
      ((next.left ≡ 1) × ((128 ≤ next.least) × (next.most ≤ 191)))
  pub three : 224 ≤ b → b < 240 → (next.left ≡ 2) ×
      ((128 ≤ next.least) ×
      ((next.most ≤ 191) × ((b ≡ 224 → 160 ≤ next.least) × (b ≡ 237 → next.most ≤ 159))))
  pub four : 240 ≤ b → (b < 245) ×
      ((next.left ≡ 3) × ((128 ≤ next.least) ×
      ((next.most ≤ 191) × ((b ≡ 240 → 144 ≤ next.least) × (b ≡ 244 → next.most ≤ 143)))))
  pub some : next.least ≤ next.most

some_same : {s t : Character} → Some s ≡ Some t → s ≡ t
some_same e = cc

pub leads : (b : ℕ) (next : Character) → begun b ≡ Some next → Leads b next
leads b next e = elim (cases_lt b 128) [
  | inl ascii ↦ subst (λ (s : Character). Leads b s) (some_same (sym (begun_ascii b ascii) ∙ e))
      (record {
        one = λ h. refl;
        two = λ lo hi. absurd (omega arith);
        three = λ lo hi. absurd (omega arith);
        four = λ lo. absurd (omega arith);
        some = omega arith;
      })
  | inr past ↦ elim (cases_lt b 194) [
    | inl low ↦ let none : None ≡ Some next = sym (begun_low b past low) ∙ e in absurd cc
    | inr past2 ↦ elim (cases_lt b 224) [
      | inl two ↦ subst (λ (s : Character). Leads b s) (some_same (sym (begun_two b past2 two) ∙ e))
          (record {
            one = λ h. absurd (omega arith);
            two
                = λ lo hi. (past2, (refl, (omega arith, omega arith)));
            three = λ lo hi. absurd
                (omega arith);
            four = λ lo. absurd (omega arith);
            some = omega arith;
          })
      | inr past3 ↦ elim (cases_lt b 240) [
        | inl three ↦ elim (cases_eq b 224) [
          | inl e0 ↦ subst (λ (s : Character). Leads b s)
              (some_same (subst (λ (k : ℕ). Some (state 2 160 191) ≡ begun k) (sym e0) refl ∙ e))
              (record {
                one = λ h. absurd (omega arith);
                two = λ lo hi. absurd (omega arith);
                three
                    = λ lo hi. (
                      refl,
                      (
                        omega arith,
                        (omega arith, (λ h. omega arith, λ h. omega arith)),
                      ),
                    );
                four = λ lo. absurd
                    (omega arith);
                some = omega arith;
              })
          | inr n0 ↦ elim (cases_eq b 237) [
            | inl ed ↦ subst (λ (s : Character). Leads b s)
                (some_same (subst (λ (k : ℕ). Some (state 2 128 159) ≡ begun k) (sym ed) refl ∙ e))
                (record {
                  one = λ h. absurd (omega arith);
                  two = λ lo hi. absurd (omega arith);
                  three
                      = λ lo hi. (
                        refl,
                        (
                          omega arith,
                          (omega arith, (λ h. absurd (n0 h), λ h. omega arith)),
                        ),
                      );
                  four = λ lo. absurd
                      (omega arith);
                  some = omega arith;
                })
            | inr nd ↦ subst (λ (s : Character). Leads b s)
                (some_same (sym (begun_three b (omega arith) three nd) ∙ e)) (record {
                  one = λ h. absurd (omega arith);
                  two = λ lo hi. absurd (omega arith);
                  three
                      = λ lo hi. (
                        refl,
                        (
                          omega arith,
                          (omega arith, (λ h. absurd (n0 h), λ h. absurd (nd h))),
                        ),
                      );
                  four = λ lo. absurd
                      (omega arith);
                  some = omega arith;
                })
          ]
        ]
        | inr past4 ↦ elim (cases_lt 244 b) [
          | inl high ↦ let none : None ≡ Some next = sym (begun_high b high) ∙ e in absurd cc
          | inr four ↦ elim (cases_eq b 240) [
            | inl f0 ↦ subst (λ (s : Character). Leads b s)
                (some_same (subst (λ (k : ℕ). Some (state 3 144 191) ≡ begun k) (sym f0) refl ∙ e))
                (record {
                  one = λ h. absurd (omega arith);
                  two = λ lo hi. absurd (omega arith);
                  three
                      = λ lo hi. absurd (omega arith);
                  four
                      = λ lo. (
                        omega arith,
                        (refl, (omega arith, (omega arith, (λ h. omega arith, λ h. omega arith)))),
                      );
                  some = omega arith;
                })
            | inr n0 ↦ elim (cases_eq b 244) [
              | inl f4 ↦ subst (λ (s : Character). Leads b s)
                  (some_same (subst (λ (k : ℕ). Some (state 3 128 143) ≡ begun k) (sym f4) refl
                  ∙ e)) (record {
                    one = λ h. absurd (omega arith);
                    two = λ lo hi. absurd (omega arith);
                    three
                        = λ lo hi. absurd (omega arith);
                    four
                        = λ lo. (
                          omega arith,
                          (
                            refl,
                            (
                              omega arith,
                              (omega arith, (λ h. absurd (n0 h), λ h. omega arith)),
                            ),
                          ),
                        );
                    some = omega arith;
                  })
              | inr n4 ↦ subst (λ (s : Character). Leads b s)
                  (some_same (sym (begun_four b (omega arith) (omega arith)) ∙ e)) (record {
                    one = λ h. absurd (omega arith);
                    two = λ lo hi. absurd (omega arith);
                    three
                        = λ lo hi. absurd (omega arith);
                    four
                        = λ lo. (
                          omega arith,
                          (
                            refl,
                            (
                              omega arith,
                              (omega arith, (λ h. absurd (n0 h), λ h. absurd (n4 h))),
                            ),
                          ),
                        );
                    some
                        = omega arith;
                  })
            ]
          ]
        ]
      ]
    ]
  ]
]

pub between_ends : (b : ℕ) → b < 128 → Ends between (b ∷ [])
between_ends b hi = (omega arith, (between, (begun_ascii b hi, refl)))

-- later bytes

pub after_none_left : (s : Character) (b : ℕ) → s.left ≡ 0 → after s b ≡ begun b
after_none_left s b e = let t : (s.left == 0) ≡ true = eq-eqb s.left 0 e in rw t refl

pub after_last : (s : Character) (b : ℕ) → s.left ≡ 1 → s.least ≤ b → b ≤ s.most → after s b
    ≡ Some between
after_last s b e lo hi =
    let e1 : (s.left == 0) ≡ false = ne_eqb s.left 0 (omega arith) in
    let e2 : nat_lt b s.least ≡ false = le-ltb b s.least lo in
    let e3 : nat_lt s.most b ≡ false = le-ltb s.most b hi in
    let e4 : (s.left == 1) ≡ true = eq-eqb s.left 1 e in
    rw (e1, e2, e3, e4) refl

pub after_next : (s : Character) (b : ℕ) → 1 < s.left → s.least ≤ b → b ≤ s.most → after s b
    ≡ Some (state (s.left - 1) 128 191)
after_next s b e lo hi =
    let e1 : (s.left == 0) ≡ false = ne_eqb s.left 0 (omega arith) in
    let e2 : nat_lt b s.least ≡ false = le-ltb b s.least lo in
    let e3 : nat_lt s.most b ≡ false = le-ltb s.most b hi in
    let e4 : (s.left == 1) ≡ false = ne_eqb s.left 1 (omega arith) in
    rw (e1, e2, e3, e4) refl

after_below : (s : Character) (b : ℕ) → 0 < s.left → b < s.least → after s b ≡ None
after_below s b e lo =
    let e1 : (s.left == 0) ≡ false = ne_eqb s.left 0 (omega arith) in
    let e2 : nat_lt b s.least ≡ true = lt-ltb b s.least lo in
    rw (e1, e2) refl

after_above : (s : Character) (b : ℕ) → 0 < s.left → s.least ≤ b → s.most < b → after s b ≡ None
after_above s b e lo hi =
    let e1 : (s.left == 0) ≡ false = ne_eqb s.left 0 (omega arith) in
    let e2 : nat_lt b s.least ≡ false = le-ltb b s.least lo in
    let e3 : nat_lt s.most b ≡ true = lt-ltb s.most b hi in
    rw (e1, e2, e3) refl

pub in_range : (s : Character) (b : ℕ) (next : Character) → 0 < s.left → after s b ≡ Some next
    → (s.least ≤ b) × (b ≤ s.most)
in_range s b next e step = elim (cases_lt b s.least) [
  | inl low ↦ let none : None ≡ Some next = sym (after_below s b e low) ∙ step in absurd cc
  | inr lo ↦ elim (cases_lt s.most b) [
    | inl high ↦ let none : None ≡ Some next = sym (after_above s b e lo high) ∙ step in absurd cc
    | inr hi ↦ (lo, hi)
  ]
]

pub next_last : (s : Character) (b : ℕ) (next : Character) → s.left ≡ 1 → after s b ≡ Some next
    → between ≡ next
next_last s b next e step =
    let r : (s.least ≤ b) × (b ≤ s.most) = in_range s b next (omega arith) step in
    some_same (sym (after_last s b e r.0 r.1) ∙ step)

pub next_more : (s : Character) (b : ℕ) (next : Character) → 1 < s.left → after s b ≡ Some next
    → state (s.left - 1) 128 191 ≡ next
next_more s b next e step =
    let r : (s.least ≤ b) × (b ≤ s.most) = in_range s b next (omega arith) step in
    some_same (sym (after_next s b e r.0 r.1) ∙ step)

-- each state that is reached can be completed

pub sound_next : (s : Character) (b : ℕ) (next : Character) → IsSound s → after s b ≡ Some next
    → IsSound next
sound_next s b next sound step = elim (cases_eq s.left 0) [
  | inl none ↦
      let l : Leads b next = leads b next (sym (after_none_left s b none) ∙ step) in
      let some : next.least ≤ next.most = l.some in
      elim (cases_lt b 128) [
        | inl ascii ↦ inl (ap (λ (t : Character). t.left) (l.one ascii))
        | inr past ↦ elim (cases_lt b 224) [
          | inl two ↦ let t = l.two past two in inr (
            omega (arith, t.1.0),
            t.1.1.0,
            some,
            omega
                (arith, t.1.1.1),
          )
          | inr past2 ↦ elim (cases_lt b 240) [
            | inl three ↦ let t = l.three past2 three in inr (
              omega (arith, t.0),
              t.1.0,
              some,
              omega
                  (arith, t.1.1.0),
            )
            | inr four ↦ let t = l.four four in inr (
              omega (arith, t.1.0),
              t.1.1.0,
              some,
              omega
                  (arith, t.1.1.1.0),
            )
          ]
        ]
      ]
  | inr left ↦ elim sound [
    | inl none ↦ absurd (left none)
    | inr range ↦ elim (cases_eq s.left 1) [
      | inl last ↦ inl (ap (λ (t : Character). t.left) (sym (next_last s b next last step)))
      | inr more ↦ subst (λ (t : Character). IsSound t) (next_more s b next (omega arith) step)
          (inr (omega (arith, range.0), omega arith, omega arith, omega arith))
    ]
  ]
]

-- bytes that complete a state, at least one
pub completed : (s : Character) → IsSound s → (b : ℕ) × ((bytes : List ℕ) × Ends s (b ∷ bytes))
completed s sound = elim (cases_eq s.left 0) [
  | inl none ↦ (97, ([], (omega arith, (between, (after_none_left s 97 none, refl)))))
  | inr left ↦ elim sound [
    | inl none ↦ absurd (left none)
    | inr range ↦ elim (cases_eq s.left 1) [
      | inl last ↦ (
        s.least,
        (
          [],
          (
            omega (arith, range.2, range.3),
            (between, (after_last s s.least last (omega arith) range.2, refl)),
          ),
        ),
      )
      | inr more ↦ elim (cases_eq s.left 2) [
        | inl two ↦ (
          s.least,
          (
            128 ∷ [],
            (
              omega (arith, range.2, range.3),
              (
                state 1 128 191,
                (
                  after_next s s.least (omega arith) (omega arith) range.2
                      ∙ ap (λ (k : ℕ). Some (state (k - 1) 128 191)) two,
                  (
                    omega arith,
                    (
                      between,
                      (
                        after_last (state 1 128 191) 128 refl (omega arith)
                            (omega arith),
                        refl,
                      ),
                    ),
                  ),
                ),
              ),
            ),
          ),
        )
        | inr three ↦
            let is : s.left ≡ 3 = omega (arith, range.0) in (
              s.least,
              (
                128 ∷ 128 ∷ [],
                (
                  omega (arith, range.2, range.3),
                  (
                    state 2 128 191,
                    (
                      after_next s s.least (omega arith) (omega arith) range.2
                          ∙ ap (λ (k : ℕ). Some (state (k - 1) 128 191)) is,
                      (
                        omega arith,
                        (
                          state 1 128 191,
                          (
                            after_next (state 2 128 191) 128 (omega arith)
                                (omega arith) (omega arith),
                            (
                              omega arith,
                              (
                                between,
                                (
                                  after_last (state 1 128 191) 128 refl (omega arith)
                                      (omega arith),
                                  refl,
                                ),
                              ),
                            ),
                          ),
                        ),
                      ),
                    ),
                  ),
                ),
              ),
            )
      ]
    ]
  ]
]

-- Texts in UTF-8, and bytes that end their characters.
use Rattle.std.proofs.Common.{ℕ, ◌≡◌, ◌+◌, ◌-◌, ◌*◌, ◌/◌, ◌%◌, ◌<◌, ◌≤◌, ◌++◌, ◌⊎◌}
use Rattle.std.proofs.Common.{List, [], ◌∷◌, Some}
use Rattle.std.proofs.Common.{refl, ap, sym, subst, ◌∙◌, arith, inl, inr, true, false, nat_lt}
use Rattle.std.proofs.Common.{leb, IsUtf8}
use Rattle.std.proofs.lemmas.Bool.{cases_eq, cases_lt, lt-ltb, le-ltb, le-leb}
use Rattle.std.proofs.lemmas.Bool.{and_parts}
use Rattle.std.proofs.lemmas.Str.{IsUtf8-append, IsUtf8-nil, IsUtf8-encode, encode_ascii}
use lib.Utf8.{scalar, scalars, encode, encodes, scalar_cases, low_scalar}
use Rattle.cert_text.specs.Characters.{between, begun, after, Ends}
use Rattle.cert_text.specs.declared.characters.Character.{Character}
use Rattle.cert_text.proofs.Utf8.{state, begun_ascii, begun_two, begun_three, begun_four, Leads}
use Rattle.cert_text.proofs.Utf8.{leads}
use Rattle.cert_text.proofs.Utf8.{after_none_left, after_last, after_next, in_range, next_last}
use Rattle.cert_text.proofs.Utf8.{next_more}

-- the bytes of one character

encode_two : (c b k : ℕ) → 128 ≤ c → c < 2048 → 192 + c / 64 ≡ b → 128 + c % 64 ≡ k → encode c
    ≡ b ∷ k ∷ []
unfolding encode
encode_two c b k lo hi eb ek =
    let e1 : nat_lt c 128 ≡ false = le-ltb c 128 lo in
    let e2 : nat_lt c 2048 ≡ true = lt-ltb c 2048 hi in
    rw (e1, e2, eb, ek) refl

encode_three : (c b k l : ℕ) → 2048 ≤ c → c < 65536 → 224 + c / 4096 ≡ b → 128 + c / 64 % 64 ≡ k
    → 128 + c % 64 ≡ l
    → encode c ≡ b ∷ k ∷ l ∷ []
unfolding encode
encode_three c b k l lo hi eb ek el =
    let e1 : nat_lt c 128 ≡ false = le-ltb c 128 (omega arith) in
    let e2 : nat_lt c 2048 ≡ false = le-ltb c 2048 lo in
    let e3 : nat_lt c 65536 ≡ true = lt-ltb c 65536 hi in
    rw (e1, e2, e3, eb, ek, el) refl

encode_four : (c b k l m : ℕ) → 65536 ≤ c → 240 + c / 262144 ≡ b → 128 + c / 4096 % 64 ≡ k
    → 128 + c / 64 % 64 ≡ l → 128 + c % 64 ≡ m
    → encode c ≡ b ∷ k ∷ l ∷ m ∷ []
unfolding encode
encode_four c b k l m lo eb ek el em =
    let e1 : nat_lt c 128 ≡ false = le-ltb c 128 (omega arith) in
    let e2 : nat_lt c 2048 ≡ false = le-ltb c 2048 (omega arith) in
    let e3 : nat_lt c 65536 ≡ false = le-ltb c 65536 lo in
    rw (e1, e2, e3, eb, ek, el, em) refl

-- a text in UTF-8 ends its characters

leads_two : (b k : ℕ) (more : List ℕ) → 194 ≤ b → b < 224 → 128 ≤ k → k ≤ 191 → Ends between more
    → Ends between (b ∷ k ∷ more)
leads_two b k more lo hi lk hk e = (
  omega arith,
  (
    state 1 128 191,
    (
      begun_two b lo hi,
      (omega arith, (between, (after_last (state 1 128 191) k refl lk hk, e))),
    ),
  ),
)

then_two : (s : Character) (k l : ℕ) (more : List ℕ) → s.left ≡ 2 → s.least ≤ k → k ≤ s.most
    → k < 256 → 128 ≤ l → l ≤ 191
    → Ends between more → Ends s (k ∷ l ∷ more)
then_two s k l more e lo hi small ll hl ends = (
  small,
  (
    state 1 128 191,
    (
      after_next s k (omega arith) lo hi ∙ ap (λ (n : ℕ). Some (state (n - 1) 128 191)) e,
      (omega arith, (between, (after_last (state 1 128 191) l refl ll hl, ends))),
    ),
  ),
)

leads_three : (b k l : ℕ) (more : List ℕ) → 224 ≤ b → b < 240 → 128 ≤ k → k ≤ 191
    → (b ≡ 224 → 160 ≤ k) → (b ≡ 237 → k ≤ 159)
    → 128 ≤ l → l ≤ 191 → Ends between more → Ends between (b ∷ k ∷ l ∷ more)
leads_three b k l more lo hi lk hk e0 ed ll hl e = elim (cases_eq b 224) [
  | inl is ↦ (
    omega arith,
    (
      state 2 160 191,
      (
        subst (λ (n : ℕ). begun n ≡ Some (state 2 160 191))
            (sym is) refl,
        then_two (state 2 160 191) k l more refl (e0 is) hk (omega arith) ll hl e,
      ),
    ),
  )
  | inr n0 ↦ elim (cases_eq b 237) [
    | inl is ↦ (
      omega arith,
      (
        state 2 128 159,
        (
          subst (λ (n : ℕ). begun n ≡ Some (state 2 128 159))
              (sym is) refl,
          then_two (state 2 128 159) k l more refl lk (ed is) (omega arith) ll hl e,
        ),
      ),
    )
    | inr nd ↦ (
      omega arith,
      (
        state 2 128 191,
        (
          begun_three b (omega arith) hi nd,
          then_two (state 2 128 191) k l more refl lk hk (omega arith) ll hl e,
        ),
      ),
    )
  ]
]

then_three : (s : Character) (k l m : ℕ) (more : List ℕ) → s.left ≡ 3 → s.least ≤ k → k ≤ s.most
    → k < 256 → 128 ≤ l → l ≤ 191
    → 128 ≤ m → m ≤ 191 → Ends between more → Ends s (k ∷ l ∷ m ∷ more)
then_three s k l m more e lo hi small ll hl lm hm ends = (
  small,
  (
    state 2 128 191,
    (
      after_next s k (omega arith) lo hi ∙ ap (λ (n : ℕ). Some (state (n - 1) 128 191)) e,
      then_two (state 2 128 191) l m more refl ll hl (omega arith) lm hm ends,
    ),
  ),
)

leads_four : (b k l m : ℕ) (more : List ℕ) → 240 ≤ b → b < 245 → 128 ≤ k → k ≤ 191
    → (b ≡ 240 → 144 ≤ k) → (b ≡ 244 → k ≤ 143)
    → 128 ≤ l → l ≤ 191 → 128 ≤ m → m ≤ 191 → Ends between more → Ends between
    (b ∷ k ∷ l ∷ m ∷ more)
leads_four b k l m more lo hi lk hk f0 f4 ll hl lm hm e = elim (cases_eq b 240) [
  | inl is ↦ (
    omega arith,
    (
      state 3 144 191,
      (
        subst (λ (n : ℕ). begun n ≡ Some (state 3 144 191))
            (sym is) refl,
        then_three (state 3 144 191) k l m more refl (f0 is) hk (omega arith) ll hl lm hm e,
      ),
    ),
  )
  | inr n0 ↦ elim (cases_eq b 244) [
    | inl is ↦ (
      omega arith,
      (
        state 3 128 143,
        (
          subst (λ (n : ℕ). begun n ≡ Some (state 3 128 143))
              (sym is) refl,
          then_three (state 3 128 143) k l m more refl lk (f4 is) (omega arith) ll hl lm hm e,
        ),
      ),
    )
    | inr n4 ↦ (
      omega arith,
      (
        state 3 128 191,
        (
          begun_four b (omega arith) (omega arith),
          then_three (state 3 128 191) k l m more refl lk hk (omega arith) ll hl lm hm e,
        ),
      ),
    )
  ]
]

-- the ranges of the bytes of a character, by arithmetic
low_three : (c : ℕ) → 2048 ≤ c → 224 + c / 4096 ≡ 224 → 160 ≤ 128 + c / 64 % 64
low_three c lo e =
    let small : c < 4096 = omega arith in
    let whole : c / 64 % 64 ≡ c / 64 = omega arith in
    omega arith

no_surrogate : (c : ℕ) → ((c < 55296) ⊎ ((57344 ≤ c) × (c < 1114112))) → 224 + c / 4096 ≡ 237
    → 128 + c / 64 % 64 ≤ 159
no_surrogate c scalar e =
    let quotient : c / 4096 ≡ 13 = omega arith in
    let lo : 53248 ≤ c = omega arith in
    let hi : c < 57344 = omega arith in
    let below : c < 55296 = elim scalar [ inl h ↦ h | inr h ↦ absurd (omega (arith, h.0)) ] in
    let q : c / 64 < 864 = omega arith in
    let q0 : 832 ≤ c / 64 = omega arith in
    omega arith

low_four : (c : ℕ) → 65536 ≤ c → 240 + c / 262144 ≡ 240 → 144 ≤ 128 + c / 4096 % 64
low_four c lo e =
    let small : c < 262144 = omega arith in
    let q : c / 4096 < 64 = omega arith in
    omega arith

high_four : (c : ℕ) → c < 1114112 → 240 + c / 262144 ≡ 244 → 128 + c / 4096 % 64 ≤ 143
high_four c hi e =
    let lo : 1048576 ≤ c = omega arith in
    let q : c / 4096 < 272 = omega arith in
    let q0 : 256 ≤ c / 4096 = omega arith in
    omega arith

ends_char : (c : ℕ) (more : List ℕ) → scalar c ≡ true → Ends between more → Ends between
    (encode c ++ more)
ends_char c more sc e =
    let ranges : (c < 55296) ⊎ ((57344 ≤ c) × (c < 1114112)) = scalar_cases c sc in
    let small : c < 1114112 = elim ranges [ inl h ↦ omega arith | inr h ↦ h.1 ] in
    elim (cases_lt c 128) [
      | inl ascii ↦ subst (λ (cs : List ℕ). Ends between (cs ++ more)) (sym (encode_ascii c ascii))
          (omega arith, (between, (begun_ascii c ascii, e)))
      | inr past ↦ elim (cases_lt c 2048) [
        | inl two ↦ subst (λ (cs : List ℕ). Ends between (cs ++ more))
            (sym (encode_two c (192 + c / 64) (128 + c % 64) past two refl refl))
            (leads_two (192 + c / 64) (128 + c % 64) more (omega arith) (omega arith) (omega arith)
            (omega arith) e)
        | inr past2 ↦ elim (cases_lt c 65536) [
          | inl three ↦ subst (λ (cs : List ℕ). Ends between (cs ++ more))
              (sym (encode_three c (224 + c / 4096) (128 + c / 64 % 64) (128 + c % 64) past2 three
              refl refl refl))
              (leads_three (224 + c / 4096) (128 + c / 64 % 64) (128 + c % 64) more (omega arith)
              (omega arith) (omega arith) (omega arith)
              (low_three c past2) (no_surrogate c ranges) (omega arith) (omega arith) e)
          | inr four ↦ subst (λ (cs : List ℕ). Ends between (cs ++ more))
              (sym (encode_four c (240 + c / 262144) (128 + c / 4096 % 64) (128 + c / 64 % 64)
              (128 + c % 64) four refl refl refl refl))
              (leads_four (240 + c / 262144) (128 + c / 4096 % 64) (128 + c / 64 % 64)
              (128 + c % 64) more (omega arith) (omega arith) (omega arith) (omega arith)
              (low_four c four) (high_four c small) (omega arith) (omega arith) (omega arith)
              (omega arith) e)
        ]
      ]
    ]

ends_chars : (cs : List ℕ) → scalars cs ≡ true → Ends between (encodes cs)
ends_chars [] e = refl
ends_chars (c ∷ cs) e =
    let p = and_parts (scalar c) (scalars cs) e in
    ends_char c (encodes cs) p.0 (ends_chars cs p.1)

pub ends_utf8 : (bytes : List ℕ) → IsUtf8 bytes → Ends between bytes
ends_utf8 bytes u = subst (λ (bs : List ℕ). Ends between bs) u.1.1 (ends_chars u.0 u.1.0)

-- bytes that end their characters are UTF-8

record Tail (s : Character) (bytes : List ℕ) : Type 0 where
  pub zero : s.left ≡ 0 → IsUtf8 bytes
  pub one : s.left ≡ 1
      → (k : ℕ) × ((more : List ℕ) ×
      ((bytes ≡ k ∷ more) × ((s.least ≤ k) × ((k ≤ s.most) × IsUtf8 more))))
  pub two : s.left ≡ 2
      → (k : ℕ) × ((l : ℕ) ×
      ((more : List ℕ) × ((bytes ≡ k ∷ l ∷ more) ×
      ((s.least ≤ k) × ((k ≤ s.most) × ((128 ≤ l) × ((l ≤ 191) × IsUtf8 more)))))))
  pub three : s.left ≡ 3
      → (k : ℕ) × ((l : ℕ) ×
      ((m : ℕ) × ((more : List ℕ) × ((bytes ≡ k ∷ l ∷ m ∷ more) × ((s.least ≤ k) × ((k ≤ s.most)
      × ((128 ≤ l) × ((l ≤ 191) × ((128 ≤ m) × ((m ≤ 191) × IsUtf8 more))))))))))

char_then : (c : ℕ) (bytes more all : List ℕ) → scalar c ≡ true → encode c ≡ bytes → all
    ≡ bytes ++ more → IsUtf8 more → IsUtf8 all
char_then c bytes more all sc e whole u =
    subst IsUtf8 (sym whole) (subst (λ (bs : List ℕ). IsUtf8 (bs ++ more)) e
    (IsUtf8-append (encode c) more (IsUtf8-encode c sc) u))

high_scalar : (c : ℕ) → 57344 ≤ c → c < 1114112 → scalar c ≡ true
high_scalar c lo hi =
    let e1 : nat_lt c 55296 ≡ false = le-ltb c 55296 (omega arith) in
    let e3 : nat_lt c 1114112 ≡ true = lt-ltb c 1114112 hi in
    let e2 : leb 57344 c ≡ true = le-leb 57344 c lo in
    rw (e1, e2, e3) refl

tail_char : (b : ℕ) (bytes : List ℕ) (next : Character) → Leads b next → Tail next bytes
    → IsUtf8 (b ∷ bytes)
tail_char b bytes next l t = elim (cases_lt b 128) [
  | inl ascii ↦
      let u : IsUtf8 bytes = t.zero (ap (λ (s : Character). s.left) (l.one ascii)) in
      char_then b (b ∷ []) bytes (b ∷ bytes) (low_scalar b (omega arith)) (encode_ascii b ascii)
      refl u
  | inr past ↦ elim (cases_lt b 224) [
    | inl two ↦
        let f = l.two past two in
        let g = t.one f.1.0 in
        two_bytes b g.0 g.1.0 bytes f.0 two (omega (arith, f.1.1.0, g.1.1.1.0))
        (omega (arith, f.1.1.1, g.1.1.1.1.0)) g.1.1.0 g.1.1.1.1.1
    | inr past2 ↦ elim (cases_lt b 240) [
      | inl three ↦
          let f = l.three past2 three in
          let g = t.two f.0 in
          three_bytes b g.0 g.1.0 g.1.1.0 bytes past2 three (omega (arith, f.1.0, g.1.1.1.1.0))
          (omega (arith, f.1.1.0, g.1.1.1.1.1.0))
          (λ e. omega (arith, f.1.1.1.0 e, g.1.1.1.1.0))
          (λ e. omega (arith, f.1.1.1.1 e, g.1.1.1.1.1.0))
          g.1.1.1.1.1.1.0 g.1.1.1.1.1.1.1.0 g.1.1.1.0 g.1.1.1.1.1.1.1.1
      | inr four ↦
          let f = l.four four in
          let g = t.three f.1.0 in
          four_bytes b g.0 g.1.0 g.1.1.0 g.1.1.1.0 bytes four f.0
          (omega (arith, f.1.1.0, g.1.1.1.1.1.0)) (omega (arith, f.1.1.1.0, g.1.1.1.1.1.1.0))
          (λ e. omega (arith, f.1.1.1.1.0 e, g.1.1.1.1.1.0))
          (λ e. omega (arith, f.1.1.1.1.1 e, g.1.1.1.1.1.1.0))
          g.1.1.1.1.1.1.1.0 g.1.1.1.1.1.1.1.1.0 g.1.1.1.1.1.1.1.1.1.0 g.1.1.1.1.1.1.1.1.1.1.0
          g.1.1.1.1.0 g.1.1.1.1.1.1.1.1.1.1.1
    ]
  ]
]
  where
    two_bytes : (b k : ℕ) (more bytes : List ℕ) → 194 ≤ b → b < 224 → 128 ≤ k → k ≤ 191 → bytes
        ≡ k ∷ more → IsUtf8 more → IsUtf8 (b ∷ bytes)
    two_bytes b k more bytes lo hi lk hk e u =
        let c = (b - 192) * 64 + (k - 128) in
        char_then c (b ∷ k ∷ []) more (b ∷ bytes) (low_scalar c (omega arith))
        (encode_two c b k (omega arith) (omega arith) (omega arith) (omega arith))
        (ap (λ (bs : List ℕ). b ∷ bs) e) u

    three_bytes : (b k l : ℕ) (more bytes : List ℕ) → 224 ≤ b → b < 240 → 128 ≤ k → k ≤ 191
        → (b ≡ 224 → 160 ≤ k) → (b ≡ 237 → k ≤ 159)
        → 128 ≤ l → l ≤ 191 → bytes ≡ k ∷ l ∷ more → IsUtf8 more → IsUtf8 (b ∷ bytes)
    three_bytes b k l more bytes lo hi lk hk e0 ed ll hl e u =
        let c = (b - 224) * 4096 + (k - 128) * 64 + (l - 128) in
        let large : 2048 ≤ c = elim (cases_eq b 224) [
          | inl is ↦ omega (arith, e0 is)
          | inr other ↦
              omega arith
        ] in
        let small : c < 65536 = omega arith in
        let sc : scalar c ≡ true = elim (cases_lt c 55296) [
          | inl below ↦ low_scalar c below
          | inr above ↦ elim (cases_eq b 237) [
            | inl is ↦ absurd (omega (arith, ed is))
            | inr other ↦ high_scalar c (omega arith) (omega arith)
          ]
        ] in
        char_then c (b ∷ k ∷ l ∷ []) more (b ∷ bytes) sc
        (encode_three c b k l large small (omega arith) (omega arith) (omega arith))
        (ap (λ (bs : List ℕ). b ∷ bs) e) u

    four_bytes : (b k l m : ℕ) (more bytes : List ℕ) → 240 ≤ b → b < 245 → 128 ≤ k → k ≤ 191
        → (b ≡ 240 → 144 ≤ k) → (b ≡ 244 → k ≤ 143)
        → 128 ≤ l → l ≤ 191 → 128 ≤ m → m ≤ 191 → bytes ≡ k ∷ l ∷ m ∷ more → IsUtf8 more
        → IsUtf8 (b ∷ bytes)
    four_bytes b k l m more bytes lo hi lk hk f0 f4 ll hl lm hm e u =
        let c = (b - 240) * 262144 + (k - 128) * 4096 + (l - 128) * 64 + (m - 128) in
        let large : 65536 ≤ c = elim (cases_eq b 240) [
          | inl is ↦ omega (arith, f0 is)
          | inr other ↦
              omega arith
        ] in
        let small : c < 1114112 = elim (cases_eq b 244)
        [ inl is ↦ omega (arith, f4 is) | inr other ↦ omega arith ] in
        char_then c (b ∷ k ∷ l ∷ m ∷ []) more (b ∷ bytes) (high_scalar c (omega arith) small)
        (encode_four c b k l m large (omega arith) (omega arith) (omega arith) (omega arith))
        (ap (λ (bs : List ℕ). b ∷ bs) e) u

tail : (s : Character) (bytes : List ℕ) → Ends s bytes → Tail s bytes
tail s [] e =
    let none : s.left ≡ 0 = e in
    record {
      zero = λ h. IsUtf8-nil;
      one = λ h. absurd (omega arith);
      two = λ h. absurd (omega arith);
      three = λ h. absurd (omega arith);
    }
tail s (b ∷ bytes) e =
    let next : Character = e.1.0 in
    let step : after s b ≡ Some next = e.1.1.0 in
    let t : Tail next bytes = tail e.1.0 bytes e.1.1.1 in
    record {
      zero = λ h. tail_char b bytes next (leads b next (sym (after_none_left s b h) ∙ step)) t;
      one = λ h.
          let r : (s.least ≤ b) × (b ≤ s.most) = in_range s b next (omega arith) step in (
            b,
            (
              bytes,
              (
                refl,
                (
                  r.0,
                  (r.1, t.zero (ap (λ (u : Character). u.left) (sym (next_last s b next h step)))),
                ),
              ),
            ),
          );
      two = λ h.
          let r : (s.least ≤ b) × (b ≤ s.most) = in_range s b next (omega arith) step in
          let same : state (s.left - 1) 128 191 ≡ next = next_more s b next (omega arith) step in
          let u : Tail (state (s.left - 1) 128 191) bytes = subst (λ (v : Character). Tail v bytes)
          (sym same) t in
          let g = u.one (omega arith) in (
            b,
            (
              g.0,
              (
                g.1.0,
                (
                  ap (λ (bs : List ℕ). b ∷ bs) g.1.1.0,
                  (r.0, (r.1, (g.1.1.1.0, (g.1.1.1.1.0, g.1.1.1.1.1)))),
                ),
              ),
            ),
          );
      three = λ h.
          let r : (s.least ≤ b) × (b ≤ s.most) = in_range s b next (omega arith) step in
          let same : state (s.left - 1) 128 191 ≡ next = next_more s b next (omega arith) step in
          let u : Tail (state (s.left - 1) 128 191) bytes = subst (λ (v : Character). Tail v bytes)
          (sym same) t in
          let g = u.two (omega arith) in (
            b,
            (
              g.0,
              (
                g.1.0,
                (
                  g.1.1.0,
                  (
                    ap (λ (bs : List ℕ). b ∷ bs) g.1.1.1.0,
                    (
                      r.0,
                      (
                        r.1,
                        (
                          g.1.1.1.1.0,
                          (
                            g.1.1.1.1.1.0,
                            (g.1.1.1.1.1.1.0, (g.1.1.1.1.1.1.1.0, g.1.1.1.1.1.1.1.1)),
                          ),
                        ),
                      ),
                    ),
                  ),
                ),
              ),
            ),
          );
    }

pub utf8_ends : (bytes : List ℕ) → Ends between bytes → IsUtf8 bytes
utf8_ends bytes e = (tail between bytes e).zero refl

-- The name of a frame, read byte by byte.
use Rattle.std.proofs.Common.{ℕ, ◌≡◌, ◌≢◌, ◌+◌, ◌/◌, ◌%◌, ◌<◌, ◌≤◌, ◌++◌, ◌==◌}
use Rattle.std.proofs.Common.{List, [], ◌∷◌, Some, None, Bool, length, drop, get_or}
use Rattle.std.proofs.Common.{refl, ap, ap₂, sym, subst, ◌∙◌, arith, inl, inr, true, false, nat_lt}
use Rattle.std.proofs.Common.{nat_le, append_assoc, codes, Option, is_some}
use Rattle.std.proofs.lemmas.List.{append-nil}
use Rattle.std.proofs.lemmas.Bool.{cases_eq, cases_lt, cases_Bool, lt-ltb, le-ltb, le-leb, lt-leb}
use Rattle.std.proofs.lemmas.Bool.{eq-eqb, ne_eqb, cond-true, cond-false, false≢true, true≢false}
use Rattle.cert_text.specs.Names.{is_plain, hex_digit, escaped_byte, escaped}
use Rattle.cert_text.specs.Stands.{Stands}
use Rattle.cert_text.specs.Forms.{Part, Byte, word, agreed, Reads, Stops, Refuses}
use Rattle.cert_text.specs.LineForms.{name}
use Rattle.cert_text.specs.Characters.{between, after, Ends, CanFollow, IsSound, escape, name_byte}
use Rattle.cert_text.specs.Characters.{name_after}
use Rattle.cert_text.specs.declared.characters.Character.{Character}
use Rattle.cert_text.specs.declared.cert_refusal.CertRefusal.{CertRefusal}
use Rattle.cert_text.specs.declared.cert_refusal.CertRefusal.TheVariants.{BadLine, Memory}
use Rattle.cert_text.proofs.Agreed.{agreed_none, agreed_first}
use Rattle.cert_text.proofs.Stands.{stands_byte, stands_push}
use Rattle.cert_text.proofs.Forms.{HasSome, word_goes}
use Rattle.cert_text.proofs.Utf8.{after_none_left, in_range, completed, sound_next}
use Rattle.cert_text.proofs.Utf8Text.{ends_utf8, utf8_ends}

-- digits

hex_low : (n : ℕ) → n < 10 → hex_digit n ≡ 48 + n
hex_low n h = cond-true (nat_lt n 10) (48 + n) (55 + n) (lt-ltb n 10 h)

hex_high : (n : ℕ) → 10 ≤ n → hex_digit n ≡ 55 + n
hex_high n h = cond-false (nat_lt n 10) (48 + n) (55 + n) (le-ltb n 10 h)

pub hex_same : (m n : ℕ) → hex_digit m ≡ hex_digit n → m ≡ n
hex_same m n e = elim (cases_lt m 10) [
  | inl small ↦ elim (cases_lt n 10) [
    | inl too ↦ omega (arith, hex_low m small, hex_low n too)
    | inr large ↦ absurd (omega (arith, hex_low m small, hex_high n large))
  ]
  | inr large ↦ elim (cases_lt n 10) [
    | inl small ↦ absurd (omega (arith, hex_high m large, hex_low n small))
    | inr too ↦ omega (arith, hex_high m large, hex_high n too)
  ]
]

-- bytes that are printed as they are, and others

plain_as : (b : ℕ) → is_plain b ≡ true → escaped_byte b ≡ b ∷ []
plain_as b e = cond-true (is_plain b) (b ∷ []) (37 ∷ hex_digit (b / 16) ∷ hex_digit (b % 16) ∷ []) e

escaped_as : (b : ℕ) → is_plain b ≡ false → escaped_byte b ≡ 37 ∷ hex_digit (b / 16) ∷ hex_digit
    (b % 16) ∷ []
escaped_as b e = cond-false (is_plain b) (b ∷ []) (37 ∷ hex_digit (b / 16) ∷ hex_digit (b % 16)
    ∷ []) e

pub plain_differs : (b c : ℕ) → is_plain b ≡ true → is_plain c ≡ false → b ≢ c
plain_differs b c p q e = true≢false (sym p ∙ (ap is_plain e ∙ q))

high_not_plain : (b : ℕ) → 123 ≤ b → is_plain b ≡ false
high_not_plain b h =
    let a1 : nat_le 97 b ≡ true = le-leb 97 b (omega arith) in
    let a2 : nat_le b 122 ≡ false = lt-leb b 122 h in
    let b1 : nat_le 65 b ≡ true = le-leb 65 b (omega arith) in
    let b2 : nat_le b 90 ≡ false = lt-leb b 90 (omega arith) in
    let c1 : nat_le 48 b ≡ true = le-leb 48 b (omega arith) in
    let c2 : nat_le b 57 ≡ false = lt-leb b 57 (omega arith) in
    let d : (b == 46) ≡ false = ne_eqb b 46 (omega arith) in
    let f : (b == 95) ≡ false = ne_eqb b 95 (omega arith) in
    let g : (b == 45) ≡ false = ne_eqb b 45 (omega arith) in
    rw (a1, a2, b1, b2, c1, c2, d, f, g) refl

-- an escape

escape_some : (s : Character) → IsSound s → HasSome (escape s)
escape_some s sound = elim (cases_eq s.left 0) [
  | inl none ↦ (32, ((omega arith, (between, after_none_left s 32 none)), refl))
  | inr left ↦ elim sound [
    | inl none ↦ absurd (left none)
    | inr range ↦
        let c = completed s (inr range) in
        let r : (s.least ≤ c.0) × (c.0 ≤ s.most) = in_range s c.0 c.1.1.1.0 (omega arith)
        c.1.1.1.1.0 in (
          c.0,
          (
            (c.1.1.0, (c.1.1.1.0, c.1.1.1.1.0)),
            high_not_plain c.0
                (omega (arith, r.0, range.1)),
          ),
        )
  ]
]

two_stand : (x : List ℕ) (at a b : ℕ) → at + 1 < length x → get_or x at 0 ≡ a → get_or x (at + 1) 0
    ≡ b → Stands x at (a ∷ b ∷ []) (at + 2)
two_stand x at a b h ea eb =
    let end : at + 1 + 1 ≡ at + 2 = omega arith in
    subst (λ (e : ℕ). Stands x at (a ∷ b ∷ []) e) end
    (stands_push b (stands_byte x at a (omega arith) ea) h eb)

first_digit : (x : List ℕ) (at o hi : ℕ) (more : List Part)
    → (at < length x → get_or x at 0 ≡ hex_digit hi) → o / 16 ≢ hi
    → agreed (Byte (hex_digit (o / 16)) ∷ Byte (hex_digit (o % 16)) ∷ more) (drop at x) ≡ 0
first_digit x at o hi more e differ =
    agreed_none x at (hex_digit (o / 16)) (Byte (hex_digit (o % 16)) ∷ more)
    (λ past same. differ (hex_same (o / 16) hi (same ∙ e past)))

second_digit : (x : List ℕ) (at o hi : ℕ) (more : List Part) → at < length x → get_or x at 0
    ≡ hex_digit hi → o / 16 ≡ hi
    → agreed (Byte (hex_digit (o / 16)) ∷ Byte (hex_digit (o % 16)) ∷ more) (drop at x)
    ≡ 1 + agreed (Byte (hex_digit (o % 16)) ∷ more) (drop (at + 1) x)
second_digit x at o hi more h e same =
    agreed_first x at (hex_digit (o / 16)) (Byte (hex_digit (o % 16)) ∷ more) h
    (e ∙ ap hex_digit (sym same))

pub escape_reads : (s : Character) (x : List ℕ) (at b : ℕ) → at + 1 < length x → get_or x at 0
    ≡ hex_digit (b / 16)
    → get_or x (at + 1) 0 ≡ hex_digit (b % 16) → CanFollow s b → is_plain b ≡ false
    → Reads (escape s) x at b (at + 2)
escape_reads s x at b h e0 e1 follow plain = record {
  forward = omega arith;
  within = omega arith;
  has = (follow, plain);
  goes = λ more. word_goes x (hex_digit (b / 16) ∷ hex_digit (b % 16) ∷ []) at (at + 2) more
      (omega arith) (two_stand x at (hex_digit (b / 16)) (hex_digit (b % 16)) h e0 e1);
  others = λ o has. elim (cases_eq (o / 16) (b / 16)) [
    | inl same ↦ elim (cases_eq (o % 16) (b % 16)) [
      | inl too ↦ inl (omega arith)
      | inr differ ↦ inr (λ more. omega (
        arith,
        second_digit x at o (b / 16) more (omega arith) e0
            same,
        agreed_none x (at + 1) (hex_digit (o % 16)) more
            (λ past e. differ (hex_same (o % 16) (b % 16) (e ∙ e1))),
      ))
    ]
    | inr differ ↦ inr (λ more. omega (arith, first_digit x at o (b / 16) more (λ past. e0) differ))
  ];
}

pub escape_stops_first : (s : Character) (x : List ℕ) (at : ℕ) → IsSound s → at ≤ length x
    → ((o : ℕ) → (escape s).Has o → at < length x → hex_digit (o / 16) ≢ get_or x at 0)
    → Stops (escape s) x at at
escape_stops_first s x at sound h none = record {
  forward = omega arith;
  within = h;
  some = (escape_some s sound).0;
  has = (escape_some s sound).1;
  reached = λ more. omega arith;
  none = λ o has more. omega (
    arith,
    agreed_none x at (hex_digit (o / 16))
        (Byte (hex_digit (o % 16)) ∷ more) (none o has),
  );
}

pub escape_stops_second : (s : Character) (x : List ℕ) (at hi w : ℕ) → at < length x → get_or x at 0
    ≡ hex_digit hi
    → w / 16 ≡ hi → (escape s).Has w
    → ((o : ℕ) → (escape s).Has o → o / 16 ≡ hi → at + 1 < length x → hex_digit (o % 16) ≢ get_or x
    (at + 1) 0) → Stops (escape s) x at (at + 1)
escape_stops_second s x at hi w h e begins has none = record {
  forward = omega arith;
  within = omega arith;
  some = w;
  has = has;
  reached = λ more. omega (arith, second_digit x at w hi more h e begins);
  none = λ o other more. elim (cases_eq (o / 16) hi) [
    | inl same ↦ omega (
      arith,
      second_digit x at o hi more h e same,
      agreed_none x (at + 1) (hex_digit (o % 16)) more (none o other same),
    )
    | inr differ ↦ omega (arith, first_digit x at o hi more (λ past. e) differ)
  ];
}

-- a byte of a name

plain_none : (x : List ℕ) (at o : ℕ) (more : List Part) → is_plain o ≡ true
    → (at < length x → o ≢ get_or x at 0)
    → agreed (word (escaped_byte o) ++ more) (drop at x) ≡ 0
plain_none x at o more p other =
    ap (λ (bs : List ℕ). agreed (word bs ++ more) (drop at x)) (plain_as o p) ∙ agreed_none x at o
    more other

escaped_none : (x : List ℕ) (at o : ℕ) (more : List Part) → is_plain o ≡ false
    → (at < length x → 37 ≢ get_or x at 0)
    → agreed (word (escaped_byte o) ++ more) (drop at x) ≡ 0
escaped_none x at o more p other =
    ap (λ (bs : List ℕ). agreed (word bs ++ more) (drop at x)) (escaped_as o p)
    ∙ agreed_none x at 37 (Byte (hex_digit (o / 16)) ∷ Byte (hex_digit (o % 16)) ∷ more) other

escaped_first : (s : Character) (x : List ℕ) (at o : ℕ) (more : List Part) → is_plain o ≡ false
    → at < length x → get_or x at 0 ≡ 37
    → agreed (word (escaped_byte o) ++ more) (drop at x) ≡ 1 + agreed ((escape s).parts o ++ more)
    (drop (at + 1) x)
escaped_first s x at o more p h e =
    ap (λ (bs : List ℕ). agreed (word bs ++ more) (drop at x)) (escaped_as o p)
    ∙ agreed_first x at 37 (Byte (hex_digit (o / 16)) ∷ Byte (hex_digit (o % 16)) ∷ more) h e

-- no name's byte is printed as this one
pub byte_none : (x : List ℕ) (at o c : ℕ) (more : List Part) → is_plain c ≡ false → 37 ≢ c
    → (at < length x → get_or x at 0 ≡ c)
    → agreed (word (escaped_byte o) ++ more) (drop at x) ≡ 0
byte_none x at o c more special other e = elim (cases_Bool (is_plain o)) [
  | inl p ↦ plain_none x at o more p (λ past same. plain_differs o c p special (same ∙ e past))
  | inr p ↦ escaped_none x at o more p (λ past same. other (same ∙ e past))
]

pub name_byte_plain : (s : Character) (x : List ℕ) (at b : ℕ) → at < length x → get_or x at 0 ≡ b
    → is_plain b ≡ true → CanFollow s b
    → Reads (name_byte s) x at b (at + 1)
name_byte_plain s x at b h e p follow = record {
  forward = omega arith;
  within = omega arith;
  has = follow;
  goes = λ more. word_goes x (escaped_byte b) at (at + 1) more (omega arith)
      (subst (λ (bs : List ℕ). Stands x at bs (at + 1)) (sym (plain_as b p))
      (stands_byte x at b h e));
  others = λ o has. elim (cases_eq b o) [
    | inl same ↦ inl same
    | inr differ ↦ elim (cases_Bool (is_plain o)) [
      | inl q ↦ inr (λ more. omega
          (arith, plain_none x at o more q (λ past same. differ (sym (same ∙ e)))))
      | inr q ↦ inr (λ more. omega (
        arith,
        escaped_none x at o more q
            (λ past same. plain_differs b 37 p refl (sym (same ∙ e))),
      ))
    ]
  ];
}

pub name_byte_escape : (s : Character) (x : List ℕ) (at b e : ℕ) → at < length x → get_or x at 0
    ≡ 37 → Reads (escape s) x (at + 1) b e
    → Reads (name_byte s) x at b e
name_byte_escape s x at b e h is r =
    let r0 : at + 1 ≤ e = r.forward in
    record {
      forward = omega arith;
      within = r.within;
      has = r.has.0;
      goes = λ more. omega (arith, escaped_first s x at b more r.has.1 h is, r.goes more);
      others = λ o has. elim (cases_Bool (is_plain o)) [
        | inl q ↦ inr (λ more. omega
            (arith, plain_none x at o more q (λ past same. plain_differs o 37 q refl (same ∙ is))))
        | inr q ↦ elim (r.others o (has, q)) [
          | inl same ↦ inl same
          | inr less ↦ inr (λ more. omega (arith, escaped_first s x at o more q h is, less more))
        ]
      ];
    }

pub name_byte_refuses : (s : Character) (x : List ℕ) (at : ℕ) (r : CertRefusal) → at < length x
    → get_or x at 0 ≡ 37 → Refuses (escape s) x (at + 1) r
    → Refuses (name_byte s) x at r
name_byte_refuses s x at (BadLine p) h is r =
    let r0 : at + 1 ≤ p = r.forward in
    record {
      forward = omega arith;
      within = r.within;
      some = r.some;
      has = r.has.0;
      reached = λ more. omega (
        arith,
        escaped_first s x at r.some more r.has.1 h is,
        r.reached
            more,
      );
      none = λ o has more. elim (cases_Bool (is_plain o)) [
        | inl q ↦ omega (
          arith,
          plain_none x at o more q (λ past same. plain_differs o 37 q refl
              (same ∙ is)),
        )
        | inr q ↦ omega (arith, escaped_first s x at o more q h is, r.none o (has, q) more)
      ];
    }
name_byte_refuses s x at Memory h is r = tt

pub name_byte_stops : (s : Character) (x : List ℕ) (at : ℕ) → IsSound s → at ≤ length x
    → (at < length x → 37 ≢ get_or x at 0)
    → ((o : ℕ) → CanFollow s o → is_plain o ≡ true → at < length x → o ≢ get_or x at 0)
    → Stops (name_byte s) x at at
name_byte_stops s x at sound h percent none = record {
  forward = omega arith;
  within = h;
  some = (escape_some s sound).0;
  has = (escape_some s sound).1.0;
  reached = λ more. omega arith;
  none = λ o has more. elim (cases_Bool (is_plain o)) [
    | inl q ↦ omega (arith, plain_none x at o more q (none o has q))
    | inr q ↦ omega (arith, escaped_none x at o more q percent)
  ];
}

-- a name

word_append : (xs ys : List ℕ) → word (xs ++ ys) ≡ word xs ++ word ys
word_append [] ys = refl
word_append (x ∷ xs) ys = ap (λ (parts : List Part). Byte x ∷ parts) (word_append xs ys)

abbrev space : List Part
space = word (codes " ")

name_split : (b : ℕ) (bytes : List ℕ) (more : List Part) (ys : List ℕ)
    → agreed ((word (escaped (b ∷ bytes)) ++ space) ++ more) ys
    ≡ agreed (word (escaped_byte b) ++ ((word (escaped bytes) ++ space) ++ more)) ys
name_split b bytes more ys = ap (λ (parts : List Part). agreed parts ys)
    (ap (λ (q : List Part). (q ++ space) ++ more) (word_append (escaped_byte b) (escaped bytes))
    ∙ (ap (λ (q : List Part). q ++ more) (append_assoc (word (escaped_byte b))
    (word (escaped bytes)) space)
    ∙ append_assoc (word (escaped_byte b)) (word (escaped bytes) ++ space) more))

no_space : (x : List ℕ) (a : ℕ) (more : List Part) → (a < length x → get_or x a 0 ≢ 32)
    → agreed (Byte 32 ∷ more) (drop a x) ≡ 0
no_space x a more other = agreed_none x a 32 more (λ past e. other past (sym e))

same_next : {s t : Character} → Some s ≡ Some t → s ≡ t
same_next e = cc

longer : (before : List ℕ) (b : ℕ) (bytes : List ℕ) → (before ++ (b ∷ [])) ++ bytes ≢ []
    → before ++ (b ∷ bytes) ≢ []
longer before b bytes h e = h (append_assoc before (b ∷ []) bytes ∙ e)

shorter : (before : List ℕ) (b : ℕ) (bytes : List ℕ) → before ++ (b ∷ bytes) ≢ []
    → (before ++ (b ∷ [])) ++ bytes ≢ []
shorter before b bytes h e = h (sym (append_assoc before (b ∷ []) bytes) ∙ e)

some_bytes : (before : List ℕ) (b : ℕ) (bytes : List ℕ) → before ++ (b ∷ bytes) ≢ []
some_bytes [] b bytes e = cc
some_bytes (c ∷ before) b bytes e = cc

pub name_more : (before : List ℕ) (s next : Character) {x : List ℕ} {a m e b : ℕ} {rest : List ℕ}
    → (s.left ≡ 0 → a < length x → get_or x a 0 ≢ 32) → Reads (name_byte s) x a b m → after s b
    ≡ Some next
    → Reads (name_after (before ++ (b ∷ [])) next) x m rest e → Reads (name_after before s) x a
    (b ∷ rest) e
name_more before s next {x} {a} {m} {e} {b} {rest} other r step t =
    let r0 : a ≤ m = r.forward in
    let t0 : m ≤ e = t.forward in
    record {
      forward = omega arith;
      within = t.within;
      has = ((r.has.0, (next, (step, t.has.0))), longer before b rest t.has.1);
      goes = λ more. ap (λ (k : ℕ). a + k) (name_split b rest more (drop a x))
          ∙ (r.goes ((word (escaped rest) ++ space) ++ more) ∙ t.goes more);
      others = elim [
        | [] ↦ λ has. inr (λ more. omega (arith, no_space x a more (other has.0)))
        | o ∷ os ↦ λ has. elim (r.others o (has.0.0, (has.0.1.0, has.0.1.1.0))) [
          | inl same ↦ elim (t.others os (
            subst (λ (c : Character). Ends c os)
                (same_next (sym has.0.1.1.0 ∙ (ap (after s) (sym same) ∙ step))) has.0.1.1.1,
            shorter before b os (subst (λ (c : ℕ). before ++ (c ∷ os) ≢ []) (sym same) has.1),
          )) [
            | inl too ↦ inl (ap₂ (λ (c : ℕ) (cs : List ℕ). c ∷ cs) same too)
            | inr less ↦ inr (subst (λ (c : ℕ). (more : List Part)
                → a + agreed ((word (escaped (c ∷ os)) ++ space) ++ more) (drop a x) ≤ e) same
                (λ more. omega (
                  arith,
                  name_split b os more (drop a x),
                  r.goes
                      ((word (escaped os) ++ space) ++ more),
                  less more,
                )))
          ]
          | inr less ↦ inr (λ more. omega (
            arith,
            name_split o os more (drop a x),
            less
                ((word (escaped os) ++ space) ++ more),
          ))
        ]
      ];
    }

pub name_refuse_more : (before : List ℕ) (s next : Character) {x : List ℕ} {a m b : ℕ}
    (r : CertRefusal)
    → (s.left ≡ 0 → a < length x → get_or x a 0 ≢ 32) → Reads (name_byte s) x a b m → after s b
    ≡ Some next
    → Refuses (name_after (before ++ (b ∷ [])) next) x m r → Refuses (name_after before s) x a r
name_refuse_more before s next {x} {a} {m} {b} (BadLine q) other r step t =
    let r0 : a ≤ m = r.forward in
    let t0 : m ≤ q = t.forward in
    record {
      forward = omega arith;
      within = t.within;
      some = b ∷ t.some;
      has = ((r.has.0, (next, (step, t.has.0))), longer before b t.some t.has.1);
      reached = λ more. omega (
        arith,
        name_split b t.some more (drop a x),
        r.goes
            ((word (escaped t.some) ++ space) ++ more),
        t.reached more,
      );
      none = elim [
        | [] ↦ λ has more. omega (arith, no_space x a more (other has.0))
        | o ∷ os ↦ λ has more. elim (r.others o (has.0.0, (has.0.1.0, has.0.1.1.0))) [
          | inl same ↦ subst (λ (c : ℕ). a + agreed ((word (escaped (c ∷ os)) ++ space) ++ more)
              (drop a x) ≤ q) same
              (omega (
                arith,
                name_split b os more (drop a x),
                r.goes
                    ((word (escaped os) ++ space) ++ more),
                t.none os (
                  subst (λ (c : Character). Ends c os)
                      (same_next (sym has.0.1.1.0 ∙ (ap (after s) (sym same) ∙ step))) has.0.1.1.1,
                  shorter before b os (subst (λ (c : ℕ). before ++ (c ∷ os) ≢ []) (sym same) has.1),
                )
                    more,
              ))
          | inr less ↦ omega (
            arith,
            name_split o os more (drop a x),
            less
                ((word (escaped os) ++ space) ++ more),
          )
        ]
      ];
    }
name_refuse_more before s next Memory other r step t = tt

pub name_refuse_byte : (before : List ℕ) (s : Character) (x : List ℕ) (a : ℕ) (r : CertRefusal)
    → IsSound s
    → (s.left ≡ 0 → a < length x → get_or x a 0 ≢ 32) → Refuses (name_byte s) x a r
    → Refuses (name_after before s) x a r
name_refuse_byte before s x a (BadLine q) sound other t =
    let t0 : a ≤ q = t.forward in
    let end = completed t.has.1.0 (sound_next s t.some t.has.1.0 sound t.has.1.1) in
    let bytes : List ℕ = end.0 ∷ end.1.0 in
    record {
      forward = t.forward;
      within = t.within;
      some = t.some ∷ bytes;
      has = ((t.has.0, (t.has.1.0, (t.has.1.1, end.1.1))), some_bytes before t.some bytes);
      reached = λ more. omega (
        arith,
        name_split t.some bytes more (drop a x),
        t.reached
            ((word (escaped bytes) ++ space) ++ more),
      );
      none = elim [
        | [] ↦ λ has more. omega (arith, no_space x a more (other has.0))
        | o ∷ os ↦ λ has more. omega (
          arith,
          name_split o os more (drop a x),
          t.none o
              (has.0.0, (has.0.1.0, has.0.1.1.0)) ((word (escaped os) ++ space) ++ more),
        )
      ];
    }
name_refuse_byte before s x a Memory sound other t = tt

pub name_end : (before : List ℕ) (s : Character) (x : List ℕ) (a : ℕ) → before ≢ [] → s.left ≡ 0
    → a < length x → get_or x a 0 ≡ 32
    → Reads (name_after before s) x a [] (a + 1)
name_end before s x a some none h is = record {
  forward = omega arith;
  within = omega arith;
  has = (none, λ e. some (sym (append-nil before) ∙ e));
  goes = λ more. word_goes x (codes " ") a (a + 1) more (omega arith) (stands_byte x a 32 h is);
  others = elim [
    | [] ↦ λ has. inl refl
    | o ∷ os ↦ λ has. inr (λ more. omega (
      arith,
      name_split o os more (drop a x),
      byte_none x a o 32 ((word (escaped os) ++ space) ++ more) refl (λ e. omega (arith, e))
          (λ past. is),
    ))
  ];
}

pub name_empty : (before : List ℕ) (s : Character) (x : List ℕ) (a : ℕ) → IsSound s → before ≡ []
    → a < length x → get_or x a 0 ≡ 32
    → Stops (name_after before s) x a a
name_empty before s x a sound empty h is =
    let c = completed s sound in
    record {
      forward = omega arith;
      within = omega arith;
      some = c.0 ∷ c.1.0;
      has = (c.1.1, some_bytes before c.0 c.1.0);
      reached = λ more. omega arith;
      none = elim [
        | [] ↦ λ has more. absurd (has.1 (append-nil before ∙ empty))
        | o ∷ os ↦ λ has more. omega (
          arith,
          name_split o os more (drop a x),
          byte_none x a o 32 ((word (escaped os) ++ space) ++ more) refl (λ e. omega (arith, e))
              (λ past. is),
        )
      ];
    }

-- from the start

pub name_reads : {x : List ℕ} {a e : ℕ} {bytes : List ℕ} → Reads (name_after [] between) x a bytes e
    → Reads name x a bytes e
name_reads {bytes = bytes} r = record {
  forward = r.forward;
  within = r.within;
  has = (utf8_ends bytes r.has.0, r.has.1);
  goes = r.goes;
  others = λ other has. r.others other (ends_utf8 other has.0, has.1);
}

pub name_refuses : (x : List ℕ) (a : ℕ) (r : CertRefusal) → Refuses (name_after [] between) x a r
    → Refuses name x a r
name_refuses x a (BadLine q) r = record {
  forward = r.forward;
  within = r.within;
  some = r.some;
  has = (utf8_ends r.some r.has.0, r.has.1);
  reached = r.reached;
  none = λ other has. r.none other (ends_utf8 other has.0, has.1);
}
name_refuses x a Memory r = tt

-- the bytes so far, and one more

pub name_begun : (bytes : List ℕ) (s : Character) {x : List ℕ} {a : ℕ} → bytes ≡ [] → s ≡ between
    → (rest : List ℕ) (e : ℕ) → Reads (name_after bytes s) x a rest e → Reads name x a
    (bytes ++ rest) e
name_begun bytes s {x} {a} none start rest e r =
    subst (λ (before : List ℕ). Reads name x a (before ++ rest) e) (sym none)
    (name_reads (subst (λ (before : List ℕ). Reads (name_after before between) x a rest e) none
    (subst (λ (c : Character). Reads (name_after bytes c) x a rest e) start r)))

pub name_refuse_begun : (bytes : List ℕ) (s : Character) (x : List ℕ) (a : ℕ) (r : CertRefusal)
    → bytes ≡ [] → s ≡ between
    → Refuses (name_after bytes s) x a r → Refuses name x a r
name_refuse_begun bytes s x a r none start t =
    name_refuses x a r (subst (λ (before : List ℕ). Refuses (name_after before between) x a r) none
    (subst (λ (c : Character). Refuses (name_after bytes c) x a r) start t))

pub name_pushed : (before more : List ℕ) (s next : Character) (b : ℕ) {x : List ℕ} {start a m : ℕ}
    → more ≡ before ++ (b ∷ [])
    → (s.left ≡ 0 → a < length x → get_or x a 0 ≢ 32) → Reads (name_byte s) x a b m → after s b
    ≡ Some next
    → ((rest : List ℕ) (e : ℕ) → Reads (name_after before s) x a rest e → Reads name x start
    (before ++ rest) e)
    → (rest : List ℕ) (e : ℕ) → Reads (name_after more next) x m rest e → Reads name x start
    (more ++ rest) e
name_pushed before more s next b {x} {start} {a} {m} pushed other r step earlier rest e later =
    subst (λ (bytes : List ℕ). Reads name x start bytes e)
    (sym (ap (λ (bytes : List ℕ). bytes ++ rest) pushed ∙ append_assoc before (b ∷ []) rest))
    (earlier (b ∷ rest) e (name_more before s next other r step
    (subst (λ (bytes : List ℕ). Reads (name_after bytes next) x m rest e) pushed later)))

pub name_refuse_pushed : (before more : List ℕ) (s next : Character) (b : ℕ) {x : List ℕ} {a m : ℕ}
    (r : CertRefusal) → more ≡ before ++ (b ∷ [])
    → (s.left ≡ 0 → a < length x → get_or x a 0 ≢ 32) → Reads (name_byte s) x a b m → after s b
    ≡ Some next
    → Refuses (name_after more next) x m r → Refuses (name_after before s) x a r
name_refuse_pushed before more s next b {x} {a} {m} r pushed other read step later =
    name_refuse_more before s next r other read step
    (subst (λ (bytes : List ℕ). Refuses (name_after bytes next) x m r) pushed later)

pub name_ended : (bytes : List ℕ) {x : List ℕ} {a e : ℕ} → Reads name x a (bytes ++ []) e
    → Reads name x a bytes e
name_ended bytes {x} {a} {e} r = subst (λ (all : List ℕ). Reads name x a all e) (append-nil bytes) r

-- what the reader's tests say

pub is_none : (bytes : List ℕ) (n : ℕ) (empty : Bool) → n ≡ length bytes → empty ≡ (n == 0) → empty
    ≡ true → bytes ≡ []
is_none [] n empty long is holds = refl
is_none (b ∷ bytes) n empty long is holds
    = absurd (false≢true (sym (ne_eqb n 0 (λ e. omega arith)) ∙ (sym is ∙ holds)))

pub is_some_bytes : (bytes : List ℕ) (n : ℕ) (empty : Bool) → n ≡ length bytes → empty ≡ (n == 0)
    → empty ≡ false → bytes ≢ []
is_some_bytes [] n empty long is fails e = true≢false (sym (eq-eqb n 0 long) ∙ (sym is ∙ fails))
is_some_bytes (b ∷ bytes) n empty long is fails e = cc

pub none_follows : (s : Character) (b : ℕ) (r : Option Character) → r ≡ after s b → r ≡ None
    → CanFollow s b → ⊥
none_follows s b r e none follow = let both : None ≡ Some follow.1.0 = sym none
    ∙ (e ∙ follow.1.1) in cc

pub begins_none : (r : Option Character) (P : Type 0) → is_some r ≡ false → (r ≡ None → P) → P
begins_none None P e h = h refl
begins_none (Some next) P e h = absurd (true≢false e)

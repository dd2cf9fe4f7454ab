-- Texts that are read part by part, and where bytes cease to go on as any of them.
use Rattle.std.specs.Prelude.{ℕ, ◌≡◌, ◌+◌, ◌≤◌, ◌⊎◌, ◌++◌, ◌==◌, List, [], ◌∷◌, map, drop, length}
use Rattle.std.specs.Prelude.{decimal, bytes_eq, if◌then◌else◌}
use Rattle.cert_text.specs.Stands.{digits_before}
use Rattle.cert_text.specs.declared.cert_refusal.CertRefusal.{CertRefusal}
use Rattle.cert_text.specs.declared.cert_refusal.CertRefusal.TheVariants.{BadLine, Memory}

-- what a text is made of: bytes, each judged by itself, and numbers, whose digits are judged
-- together
pub data Part : Type 0 where
  Byte : ℕ → Part
  Number : ℕ → Part

abbrev pub word : List ℕ → List Part
word bytes = map Byte bytes

-- the bytes of the parts
abbrev pub spelled : List Part → List ℕ
spelled [] = []
spelled (Byte b ∷ parts) = b ∷ spelled parts
spelled (Number n ∷ parts) = decimal n ++ spelled parts

-- how many bytes go on as the parts do, and 1 more if the bytes end where the parts do
abbrev pub agreed : List Part → List ℕ → ℕ
agreed [] [] = 1
agreed [] (c ∷ bytes) = 0
agreed (Byte b ∷ parts) [] = 0
agreed (Byte b ∷ parts) (c ∷ bytes) = if b == c then 1 + agreed parts bytes else 0
agreed (Number n ∷ parts) bytes =
    if bytes_eq (digits_before bytes) (decimal n)
    then length (decimal n) + agreed parts (drop (length (decimal n)) bytes)
    else 0

-- texts of one form: the values that they may have, and the parts of the text of each
pub record Form (V : Type 0) : Type 1 where
  pub Has : V → Type 0
  pub parts : V → List Part

-- these bytes alone
abbrev pub exactly : List ℕ → Form (Unit {0})
exactly bytes = record { Has = λ value. Unit; parts = λ value. word bytes }

-- a number in a range
abbrev pub number : ℕ → ℕ → Form ℕ
number least most = record {
  Has = λ n. (least ≤ n) × (n ≤ most);
  parts = λ n. Number n ∷ [];
}

-- these bytes first
abbrev pub after : {V : Type 0} → List ℕ → Form V → Form V
after bytes form = record { Has = form.Has; parts = λ value. word bytes ++ form.parts value }

abbrev pub labelled : List ℕ → ℕ → ℕ → Form ℕ
labelled label least most = after label (number least most)

-- one text, and another one after it, whose form depends on the first one's value
abbrev pub both : {V W : Type 0} → Form V → (V → Form W) → Form (V × W)
both first second = record {
  Has = λ values. first.Has values.0 × (second values.0).Has values.1;
  parts = λ values. first.parts values.0 ++ (second values.0).parts values.1;
}

-- A text of the form stands at one place and ends before another, and that of any other value goes
-- on as the bytes do no further than up to there.
pub record Reads {V : Type 0} (form : Form V) (text : List ℕ) (at : ℕ) (value : V) (end : ℕ)
    : Type 0 where
  pub forward : at ≤ end
  pub within : end ≤ length text
  pub has : form.Has value
  pub goes : (more : List Part)
      → at + agreed (form.parts value ++ more) (drop at text) ≡ end + agreed more (drop end text)
  pub others : (other : V) → form.Has other → (value ≡ other)
      ⊎ ((more : List Part) → at + agreed (form.parts other ++ more) (drop at text) ≤ end)

-- From a place on some text of the form goes on as the bytes do up to another place, and none goes
-- on further.
pub record Stops {V : Type 0} (form : Form V) (text : List ℕ) (at : ℕ) (place : ℕ) : Type 0 where
  pub forward : at ≤ place
  pub within : place ≤ length text
  pub some : V
  pub has : form.Has some
  pub reached : (more : List Part) → place ≤ at + agreed (form.parts some ++ more) (drop at text)
  pub none : (other : V) → form.Has other
      → (more : List Part) → at + agreed (form.parts other ++ more) (drop at text) ≤ place

-- why no text of the form stands at a place; out of memory, nothing is known
abbrev pub Refuses : {V : Type 0} → Form V → List ℕ → ℕ → CertRefusal → Type 0
Refuses form text at (BadLine place) = Stops form text at place
Refuses form text at Memory = Unit

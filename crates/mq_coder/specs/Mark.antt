-- What a mark stands for, and the ended code at it.
use Rattle.std.specs.Prelude.{ℕ, ◌-◌, ◌≡◌, zero, suc, Bool, List, [], ◌∷◌, length, take}
use Rattle.mq_coder.specs.Code.{Coding, last_byte, coded, flush}
use Rattle.mq_coder.specs.declared.mark.Mark.{Mark}

-- the mark of a new encoder
pub record IsFirstMark (m : Mark) : Type 0 where
  pub a : m.a ≡ 0x8000
  pub c : m.c ≡ 0
  pub ct : m.ct ≡ 12
  pub last : m.last ≡ 0
  pub count : m.count ≡ 0

-- the last byte as a list, of none where no byte is put out
abbrev pub last_of : ℕ → ℕ → List ℕ
last_of zero last = []
last_of (suc count) last = last ∷ []

-- the registers at a mark, and of the bytes the last
abbrev pub coding_at : Mark → Coding
coding_at m = record { a = m.a; c = m.c; ct = m.ct; bytes = last_of m.count m.last; contexts = [] }

-- the ended code at a mark is so many of the first bytes, and then a tail
abbrev pub kept_at : Mark → ℕ
kept_at m = m.count - 1

abbrev pub tail_at : Mark → List ℕ
tail_at m = flush (coding_at m)

-- A mark stands for a list of symbols, beside a buffer: it holds the registers that the procedures
-- have after that list, and the buffer begins with their bytes, of which the last may have changed.
pub record IsMarkOf (m : Mark) (buffer : List ℕ) (symbols : List (ℕ × Bool)) : Type 0 where
  pub a : m.a ≡ (coded symbols).a
  pub c : m.c ≡ (coded symbols).c
  pub ct : m.ct ≡ (coded symbols).ct
  pub last : m.last ≡ last_byte (coded symbols).bytes
  pub count : m.count ≡ length (coded symbols).bytes
  pub prefix : take (kept_at m) buffer ≡ take (kept_at m) (coded symbols).bytes

-- An encoder was left for a list of symbols: its mark, its contexts and its buffer are what they
-- were then, but for the buffer's last byte put out and those after it.
pub record IsLeft (m : Mark) (held : List (ℕ × Bool)) (buffer : List ℕ)
    (symbols : List (ℕ × Bool)) : Type 0 where
  pub mark : IsMarkOf m buffer symbols
  pub contexts : held ≡ (coded symbols).contexts

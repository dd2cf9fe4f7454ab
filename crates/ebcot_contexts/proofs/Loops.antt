-- What a loop over places, columns or passes adds as it goes on by one.
use Rattle.std.proofs.Common.{ℕ, suc, ◌≡◌, Bool, List, [], ◌∷◌, ◌++◌, refl, sym, ap, ◌∙◌}
use Rattle.ebcot_contexts.specs.Cells.{Cell}
use Rattle.ebcot_contexts.specs.Contexts.{Shape}
use Rattle.ebcot_contexts.specs.Asks.{Asks, done, ask, chain, symbols, outcome, read}
use Rattle.ebcot_contexts.specs.Passes.{Kind, visit, each, column, columns, pass, passes, start}
use Rattle.ebcot_contexts.specs.Passes.{block}
use Rattle.ebcot_contexts.specs.Meaning.{symbols_of}
use Rattle.ebcot_contexts.proofs.Trees.{symbols_chain, outcome_chain}

chain_known : (t : Asks) → chain t done ≡ t
chain_known (done cells) = refl
chain_known (ask cx q answered) = λ i. ask cx q (λ b. chain_known (answered b) i)

chain_chain : (t : Asks) (f g : List Cell → Asks) →
    chain (chain t f) g ≡ chain t (λ c. chain (f c) g)
chain_chain (done cells) f g = refl
chain_chain (ask cx q answered) f g = λ i. ask cx q (λ b. chain_chain (answered b) f g i)

chain_same : (t : Asks) (f g : List Cell → Asks) → ((c : List Cell) → f c ≡ g c) →
    chain t f ≡ chain t g
chain_same t f g h = λ i. chain t (λ c. h c i)

pub each_more : (kind : Kind) (s : Shape) (p : ℕ) (is : List ℕ) (j : ℕ) (cells : List Cell)
    → each kind s p (is ++ j ∷ []) cells ≡ chain (each kind s p is cells) (visit kind s p j)
each_more kind s p [] j cells = chain_known (visit kind s p j cells)
each_more kind s p (i ∷ is) j cells =
    chain_same (visit kind s p i cells) _ _ (λ c. each_more kind s p is j c)
    ∙ sym (chain_chain (visit kind s p i cells) (each kind s p is) (visit kind s p j))

pub columns_more : (kind : Kind) (s : Shape) (p : ℕ) (cs : List (List ℕ)) (is : List ℕ)
    (cells : List Cell)
    → columns kind s p (cs ++ is ∷ []) cells
    ≡ chain (columns kind s p cs cells) (column kind s p is)
columns_more kind s p [] is cells = chain_known (column kind s p is cells)
columns_more kind s p (c ∷ cs) is cells =
    chain_same (column kind s p c cells) _ _ (λ x. columns_more kind s p cs is x)
    ∙ sym (chain_chain (column kind s p c cells) (columns kind s p cs) (column kind s p is))

-- the symbols of one more column
pub column_symbols : (coefs : List (ℕ × Bool)) (kind : Kind) (s : Shape) (p : ℕ)
    (cs : List (List ℕ)) (is : List ℕ) (cells : List Cell)
    → symbols coefs (columns kind s p (cs ++ is ∷ []) cells)
    ≡ symbols coefs (columns kind s p cs cells)
    ++ symbols coefs (column kind s p is (outcome coefs (columns kind s p cs cells)))
column_symbols coefs kind s p cs is cells =
    ap (symbols coefs) (columns_more kind s p cs is cells)
    ∙ symbols_chain coefs (columns kind s p cs cells) (column kind s p is)

pub column_outcome : (coefs : List (ℕ × Bool)) (kind : Kind) (s : Shape) (p : ℕ)
    (cs : List (List ℕ)) (is : List ℕ) (cells : List Cell)
    → outcome coefs (columns kind s p (cs ++ is ∷ []) cells)
    ≡ outcome coefs (column kind s p is (outcome coefs (columns kind s p cs cells)))
column_outcome coefs kind s p cs is cells =
    ap (outcome coefs) (columns_more kind s p cs is cells)
    ∙ outcome_chain coefs (columns kind s p cs cells) (column kind s p is)

-- the symbols of one more pass
pub pass_symbols : (coefs : List (ℕ × Bool)) (s : Shape) (k : ℕ)
    → symbols_of coefs s (suc k) ≡ symbols_of coefs s k
    ++ symbols coefs (pass s k (outcome coefs (block s k)))
unfolding block
pass_symbols coefs s k = symbols_chain coefs (passes s k (start s)) (pass s k)

pub pass_outcome : (coefs : List (ℕ × Bool)) (s : Shape) (k : ℕ)
    → outcome coefs (block s (suc k)) ≡ outcome coefs (pass s k (outcome coefs (block s k)))
unfolding block
pass_outcome coefs s k = outcome_chain coefs (passes s k (start s)) (pass s k)

-- a reader goes on from where it is
pub read_chain : {S : Type 0} (next : S → ℕ → Bool × S) (d : S) (t : Asks) (f : List Cell → Asks)
    → read next d (chain t f) ≡ read next (read next d t).1 (f (read next d t).0)
read_chain next d (done cells) f = refl
read_chain next d (ask cx q answered) f = read_chain next (next d cx).1 (answered (next d cx).0) f

pub column_read : {S : Type 0} (next : S → ℕ → Bool × S) (d : S) (kind : Kind) (s : Shape) (p : ℕ)
    (cs : List (List ℕ)) (is : List ℕ) (cells : List Cell)
    → read next d (columns kind s p (cs ++ is ∷ []) cells)
    ≡ read next (read next d (columns kind s p cs cells)).1
    (column kind s p is (read next d (columns kind s p cs cells)).0)
column_read next d kind s p cs is cells =
    ap (read next d) (columns_more kind s p cs is cells)
    ∙ read_chain next d (columns kind s p cs cells) (column kind s p is)

pub pass_read : {S : Type 0} (next : S → ℕ → Bool × S) (d : S) (s : Shape) (k : ℕ)
    → read next d (block s (suc k))
    ≡ read next (read next d (block s k)).1 (pass s k (read next d (block s k)).0)
unfolding block
pass_read next d s k = read_chain next d (passes s k (start s)) (pass s k)

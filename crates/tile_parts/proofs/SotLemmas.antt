-- The segment SOT: its fields in the bytes, and what its table says.
use Rattle.std.proofs.Common.{◌≡◌, ℕ, ◌+◌, ◌/◌, ◌%◌, ◌≤◌, ◌⊎◌, ◌==◌, inl, inr, Bool}
use Rattle.std.proofs.Common.{true, false}
use Rattle.std.proofs.Common.{List, ◌∷◌, ◌++◌, None, arith, ◌∙◌, sym, ap, refl, get_or, drop}
use Rattle.std.proofs.Common.{length}
use Rattle.std.proofs.lemmas.List.{drop_more, length-drop}
use Rattle.std.proofs.lemmas.Bool.Decides.{nat_tests}
use Rattle.cine_nums.specs.Bytes.{word_bytes, long_bytes}
use Rattle.cine_nums.specs.Faults.{first_fault}
use Rattle.cine_nums.proofs.ByteLemmas.{byte_here, first_here, word_again, long_again}
use Rattle.tile_parts.specs.Head.{Sot, sot_fields}
use Rattle.tile_parts.specs.Refusals.{sot_rows, HasSot}
use Rattle.tile_parts.specs.Inside.{sot_at}
use Rattle.tile_parts.proofs.NumberLemmas.{AreBytes, two_here, four_here}

-- the bytes at a place are the fields that are read there
pub sot_here : (bytes : List ℕ) (at : ℕ) → AreBytes bytes → at + 12 ≤ length bytes
    → drop at bytes ≡ sot_fields (sot_at bytes at) ++ drop (at + 12) bytes
sot_here bytes at small room =
    let f = sot_at bytes at in
    let two : at + 2 + 2 ≡ at + 4 = omega arith in
    let four : at + 4 + 2 ≡ at + 6 = omega arith in
    let six : at + 6 + 4 ≡ at + 10 = omega arith in
    let ten : at + 10 + 1 ≡ at + 11 = omega arith in
    let eleven : at + 11 + 1 ≡ at + 12 = omega arith in
    let rest = drop (at + 12) bytes in
    let d10 : drop (at + 10) bytes ≡ f.tpsot ∷ f.tnsot ∷ rest =
    drop_more bytes (at + 10) 0 (omega arith)
    ∙ ap (λ q. f.tpsot ∷ drop q bytes) ten
    ∙ ap (λ t. f.tpsot ∷ t) (drop_more bytes (at + 11) 0 (omega arith))
    ∙ ap (λ q. f.tpsot ∷ f.tnsot ∷ drop q bytes) eleven in
    let d6 : drop (at + 6) bytes ≡ long_bytes f.psot ++ (f.tpsot ∷ f.tnsot ∷ rest) =
    four_here bytes (at + 6) small (omega arith)
    ∙ ap (λ q. long_bytes f.psot ++ drop q bytes) six
    ∙ ap (λ t. long_bytes f.psot ++ t) d10 in
    let d4 : drop (at + 4) bytes
    ≡ word_bytes f.isot ++ (long_bytes f.psot ++ (f.tpsot ∷ f.tnsot ∷ rest)) =
    two_here bytes (at + 4) small (omega arith)
    ∙ ap (λ q. word_bytes f.isot ++ drop q bytes) four
    ∙ ap (λ t. word_bytes f.isot ++ t) d6 in
    let d2 : drop (at + 2) bytes
    ≡ word_bytes f.lsot
    ++ (word_bytes f.isot ++ (long_bytes f.psot ++ (f.tpsot ∷ f.tnsot ∷ rest))) =
    two_here bytes (at + 2) small (omega arith)
    ∙ ap (λ q. word_bytes f.lsot ++ drop q bytes) two
    ∙ ap (λ t. word_bytes f.lsot ++ t) d4 in
    two_here bytes at small (omega arith) ∙ ap (λ t. word_bytes f.marker ++ t) d2

pub has_sot : (bytes : List ℕ) (at : ℕ) → AreBytes bytes → at + 12 ≤ length bytes
    → HasSot bytes at (sot_at bytes at)
has_sot bytes at small room = (drop (at + 12) bytes, sot_here bytes at small room)

-- fields stand at a place in one way alone
same_sot : (a b : Sot) → a.marker ≡ b.marker → a.lsot ≡ b.lsot → a.isot ≡ b.isot → a.psot ≡ b.psot
    → a.tpsot ≡ b.tpsot → a.tnsot ≡ b.tnsot → a ≡ b
same_sot a b marker lsot isot psot tpsot tnsot =
    let sot : ℕ → ℕ → ℕ → ℕ → ℕ → ℕ → Sot = λ m l i p t n.
    record { marker = m; lsot = l; isot = i; psot = p; tpsot = t; tnsot = n } in
    ap (λ x. sot x a.lsot a.isot a.psot a.tpsot a.tnsot) marker
    ∙ ap (λ x. sot b.marker x a.isot a.psot a.tpsot a.tnsot) lsot
    ∙ ap (λ x. sot b.marker b.lsot x a.psot a.tpsot a.tnsot) isot
    ∙ ap (λ x. sot b.marker b.lsot b.isot x a.tpsot a.tnsot) psot
    ∙ ap (λ x. sot b.marker b.lsot b.isot b.psot x a.tnsot) tpsot
    ∙ ap (λ x. sot b.marker b.lsot b.isot b.psot b.tpsot x) tnsot

pub sot_once : (bytes : List ℕ) (at : ℕ) (f : Sot) → HasSot bytes at f → f ≡ sot_at bytes at
sot_once bytes at f (rest, is) =
    let xs = sot_fields f ++ rest in
    let b : (k : ℕ) → get_or bytes (at + k) 0 ≡ get_or xs k 0 = λ k. byte_here bytes xs at k is in
    let b0 : get_or bytes at 0 ≡ f.marker / 256 = first_here bytes xs at is in
    let b1 : get_or bytes (at + 1) 0 ≡ f.marker % 256 = b 1 in
    let b2 : get_or bytes (at + 2) 0 ≡ f.lsot / 256 = b 2 in
    let b3 : get_or bytes (at + 2 + 1) 0 ≡ f.lsot % 256 =
    ap (λ p. get_or bytes p 0) (omega arith) ∙ b 3 in
    let b4 : get_or bytes (at + 4) 0 ≡ f.isot / 256 = b 4 in
    let b5 : get_or bytes (at + 4 + 1) 0 ≡ f.isot % 256 =
    ap (λ p. get_or bytes p 0) (omega arith) ∙ b 5 in
    let b6 : get_or bytes (at + 6) 0 ≡ f.psot / 16777216 = b 6 in
    let b7 : get_or bytes (at + 6 + 1) 0 ≡ f.psot / 65536 % 256 =
    ap (λ p. get_or bytes p 0) (omega arith) ∙ b 7 in
    let b8 : get_or bytes (at + 6 + 2) 0 ≡ f.psot / 256 % 256 =
    ap (λ p. get_or bytes p 0) (omega arith) ∙ b 8 in
    let b9 : get_or bytes (at + 6 + 2 + 1) 0 ≡ f.psot % 256 =
    ap (λ p. get_or bytes p 0) (omega arith) ∙ b 9 in
    same_sot f (sot_at bytes at)
    (omega (arith, b0, b1, word_again f.marker)) (omega (arith, b2, b3, word_again f.lsot))
    (omega (arith, b4, b5, word_again f.isot))
    (omega (arith, b6, b7, b8, b9, long_again f.psot)) (sym (b 10)) (sym (b 11))

-- they take twelve bytes
pub room_of : (bytes : List ℕ) (at : ℕ) (f : Sot) → at ≤ length bytes → HasSot bytes at f
    → at + 12 ≤ length bytes
room_of bytes at f below (rest, is) =
    omega (arith, ap length is, length-drop at bytes)

-- what no row leaves
pub record SotIs (at size index count : ℕ) (f : Sot) : Type 0 where
  pub marker : f.marker ≡ 0xFF90
  pub lsot : f.lsot ≡ 10
  pub isot : f.isot ≡ 0
  pub large : 14 ≤ f.psot
  pub inside : at + f.psot ≤ size
  pub tpsot : f.tpsot ≡ index
  pub tnsot : (f.tnsot ≡ count) ⊎ (f.tnsot ≡ 0)

count_is : (at size index count : ℕ) (f : Sot)
    → first_fault (sot_rows at size index count f) ≡ None → (f.tnsot ≡ count) ⊎ (f.tnsot ≡ 0)
count_is at size index count f is =
    let go : (t : Bool) → (f.tnsot == count) ≡ t → (f.tnsot ≡ count) ⊎ (f.tnsot ≡ 0) =
    λ t. elim t as (λ v. (f.tnsot == count) ≡ v → (f.tnsot ≡ count) ⊎ (f.tnsot ≡ 0)) [
      | true ↦ λ e. inl (grind (arith, nat_tests))
      | false ↦ λ e. inr (grind (arith, nat_tests))
    ] in
    go (f.tnsot == count) refl

pub sot_is : (at size index count : ℕ) (f : Sot)
    → first_fault (sot_rows at size index count f) ≡ None → SotIs at size index count f
sot_is at size index count f is = record {
  marker = grind (arith, nat_tests);
  lsot = grind (arith, nat_tests);
  isot = grind (arith, nat_tests);
  large = grind (arith, nat_tests);
  inside = grind (arith, nat_tests);
  tpsot = grind (arith, nat_tests);
  tnsot = count_is at size index count f is;
}

-- and the other way round
no_fault : (at size index count : ℕ) (f : Sot) → f.marker ≡ 0xFF90 → f.lsot ≡ 10 → f.isot ≡ 0
    → 14 ≤ f.psot → at + f.psot ≤ size → f.tpsot ≡ index → (f.tnsot ≡ count) ⊎ (f.tnsot ≡ 0)
    → first_fault (sot_rows at size index count f) ≡ None
no_fault at size index count f marker lsot isot large inside tpsot (inl same) =
    grind (arith, nat_tests)
no_fault at size index count f marker lsot isot large inside tpsot (inr none) =
    grind (arith, nat_tests)

pub no_sot_fault : (at size index count : ℕ) (f : Sot) → SotIs at size index count f
    → first_fault (sot_rows at size index count f) ≡ None
no_sot_fault at size index count f s =
    no_fault at size index count f s.marker s.lsot s.isot s.large s.inside s.tpsot s.tnsot

-- EOC ends a codestream, or has one fault.
use Rattle.std.proofs.Common.{◌≡◌, ℕ, suc, ◌≤◌, ◌<◌, List, [], ◌∷◌, ◌++◌, length, drop, refl}
use Rattle.std.proofs.Common.{ap, sym, ◌∙◌, arith, subst, inl, inr, ◌⊎◌, Ok, Err, Result}
use Rattle.std.specs.Prelude.{slice_index}
use Rattle.band_geometry.specs.declared.geometry.Geometry.{Geometry}
use Rattle.cinema_markers.specs.declared.header.MainRead.{MainRead}
use Rattle.profile_reader.specs.Words.{PartWhole}
use Rattle.tile_parts.specs.Head.{eoc}
use Rattle.codestream_reader.specs.Faults.{EndFault, RestFault}
use Rattle.codestream_reader.specs.Faults.EndFault.{missing, byte_after}
use Rattle.codestream_reader.specs.Faults.RestFault.{of_part, of_end}
use Rattle.codestream_reader.specs.PartFaults.{PartsFault}
use Rattle.codestream_reader.specs.Standing.{PartsStand}
use Rattle.codestream_reader.specs.Whole.{RestStands, end_of}
use Rattle.codestream_reader.specs.declared.refusal.ReadRefusal.{ReadRefusal}
use Rattle.codestream_reader.specs.declared.refusal.ReadRefusal.TheVariants.{Memory}
use Rattle.codestream_reader.proofs.Lists.{ok_no_err}
use Rattle.codestream_reader.proofs.OnePacket.{err_once}

pub end_once : (bytes : List ℕ) (at : ℕ) (a b : ReadRefusal) → EndFault bytes at a →
    EndFault bytes at b → a ≡ b
end_once bytes at a b (missing never is) (missing also other) = is ∙ sym other
end_once bytes at a b (missing never is) (byte_after byte later there other) =
    absurd (never (byte ∷ later) there)
end_once bytes at a b (byte_after byte later there is) (missing never other) =
    absurd (never (byte ∷ later) there)
end_once bytes at a b (byte_after byte later there is) (byte_after second rest also other) =
    is ∙ sym other

pub no_end_fault : (bytes : List ℕ) (at : ℕ) (refusal : ReadRefusal) → drop at bytes ≡ eoc →
    EndFault bytes at refusal → ⊥
no_end_fault bytes at refusal end (missing never is) = never [] end
no_end_fault bytes at refusal end (byte_after byte later there is) =
    let longer : 2 ≡ suc (suc (suc (length later))) =
    ap (λ (l : List ℕ). length l) (sym end ∙ there) in
    absurd (omega (arith, longer))

-- bytes that begin with EOC, and others
pub begins : (l : List ℕ) → 2 ≤ length l → slice_index l 0 ≡ 255 → slice_index l 1 ≡ 217 →
    l ≡ eoc ++ drop 2 l
begins [] long first second = absurd (omega (arith, long))
begins (a ∷ []) long first second = absurd (omega (arith, long))
begins (a ∷ b ∷ l) long first second =
    ap (λ n. n ∷ b ∷ l) first ∙ ap (λ n. 255 ∷ n ∷ l) second

pub alone : (l : List ℕ) → length l ≤ 2 → l ≡ eoc ++ drop 2 l → l ≡ eoc
alone [] few is = absurd (let n = ap (λ (k : List ℕ). length k) is in omega (arith, n))
alone (a ∷ []) few is = absurd (let n = ap (λ (k : List ℕ). length k) is in omega (arith, n))
alone (a ∷ b ∷ []) few is = is
alone (a ∷ b ∷ c ∷ l) few is = absurd (omega (arith, few))

pub followed : (l : List ℕ) → 2 < length l → l ≡ eoc ++ drop 2 l →
    l ≡ eoc ++ slice_index l 2 ∷ drop 3 l
followed [] long is = absurd (omega (arith, long))
followed (a ∷ []) long is = absurd (omega (arith, long))
followed (a ∷ b ∷ []) long is = absurd (omega (arith, long))
followed (a ∷ b ∷ c ∷ l) long is = is

pub not_short : (l later : List ℕ) → length l < 2 → l ≡ eoc ++ later → ⊥
not_short l later short is =
    let n : length l ≡ suc (suc (length later)) = ap (λ (k : List ℕ). length k) is in
    absurd (omega (arith, n, short))

pub first_is : (l later : List ℕ) → l ≡ eoc ++ later → slice_index l 0 ≡ 255
first_is l later is = ap (λ (k : List ℕ). slice_index k 0) is

pub second_is : (l later : List ℕ) → l ≡ eoc ++ later → slice_index l 1 ≡ 217
second_is l later is = ap (λ (k : List ℕ). slice_index k 1) is

-- What follows a main header: tile-parts, and EOC after them.

pub either : {A B C D : Type 0} → (A → C) → (B → D) → A ⊎ B → C ⊎ D
either f h (inl a) = inl (f a)
either f h (inr b) = inr (h b)

pub neither : {A B C : Type 0} → (A → ⊥) → (B → ⊥) → A ⊎ B → C
neither f h (inl a) = absurd (f a)
neither f h (inr b) = absurd (h b)

-- where the tile-parts were refused
pub rest_refused : (bytes : List ℕ) (read : MainRead) (g : Geometry) (e : ReadRefusal) →
    (e ≡ Memory) ⊎ PartsFault g read.main.steps bytes read.bytes read.main.parts.items
    read.parts_at.items e → (e ≡ Memory) ⊎ RestFault bytes read g e
rest_refused bytes read g e = either (λ is. is) (λ f. of_part f)

pub rest_err : (bytes : List ℕ) (read : MainRead) (g : Geometry) (e refusal : ReadRefusal) →
    ((ws : List PartWhole) (to : ℕ) → PartsStand g read.main.steps bytes read.bytes to 0
    (length read.main.parts.items) read.main.parts.items ws → e ≡ Memory) →
    ((f : ReadRefusal) → PartsFault g read.main.steps bytes read.bytes read.main.parts.items
    read.parts_at.items f → (◌≡◌ {A = Result ℕ ReadRefusal} (Err e) (Err f))
    ⊎ (◌≡◌ {A = Result ℕ ReadRefusal} (Err e) (Err Memory))) →
    RestFault bytes read g refusal → (e ≡ refusal) ⊎ (e ≡ Memory)
rest_err bytes read g e refusal memory faults (of_part f) =
    either (err_once {T = ℕ} {E = ReadRefusal} e refusal)
    (err_once {T = ℕ} {E = ReadRefusal} e Memory) (faults refusal f)
rest_err bytes read g e refusal memory faults (of_end ws stand f) =
    inr (memory ws (end_of read) stand)

-- where they were read
pub rest_ended : (bytes : List ℕ) (read : MainRead) (g : Geometry) (refusal : ReadRefusal) →
    (PartsFault g read.main.steps bytes read.bytes read.main.parts.items read.parts_at.items
    refusal → ⊥) → RestFault bytes read g refusal → EndFault bytes (end_of read) refusal
rest_ended bytes read g refusal never (of_part f) = absurd (never f)
rest_ended bytes read g refusal never (of_end ws stand f) = f

pub no_parts_fault : (to : ℕ) (refusal : ReadRefusal) →
    (◌≡◌ {A = Result ℕ ReadRefusal} (Ok to) (Err refusal))
    ⊎ (◌≡◌ {A = Result ℕ ReadRefusal} (Ok to) (Err Memory)) → ⊥
no_parts_fault to refusal = neither (ok_no_err {T = ℕ} {E = ReadRefusal} (Ok to) to refusal refl)
    (ok_no_err {T = ℕ} {E = ReadRefusal} (Ok to) to Memory refl)

pub rest_stands : (bytes : List ℕ) (read : MainRead) (g : Geometry) (to : ℕ)
    (ws : List PartWhole) → PartsStand g read.main.steps bytes read.bytes to 0
    (length read.main.parts.items) read.main.parts.items ws → drop to bytes ≡ eoc →
    RestStands bytes read g ws
rest_stands bytes read g to ws stand end = record {
  parts = subst (λ n. PartsStand g read.main.steps bytes read.bytes n 0
      (length read.main.parts.items) read.main.parts.items ws) stand.to_is stand;
  end = subst (λ n. drop n bytes ≡ eoc) stand.to_is end;
}

pub rest_fault : (bytes : List ℕ) (read : MainRead) (g : Geometry) (to : ℕ)
    (ws : List PartWhole) (refusal : ReadRefusal) → PartsStand g read.main.steps bytes read.bytes
    to 0 (length read.main.parts.items) read.main.parts.items ws → EndFault bytes to refusal →
    RestFault bytes read g refusal
rest_fault bytes read g to ws refusal stand f =
    of_end ws (subst (λ n. PartsStand g read.main.steps bytes read.bytes n 0
    (length read.main.parts.items) read.main.parts.items ws) stand.to_is stand)
    (subst (λ n. EndFault bytes n refusal) stand.to_is f)

-- Bytes that leave a file in memory.
use Rattle.std.proofs.Common.{ℕ, Bool, true, false, ◌≡◌, ◌≤◌, ◌<◌, ◌+◌, ◌∙◌, List, [], ◌++◌, Some}
use Rattle.std.proofs.Common.{length, map, take, drop, slice_get, IsTrue, ap, sym, arith}
use Rattle.std.proofs.lemmas.List.{take-append-le, take-append-drop, drop-drop, length-map}
use Rattle.std.proofs.lemmas.Option.{slice_get-get_or}
use Rattle.cine_ports.specs.Source.{File}
use Rattle.cine_ports.specs.Memory.{bytes_at, bytes_left}

-- the front of what was left stands in the front of a buffer, of which a part was read into
pub left-moved : (is_begun : Bool) (files : List File) (asked at n : ℕ) (part rest : List ℕ) →
    IsTrue is_begun → n ≤ length part → take n part ≡ take n (drop at (bytes_at files asked)) →
    bytes_left is_begun files asked at
    ≡ take n (part ++ rest) ++ bytes_left is_begun files asked (at + n)
left-moved false files asked at n part rest begun within moved = cc
left-moved true files asked at n part rest begun within moved =
    sym (take-append-drop n (drop at bytes))
    ∙ ap (λ front. front ++ drop n (drop at bytes))
    (sym moved ∙ sym (take-append-le n part rest within))
    ∙ ap (λ left. take n (part ++ rest) ++ left) (drop-drop n at bytes)
  where
    bytes : List ℕ
    bytes = bytes_at files asked

-- of a file that is begun at its front all bytes are left
pub left-whole : (is_begun : Bool) (files : List File) (i : ℕ) → IsTrue is_begun →
    i < length files →
    slice_get (map (λ file. file.bytes) files) i ≡ Some (bytes_left is_begun files i 0)
left-whole false files i begun within = cc
left-whole true files i begun within =
    let len = length-map files (λ file. file.bytes) in
    let there : i < length (map (λ file. file.bytes) files) = omega (arith, len) in
    slice_get-get_or (map (λ file. file.bytes) files) i [] there

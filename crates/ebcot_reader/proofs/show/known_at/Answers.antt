use Rattle.std.proofs.Common.{ℕ, ◌≡◌, ◌+◌, ◌-◌, ◌*◌, ◌/◌, ◌%◌, ◌<◌, get_or, sym, ap, ◌∙◌, arith}
use Rattle.std.proofs.lemmas.Nat.{div-mul-add, mod-mul-add}
use Rattle.std.proofs.lemmas.Nat.Bits.{shr_and_one}
use Rattle.ebcot_contexts.specs.Cells.{Cell, cell_at}
use Rattle.ebcot_reader.specs.Reading.{word_of}
use Rattle.ebcot_reader.proofs.Showing.{place_is, magnitude_is, negative_is}
use Rattle.ebcot_reader.proofs.show.known_at.Goals as goal

pub returns : goal.returns
returns g = λ w cells within inside known tops small.
    let x : ℕ = g.args.x in
    let y : ℕ = g.args.y in
    let i : ℕ = y * w + x in
    let c : Cell = cell_at cells i in
    let word : ℕ = get_or g.args.words.now (34 * (y / 4 + 1) + (x + 1)) 0 in
    let value : ℕ = get_or g.args.grid.now (32 * y + x) 0 in
    let some : 0 < w = omega arith in
    let unknown : g.saturating_sub-unknown.result ≡ c.unknown =
    g.saturating_sub-unknown.ensures
    ∙ (ap (λ (v : ℕ). g.args.top - v) (shr_and_one word (21 + 3 * (y % 4)))
    ∙ sym (tops i (x + 1) (y / 4 + 1) (y % 4) (place_is w x y within) some inside (omega arith))) in
    let d = div-mul-add y w x within in
    let m = mod-mul-add y w x within in
    let index : 32 * y + x ≡ 32 * (i / w) + i % w = omega arith in
    let is : value ≡ word_of c = ap (λ (k : ℕ). get_or g.args.grid.now k 0) index
    ∙ known.each i inside in
    λ k. record {
      magnitude = magnitude_is value g.saturating_sub-unknown.result c is (small i) unknown k;
      negative = negative_is value c is (small i) k;
      unknown = unknown k;
    }

use Rattle.std.proofs.Common.{◌≡◌, ◌++◌, ◌∙◌, ℕ, List, sym, ap, arith}
use Rattle.std.proofs.lemmas.Bool.Decides.{nat_tests}
use Rattle.std.specs.List.{flat_map}
use Rattle.cine_nums.specs.declared.orient.Orient.{Orient}
use Rattle.cine_nums.specs.declared.orient.Orient.TheVariants.{HL, LH, HH}
use Rattle.packet_order.specs.Blocks.{blocks_in}
use Rattle.frame_encoder.specs.Writing.{code_of}
use Rattle.frame_encoder.proofs.Appends.{step}
use Rattle.frame_encoder.proofs.Precincts.{low_blocks, high_blocks}
use Rattle.frame_encoder.proofs.writing.ChosenPasses.push_codes.Goals as goal

pub returns-then-packet-eq0 : goal.returns-then-packet-eq0
returns-then-packet-eq0 c = λ planes is.
    let low : c.args.packet.res ≡ 0 = grind (arith, nat_tests, c.if-packet-eq0.true) in
    c.in_ok-push_band.ensures planes is
    ∙ ap (λ (bytes : List ℕ). c.args.out.now.items ++ bytes)
    (sym (low_blocks c.args.self.now.geometry c.args.packet (code_of planes c.args.self.now) low))

pub returns : goal.returns
returns c = λ planes is.
    let s = c.args.self.now in
    let of : Orient → List ℕ = λ o. flat_map (code_of planes s)
    (blocks_in s.geometry c.args.packet o) in
    let high : c.args.packet.res ≡ 0 → ⊥ = λ low.
    absurd (grind (arith, nat_tests, low, c.if-packet-eq0.false)) in
    let two = step c.push_band-2.new.out.items c.push_band-3.new.out.items
    c.push_band-4.new.out.items (of LH) (of HH) (c.in_ok-push_band-3.ensures planes is)
    (c.in_ok-push_band-4.ensures planes is) in
    step c.args.out.now.items c.push_band-2.new.out.items c.push_band-4.new.out.items (of HL)
    (of LH ++ of HH) (c.in_ok-push_band-2.ensures planes is) two
    ∙ ap (λ (bytes : List ℕ). c.args.out.now.items ++ bytes)
    (sym (high_blocks s.geometry c.args.packet (code_of planes s) high))

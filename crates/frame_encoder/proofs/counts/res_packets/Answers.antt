use Rattle.std.proofs.Common.{◌≡◌, ◌≤◌, ◌*◌, ◌∙◌, ℕ, length, sym, subst, ap, arith}
use Rattle.std.proofs.lemmas.Bool.Decides.{nat_tests}
use Rattle.packet_order.specs.Order.{packets_of_res_in}
use Rattle.frame_encoder.proofs.Lengths.{held_count, res_in_few}
use Rattle.frame_encoder.proofs.counts.res_packets.Goals as goal

product : (a b m n : ℕ) → a ≡ m → b ≡ n → b * a ≡ n * m
product a b m n p q = ap (λ x. b * x) p ∙ ap (λ y. y * m) q

counted : (c : goal.After-precincts-across) →
    c.precincts-across.result.1 * c.precincts-across.result.0
    ≡ length (packets_of_res_in c.args.geometry.now c.args.index c.args.component c.args.res)
counted c =
    let g = c.args.geometry.now in
    product c.precincts-across.result.0 c.precincts-across.result.1 _ _
    c.precincts-across.ensures.across c.precincts-across.ensures.down
    ∙ sym (held_count g c.args.index c.args.component c.args.res
    (sym c.part_at.ensures.value ∙ grind (arith, nat_tests, c.if-part_at-index.false)))

pub returns-clause-count : goal.returns-clause-count
returns-clause-count c = counted c

pub returns-clause-few : goal.returns-clause-few
returns-clause-few c =
    let few = res_in_few c.args.geometry.now c.args.index c.args.component c.args.res in
    subst (λ n. n ≤ 561) (sym (counted c)) few

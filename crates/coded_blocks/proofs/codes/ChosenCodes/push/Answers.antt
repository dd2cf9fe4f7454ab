use Rattle.std.proofs.Common.{◌≡◌, ◌++◌, length, arith, ap, refl}
use Rattle.coded_blocks.proofs.NextCode.{stands, stays}
use Rattle.coded_blocks.proofs.codes.ChosenCodes.push.Goals as goal

pub returns-in-Ok-clause-next : goal.returns-in-Ok-clause-next
returns-in-Ok-clause-next c =
    let s = c.args.self.now in
    let end : c.len-end.result ≡ length (s.bytes.items ++ c.args.code.now) =
    omega (arith, ap length c.in_ok-extend_from_slice.ensures.items) in
    stands s.bytes.items c.args.code.now s.ends.items s.order s.inside s.whole _ _
    c.len-end.result _ c.in_ok-extend_from_slice.ensures.items c.in-Ok.ensures.items end refl

pub returns-in-Ok-clause-before : goal.returns-in-Ok-clause-before
returns-in-Ok-clause-before c = λ n lt.
    let s = c.args.self.now in
    let end : c.len-end.result ≡ length (s.bytes.items ++ c.args.code.now) =
    omega (arith, ap length c.in_ok-extend_from_slice.ensures.items) in
    stays s.bytes.items c.args.code.now s.ends.items s.order s.inside s.whole _ _
    c.len-end.result n c.in_ok-extend_from_slice.ensures.items c.in-Ok.ensures.items end lt

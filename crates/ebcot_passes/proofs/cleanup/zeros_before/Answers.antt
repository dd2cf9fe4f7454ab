use Rattle.std.proofs.Common.{◌+◌, ◌≡◌, true, false, refl, sym, ◌∙◌, arith}
use Rattle.ebcot_contexts.specs.Cells.{coef_at, bit_of}
use Rattle.ebcot_passes.proofs.Cleanups.{row_word, zeros_are}
use Rattle.ebcot_passes.proofs.cleanup.zeros_before.Goals as goal

pub returns-then-has_bit-clause-zeros : goal.returns-then-has_bit-clause-zeros
returns-then-has_bit-clause-zeros g =
    λ w h column stripe n xa xb xc xd coefs rows a ina inb inc ind.
    let ea : bit_of (coef_at coefs xa).0 g.args.p ≡ true =
    sym (g.has_bit.ensures (coef_at coefs xa).0 (coef_at coefs xa).1
    (row_word w h xa column stripe 0 n g.args.j g.args.j coefs g.args.grid.now rows.first a ina
    (omega arith)) (a.below xa))
    ∙ g.if-has_bit.true in
    zeros_are coefs g.args.p xa xb xc xd true _ _ _ ea refl refl refl

pub returns-then-has_bit-2-clause-zeros : goal.returns-then-has_bit-2-clause-zeros
returns-then-has_bit-2-clause-zeros g =
    λ w h column stripe n xa xb xc xd coefs rows a ina inb inc ind.
    let ea : bit_of (coef_at coefs xa).0 g.args.p ≡ false =
    sym (g.has_bit.ensures (coef_at coefs xa).0 (coef_at coefs xa).1
    (row_word w h xa column stripe 0 n g.args.j g.args.j coefs g.args.grid.now rows.first a ina
    (omega arith)) (a.below xa))
    ∙ g.if-has_bit.false in
    let eb : bit_of (coef_at coefs xb).0 g.args.p ≡ true =
    sym (g.has_bit-2.ensures (coef_at coefs xb).0 (coef_at coefs xb).1
    (row_word w h xb column stripe 1 n g.args.j
    (g.args.j + 32) coefs g.args.grid.now rows.second a inb (omega arith)) (a.below xb))
    ∙ g.if-has_bit-2.true in
    zeros_are coefs g.args.p xa xb xc xd false true _ _ ea eb refl refl

pub returns-then-has_bit-3-clause-zeros : goal.returns-then-has_bit-3-clause-zeros
returns-then-has_bit-3-clause-zeros g =
    λ w h column stripe n xa xb xc xd coefs rows a ina inb inc ind.
    let ea : bit_of (coef_at coefs xa).0 g.args.p ≡ false =
    sym (g.has_bit.ensures (coef_at coefs xa).0 (coef_at coefs xa).1
    (row_word w h xa column stripe 0 n g.args.j g.args.j coefs g.args.grid.now rows.first a ina
    (omega arith)) (a.below xa))
    ∙ g.if-has_bit.false in
    let eb : bit_of (coef_at coefs xb).0 g.args.p ≡ false =
    sym (g.has_bit-2.ensures (coef_at coefs xb).0 (coef_at coefs xb).1
    (row_word w h xb column stripe 1 n g.args.j
    (g.args.j + 32) coefs g.args.grid.now rows.second a inb (omega arith)) (a.below xb))
    ∙ g.if-has_bit-2.false in
    let ec : bit_of (coef_at coefs xc).0 g.args.p ≡ true =
    sym (g.has_bit-3.ensures (coef_at coefs xc).0 (coef_at coefs xc).1
    (row_word w h xc column stripe 2 n g.args.j
    (g.args.j + 64) coefs g.args.grid.now rows.third a inc (omega arith)) (a.below xc))
    ∙ g.if-has_bit-3.true in
    zeros_are coefs g.args.p xa xb xc xd false false true _ ea eb ec refl

pub returns-then-has_bit-4-clause-zeros : goal.returns-then-has_bit-4-clause-zeros
returns-then-has_bit-4-clause-zeros g =
    λ w h column stripe n xa xb xc xd coefs rows a ina inb inc ind.
    let ea : bit_of (coef_at coefs xa).0 g.args.p ≡ false =
    sym (g.has_bit.ensures (coef_at coefs xa).0 (coef_at coefs xa).1
    (row_word w h xa column stripe 0 n g.args.j g.args.j coefs g.args.grid.now rows.first a ina
    (omega arith)) (a.below xa))
    ∙ g.if-has_bit.false in
    let eb : bit_of (coef_at coefs xb).0 g.args.p ≡ false =
    sym (g.has_bit-2.ensures (coef_at coefs xb).0 (coef_at coefs xb).1
    (row_word w h xb column stripe 1 n g.args.j
    (g.args.j + 32) coefs g.args.grid.now rows.second a inb (omega arith)) (a.below xb))
    ∙ g.if-has_bit-2.false in
    let ec : bit_of (coef_at coefs xc).0 g.args.p ≡ false =
    sym (g.has_bit-3.ensures (coef_at coefs xc).0 (coef_at coefs xc).1
    (row_word w h xc column stripe 2 n g.args.j
    (g.args.j + 64) coefs g.args.grid.now rows.third a inc (omega arith)) (a.below xc))
    ∙ g.if-has_bit-3.false in
    let ed : bit_of (coef_at coefs xd).0 g.args.p ≡ true =
    sym (g.has_bit-4.ensures (coef_at coefs xd).0 (coef_at coefs xd).1
    (row_word w h xd column stripe 3 n g.args.j
    (g.args.j + 96) coefs g.args.grid.now rows.fourth a ind (omega arith)) (a.below xd))
    ∙ g.if-has_bit-4.true in
    zeros_are coefs g.args.p xa xb xc xd false false false true ea eb ec ed

pub returns-clause-zeros : goal.returns-clause-zeros
returns-clause-zeros g = λ w h column stripe n xa xb xc xd coefs rows a ina inb inc ind.
    let ea : bit_of (coef_at coefs xa).0 g.args.p ≡ false =
    sym (g.has_bit.ensures (coef_at coefs xa).0 (coef_at coefs xa).1
    (row_word w h xa column stripe 0 n g.args.j g.args.j coefs g.args.grid.now rows.first a ina
    (omega arith)) (a.below xa))
    ∙ g.if-has_bit.false in
    let eb : bit_of (coef_at coefs xb).0 g.args.p ≡ false =
    sym (g.has_bit-2.ensures (coef_at coefs xb).0 (coef_at coefs xb).1
    (row_word w h xb column stripe 1 n g.args.j
    (g.args.j + 32) coefs g.args.grid.now rows.second a inb (omega arith)) (a.below xb))
    ∙ g.if-has_bit-2.false in
    let ec : bit_of (coef_at coefs xc).0 g.args.p ≡ false =
    sym (g.has_bit-3.ensures (coef_at coefs xc).0 (coef_at coefs xc).1
    (row_word w h xc column stripe 2 n g.args.j
    (g.args.j + 64) coefs g.args.grid.now rows.third a inc (omega arith)) (a.below xc))
    ∙ g.if-has_bit-3.false in
    let ed : bit_of (coef_at coefs xd).0 g.args.p ≡ false =
    sym (g.has_bit-4.ensures (coef_at coefs xd).0 (coef_at coefs xd).1
    (row_word w h xd column stripe 3 n g.args.j
    (g.args.j + 96) coefs g.args.grid.now rows.fourth a ind (omega arith)) (a.below xd))
    ∙ g.if-has_bit-4.false in
    zeros_are coefs g.args.p xa xb xc xd false false false false ea eb ec ed

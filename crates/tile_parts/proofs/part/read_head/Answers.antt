use Rattle.std.proofs.Common.{◌≡◌, ℕ, List, Result, Err, MatchResult, arith, ap, subst, sym}
use Rattle.std.proofs.Common.{◌∙◌, refl}
use Rattle.std.proofs.lemmas.Result.{err_from_is_err_and}
use Rattle.tile_parts.specs.Spelling.{Spells}
use Rattle.tile_parts.specs.Refusals.{IsRefused}
use Rattle.tile_parts.specs.Refusals.IsRefused.{short, field, marker}
use Rattle.tile_parts.specs.Inside.{sot_at}
use Rattle.tile_parts.specs.declared.part.Part.{Part}
use Rattle.tile_parts.specs.declared.refusal.PartRefusal.{PartRefusal}
use Rattle.tile_parts.proofs.SotLemmas.{has_sot}
use Rattle.tile_parts.proofs.SpellingLemmas.{part_is_spelled}
use Rattle.tile_parts.proofs.part.read_head.Goals as goal

-- the error is handed on
refuses : (bytes : List ℕ) (at index count : ℕ) (result : Result Part PartRefusal) (e : PartRefusal)
    → result ≡ Err e → IsRefused bytes at index count e
    → MatchResult result (Spells bytes at index count) (IsRefused bytes at index count)
refuses bytes at index count result e is h =
    subst (λ r. MatchResult r (Spells bytes at index count) (IsRefused bytes at index count))
    (sym is) h

pub returns-then-bytes-at : goal.returns-then-bytes-at
returns-then-bytes-at c = short c.if-bytes-at.true refl

pub returns-in_err-length : goal.returns-in_err-length
returns-in_err-length c =
    let p = err_from_is_err_and c.from_residual.result c.from_residual.ensures.1 in
    refuses _ _ _ _ _ _ (p.1 ∙ ap (λ k. Err k) p.2)
    (field (sot_at c.args.bytes.now c.args.at)
    (has_sot c.args.bytes.now c.args.at (λ k. omega (arith, c.type_inv.bytes k))
    (omega (arith, c.if-bytes-at.false)))
    c.in_err-length.ensures.fault)

pub returns-in_err-sod : goal.returns-in_err-sod
returns-in_err-sod c =
    let p = err_from_is_err_and c.from_residual-in_err-sod.result
    c.from_residual-in_err-sod.ensures.1 in
    let psot = c.in_ok-length.ensures.psot in
    let (to, stand, inside, fault) = c.in_err-sod.ensures.fault in
    refuses _ _ _ _ _ _ (p.1 ∙ ap (λ k. Err k) p.2)
    (marker (sot_at c.args.bytes.now c.args.at) to
    (has_sot c.args.bytes.now c.args.at (λ k. omega (arith, c.type_inv.bytes k))
    (omega (arith, c.if-bytes-at.false)))
    c.in_ok-length.ensures.ok stand (rw psot at inside) (rw psot at fault))

pub returns : goal.returns
returns c = part_is_spelled c.args.bytes.now c.args.at c.args.index c.args.count _
    (λ k. omega (arith, c.type_inv.bytes k)) (record {
      room = omega (arith, c.if-bytes-at.false);
      rows = c.in_ok-length.ensures.ok;
      length_is = c.in_ok-length.ensures.psot;
      stop_is = refl;
      to = c.in_ok-sod.sod;
      stand = c.in_ok-sod.ensures.stand;
      sod = c.in_ok-sod.ensures.sod;
      body_is = refl;
    })

use Rattle.std.proofs.Common.{◌≡◌, ℕ, ◌+◌, ◌<◌, List, length, Ok, Err, Result, ap, sym, subst, ◌∙◌}
use Rattle.std.proofs.Common.{arith, refl, inl, inr, ◌⊎◌}
use Rattle.std.specs.Prelude.{IfErr}
use Rattle.std.specs.List.{Contains}
use Rattle.std.proofs.lemmas.Result.{err_from_is_err_and}
use Rattle.band_geometry.specs.Bands.{IsBlock}
use Rattle.band_geometry.specs.declared.places.BlockId.{BlockId}
use Rattle.packet_order.specs.Blocks.{packet_of_block}
use Rattle.packet_order.specs.Order.{ordered_packets}
use Rattle.packet_order.specs.declared.packet.PacketId.{PacketId}
use Rattle.profile_reader.specs.Reads.{PacketsSay}
use Rattle.codestream_reader.specs.Spans.{said_of, span_in}
use Rattle.codestream_reader.specs.PartFaults.{PartsFault}
use Rattle.codestream_reader.specs.declared.part.PartKnown.{PartKnown}
use Rattle.codestream_reader.specs.declared.refusal.ReadRefusal.{ReadRefusal}
use Rattle.codestream_reader.specs.declared.refusal.ReadRefusal.TheVariants.{Memory}
use Rattle.codestream_reader.proofs.Lists.{ok_no_err}
use Rattle.codestream_reader.proofs.OnePacket.{err_once}
use Rattle.codestream_reader.proofs.PartsGoing.{One, Not, Stops, AllGone, none_gone, one_gone}
use Rattle.codestream_reader.proofs.PartsGoing.{one_stops, all_gone, known_is}
use Rattle.codestream_reader.proofs.parts.read_tile_parts.Goals as goal

pub loop-index-init : goal.loop-index-init
loop-index-init c =
    none_gone c.args.geometry.now c.args.read.now.main.steps c.args.bytes.now c.args.read.now.bytes
    c.args.read.now.main.parts.items c.args.read.now.parts_at.items c.args.spans.now
    c.requires.inside

pub read_tile_part-requires-clause-inside : goal.read_tile_part-requires-clause-inside
read_tile_part-requires-clause-inside c = c.loop-index.invariant.inside

pub read_tile_part-requires-clause-spans : goal.read_tile_part-requires-clause-spans
read_tile_part-requires-clause-spans c = c.loop-index.invariant.count ∙ c.requires.spans

pub loop-index-preserved : goal.loop-index-preserved
loop-index-preserved c =
    let g = c.args.geometry.now in
    let bytes = c.args.bytes.now in
    let sizes = c.args.read.now.main.parts.items in
    let places = c.args.read.now.parts_at.items in
    let i = c.loop-index.index in
    let known = c.known_of-known.result in
    let test = c.loop-index-test.true in
    let parts = c.parts-count.ensures in
    let sizes_count = c.requires.parts in
    let below : i < length sizes = omega (arith, test, parts, sizes_count) in
    let ids_are : c.as_slice.result.now ≡ ordered_packets g known.index =
    c.as_slice.ensures.value ∙ c.in_ok-ids.ensures.value
    ∙ ap (λ n. ordered_packets g n) (sym c.known_of-known.ensures.index) in
    one_gone g c.args.read.now.main.steps bytes c.args.read.now.bytes sizes places
    c.args.spans.now i c.loop-index.at c.in_ok-at.at c.loop-index.spans
    c.read_tile_part.new.spans below (c.requires.parts_at ∙ sym c.requires.parts)
    c.requires.spans c.loop-index.invariant
    (subst (λ (k : PartKnown). One g c.args.read.now.main.steps bytes c.loop-index.at
    c.in_ok-at.at k c.loop-index.spans c.read_tile_part.new.spans)
    (known_is sizes places i known c.known_of-known.ensures.index
    (c.known_of-known.ensures.count ∙ c.parts-count.ensures ∙ sym c.requires.parts)
    c.known_of-known.ensures.size c.known_of-known.ensures.size_at)
    (record {
      stands = c.in_ok-at.ensures.stands;
      end = c.in_ok-at.ensures.end;
      inside = c.in_ok-at.ensures.inside;
      says = λ w s.
          subst (λ (l : List PacketId).
          PacketsSay g (said_of bytes c.read_tile_part.new.spans) l w.packets) ids_are
          (c.in_ok-at.ensures.reads w s).1;
      faults = c.in_ok-at.ensures.faults;
      others = subst (λ (l : List PacketId). (b : BlockId) → IsBlock g b →
          (Contains l (packet_of_block b) → ⊥) →
          span_in g c.read_tile_part.new.spans b ≡ span_in g c.loop-index.spans b) ids_are
          c.in_ok-at.ensures.others;
      count = c.in_ok-at.ensures.count;
    }))

stops : (c : goal.After-drop-ids) →
    Stops c.args.geometry.now c.args.read.now.main.steps c.args.bytes.now c.args.read.now.bytes
    c.args.read.now.main.parts.items c.args.read.now.parts_at.items c.in_err-at.field-0.0
stops c =
    let g = c.args.geometry.now in
    let bytes = c.args.bytes.now in
    let sizes = c.args.read.now.main.parts.items in
    let places = c.args.read.now.parts_at.items in
    let i = c.loop-index.index in
    let e : ReadRefusal = c.in_err-at.field-0.0 in
    let known = c.known_of-known.result in
    let test = c.loop-index-test.true in
    let parts = c.parts-count.ensures in
    let sizes_count = c.requires.parts in
    let below : i < length sizes = omega (arith, test, parts, sizes_count) in
    one_stops g c.args.read.now.main.steps bytes c.args.read.now.bytes sizes places
    c.args.spans.now i c.loop-index.at e c.loop-index.spans below
    (c.requires.parts_at ∙ sym c.requires.parts) c.loop-index.invariant
    (subst (λ (k : PartKnown). Not g c.args.read.now.main.steps bytes c.loop-index.at k e)
    (known_is sizes places i known c.known_of-known.ensures.index
    (c.known_of-known.ensures.count ∙ c.parts-count.ensures ∙ sym c.requires.parts)
    c.known_of-known.ensures.size c.known_of-known.ensures.size_at)
    (record {
      refused = c.in_err-at.ensures.refused;
      none = λ w s. never e (c.loop-index.at + known.size) (c.in_err-at.ensures.reads w s).0;
      faults = λ refusal f.
          err_once {T = ℕ} {E = ReadRefusal} e refusal (c.in_err-at.ensures.faults refusal f);
    }))
  where
    never : (e : ReadRefusal) (to : ℕ) → ◌≡◌ {A = Result ℕ ReadRefusal} (Err e) (Ok to) → ⊥
    never e to same = ok_no_err (Ok to) to e refl (sym same)

err_is : (c : goal.After-drop-ids) →
    c.from_residual-in_err-at.result ≡ Err c.in_err-at.field-0.0
err_is c =
    let p = err_from_is_err_and c.from_residual-in_err-at.result
    c.from_residual-in_err-at.ensures.1 in
    p.1 ∙ ap (λ k. Err k) p.2

pub returns-in_err-at-clause-reads : goal.returns-in_err-at-clause-reads
returns-in_err-at-clause-reads c ws to s = absurd ((stops c).none ws to s)

pub returns-in_err-at-clause-refused : goal.returns-in_err-at-clause-refused
returns-in_err-at-clause-refused c =
    subst (λ (r : Result ℕ ReadRefusal). IfErr r (λ refusal. (refusal ≡ Memory) ⊎ PartsFault
    c.args.geometry.now c.args.read.now.main.steps c.args.bytes.now c.args.read.now.bytes
    c.args.read.now.main.parts.items c.args.read.now.parts_at.items refusal))
    (sym (err_is c)) (inr (stops c).refused)

pub returns-in_err-at-clause-faults : goal.returns-in_err-at-clause-faults
returns-in_err-at-clause-faults c refusal f =
    inl (err_is c ∙ ap (λ k. Err k) ((stops c).faults refusal f))

whole : (c : goal.After-loop-index) →
    AllGone c.args.geometry.now c.args.read.now.main.steps c.args.bytes.now c.args.read.now.bytes
    c.args.read.now.main.parts.items c.args.read.now.parts_at.items c.loop-index.at
    c.loop-index.spans
whole c =
    let test = c.loop-index-test.false in
    let parts = c.parts-count.ensures in
    let sizes_count = c.requires.parts in
    all_gone c.args.geometry.now c.args.read.now.main.steps c.args.bytes.now c.args.read.now.bytes
    c.args.read.now.main.parts.items c.args.read.now.parts_at.items c.args.spans.now
    c.loop-index.index c.loop-index.at c.loop-index.spans
    (omega (arith, test, parts, sizes_count)) c.loop-index.invariant

pub returns-clause-stand : goal.returns-clause-stand
returns-clause-stand c = (whole c).stand

pub returns-clause-reads : goal.returns-clause-reads
returns-clause-reads c = (whole c).reads

pub returns-clause-faults : goal.returns-clause-faults
returns-clause-faults c refusal f = absurd ((whole c).faults refusal f)

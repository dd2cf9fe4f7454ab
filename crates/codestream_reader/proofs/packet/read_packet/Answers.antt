use Rattle.std.proofs.Common.{◌≡◌, ℕ, ◌+◌, ◌<◌, List, Ok, Err, Result, ap, arith, sym, subst, ◌∙◌}
use Rattle.std.proofs.Common.{length, refl, slice_range}
use Rattle.std.specs.List.{All, AllPairs, Contains}
use Rattle.std.specs.Prelude.{IfErr}
use Rattle.band_geometry.specs.Counts.{number_of}
use Rattle.std.proofs.lemmas.Result.{err_from_is_err_and}
use Rattle.packet_headers.specs.Reading.{Found}
use Rattle.packet_headers.specs.declared.packet.BandShape.{BandShape}
use Rattle.packet_headers.specs.declared.refusal.PacketRefusal.{PacketRefusal}
use Rattle.profile_reader.specs.Shapes.{shapes_in}
use Rattle.profile_reader.specs.Words.{PacketWhole}
use Rattle.codestream_reader.specs.PacketFaults.{PacketFault}
use Rattle.codestream_reader.specs.Standing.{PacketStands}
use Rattle.codestream_reader.proofs.Lists.{ok_no_err}
use Rattle.codestream_reader.proofs.OnePacket.{ReadsAs, entries_enough, entries_short, found_inside}
use Rattle.codestream_reader.proofs.OnePacket.{stands_read, read_says}
use Rattle.codestream_reader.proofs.Reading.{found_stands}
use Rattle.codestream_reader.proofs.Saying.{numbers_within, numbers_apart, number_elsewhere}
use Rattle.codestream_reader.proofs.packet.read_packet.Goals as goal

refuses : (shapes : List BandShape) (bytes : List ℕ) (at stop : ℕ)
    (result : Result ℕ PacketRefusal) (e : PacketRefusal) → result ≡ Err e →
    PacketFault shapes bytes at stop e → IfErr result (PacketFault shapes bytes at stop)
refuses shapes bytes at stop result e is h =
    subst (λ (r : Result ℕ PacketRefusal). IfErr r (PacketFault shapes bytes at stop)) (sym is) h

pub returns-in_err-found-clause-refused : goal.returns-in_err-found-clause-refused
returns-in_err-found-clause-refused c =
    let p = err_from_is_err_and c.from_residual.result c.from_residual.ensures.1 in
    refuses _ _ _ _ _ _ (p.1 ∙ ap (λ k. Err k) p.2)
    (subst (λ (s : List BandShape).
    PacketFault s c.args.bytes.now c.args.at c.args.stop c.in_err-found.field-0.0)
    c.shape_of-shape.ensures.value c.in_err-found.ensures.refused)

pub returns-in_err-found-clause-reads : goal.returns-in_err-found-clause-reads
returns-in_err-found-clause-reads c w to stands =
    absurd (ok_no_err c.read_at.result _ _
    (stands_read (shapes_in c.args.geometry.now c.args.steps.now c.args.id) c.args.bytes.now
    c.args.at c.args.stop to w c.read_at.result c.requires.inside c.requires.end
    (subst (λ (s : List BandShape). ReadsAs s (slice_range c.args.bytes.now c.args.at c.args.stop)
    c.read_at.result) c.shape_of-shape.ensures.value c.read_at.ensures.reads) stands)
    c.in_err-found.was)

pub returns-in_err-found-clause-faults : goal.returns-in_err-found-clause-faults
returns-in_err-found-clause-faults c fault is =
    let p = err_from_is_err_and c.from_residual.result c.from_residual.ensures.1 in
    let same = c.in_err-found.ensures.faults fault
    (subst (λ (s : List BandShape). PacketFault s c.args.bytes.now c.args.at c.args.stop fault)
    (sym c.shape_of-shape.ensures.value) is) in
    p.1 ∙ ap (λ k. Err k) p.2 ∙ (let e = same in cc)

pub place_blocks-requires-clause-count : goal.place_blocks-requires-clause-count
place_blocks-requires-clause-count c =
    entries_enough c.args.geometry.now c.args.steps.now c.args.id
    (slice_range c.args.bytes.now c.args.at c.args.stop) c.in_ok-found.found
    c.as_slice.result.now c.as_slice-2.result.now
    (subst (λ (s : List BandShape). Found s (slice_range c.args.bytes.now c.args.at c.args.stop)
    c.in_ok-found.found) c.shape_of-shape.ensures.value c.in_ok-found.ensures.found)
    (c.as_slice.ensures.value ∙ c.numbers_of-numbers.ensures)
    (c.as_slice-2.ensures.value ∙ c.entries_of-entries.ensures)

pub place_blocks-requires-clause-numbers : goal.place_blocks-requires-clause-numbers
place_blocks-requires-clause-numbers c =
    subst (λ (ns : List ℕ). All (λ n. n < length c.args.spans.now) ns)
    (sym (c.as_slice.ensures.value ∙ c.numbers_of-numbers.ensures))
    (numbers_within c.args.geometry.now c.args.id (length c.args.spans.now) c.requires.id
    c.requires.spans)

pub place_blocks-requires-clause-apart : goal.place_blocks-requires-clause-apart
place_blocks-requires-clause-apart c =
    subst (λ (ns : List ℕ). AllPairs (λ a b. a ≡ b → ⊥) ns)
    (sym (c.as_slice.ensures.value ∙ c.numbers_of-numbers.ensures))
    (numbers_apart c.args.geometry.now c.args.id c.requires.id)

pub place_blocks-requires-clause-places : goal.place_blocks-requires-clause-places
place_blocks-requires-clause-places c =
    let short = entries_short _ c.args.bytes.now c.args.at c.args.stop c.in_ok-found.found
    c.as_slice-2.result.now c.requires.inside c.requires.end c.in_ok-found.ensures.found
    (c.as_slice-2.ensures.value ∙ c.entries_of-entries.ensures) in
    let end = c.requires.end in
    let places = c.requires.places in
    omega (arith, short, end, places)

pub overflow_add-body : goal.overflow_add-body
overflow_add-body c =
    let inside = found_inside _ c.args.bytes.now c.args.at c.args.stop c.in_ok-found.found
    c.requires.inside c.requires.end c.in_ok-found.ensures.found in
    let end = c.requires.end in
    let places = c.requires.places in
    omega (arith, inside, end, places)

pub overflow_add-result : goal.overflow_add-result
overflow_add-result c =
    let inside = found_inside _ c.args.bytes.now c.args.at c.args.stop c.in_ok-found.found
    c.requires.inside c.requires.end c.in_ok-found.ensures.found in
    let end = c.requires.end in
    let places = c.requires.places in
    omega (arith, inside, end, places)

pub returns-clause-stands : goal.returns-clause-stands
returns-clause-stands c =
    let found = c.in_ok-found.found in
    let to = c.args.at + found.header + found.body in
    subst (λ (s : List BandShape). (w : PacketWhole)
    × PacketStands s c.args.bytes.now c.args.at c.args.stop to w) c.shape_of-shape.ensures.value
    (found_stands c.shape_of-shape.result.bands.items c.args.bytes.now c.args.at c.args.stop to
    found c.requires.inside c.requires.end refl c.in_ok-found.ensures.found)

pub returns-clause-inside : goal.returns-clause-inside
returns-clause-inside c =
    found_inside _ c.args.bytes.now c.args.at c.args.stop c.in_ok-found.found
    c.requires.inside c.requires.end c.in_ok-found.ensures.found

pub returns-clause-reads : goal.returns-clause-reads
returns-clause-reads c w to stands =
    read_says c.args.geometry.now c.args.steps.now c.args.id c.args.bytes.now c.args.at c.args.stop
    to w c.in_ok-found.found c.as_slice.result.now c.as_slice-2.result.now c.place_blocks.new.spans
    c.requires.id c.requires.inside c.requires.end
    (subst (λ (s : List BandShape). ReadsAs s (slice_range c.args.bytes.now c.args.at c.args.stop)
    (Ok c.in_ok-found.found)) c.shape_of-shape.ensures.value c.in_ok-found.ensures.reads) stands
    (c.as_slice.ensures.value ∙ c.numbers_of-numbers.ensures)
    (c.as_slice-2.ensures.value ∙ c.entries_of-entries.ensures)
    (c.place_blocks.ensures.count ∙ c.requires.spans) c.place_blocks.ensures.stand

pub returns-clause-faults : goal.returns-clause-faults
returns-clause-faults c fault is =
    absurd (ok_no_err c.read_at.result c.in_ok-found.found fault c.in_ok-found.was
    (c.read_at.ensures.faults fault
    (subst (λ (s : List BandShape). PacketFault s c.args.bytes.now c.args.at c.args.stop fault)
    (sym c.shape_of-shape.ensures.value) is)))

pub returns-clause-others : goal.returns-clause-others
returns-clause-others c b is other =
    c.place_blocks.ensures.others (number_of c.args.geometry.now b)
    (λ there. number_elsewhere c.args.geometry.now c.args.id b c.requires.id is other
    (subst (λ (ns : List ℕ). Contains ns (number_of c.args.geometry.now b))
    (c.as_slice.ensures.value ∙ c.numbers_of-numbers.ensures) there))

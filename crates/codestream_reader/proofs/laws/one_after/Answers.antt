use Rattle.std.proofs.Common.{◌+◌, ◌∙◌, Err, ap, sym, inl, inr}
use Rattle.std.specs.Prelude.{sum}
use Rattle.std.proofs.lemmas.Result.{err_from_is_err_and}
use Rattle.cine_nums.specs.Profile.{parts_of}
use Rattle.profile_reader.specs.Reads.{IsGeometryOfHeader}
use Rattle.codestream_reader.specs.Spans.{said_of}
use Rattle.codestream_reader.proofs.OneReading.{reads_stand, one_meaning, few_planes}
use Rattle.codestream_reader.proofs.Streams.{parts_at_count, main_inside, exponents_fit}
use Rattle.codestream_reader.proofs.laws.one_after.Goals as goal

pub many_planes-requires-clause-exponents : goal.many_planes-requires-clause-exponents
many_planes-requires-clause-exponents c =
    exponents_fit c.args.bytes.now c.args.read.now c.requires.main

pub read_tile_parts-requires-clause-inside : goal.read_tile_parts-requires-clause-inside
read_tile_parts-requires-clause-inside c =
    main_inside c.args.bytes.now c.args.read.now c.requires.main

pub read_tile_parts-requires-clause-parts_at : goal.read_tile_parts-requires-clause-parts_at
read_tile_parts-requires-clause-parts_at c =
    parts_at_count c.args.bytes.now c.args.read.now c.requires.main
    ∙ ap parts_of (sym c.new-geometry.ensures.profile)

pub returns-in-Some : goal.returns-in-Some
returns-in-Some c = record {
  one = λ d e r q. absurd (few_planes c.args.bytes.now c.args.read.now d r c.requires.only
      c.in-Some.band c.in-Some.ensures.some);
}

pub returns-in_err-read_tile_parts : goal.returns-in_err-read_tile_parts
returns-in_err-read_tile_parts c = record {
  one = λ d e r q.
      let read = c.args.read.now in
      let p = err_from_is_err_and c.from_residual-in_err-read_tile_parts.result
      c.from_residual-in_err-read_tile_parts.ensures.1 in
      inr (p.1 ∙ ap (λ k. Err k) (p.2
      ∙ c.in_err-read_tile_parts.ensures.reads r.stream.parts
      (read.bytes + sum read.main.parts.items)
      (reads_stand c.args.bytes.now read c.new-geometry.result d r c.requires.only (record {
        profile = c.new-geometry.ensures.profile;
        levels = c.new-geometry.ensures.levels;
        width = c.new-geometry.ensures.width;
        height = c.new-geometry.ensures.height;
      }))));
}

pub returns : goal.returns
returns c = record {
  one = λ d e r q.
      let bytes = c.args.bytes.now in
      let read = c.args.read.now in
      let g = c.new-geometry.result in
      let of_header : IsGeometryOfHeader read.main g = record {
        profile = c.new-geometry.ensures.profile;
        levels = c.new-geometry.ensures.levels;
        width = c.new-geometry.ensures.width;
        height = c.new-geometry.ensures.height;
      } in
      let to = read.bytes + sum read.main.parts.items in
      inl (one_meaning bytes read g (said_of bytes c.read_tile_parts.new.spans) d e
      c.said_once.ensures.said c.said_once.ensures.decoding r q c.requires.only of_header
      (c.in_ok-read_tile_parts.ensures.reads r.stream.parts to
      (reads_stand bytes read g d r c.requires.only of_header)).1
      (c.in_ok-read_tile_parts.ensures.reads q.stream.parts to
      (reads_stand bytes read g e q c.requires.only of_header)).1);
}

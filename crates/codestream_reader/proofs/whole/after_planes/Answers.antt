use Rattle.std.proofs.Common.{rules, ◌≡◌, ℕ, Err, Result, ap, sym, subst, ◌∙◌, ◌⊎◌, inl, inr}
use Rattle.std.proofs.Common.{refl, length, List}
use Rattle.std.specs.Prelude.{IfErr, MatchResult}
use Rattle.std.proofs.lemmas.List.{take_at}
use Rattle.std.proofs.lemmas.Result.{err_from_is_err_and}
use Rattle.band_geometry.specs.Numbering.{all_blocks}
use Rattle.budget_duals.specs.Held.{held_of, held_in, limits_of, IsWithin, IsOutermostBroken}
use Rattle.budget_duals.specs.declared.held.Held.{Held}
use Rattle.budget_duals.specs.declared.limits.Limits.{Limits}
use Rattle.cine_nums.specs.Profile.{parts_of}
use Rattle.codestream_reader.specs.Faults.{HasFault, RestFault}
use Rattle.codestream_reader.specs.Faults.HasFault.{of_later}
use Rattle.codestream_reader.specs.Faults.LaterFault.{of_rest, of_limit}
use Rattle.codestream_reader.specs.Whole.{IsFound}
use Rattle.codestream_reader.specs.declared.refusal.ReadRefusal.{ReadRefusal}
use Rattle.codestream_reader.specs.declared.refusal.ReadRefusal.TheVariants.{LimitExceeded, Memory}
use Rattle.codestream_reader.specs.declared.stream.StreamSpans.{StreamSpans}
use Rattle.codestream_reader.proofs.Ending.{either, neither}
use Rattle.codestream_reader.proofs.Found.{found_is, found_there, later_err, later_limit}
use Rattle.codestream_reader.proofs.Found.{later_none}
use Rattle.codestream_reader.proofs.Lists.{ok_no_err}
use Rattle.codestream_reader.proofs.Streams.{main_inside, parts_at_count}
use Rattle.codestream_reader.proofs.AfterMain.{IsKnown, later_of, rest_of, within_is}
use Rattle.codestream_reader.proofs.whole.after_planes.Goals as goal

pub read_rest-requires-clause-inside : goal.read_rest-requires-clause-inside
read_rest-requires-clause-inside c =
    main_inside c.args.bytes.now c.args.read c.requires.main

pub read_rest-requires-clause-parts_at : goal.read_rest-requires-clause-parts_at
read_rest-requires-clause-parts_at c =
    parts_at_count c.args.bytes.now c.args.read c.requires.main
    ∙ ap parts_of (sym c.new-geometry.ensures.profile)

-- the rest is refused

known_err : (c : goal.After-drop-spans) →
    IsKnown c.args.bytes.now c.args.read c.new-geometry.result
known_err c = record {
  short = c.requires.short;
  one = record { main = c.requires.main; only = c.requires.only };
  whole = c.requires.whole;
  few = c.requires.few;
  of = record {
    profile = c.new-geometry.ensures.profile;
    levels = c.new-geometry.ensures.levels;
    width = c.new-geometry.ensures.width;
    height = c.new-geometry.ensures.height;
  };
}

err_is : (c : goal.After-drop-spans) →
    c.from_residual-in_err-read_rest.result ≡ Err c.in_err-read_rest.field-0.0
err_is c =
    let p = err_from_is_err_and c.from_residual-in_err-read_rest.result
    c.from_residual-in_err-read_rest.ensures.1 in
    p.1 ∙ ap (λ k. Err k) p.2

pub returns-in_err-read_rest-clause-reads : goal.returns-in_err-read_rest-clause-reads
returns-in_err-read_rest-clause-reads c s is =
    let known = known_err c in
    subst (λ (r : Result StreamSpans ReadRefusal). MatchResult r (IsFound c.args.bytes.now s)
    (λ refusal. refusal ≡ Memory)) (sym (err_is c))
    (c.in_err-read_rest.ensures.reads s.parts
    (rest_of c.args.bytes.now c.args.read c.new-geometry.result s known.one known.of is.fits
    is.spelled))

pub returns-in_err-read_rest-clause-refused : goal.returns-in_err-read_rest-clause-refused
returns-in_err-read_rest-clause-refused c =
    let known = known_err c in
    subst (λ (r : Result StreamSpans ReadRefusal). IfErr r (λ refusal. (refusal ≡ Memory)
    ⊎ HasFault c.args.bytes.now refusal)) (sym (err_is c))
    (either (λ e. e) (λ f. of_later c.requires.short c.args.read c.requires.main c.requires.few
    c.new-geometry.result known.of (of_rest f)) c.in_err-read_rest.ensures.refused)

pub returns-in_err-read_rest-clause-faults : goal.returns-in_err-read_rest-clause-faults
returns-in_err-read_rest-clause-faults c refusal f =
    either (λ e. err_is c ∙ ap (λ k. Err k) e) (λ e. err_is c ∙ ap (λ k. Err k) e)
    (later_err c.args.bytes.now c.args.read c.new-geometry.result c.in_err-read_rest.field-0.0
    refusal c.in_err-read_rest.ensures.reads c.in_err-read_rest.ensures.faults
    (later_of c.args.bytes.now c.args.read c.new-geometry.result refusal (known_err c) f))

-- it is read, and a budget holds too much

known_some : (c : goal.After-drop-spans-in-Some-1) → IsKnown c.args.bytes.now c.args.read c.new-geometry.result
known_some c = record {
  short = c.requires.short;
  one = record { main = c.requires.main; only = c.requires.only };
  whole = c.requires.whole;
  few = c.requires.few;
  of = record {
    profile = c.new-geometry.ensures.profile;
    levels = c.new-geometry.ensures.levels;
    width = c.new-geometry.ensures.width;
    height = c.new-geometry.ensures.height;
  };
}

held_some : (c : goal.After-drop-spans-in-Some-1) → c.of-held.result
    ≡ held_of c.args.read.main.profile c.args.read.bytes c.args.read.main.parts.items
held_some c =
    c.of-held.ensures
    ∙ ap (λ (l : List ℕ). held_of c.args.read.main.profile c.args.read.bytes l)
    c.as_slice.ensures.value

broken : (c : goal.After-drop-spans-in-Some-1) → IsOutermostBroken (limits_of c.args.read.main.profile)
    (held_of c.args.read.main.profile c.args.read.bytes c.args.read.main.parts.items)
    c.in-Some.budget
broken c =
    subst (λ (l : Limits). IsOutermostBroken l (held_of c.args.read.main.profile c.args.read.bytes
    c.args.read.main.parts.items) c.in-Some.budget) c.of-limits.ensures
    (subst (λ (h : Held). IsOutermostBroken c.of-limits.result h c.in-Some.budget)
    (held_some c) c.in-Some.ensures)

some_never : (c : goal.After-drop-spans-in-Some-1) (refusal : ReadRefusal) →
    RestFault c.args.bytes.now c.args.read c.new-geometry.result refusal → ⊥
some_never c refusal f = neither (ok_no_err c.read_rest.result tt refusal c.in_ok-read_rest.was)
    (ok_no_err c.read_rest.result tt Memory c.in_ok-read_rest.was)
    (c.read_rest.ensures.faults refusal f)

pub returns-in-Some-clause-reads : goal.returns-in-Some-clause-reads
returns-in-Some-clause-reads c s is =
    absurd (within_is c.args.bytes.now c.args.read s (known_some c).one is c.in-Some.budget
    (broken c).broken)

pub returns-in-Some-clause-refused : goal.returns-in-Some-clause-refused
returns-in-Some-clause-refused c =
    let s = c.in_ok-read_rest.ensures.stand in
    inr (of_later c.requires.short c.args.read c.requires.main c.requires.few
    c.new-geometry.result (known_some c).of (of_limit s.0 s.1 c.in-Some.budget (broken c)
    (ap (λ n. LimitExceeded c.in-Some.budget n)
    (c.bytes.ensures ∙ ap (λ (h : Held). held_in h c.in-Some.budget) (held_some c)))))

pub returns-in-Some-clause-faults : goal.returns-in-Some-clause-faults
returns-in-Some-clause-faults c refusal f =
    inl (ap (λ k. Err k) (ap (λ n. LimitExceeded c.in-Some.budget n)
    (c.bytes.ensures ∙ ap (λ (h : Held). held_in h c.in-Some.budget) (held_some c))
    ∙ later_limit c.args.bytes.now c.args.read c.new-geometry.result
    c.in-Some.budget refusal (some_never c refusal) (broken c)
    (later_of c.args.bytes.now c.args.read c.new-geometry.result refusal (known_some c) f)))

-- within its limits

known_none : (c : goal.In-None) → IsKnown c.args.bytes.now c.args.read c.new-geometry.result
known_none c = record {
  short = c.requires.short;
  one = record { main = c.requires.main; only = c.requires.only };
  whole = c.requires.whole;
  few = c.requires.few;
  of = record {
    profile = c.new-geometry.ensures.profile;
    levels = c.new-geometry.ensures.levels;
    width = c.new-geometry.ensures.width;
    height = c.new-geometry.ensures.height;
  };
}

held_none : (c : goal.In-None) → c.of-held.result
    ≡ held_of c.args.read.main.profile c.args.read.bytes c.args.read.main.parts.items
held_none c =
    c.of-held.ensures
    ∙ ap (λ (l : List ℕ). held_of c.args.read.main.profile c.args.read.bytes l)
    c.as_slice.ensures.value

within : (c : goal.In-None) → IsWithin (limits_of c.args.read.main.profile)
    (held_of c.args.read.main.profile c.args.read.bytes c.args.read.main.parts.items)
within c =
    subst (λ (l : Limits). IsWithin l (held_of c.args.read.main.profile c.args.read.bytes
    c.args.read.main.parts.items)) c.of-limits.ensures
    (subst (λ (h : Held). IsWithin c.of-limits.result h) (held_none c) c.in-None.ensures)

none_never : (c : goal.In-None) (refusal : ReadRefusal) →
    RestFault c.args.bytes.now c.args.read c.new-geometry.result refusal → ⊥
none_never c refusal f = neither (ok_no_err c.read_rest.result tt refusal c.in_ok-read_rest.was)
    (ok_no_err c.read_rest.result tt Memory c.in_ok-read_rest.was)
    (c.read_rest.ensures.faults refusal f)

count : (c : goal.In-None) →
    length c.read_rest.new.spans ≡ length (all_blocks c.new-geometry.result)
count c = search rules

pub returns-in-None-clause-found : goal.returns-in-None-clause-found
returns-in-None-clause-found c =
    let s = c.in_ok-read_rest.ensures.stand in
    found_there c.args.bytes.now c.args.read c.new-geometry.result s.0
    c.read_rest.new.spans _ c.requires.main
    c.requires.few (known_none c).of s.1
    (record {
      read_is = refl;
      geometry = refl;
      held = held_none c;
      spans_are = take_at c.read_rest.new.spans _ c.in_ok-spans.spans.len
          (c.read_rest.ensures.count ∙ c.deref_mut.ensures.len);
      count = count c;
    })
    (c.in_ok-read_rest.ensures.reads s.0 s.1) (within c)

pub returns-in-None-clause-reads : goal.returns-in-None-clause-reads
returns-in-None-clause-reads c s is =
    let known = known_none c in
    let stands = rest_of c.args.bytes.now c.args.read c.new-geometry.result s known.one known.of
    is.fits is.spelled in
    found_is c.args.bytes.now c.args.read c.new-geometry.result s
    c.read_rest.new.spans _ known.one known.of is
    (record {
      read_is = refl;
      geometry = refl;
      held = held_none c;
      spans_are = take_at c.read_rest.new.spans _ c.in_ok-spans.spans.len
          (c.read_rest.ensures.count ∙ c.deref_mut.ensures.len);
      count = count c;
    })
    (c.in_ok-read_rest.ensures.reads s.parts stands)

pub returns-in-None-clause-faults : goal.returns-in-None-clause-faults
returns-in-None-clause-faults c refusal f =
    absurd (later_none c.args.bytes.now c.args.read c.new-geometry.result refusal
    (none_never c refusal) (within c)
    (later_of c.args.bytes.now c.args.read c.new-geometry.result refusal (known_none c) f))

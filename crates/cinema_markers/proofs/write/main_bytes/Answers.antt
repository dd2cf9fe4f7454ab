use Rattle.std.proofs.Common.{◌∙◌, ◌++◌, ap}
use Rattle.cinema_markers.specs.Fields.{segment}
use Rattle.cinema_markers.specs.MainHeader.{main_header_of, soc, siz, cod, qcd, poc, tlm}
use Rattle.cinema_markers.proofs.Appends.{two_and_four}
use Rattle.cinema_markers.proofs.Written.{written_is_main}
use Rattle.cinema_markers.proofs.write.main_bytes.Goals as goal

written : goal.returns-clause-bytes
unfolding main_header_of
written c =
    let m = c.args.m.now in
    two_and_four c.new-out.result.items (segment soc) (segment (siz m.profile m.width m.height))
    (segment (cod m.levels m.flag))
    (segment (qcd m.levels m.steps)) (segment (poc m.profile m.levels))
    (segment (tlm m.parts.items))
    c.push_siz.new.out.items c.push_cod.new.out.items c.push_qcd.new.out.items
    c.push_poc.new.out.items c.push_tlm.new.out.items
    c.new-out.ensures c.push_siz.ensures.items c.push_cod.ensures.items c.push_qcd.ensures.items
    c.push_poc.ensures
    (c.push_tlm.ensures.items ∙ ap
    (λ parts. c.push_poc.new.out.items ++ segment (tlm parts)) c.as_slice.ensures.value)

pub returns-clause-spells : goal.returns-clause-spells
returns-clause-spells c = λ planes rest.
    written_is_main c.args.m.now c.push_tlm.new.out.items rest
    (record {
      some_width = c.requires.some_width;
      width = c.requires.width;
      some_height = c.requires.some_height;
      height = c.requires.height;
      levels = c.requires.levels;
      flag = c.requires.flag;
      guard = c.requires.guard;
      bands = c.requires.bands;
      exponents = c.requires.exponents;
      mantissas = c.requires.mantissas;
      parts = c.requires.parts;
      short = (rw c.as_slice.ensures.value at c.push_tlm.ensures.short);
    })
    planes (written c)

pub returns-clause-bytes : goal.returns-clause-bytes
returns-clause-bytes c = written c

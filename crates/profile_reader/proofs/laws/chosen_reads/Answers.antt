use Rattle.profile_reader.proofs.ChosenLemmas.{CodeLaws, chosen_is_read}
use Rattle.profile_reader.proofs.PlacesLemmas.{decodes_to}
use Rattle.profile_reader.proofs.laws.chosen_reads.Goals as goal

pub returns : goal.returns
returns c =
    let laws : CodeLaws = record {
      few_symbols = c.few_symbols.ensures;
      code_form = c.code_form.ensures;
      few_bytes = c.few_bytes.ensures;
      meaning_holds = c.meaning_holds.ensures;
      read_back = c.read_back.ensures;
    } in
    record {
      reads = chosen_is_read laws c.spelled_reads.ensures.reads;
      decodes_to = decodes_to laws;
    }

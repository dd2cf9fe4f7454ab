use Rattle.profile_reader.specs.Spelled.{MeansOnce}
use Rattle.profile_reader.proofs.DecodingLemmas.{one_decoding}
use Rattle.profile_reader.proofs.MeansLemmas.{means_once}
use Rattle.profile_reader.proofs.OnceLemmas.{said_once}
use Rattle.profile_reader.proofs.laws.said_once.Goals as goal

pub returns : goal.returns
returns c =
    let means : MeansOnce = means_once c.one_meaning.ensures in
    record { said = said_once; means = means; decoding = one_decoding said_once means }

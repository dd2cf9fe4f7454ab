use Rattle.profile_reader.proofs.OnePixel.{index_64, index_131008, index_131072, decoded}
use Rattle.profile_reader.proofs.laws.one_pixel.Goals as goal

pub returns : goal.returns
returns c = record {
  index_64 = index_64;
  index_131008 = index_131008;
  index_131072 = index_131072;
  decoded = decoded;
}

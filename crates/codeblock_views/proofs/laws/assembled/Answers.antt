use Rattle.codeblock_views.proofs.Fits.{block_fits}
use Rattle.codeblock_views.proofs.Together.{block_again}
use Rattle.codeblock_views.proofs.laws.assembled.Goals as goal

pub returns : goal.returns
returns c = record { fits = block_fits; cells = block_again }

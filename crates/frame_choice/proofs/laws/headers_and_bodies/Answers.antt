use Rattle.frame_choice.proofs.HeaderBytes.{fits_is_both, held_is_both}
use Rattle.frame_choice.proofs.laws.headers_and_bodies.Goals as goal

pub returns : goal.returns
returns c = record { held = held_is_both; fits = fits_is_both }

use Rattle.std.proofs.Common.{ℕ, ◌≡◌, Bool, true, false}
use mir.Val.{bool_byte}
use Rattle.ebcot_contexts.specs.Cells.{number}
use Rattle.flag_words.proofs.NewPlace.{new_place}
use Rattle.flag_words.proofs.updates.become_significant.Goals as goal

as_number : (b : Bool) (m : ℕ) → m ≡ bool_byte b → m ≡ number b
as_number true m e = e
as_number false m e = e

pub returns : goal.returns
returns c = λ w p i column stripe cells o blank a.
    new_place w p i column stripe c.args.r c.args.n cells c.args.words.now c.spread_around.new.words c.args.word c.from-minus.result c.args.negative
    c.requires.row o blank
    (as_number c.args.negative c.from-minus.result c.from-minus.ensures) c.spread_around.ensures a

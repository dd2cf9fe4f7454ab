use Rattle.std.proofs.Common.{◌≡◌, take}
use Rattle.command_words.specs.Requests.{has_either}
use Rattle.command_words.specs.Taken.{texts}
use Rattle.command_words.proofs.request.has_either.Given as goal

-- whether one of the words so far is
abbrev pub invariant-loop-word : goal.invariant-loop-word
invariant-loop-word l = record {
  made : l.found ≡ has_either l.one l.other (texts (take l.word-index l.words));
}

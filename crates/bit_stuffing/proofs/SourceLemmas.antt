-- Bits that are taken.
use Rattle.std.proofs.Common.{◌≡◌, Bool, List, [], ◌++◌, refl, sym, ap, ◌∙◌, append_assoc}
use Rattle.std.proofs.lemmas.List.{append-nil, append_cancel_left}
use Rattle.bit_stuffing.specs.Source.{BitSource, Took}

-- bits that were taken one after the other
pub took_more : (a b c : BitSource) (p q : List Bool) → Took a p b → Took b q c → Took a (p ++ q) c
took_more a b c p q h k = record {
  same = k.same ∙ h.same;
  ahead = h.ahead ∙ ap (λ r. p ++ r) k.ahead ∙ sym (append_assoc p q c.ahead);
  taken = k.taken ∙ ap (λ r. r ++ q) h.taken ∙ append_assoc a.taken p q;
}

pub took_none : (a : BitSource) → Took a [] a
took_none a = record { same = refl; ahead = refl; taken = sym (append-nil a.taken) }

-- what is ahead after bits that were taken
pub took_rest : (a b : BitSource) (p rest : List Bool) → Took a p b → a.ahead ≡ p ++ rest
    → b.ahead ≡ rest
took_rest a b p rest h e = append_cancel_left p b.ahead rest (sym h.ahead ∙ e)

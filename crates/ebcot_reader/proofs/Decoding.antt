-- The decoder after one decision.
use Rattle.std.proofs.Common.{ℕ, ◌≡◌, Bool, List, [], ◌∷◌, ◌++◌, sym, ap, ◌∙◌, subst}
use Rattle.std.proofs.lemmas.List.{append_cancel_left}
use Rattle.mq_coder.specs.Decisions.{Interval, decisions, interval_after, next_interval}
use Rattle.mq_coder.proofs.Holding.{interval_more, decisions_more}
use Rattle.mq_decoder.specs.Decoder.{Stands}
use Rattle.mq_decoder.specs.declared.decoder.Decoder.{Decoder}
use Rattle.ebcot_contexts.specs.Meaning.{next_decision}
use Rattle.ebcot_reader.specs.Reading.{IsAt}

same_one : (a b : Bool) → a ∷ [] ≡ b ∷ [] → a ≡ b
same_one a b e = cc

same_last : (xs : List Bool) (a b : Bool) → xs ++ a ∷ [] ≡ xs ++ b ∷ [] → a ≡ b
same_last xs a b e = same_one a b (append_cancel_left xs (a ∷ []) (b ∷ []) e)

-- the decision, and the interval after it
pub record Taken (bytes : List ℕ) (it : Interval) (cx : ℕ) (b : Bool) (new : Decoder) : Type 0 where
  pub bit : b ≡ (next_decision bytes it cx).0
  pub at : IsAt bytes (next_decision bytes it cx).1 new

pub taken : (bytes : List ℕ) (it : Interval) (cx : ℕ) (b : Bool) (old new : Decoder)
    → IsAt bytes it old
    → ((cxs : List ℕ) → Stands old cxs → decisions old.bytes.now (cxs ++ cx ∷ [])
    ≡ decisions old.bytes.now cxs ++ b ∷ [])
    → ((cxs : List ℕ) → Stands old cxs → Stands new (cxs ++ cx ∷ []))
    → new.bytes.now ≡ old.bytes.now → Taken bytes it cx b new
taken bytes it cx b old new at decides stands same =
    let cxs : List ℕ = at.asked in
    let d : decisions bytes (cxs ++ cx ∷ []) ≡ decisions bytes cxs ++ b ∷ [] =
    subst (λ (v : List ℕ). decisions v (cxs ++ cx ∷ []) ≡ decisions v cxs ++ b ∷ []) at.string
    (decides cxs at.stands) in
    let e : b ≡ (next_decision bytes (interval_after bytes cxs) cx).0 =
    same_last (decisions bytes cxs) b _ (sym d ∙ decisions_more bytes cxs cx) in
    record {
      bit = e ∙ ap (λ (v : Interval). (next_decision bytes v cx).0) at.interval;
      at = record {
        string = same ∙ at.string;
        asked = cxs ++ cx ∷ [];
        stands = stands cxs at.stands;
        interval = interval_more bytes cxs cx
            ∙ ap (λ (v : Interval). next_interval bytes v cx) at.interval;
      };
    }

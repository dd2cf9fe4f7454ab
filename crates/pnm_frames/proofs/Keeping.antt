-- What every call keeps, over calls one after the other.
use Rattle.std.proofs.Common.{◌≡◌, ℕ, List, [], ◌++◌, IsTrue, IsSome, refl, sym, ap, subst, ◌∙◌}
use Rattle.std.proofs.Common.{append_assoc}
use Rattle.cine_ports.specs.Source.{Source, Reading}
use Rattle.cine_ports.specs.WholePieces.{IsSuffixOf}
use Rattle.pnm_frames.specs.Keeps.{ReadsOn}

-- nothing was called
pub keeps-none : (source : Source) (reading : Reading) → IsTrue reading.is_begun →
    ReadsOn source source reading reading
keeps-none source reading begun =
    record { begun = begun; asked = refl; source = refl; left = λ told. ([], refl) }

-- one call, and then another
pub keeps-then : (a b c : Source) (p q r : Reading) → ReadsOn a b p q → ReadsOn b c q r →
    ReadsOn a c p r
keeps-then a b c p q r first second = record {
  begun = second.begun;
  asked = second.asked ∙ first.asked;
  source = second.source ∙ first.source;
  left = λ told.
      let x : IsSuffixOf q.left p.left = first.left told in
      let y : IsSuffixOf r.left q.left =
      second.left (subst (λ (s : Source). IsSome s.files) (sym first.source) told) in (
        x.0 ++ y.0,
        x.1 ∙ ap (λ (bytes : List ℕ). x.0 ++ bytes) y.1
            ∙ sym (append_assoc x.0 y.0 r.left),
      );
}

-- a source that is the same has its files known as before
pub told-on : (a b : Source) → b ≡ a → IsSome a.files → IsSome b.files
told-on a b same told = subst (λ (s : Source). IsSome s.files) (sym same) told

-- Where the visit of a frame broke off, from what its steps left.
use Rattle.std.proofs.Common.{◌≡◌, ℕ, List, [], ◌∷◌, ◌++◌, Option, Some, None, option_map}
use Rattle.std.proofs.Common.{refl, sym, ◌∙◌, ap, subst, inl, inr}
use Rattle.std.proofs.lemmas.List.{append-nil}
use Rattle.std.specs.Option.{ForSome}
use Rattle.cine_ports.specs.Source.{File}
use Rattle.cine_ports.specs.Outputs.{Kept}
use Rattle.cine_ports.specs.WholePieces.{SaidProperPrefix}
use Rattle.cinema_run.specs.Output.{kept_and, OutputBrokeOff}
use Rattle.cinema_run.specs.Visit.{Visit, one_or_none, outputs_of, Point, Before, Writing, Saying}
use Rattle.cinema_run.specs.Visit.{kept_at}
use Rattle.cinema_run.specs.Visit.{said_at}
use Rattle.cinema_run.specs.Progress.{IsOneOf, VisitBrokeOff}
use Rattle.cinema_run.specs.Right.{refused}
use Rattle.cinema_run.specs.declared.refusal.Refusal.{Refusal}

-- outputs without an unfinished file are their finished ones
pub rest_same : (k : Option Kept) → ForSome k (λ kept. kept.unfinished ≡ None) →
    k ≡ option_map (λ kept. kept_at Before kept.finished) k
rest_same None rest = refl
rest_same (Some kept) rest = ap
    (λ (u : Option File). Some (record { finished = kept.finished; unfinished = u }))
    (rest kept refl)

-- a report of which nothing more is written
pub said_same : (s : Option (List ℕ)) → s ≡ option_map (said_at Before) s
said_same None = refl
said_same (Some bytes) = refl

-- broken off before anything of it was written
pub nothing_done : (IsRight : Visit → Type 0) (k : Option Kept) (s : Option (List ℕ)) →
    ForSome k (λ kept. kept.unfinished ≡ None) → VisitBrokeOff IsRight k k s s
nothing_done IsRight k s rest =
    record {
      point = Before;
      is_point = tt;
      of_visit = tt;
      kept = rest_same k rest;
      said =
          said_same s;
    }

-- broken off while its output was written
pub output_broken : (IsRight : Visit → Type 0) (visit : Visit) (name bytes : List ℕ)
    (k0 k1 : Option Kept) (said : Option (List ℕ)) → IsRight visit →
    visit.output ≡ Some (record { name = name; bytes = bytes }) →
    ForSome k0 (λ kept. kept.unfinished ≡ None) → OutputBrokeOff name bytes k0 k1 →
    VisitBrokeOff IsRight k0 k1 said said
output_broken IsRight visit name bytes k0 k1 said right has rest (inl none) = record {
  point = Before;
  is_point = tt;
  of_visit = tt;
  kept = none ∙ rest_same k0 rest;
  said = said_same said;
}
output_broken IsRight visit name bytes k0 k1 said right has rest (inr part) = record {
  point = Writing visit (record { name = name; bytes = bytes }) part.0;
  is_point = (has, part.1);
  of_visit = right;
  kept = part.2;
  said = said_same said;
}

-- an output that was finished is that of the visit
pub output_made : (visit : Visit) (name bytes : List ℕ) (k0 k1 : Option Kept) →
    visit.output ≡ Some (record { name = name; bytes = bytes }) →
    k1 ≡ option_map (kept_and (record { name = name; bytes = bytes } ∷ [])) k0 →
    k1 ≡ option_map (kept_and (outputs_of visit)) k0
output_made visit name bytes k0 k1 has h =
    subst (λ (o : Option File). k1 ≡ option_map (kept_and (one_or_none o)) k0) (sym has) h

-- broken off while its line was reported
pub line_broken : (IsRight : Visit → Type 0) (visit : Visit) (line : List ℕ) (k0 k1 : Option Kept)
    (s0 s1 : Option (List ℕ)) → IsRight visit → line ≡ visit.line →
    k1 ≡ option_map (kept_and (outputs_of visit)) k0 → SaidProperPrefix line s0 s1 →
    VisitBrokeOff IsRight k0 k1 s0 s1
line_broken IsRight visit line k0 k1 s0 s1 right same put some =
    let here = subst (λ (l : List ℕ). SaidProperPrefix l s0 s1) same some in
    record {
      point = Saying visit here.0;
      is_point = here.1;
      of_visit = right;
      kept = put;
      said =
          here.2;
    }

-- a refused frame adds no output
pub none_twice : (k : Option Kept) →
    option_map (kept_and []) k ≡ option_map (kept_and []) (option_map (kept_and []) k)
none_twice None = refl
none_twice (Some kept) = ap (λ (files : List File). Some
    (record { finished = files; unfinished = None })) (sym (append-nil (kept.finished ++ [])))

-- broken off while the line of a refused frame was reported
pub refusal_broken : (name : List ℕ) (refusal : Refusal) (line : List ℕ) (k : Option Kept)
    (s0 s1 : Option (List ℕ)) → line ≡ (refused name refusal).line → SaidProperPrefix line s0 s1 →
    VisitBrokeOff (λ visit. visit ≡ refused name refusal) (option_map (kept_and []) k)
    (option_map (kept_and []) k) s0 s1
refusal_broken name refusal line k s0 s1 same some =
    line_broken (λ visit. visit ≡ refused name refusal) (refused name refusal) line
    (option_map (kept_and []) k) (option_map (kept_and []) k) s0 s1 refl same
    (none_twice k) some

-- outputs at rest are the same with none added
pub none_added : (k : Option Kept) → ForSome k (λ kept. kept.unfinished ≡ None) →
    option_map (kept_and []) k ≡ k
none_added None h = refl
none_added (Some kept) h =
    ap (λ (files : List File). Some (record { finished = files; unfinished = None }))
    (append-nil kept.finished)
    ∙ ap (λ (u : Option File). Some (record { finished = kept.finished; unfinished = u }))
    (sym (h kept refl))

-- a point of such a visit is one of another kind, where each such visit is
point_for : (P Q : Visit → Type 0) (point : Point) → ((visit : Visit) → P visit → Q visit) →
    IsOneOf P point → IsOneOf Q point
point_for P Q Before more of = tt
point_for P Q (Writing visit file n) more of = more visit of
point_for P Q (Saying visit n) more of = more visit of

-- and so is where it broke off
pub broken_for : (P Q : Visit → Type 0) (k0 k1 : Option Kept) (s0 s1 : Option (List ℕ)) →
    ((visit : Visit) → P visit → Q visit) → VisitBrokeOff P k0 k1 s0 s1 →
    VisitBrokeOff Q k0 k1 s0 s1
broken_for P Q k0 k1 s0 s1 more broken = record {
  point = broken.point;
  is_point = broken.is_point;
  of_visit = point_for P Q broken.point more broken.of_visit;
  kept = broken.kept;
  said = broken.said;
}

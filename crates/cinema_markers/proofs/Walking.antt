-- One segment more of a main header.
use Rattle.std.proofs.Common.{◌≡◌, ℕ, List, [], ◌∷◌, None, ◌∙◌, sym, ap, refl, subst}
use Rattle.cine_nums.specs.Bytes.{word_at}
use Rattle.cine_nums.specs.Faults.{first_fault}
use Rattle.cinema_markers.specs.Tables.{soc_rows, noted}
use Rattle.cinema_markers.specs.Reading.{found_in, Passed, StandsUpTo, AreWhole}
use Rattle.cinema_markers.specs.declared.found.Found.{Found}

abbrev pub Stood : List ℕ → Found → ℕ → Type 0
Stood bytes found at = (before : List ℕ) × StandsUpTo bytes before at ×
    (found ≡ found_in bytes before)

pub stood_at_first : (bytes : List ℕ) → first_fault (soc_rows bytes) ≡ None →
    Stood bytes (record { siz = None; cod = None; qcd = None; poc = None; tlm = None }) 2
stood_at_first bytes none = ([], (none, refl), refl)

pub nothing_is_whole : (bytes : List ℕ) →
    AreWhole bytes (record { siz = None; cod = None; qcd = None; poc = None; tlm = None })
nothing_is_whole bytes = record { siz = λ h. cc; cod = λ h. cc; qcd = λ h. cc; poc = λ h. cc }

pub stood_further : (bytes : List ℕ) (found next : Found) (at to marker : ℕ) →
    Stood bytes found at → Passed bytes found at to →
    marker ≡ word_at bytes at → next ≡ noted found marker at → Stood bytes next to
stood_further bytes found next at to marker (before, stands, is) passed told noted_is = (
  at ∷ before,
  (stands, subst (λ f. Passed bytes f at to) is passed),
  noted_is ∙ ap (λ m. noted found m at) told ∙ ap (λ f. noted f (word_at bytes at) at) is,
)

pub still_whole : (bytes : List ℕ) (found next : Found) (at marker : ℕ) →
    AreWhole bytes (noted found (word_at bytes at) at) →
    marker ≡ word_at bytes at → next ≡ noted found marker at → AreWhole bytes next
still_whole bytes found next at marker whole told noted_is =
    subst (AreWhole bytes) (sym (noted_is ∙ ap (λ m. noted found m at) told)) whole

-- Whole files, from the parts that were read one after the other.
use Rattle.std.proofs.Common.{◌≡◌, ℕ, ◌*◌, List, [], ◌∷◌, length, Result, Ok, Err, refl, ap}
use Rattle.pnm_frames.specs.declared.limits.SizeLimits.{SizeLimits}
use Rattle.pnm_frames.specs.declared.fault.FrameFault.{FrameFault}
use Rattle.pnm_frames.specs.declared.fault.FrameFault.TheVariants.{TrailingBytes}
use Rattle.pnm_frames.specs.Picture.{Picture, interleaved}
use Rattle.pnm_frames.specs.Reading.{header_at, samples_at, ended, frame_of}
use Rattle.pnm_frames.proofs.Planes.{plane-x, plane-y, plane-z}

pub header-fault : (limits : SizeLimits) (bytes : List ℕ) (fault : FrameFault) →
    header_at limits bytes ≡ Err fault → frame_of limits bytes ≡ Err fault
unfolding frame_of
header-fault limits bytes fault head = rw head refl

pub raster-fault : (limits : SizeLimits) (bytes : List ℕ) (w h at : ℕ) (prefix : List ℕ)
    (fault : FrameFault) → header_at limits bytes ≡ Ok ((w, h), at, prefix)
    → samples_at (3 * (w * h)) at prefix ≡ Err fault → frame_of limits bytes ≡ Err fault
unfolding frame_of
raster-fault limits bytes w h at prefix fault head samples = rw (head, samples) refl

ended-fault : {A B : Type 0} (a : A) (b : B) (rest : List ℕ) (fault : FrameFault) →
    ended a rest ≡ Err fault → ended b rest ≡ Err fault
ended-fault a b [] fault e = absurd cc
ended-fault a b (x ∷ rest) fault e = let same : TrailingBytes ≡ fault =
    cc in ap (λ (f : FrameFault). Err f) same

ended-all : {A B : Type 0} (a c : A) (b : B) (rest : List ℕ) → ended a rest ≡ Ok c →
    ended b rest ≡ Ok b
ended-all a c b [] e = refl
ended-all a c b (x ∷ rest) e = absurd cc

abbrev nothing_in : List ℕ → Result (Unit {0}) FrameFault
nothing_in rest = ended tt rest

abbrev nothing : Result (Unit {0}) FrameFault
nothing = Ok tt

abbrev pub empty : Unit {0}
empty = tt

pub end-fault : (limits : SizeLimits) (bytes : List ℕ) (w h at : ℕ) (prefix s rest : List ℕ)
    (fault : FrameFault) → header_at limits bytes ≡ Ok ((w, h), at, prefix)
    → samples_at (3 * (w * h)) at prefix ≡ Ok (s, rest) → nothing_in rest ≡ Err fault →
    frame_of limits bytes ≡ Err fault
unfolding frame_of
end-fault limits bytes w h at prefix s rest fault head samples last =
    rw (head, samples) (ended-fault empty _ rest fault last)

pub frame-read : (limits : SizeLimits) (bytes : List ℕ) (p : Picture) (w h at : ℕ)
    (prefix rest : List ℕ) → p.width ≡ w → p.height ≡ h →
    header_at limits bytes ≡ Ok ((w, h), at, prefix)
    → samples_at (3 * (w * h)) at prefix ≡ Ok (interleaved p.x p.y p.z, rest) →
    nothing_in rest ≡ nothing
    → length p.y ≡ length p.x → length p.z ≡ length p.x → frame_of limits bytes ≡ Ok p
unfolding frame_of
frame-read limits bytes p w h at prefix rest wide tall head samples last y z =
    rw (
      head,
      samples,
      plane-x p.x p.y p.z y z,
      plane-y p.x p.y p.z y z,
      plane-z p.x p.y p.z y z,
      ←
          wide,
      ← tall,
    ) (ended-all empty empty p rest last)

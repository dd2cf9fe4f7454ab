-- The bands of a resolution: one of them, or three.
use Rattle.std.proofs.Common.{◌≡◌, ℕ, zero, suc, List, [], ◌∷◌, ◌++◌, map, ap, ◌∙◌, sym, refl}
use Rattle.std.proofs.Common.{arith, append_assoc, subst}
use Rattle.std.specs.List.{All, flat_map}
use Rattle.std.proofs.lemmas.List.{map-append, append-nil}
use Rattle.std.proofs.lemmas.List.Elements.{All-nil, All-cons}
use Rattle.cine_nums.specs.declared.orient.Orient.TheVariants.{LL, HL, LH, HH}
use Rattle.band_geometry.specs.Counts.{number_of}
use Rattle.band_geometry.specs.Numbering.{orients_of}
use Rattle.band_geometry.specs.declared.geometry.Geometry.{Geometry}
use Rattle.dz_quantiser.specs.declared.steps.StepSizes.{StepSizes}
use Rattle.packet_order.specs.Blocks.{blocks_in, blocks_of_packet}
use Rattle.packet_order.specs.declared.packet.PacketId.{PacketId}
use Rattle.packet_headers.specs.declared.packet.BandShape.{BandShape}
use Rattle.profile_reader.specs.Shapes.{shape_in, shapes_in}

lowest : (r : ℕ) → r ≡ 0 → orients_of r ≡ LL ∷ []
lowest zero is = refl
lowest (suc r) is = absurd (omega (arith, is))

above : (r : ℕ) → (r ≡ 0 → ⊥) → orients_of r ≡ HL ∷ LH ∷ HH ∷ []
above zero not = absurd (not refl)
above (suc r) not = refl

pub shapes_lowest : (g : Geometry) (steps : StepSizes) (p : PacketId) (start items : List BandShape)
    (a : BandShape) → start ≡ [] → items ≡ start ++ a ∷ [] → a ≡ shape_in g steps p LL →
    p.res ≡ 0 → items ≡ shapes_in g steps p
unfolding shapes_in
shapes_lowest g steps p start items a none is value res =
    is ∙ ap (λ t. t ++ a ∷ []) none ∙ ap (λ x. x ∷ []) value
    ∙ ap (map (shape_in g steps p)) (sym (lowest p.res res))

joined : {A : Type 0} (start first second third : List A) (a b c : A) → start ≡ [] →
    first ≡ start ++ a ∷ [] → second ≡ first ++ b ∷ [] → third ≡ second ++ c ∷ [] →
    third ≡ a ∷ b ∷ c ∷ []
joined start first second third a b c none one two three =
    three ∙ ap (λ t. t ++ c ∷ []) (two ∙ ap (λ t. t ++ b ∷ []) (one ∙ ap (λ t. t ++ a ∷ []) none))

pub shapes_above : (g : Geometry) (steps : StepSizes) (p : PacketId)
    (start first second third : List BandShape) (a b c : BandShape) → start ≡ [] →
    first ≡ start ++ a ∷ [] → second ≡ first ++ b ∷ [] → third ≡ second ++ c ∷ [] →
    a ≡ shape_in g steps p HL → b ≡ shape_in g steps p LH → c ≡ shape_in g steps p HH →
    (p.res ≡ 0 → ⊥) → third ≡ shapes_in g steps p
unfolding shapes_in
shapes_above g steps p start first second third a b c none one two three hl lh hh res =
    joined start first second third a b c none one two three
    ∙ ap (λ x. x ∷ b ∷ c ∷ []) hl
    ∙ ap (λ x. shape_in g steps p HL ∷ x ∷ c ∷ []) lh
    ∙ ap (λ x. shape_in g steps p HL ∷ shape_in g steps p LH ∷ x ∷ []) hh
    ∙ ap (map (shape_in g steps p)) (sym (above p.res res))

pub all_three : {A : Type 0} (P : A → Type 0) (start first second third : List A) (a b c : A) →
    start ≡ [] → first ≡ start ++ a ∷ [] → second ≡ first ++ b ∷ [] → third ≡ second ++ c ∷ [] →
    P a → P b → P c → All P third
all_three {A} P start first second third a b c none one two three pa pb pc =
    subst (λ (t : List A). All P t)
    (sym (joined start first second third a b c none one two three))
    (All-cons P a (b ∷ c ∷ []) pa (All-cons P b (c ∷ []) pb (All-cons P c [] pc (All-nil P))))

pub numbers_lowest : (g : Geometry) (p : PacketId) (start items : List ℕ) → start ≡ [] →
    items ≡ start ++ map (number_of g) (blocks_in g p LL) → p.res ≡ 0 →
    items ≡ map (number_of g) (blocks_of_packet g p)
unfolding blocks_of_packet
numbers_lowest g p start items none is res =
    is ∙ ap (λ t. t ++ map (number_of g) (blocks_in g p LL)) none
    ∙ ap (map (number_of g)) (sym (append-nil (blocks_in g p LL)))
    ∙ ap (λ os. map (number_of g) (flat_map (blocks_in g p) os)) (sym (lowest p.res res))

pub numbers_above : (g : Geometry) (p : PacketId) (start first second third : List ℕ) →
    start ≡ [] → first ≡ start ++ map (number_of g) (blocks_in g p HL) →
    second ≡ first ++ map (number_of g) (blocks_in g p LH) →
    third ≡ second ++ map (number_of g) (blocks_in g p HH) → (p.res ≡ 0 → ⊥) →
    third ≡ map (number_of g) (blocks_of_packet g p)
unfolding blocks_of_packet
numbers_above g p start first second third none one two three res =
    let f = number_of g in
    let hl = blocks_in g p HL in
    let lh = blocks_in g p LH in
    let hh = blocks_in g p HH in
    three ∙ ap (λ t. t ++ map f hh) (two ∙ ap (λ t. t ++ map f lh)
    (one ∙ ap (λ t. t ++ map f hl) none))
    ∙ append_assoc (map f hl) (map f lh) (map f hh)
    ∙ ap (λ t. map f hl ++ t) (sym (map-append f lh hh))
    ∙ sym (map-append f hl (lh ++ hh))
    ∙ ap (λ t. map f (hl ++ (lh ++ t))) (sym (append-nil hh))
    ∙ ap (λ os. map f (flat_map (blocks_in g p) os)) (sym (above p.res res))

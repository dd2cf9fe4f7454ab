-- What a run of the mode `encode` writes is read by one of the mode `check`.
use Rattle.std.proofs.Common.{◌≡◌, ◌+◌, ◌≤◌, ℕ, List, arith, inl, inr, length, subst}
use Rattle.std.proofs.lemmas.List.{take_all}
use Rattle.cine_nums.specs.Limits.{frame_limit}
use Rattle.cine_nums.specs.declared.budget.Budget.TheVariants.{Frame}
use Rattle.frame_encoder.proofs.Whole.{bytes_short}
use Rattle.frame_encoder.specs.Encoded.{Encoding, decoded_by}
use Rattle.frame_encoder.specs.Orders.{AreLimitsFor}
use Rattle.frame_encoder.specs.declared.order.EncodeOrder.{EncodeOrder}
use Rattle.frame_reader.specs.Decoded.{IsMeaning}
use Rattle.pnm_frames.specs.Picture.{Picture}
use Rattle.profile_reader.specs.Reads.{Decoding}
use Rattle.cinema_run.specs.Right.{IsAccepted}
use Rattle.cinema_run.specs.RightCheck.{first_bytes, IsReadable, RightCheck, RightCheckFor}
use Rattle.cinema_run.specs.Visit.{Visit}
use Rattle.cinema_run.proofs.Meant.{is_meaning}

-- bytes that mean something are read
pub readable : (name bytes : List ℕ) (visit : Visit) (decoding : Decoding) →
    IsMeaning bytes decoding → RightCheckFor name bytes visit → IsReadable name bytes visit
readable name bytes visit decoding means (inl right) = right
readable name bytes visit decoding means (inr other) = absurd (other.meaningless decoding means)

pub written_read : (order : EncodeOrder) (suffix name : List ℕ) (p : Picture) (visit : Visit) →
    AreLimitsFor order.profile order.limits → (accepted : IsAccepted order suffix name p visit) →
    (file : List ℕ) (checked : Visit) →
    RightCheck (record { name = file; bytes = accepted.encoding.bytes }) checked →
    IsReadable file accepted.encoding.bytes checked
written_read order suffix name p visit low accepted file checked right =
    let e : Encoding = accepted.encoding in
    let most : order.limits.frame ≤ frame_limit = low.most Frame in
    let few : length e.bytes ≤ frame_limit + 1 =
    omega (arith, bytes_short order p e accepted.encodes, most) in
    let whole : first_bytes e.bytes ≡ e.bytes = take_all (frame_limit + 1) e.bytes few in
    readable file e.bytes checked (decoded_by accepted.encodes.geometry p e.choice)
    (is_meaning order p e low accepted.encodes)
    (subst (λ (bytes : List ℕ). RightCheckFor file bytes checked) whole right)

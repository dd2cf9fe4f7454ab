-- Which refusal is returned of a packet, and where its place lies.
use Rattle.std.proofs.Common.{◌≡◌, ℕ, zero, suc, ◌+◌, ◌-◌, ◌≤◌, Bool, true, false, List, [], ◌∷◌}
use Rattle.std.proofs.Common.{length, Err, Result, arith, subst}
use Rattle.std.specs.Prelude.{if◌then◌else◌, nat_lt, ◌==◌}
use Rattle.bit_stuffing.specs.Bits.{byte_width}
use Rattle.bit_stuffing.specs.Stuffing.{is_broken, fault_from, fault_of, place_from, place_of}
use Rattle.bit_stuffing.specs.declared.fault.BitFault.{BitFault}
use Rattle.bit_stuffing.specs.declared.fault.BitFault.TheVariants.{OutOfBits}
use Rattle.bit_stuffing.specs.declared.fault.BitFault.TheVariants.{StuffedBitSet as StuffedBit}
use Rattle.packet_headers.specs.Grammar.{ZeroStop, PassStop}
use Rattle.packet_headers.specs.Reading.{StopsAt, EndsEarly, BodyShort, Refused, refusal_of}
use Rattle.packet_headers.specs.declared.packet.BandShape.{BandShape}
use Rattle.packet_headers.specs.declared.packet.PacketRead.{PacketRead}
use Rattle.packet_headers.specs.declared.refusal.PacketRefusal.{PacketRefusal}
use Rattle.packet_headers.specs.declared.refusal.PacketRefusal.TheVariants.{HeaderTruncated}
use Rattle.packet_headers.specs.declared.refusal.PacketRefusal.TheVariants.{StuffedBitSet}
use Rattle.packet_headers.specs.declared.refusal.PacketRefusal.TheVariants.{ZeroPlanesTooMany}
use Rattle.packet_headers.specs.declared.refusal.PacketRefusal.TheVariants.{PassesTooMany}
use Rattle.packet_headers.specs.declared.refusal.PacketRefusal.TheVariants.{BodyTruncated}
use Rattle.codestream_reader.specs.PacketFaults.{place_in}

pub refused_returned : (shapes : List BandShape) (bytes : List ℕ)
    (result : Result PacketRead PacketRefusal) →
    ((place : ℕ) → BodyShort shapes bytes place → result ≡ Err (BodyTruncated place)) →
    ((place : ℕ) → StopsAt (ZeroStop shapes) bytes place → result ≡ Err (ZeroPlanesTooMany place))
    →
    ((place : ℕ) → StopsAt (PassStop shapes) bytes place → result ≡ Err (PassesTooMany place)) →
    ((fault : BitFault) → EndsEarly shapes bytes fault → result ≡ Err (refusal_of fault)) →
    (own : PacketRefusal) → Refused shapes bytes own → result ≡ Err own
refused_returned shapes bytes result short zero_planes passes ends (HeaderTruncated place) is =
    ends (OutOfBits place) is
refused_returned shapes bytes result short zero_planes passes ends (StuffedBitSet place) is =
    ends (StuffedBit place) is
refused_returned shapes bytes result short zero_planes passes ends (ZeroPlanesTooMany place) is =
    zero_planes place is
refused_returned shapes bytes result short zero_planes passes ends (PassesTooMany place) is =
    passes place is
refused_returned shapes bytes result short zero_planes passes ends (BodyTruncated place) is =
    short place is

-- places

either_le : (b : Bool) (x y m : ℕ) → x ≤ m → y ≤ m → (if b then x else y) ≤ m
either_le true x y m first second = first
either_le false x y m first second = second

place_within : (place : ℕ) (after_ff : Bool) (n : ℕ) (bytes : List ℕ) →
    place_from place after_ff n bytes ≤ place + length bytes
unfolding place_from
place_within place after_ff n [] = omega arith
place_within place after_ff n (byte ∷ bytes) =
    let rest = place_within (place + 1) (byte == 255) (n - byte_width after_ff) bytes in
    either_le (nat_lt n (byte_width after_ff)) place
    (place_from (place + 1) (byte == 255) (n - byte_width after_ff) bytes)
    (place + length (byte ∷ bytes)) (omega arith) (omega (arith, rest))

place_of_within : (bytes : List ℕ) (n : ℕ) → place_of bytes n ≤ length bytes
place_of_within bytes zero = omega arith
place_of_within bytes (suc n) =
    let within = place_within 0 false n bytes in omega (arith, within)

abbrev bit_place : BitFault → ℕ
bit_place (OutOfBits place) = place
bit_place (StuffedBit place) = place

either_place : (b : Bool) (f h : BitFault) (m : ℕ) → bit_place f ≤ m → bit_place h ≤ m →
    bit_place (if b then f else h) ≤ m
either_place true f h m first second = first
either_place false f h m first second = second

fault_within : (place : ℕ) (after_ff : Bool) (bytes : List ℕ) →
    bit_place (fault_from place after_ff bytes) ≤ place + length bytes
unfolding fault_from
fault_within place after_ff [] = omega arith
fault_within place after_ff (byte ∷ bytes) =
    let rest = fault_within (place + 1) (byte == 255) bytes in
    either_place (is_broken after_ff byte) (StuffedBit place)
    (fault_from (place + 1) (byte == 255) bytes) (place + length (byte ∷ bytes)) (omega arith)
    (omega (arith, rest))

fault_of_within : (bytes : List ℕ) (fault : BitFault) → fault_of bytes ≡ fault →
    bit_place fault ≤ length bytes
fault_of_within bytes fault is =
    subst (λ f. bit_place f ≤ length bytes) is
    (let within = fault_within 0 false bytes in omega (arith, within))

-- the place of a refusal is one of the bytes, or their number
pub refused_within : (shapes : List BandShape) (bytes : List ℕ) (own : PacketRefusal) →
    Refused shapes bytes own → place_in own ≤ length bytes
refused_within shapes bytes (HeaderTruncated place) is =
    fault_of_within bytes (OutOfBits place) is.fault_is
refused_within shapes bytes (StuffedBitSet place) is =
    fault_of_within bytes (StuffedBit place) is.fault_is
refused_within shapes bytes (ZeroPlanesTooMany place) is =
    let within = place_of_within bytes (length is.bits) in
    let place_is = is.place_is in omega (arith, within, place_is)
refused_within shapes bytes (PassesTooMany place) is =
    let within = place_of_within bytes (length is.bits) in
    let place_is = is.place_is in omega (arith, within, place_is)
refused_within shapes bytes (BodyTruncated place) is =
    let place_is = is.place_is in omega (arith, place_is)

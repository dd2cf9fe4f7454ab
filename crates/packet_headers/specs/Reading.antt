-- What `read` owes: the shapes that it takes, and the cause of each refusal.
use Rattle.std.specs.Prelude.{◌≡◌, ℕ, ◌+◌, ◌<◌, ◌≤◌, List, ◌++◌, length, take, Bool, All}
use Rattle.bit_stuffing.specs.Stuffing.{Stuffs, supply, fault_of, place_of}
use Rattle.bit_stuffing.specs.declared.fault.BitFault.{BitFault}
use Rattle.bit_stuffing.specs.declared.fault.BitFault.TheVariants.{OutOfBits}
use Rattle.bit_stuffing.specs.declared.fault.BitFault.TheVariants.{StuffedBitSet as StuffedBit}
use Rattle.packet_headers.specs.declared.packet.BandShape.{BandShape}
use Rattle.packet_headers.specs.declared.packet.PacketRead.{PacketRead}
use Rattle.packet_headers.specs.declared.refusal.PacketRefusal.{PacketRefusal}
use Rattle.packet_headers.specs.declared.refusal.PacketRefusal.TheVariants.{HeaderTruncated}
use Rattle.packet_headers.specs.declared.refusal.PacketRefusal.TheVariants.{StuffedBitSet}
use Rattle.packet_headers.specs.declared.refusal.PacketRefusal.TheVariants.{ZeroPlanesTooMany}
use Rattle.packet_headers.specs.declared.refusal.PacketRefusal.TheVariants.{PassesTooMany}
use Rattle.packet_headers.specs.declared.refusal.PacketRefusal.TheVariants.{BodyTruncated}
use Rattle.packet_headers.specs.Words.{PacketWords, header_words, packet_of, body_of}
use Rattle.packet_headers.specs.Grammar.{WordsFit, ZeroStop, PassStop}

-- a band that can be read
pub record CanReadBand (shape : BandShape) : Type 0 where
  pub width : shape.width ≤ 4
  pub height : shape.height ≤ 4
  pub some_planes : 1 ≤ shape.planes
  pub planes : shape.planes ≤ 31

abbrev pub CanRead : List BandShape → Type 0
CanRead shapes = All CanReadBand shapes

-- so many of the bytes are a header of these words
pub record HasHeader (shapes : List BandShape) (words : PacketWords) (bytes : List ℕ) (header : ℕ) :
    Type 0 where
  pub fits : WordsFit shapes words
  pub within : header ≤ length bytes
  pub stuffed : Stuffs (header_words words) (take header bytes)

-- a packet was read
pub record Found (shapes : List BandShape) (bytes : List ℕ) (found : PacketRead) : Type 0 where
  pub words : PacketWords
  pub header : HasHeader shapes words bytes found.header
  pub packet : found.packet ≡ packet_of words
  pub body : found.body ≡ body_of words
  pub room : found.header + found.body ≤ length bytes

-- a beginning of the bits that can be taken stops reading, and its last bit is in the byte of this
-- place
pub record StopsAt (stops : List Bool → Type 0) (bytes : List ℕ) (place : ℕ) : Type 0 where
  pub bits : List Bool
  pub rest : List Bool
  pub ahead : supply bytes ≡ bits ++ rest
  pub stop : stops bits
  pub place_is : place ≡ place_of bytes (length bits)

-- no bytes at the beginning are a header, and nothing stops before the bits end, for this cause
pub record EndsEarly (shapes : List BandShape) (bytes : List ℕ) (fault : BitFault) : Type 0 where
  pub no_header : (words : PacketWords) (header : ℕ) → HasHeader shapes words bytes header → ⊥
  pub no_zero_stop : (place : ℕ) → StopsAt (ZeroStop shapes) bytes place → ⊥
  pub no_pass_stop : (place : ℕ) → StopsAt (PassStop shapes) bytes place → ⊥
  pub fault_is : fault_of bytes ≡ fault

-- the header is whole, and the bytes after it are fewer than the body
pub record BodyShort (shapes : List BandShape) (bytes : List ℕ) (place : ℕ) : Type 0 where
  pub words : PacketWords
  pub header : ℕ
  pub has_header : HasHeader shapes words bytes header
  pub short : length bytes < header + body_of words
  pub place_is : place ≡ length bytes

-- the cause of each refusal
abbrev pub Refused : List BandShape → List ℕ → PacketRefusal → Type 0
Refused shapes bytes (HeaderTruncated place) = EndsEarly shapes bytes (OutOfBits place)
Refused shapes bytes (StuffedBitSet place) = EndsEarly shapes bytes (StuffedBit place)
Refused shapes bytes (ZeroPlanesTooMany place) = StopsAt (ZeroStop shapes) bytes place
Refused shapes bytes (PassesTooMany place) = StopsAt (PassStop shapes) bytes place
Refused shapes bytes (BodyTruncated place) = BodyShort shapes bytes place

-- the refusal of a fault of the bits
abbrev pub refusal_of : BitFault → PacketRefusal
refusal_of (OutOfBits place) = HeaderTruncated place
refusal_of (StuffedBit place) = StuffedBitSet place

-- The words of refusals, by their codes.
use Rattle.std.specs.Prelude.{ℕ, ◌==◌, List, [], Option, Some, None, if◌then◌else◌, codes}

-- a file that is no frame, and a frame whose limits are too small
abbrev pub frame_word : ℕ → Option (List ℕ)
frame_word code =
    if code == 1 then Some (codes "NotPpm") else
    if code == 2 then Some (codes "BadHeader") else
    if code == 3 then Some (codes "HeaderTooLong") else
    if code == 4 then Some (codes "WrongMaxval") else
    if code == 5 then Some (codes "WidthOutOfRange") else
    if code == 6 then Some (codes "HeightOutOfRange") else
    if code == 7 then Some (codes "SampleTooLarge") else
    if code == 8 then Some (codes "Truncated") else
    if code == 9 then Some (codes "TrailingBytes") else
    if code == 10 then Some (codes "LimitTooSmall") else
    None

-- a packet header (ISO/IEC 15444-1, B.10)
abbrev pub packet_word : ℕ → Option (List ℕ)
packet_word code =
    if code == 20 then Some (codes "HeaderTruncated") else
    if code == 21 then Some (codes "StuffedBitSet") else
    if code == 22 then Some (codes "ZeroPlanesTooMany") else
    if code == 23 then Some (codes "PassesTooMany") else
    if code == 24 then Some (codes "BodyTruncated") else
    None

-- a tile-part (A.4.2, A.4.3)
abbrev pub part_word : ℕ → Option (List ℕ)
part_word code =
    if code == 30 then Some (codes "BadTilePart") else
    if code == 31 then Some (codes "PsotZero") else
    if code == 32 then Some (codes "TilePartMarker") else
    None

-- a main header (Annex A)
abbrev pub marker_word : ℕ → Option (List ℕ)
marker_word code =
    if code == 40 then Some (codes "NotSoc") else
    if code == 41 then Some (codes "SegmentTruncated") else
    if code == 42 then Some (codes "UnexpectedMarker") else
    if code == 43 then Some (codes "Repeated") else
    if code == 44 then Some (codes "Missing") else
    if code == 45 then Some (codes "BadSiz") else
    if code == 46 then Some (codes "BadCod") else
    if code == 47 then Some (codes "BadQcd") else
    if code == 48 then Some (codes "BadPoc") else
    if code == 49 then Some (codes "BadTlm") else
    if code == 50 then Some (codes "NotCinema") else
    if code == 51 then Some (codes "TooLarge") else
    if code == 52 then Some (codes "OutsideProfile") else
    None

-- a whole codestream
abbrev pub stream_word : ℕ → Option (List ℕ)
stream_word code =
    if code == 60 then Some (codes "BytesAfterEnd") else
    if code == 61 then Some (codes "LimitExceeded") else
    if code == 62 then Some (codes "TooManyPlanes") else
    if code == 63 then Some (codes "MissingEnd") else
    if code == 64 then Some (codes "PartTooLong") else
    None

-- the first word that there is
abbrev pub or_else : Option (List ℕ) → Option (List ℕ) → Option (List ℕ)
or_else (Some word) other = Some word
or_else None other = other

-- the word of a code, if a line can name it
abbrev pub word_of : ℕ → Option (List ℕ)
word_of code = or_else (frame_word code) (or_else (packet_word code) (or_else (part_word code)
    (or_else (marker_word code) (stream_word code))))

-- the word as a line has it
abbrev pub text_of : Option (List ℕ) → List ℕ
text_of None = []
text_of (Some word) = word

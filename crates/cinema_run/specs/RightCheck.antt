-- Which visits are right for a file that is checked: what a run of the mode `check` owes for it. A
-- codestream that is read has a line that says what it holds, and any other file that of its first
-- fault. Nothing is written.
use Rattle.std.specs.Prelude.{ℕ, ◌+◌, ◌≡◌, ◌⊎◌, Bool, None, true, false, List, take, ltb}
use Rattle.std.specs.Prelude.{count_by, sum_by}
use Rattle.budget_duals.specs.declared.held.Held.{Held}
use Rattle.cert_text.specs.Lines.{read_line}
use Rattle.cert_text.specs.declared.read_line.ReadLine.{ReadLine}
use Rattle.cine_nums.specs.Limits.{frame_limit}
use Rattle.cine_ports.specs.Source.{File}
use Rattle.codestream_reader.specs.Faults.{HasFault}
use Rattle.codestream_reader.specs.declared.refusal.ReadRefusal.{ReadRefusal}
use Rattle.frame_reader.specs.Decoded.{IsMeaning, held_from}
use Rattle.profile_reader.specs.Reads.{BlockRead, Decoding}
use Rattle.cinema_run.specs.StreamRefused.{stream_refused_line}
use Rattle.cinema_run.specs.Visit.{Visit}

-- how many code-blocks are included, with at least one coding pass
abbrev pub included : List BlockRead → ℕ
included blocks = count_by (λ block. ltb 0 block.passes) blocks

-- the coding passes of all code-blocks together
abbrev pub passes_of : List BlockRead → ℕ
passes_of blocks = sum_by (λ block. block.passes) blocks

-- What the line of a codestream says that means this and holds so many bytes in its budgets,
-- headers included.
abbrev pub read_of : Decoding → Held → ReadLine
read_of d held = record {
  profile = d.main.profile;
  width = d.main.width;
  height = d.main.height;
  levels = d.main.levels;
  held = held;
  blocks = included d.blocks;
  passes = passes_of d.blocks;
}

-- the visit of a file that reports this line
abbrev pub reported : List ℕ → Bool → Visit
reported line refused = record { output = None; line = line; refused = refused }

-- The visit is that of a codestream: these bytes have a meaning, within all byte limits of their
-- profile, and the line says what they hold.
pub record IsReadable (name bytes : List ℕ) (visit : Visit) : Type 0 where
  pub decoding : Decoding
  pub means : IsMeaning bytes decoding
  pub is : visit ≡ reported
      (read_line name (read_of decoding (held_from bytes decoding.main))) false

-- The visit is that of any other file: these bytes mean nothing within the limits, and the line has
-- their first fault.
pub record IsUnreadable (name bytes : List ℕ) (visit : Visit) : Type 0 where
  pub meaningless : (decoding : Decoding) → IsMeaning bytes decoding → ⊥
  pub refusal : ReadRefusal
  pub fault : HasFault bytes refusal
  pub is : visit ≡ reported (stream_refused_line name refusal) true

-- The visit is right for a file with this name and these first bytes.
abbrev pub RightCheckFor : List ℕ → List ℕ → Visit → Type 0
RightCheckFor name bytes visit = IsReadable name bytes visit ⊎ IsUnreadable name bytes visit

-- the bytes of a file that are read: one more than a codestream may have shows that it is too long
abbrev pub first_bytes : List ℕ → List ℕ
first_bytes bytes = take (frame_limit + 1) bytes

-- The visit is right for the file.
abbrev pub RightCheck : File → Visit → Type 0
RightCheck file visit = RightCheckFor file.name (first_bytes file.bytes) visit

-- The visit is right for some file with this name: what holds of one whose bytes aren't known.
abbrev pub RightCheckByName : List ℕ → Visit → Type 0
RightCheckByName name visit =
    (bytes : List ℕ) × RightCheckFor name (first_bytes bytes) visit

-- What is read of a file's header.
-- Source: PSRDADA manual (headers at the front of files, HDR_SIZE); that it is read in two pieces is this project's
-- choice.
use Rattle.std.specs.Prelude.{◌≡◌, ℕ, ◌+◌, ◌-◌, ◌⊎◌, ⊤, List, ◌++◌, min, length, take, drop, Option, Some, IsSome, unwrap_or, Result, Ok, Err}
use Rattle.dada_model.specs.Fields.{HeaderText, HeaderRefusal, header_of, header_size, least_header}
use Rattle.psr_base.specs.Told.{Told, OfFile, history, opened, moved_by, BreaksOff}
use Rattle.dada_header.specs.Faults.{IsHeaderRefusal}
use Rattle.disk_feeder.specs.declared.front.HeaderStop.{HeaderStop}
use Rattle.disk_feeder.specs.declared.front.HeaderStop.TheVariants.{Failed, Refused}

-- So many bytes were read into a space between two places: as many as fit of those that were left, and the rest of them
-- is left still
pub record HasReadPart (from to n : ℕ) (old new : List ℕ) (left' : Option (List ℕ))
    (left : List ℕ) : Type 0 where
  pub bytes : take (from + n) new ≡ take from old ++ take (to - from) left
  pub count : n ≡ min (length left) (to - from)
  pub rest : left' ≡ Some (drop (to - from) left)

-- The bytes are those of the header that a file begins with, or all of a shorter one, and what is left is the rest.
-- They say all that the file says of its header.
pub record IsFrontRead (bytes : List ℕ) (left : Option (List ℕ)) (file : List ℕ) : Type 0 where
  pub count : ℕ
  pub front : bytes ≡ take count file
  pub rest : left ≡ Some (drop count file)
  pub header : header_of bytes ≡ header_of file
  pub size : (h : HeaderText) → header_of file ≡ Ok h → count ≡ h.size

-- the inputs failed, and not the file
abbrev pub IsFailure : HeaderStop → Type 0
IsFailure Failed = ⊤
IsFailure (Refused fault) = ⊥

-- what a stop says of the file
abbrev pub StopsHeader : List ℕ → HeaderStop → Type 0
StopsHeader file Failed = ⊤
StopsHeader file (Refused fault) = IsHeaderRefusal file fault

-- ---- what was read of it, and what a fault leaves

-- how many bytes of a file judge its header: as many as its size says, or the least where the size is refused
unfoldable pub judged_after : List ℕ → ℕ
judged_after file = unwrap_or (header_size file) least_header

abbrev pub front_in : List ℕ → Result HeaderText HeaderRefusal → ℕ
front_in file (Ok header) = header.size
front_in file (Err refusal) = min (length file) (judged_after file)

-- how many bytes of a file are read for its header: those of the header, or where it is refused those that judge it, or
-- all of a shorter file
unfoldable pub front_of : List ℕ → ℕ
front_of file = front_in file (header_of file)

-- a fault came before the header of a file was judged: it was not opened, or too few bytes were read of it
abbrev pub BreaksAt : List ℕ → List ℕ → Told → Told → Type 0
BreaksAt name file old new = BreaksOff (judged_after file) name old new

-- nothing was opened, or one name was, after all that was read before it
abbrev pub OpensAtMostOne : Told → Told → Type 0
OpensAtMostOne old new = (new ≡ old) ⊎ (new.earlier ≡ history old)

-- a name was opened and the header of its file read, where that is told; all that was read before is history
pub record ReadsHeader (name : List ℕ) (old new : Told) : Type 0 where
  pub known : OfFile old name (λ file. new ≡ moved_by (front_of file) (opened name old))
  pub earlier : new.earlier ≡ history old

-- a fault came before the header of its file was judged, where that is told; nothing else was opened
pub record BreaksHeader (name : List ℕ) (old new : Told) : Type 0 where
  pub known : OfFile old name (λ file. BreaksAt name file old new)
  pub one : OpensAtMostOne old new

-- what inputs told and tell as a name could not be opened: it isn't told, and nothing was read
pub record FailsUntold (name : List ℕ) (old new : Told) : Type 0 where
  pub untold : ¬ IsSome (old.bytes_under name)
  pub stays : new ≡ old

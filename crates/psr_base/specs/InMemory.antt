-- What the objects in memory tell.
-- Source: this project's choice.
use Rattle.std.specs.Prelude.{◌≡◌, ℕ, ◌-◌, ◌≤◌, ◌<◌, List, [], ◌∷◌, Option, Some, None, IsTrue, IsSome, length, vec_len}
use Rattle.psr_base.specs.Count.{CallCount, after_fault}
use Rattle.psr_base.specs.Told.{Told}
use Rattle.psr_base.specs.Written.{SinkSeen}
use Rattle.psr_base.specs.Held.{told_by, IsReading}
use Rattle.psr_base.specs.declared.mem_inputs.MemInputs.{MemInputs}
use Rattle.psr_base.specs.declared.calm_inputs.CalmInputs.{CalmInputs}
use Rattle.psr_base.specs.Made.{Made, FilesLeft, FilesSeen, HasName}
use Rattle.psr_base.specs.Stored.{all_stored, made_in}
use Rattle.psr_base.specs.declared.mem_files.MemFiles.{MemFiles}
use Rattle.psr_base.specs.declared.mem_sink.MemSink.{MemSink}
use Rattle.psr_base.specs.declared.stored.StoredFile.{StoredFile}

-- all of its files, what was read of those that were open, the open name, and the place in it
abbrev pub told_of : MemInputs → Told
told_of inputs = told_by inputs.files

-- a file is open
abbrev pub IsOpen : MemInputs → Type 0
IsOpen inputs = IsReading inputs.files

-- its calls
abbrev pub calls_of : MemInputs → CallCount
calls_of inputs = record {
  fail = inputs.calls.fail.items;
  number = inputs.calls.number;
  faults =
      inputs.calls.faults.count;
}

-- what was written to a sink in memory
abbrev pub body_of : MemSink → List ℕ
body_of sink = sink.body.items

-- how many more bytes it has room for
abbrev pub free_room : MemSink → ℕ
free_room sink = sink.room - vec_len sink.body

-- its calls
abbrev pub sink_calls : MemSink → CallCount
sink_calls sink = record {
  fail = sink.calls.fail.items;
  number = sink.calls.number;
  faults = sink.calls.faults.count;
}

-- what is left is told where no call is to fail
abbrev pub told_where : {A : Type 0} → List ℕ → A → Option A
told_where [] left = Some left
told_where (number ∷ fail) left = None

-- the room that it tells
abbrev pub room_told : MemSink → Option ℕ
room_told sink = told_where sink.calls.fail.items (free_room sink)

-- what is seen of it
abbrev pub sink_seen : MemSink → SinkSeen
sink_seen sink = record {
  written = Some (body_of sink);
  room = room_told sink;
  faults = sink.calls.faults.count;
}

-- what calm files in memory tell: a name that isn't there has no bytes, and reads as an empty file
abbrev pub calm_told : CalmInputs → Told
calm_told inputs = told_by inputs.files

-- a name is open
abbrev pub IsCalmOpen : CalmInputs → Type 0
IsCalmOpen inputs = IsTrue inputs.is_open

-- the files in memory that were made
abbrev pub made_of : MemFiles → Made
made_of made = made_in made.bytes.items made.finished.items made.unfinished

-- how many more there is space for, and how many more bytes
abbrev pub files_left : MemFiles → FilesLeft
files_left made = record {
  files = made.files - length (all_stored made.finished.items made.unfinished);
  bytes =
      made.room - vec_len made.bytes;
}

-- its calls
abbrev pub files_calls : MemFiles → CallCount
files_calls made = record {
  fail = made.calls.fail.items;
  number = made.calls.number;
  faults = made.calls.faults.count;
}

-- what is seen of it
abbrev pub files_seen : MemFiles → FilesSeen
files_seen made = record {
  made = Some (made_of made);
  left = told_where made.calls.fail.items (files_left made);
  faults = made.calls.faults.count;
}

-- a file was created and isn't finished
abbrev pub IsMaking : MemFiles → Type 0
IsMaking made = IsSome made.unfinished

-- how its files are stored, in the order of their creation
abbrev pub stored_in : MemFiles → List StoredFile
stored_in made = all_stored made.finished.items made.unfinished

-- a file of that name can be created: none has the name, it is short enough, and a file is left
abbrev pub CanMake : List ℕ → MemFiles → Type 0
CanMake name made =
    (¬ HasName (made_of made) name) × (length name ≤ 64) × (0 < (files_left made).files)

-- a call that failed read nothing, and was counted
pub record HasNotRead (old new : MemInputs) : Type 0 where
  pub told : told_of new ≡ told_of old
  pub calls : calls_of new ≡ after_fault (calls_of old)

-- one that failed made nothing and took no room, and was counted
pub record HasNotMade (old new : MemFiles) : Type 0 where
  pub made : made_of new ≡ made_of old
  pub left : files_left new ≡ files_left old
  pub calls : files_calls new ≡ after_fault (files_calls old)

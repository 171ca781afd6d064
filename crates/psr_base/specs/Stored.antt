-- Files that stand in one buffer, one after another.
-- Source: this project's choice.
use Rattle.std.specs.Prelude.{ℕ, Bool, ◌+◌, ◌≤◌, List, ◌++◌, map, take, drop, Option, option_to_list}
use Rattle.std.specs.Option.{option_map}
use Rattle.std.specs.Str.{bytes_eq}
use Rattle.psr_base.specs.Made.{NamedBytes, Made}
use Rattle.psr_base.specs.declared.stored.StoredFile.{StoredFile}

abbrev pub name_of : StoredFile → List ℕ
name_of file = file.name.bytes

abbrev pub is_stored_as : List ℕ → StoredFile → Bool
is_stored_as name file = bytes_eq (name_of file) name

-- its bytes, where the buffer holds those of all files
abbrev pub bytes_of : List ℕ → StoredFile → List ℕ
bytes_of buffer file = take file.len (drop file.start buffer)

-- the file with its bytes
abbrev pub named : List ℕ → StoredFile → NamedBytes
named buffer file = record { name = name_of file; bytes = bytes_of buffer file }

-- the file lies within the first n bytes of the buffer
abbrev pub LiesWithin : ℕ → StoredFile → Type 0
LiesWithin n file = file.start + file.len ≤ n

-- all files in the order of their creation
abbrev pub all_stored : List StoredFile → Option StoredFile → List StoredFile
all_stored finished unfinished = finished ++ option_to_list unfinished

-- what was made
abbrev pub made_in : List ℕ → List StoredFile → Option StoredFile → Made
made_in buffer finished unfinished = record {
  finished = map (named buffer) finished;
  unfinished = option_map (named buffer) unfinished;
}

-- Files in memory, as they are found by name.
-- Source: this project's choice.
use Rattle.std.specs.Prelude.{ℕ, Bool, List, [], Option, map, slice_index_or, string_bytes}
use Rattle.std.specs.Option.{option_map}
use Rattle.std.specs.List.{position_from}
use Rattle.std.specs.Str.{bytes_eq}
use Rattle.psr_base.specs.Told.{Reading}
use Rattle.psr_base.specs.declared.held.MemFile.{MemFile}
use Rattle.psr_base.specs.declared.held.OpenFile.{OpenFile}

-- the file has the name
abbrev pub is_named : List ℕ → MemFile → Bool
is_named name file = bytes_eq (string_bytes file.name) name

-- the place of the first file that has the name
abbrev pub place_in : List MemFile → List ℕ → Option ℕ
place_in files name = position_from (is_named name) 0 files

-- the names in order
abbrev pub names_of : List MemFile → List (List ℕ)
names_of files = map (λ (file : MemFile). string_bytes file.name) files

-- the bytes of each file in order
abbrev pub bodies_of : List MemFile → List (List ℕ)
bodies_of files = map (λ (file : MemFile). file.bytes.items) files

-- the name of the file at a place
abbrev pub name_at : List MemFile → ℕ → List ℕ
name_at files place = slice_index_or (names_of files) place []

-- the bytes of the file at a place
abbrev pub bytes_at : List MemFile → ℕ → List ℕ
bytes_at files place = slice_index_or (bodies_of files) place []

-- the bytes under a name
abbrev pub bytes_in : List MemFile → List ℕ → Option (List ℕ)
bytes_in files name = option_map (bytes_at files) (place_in files name)

-- the open name, the place in it, and whether its end was seen
abbrev pub reading_of : List MemFile → Option OpenFile → Option Reading
reading_of files reading =
    option_map (λ (file : OpenFile). record {
      name = name_at files file.index;
      place = file.place;
      ended = file.ended;
    })
    reading

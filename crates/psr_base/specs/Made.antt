-- What is seen of files that are made, one after another, and what the calls do to it.
-- Source: this project's choice.
use Rattle.std.specs.Prelude.{◌≡◌, ℕ, ◌-◌, ◌≤◌, ◌<◌, List, [], ◌++◌, length, map, Option, Some, None, Result, OnOk, OnErr, Contains, option_to_list}
use Rattle.std.specs.Option.{option_map, ForSome}
use Rattle.psr_base.specs.Count.{Rose}

-- a file by its name
pub record NamedBytes : Type 0 where
  pub name : List ℕ
  pub bytes : List ℕ

-- the files that were finished, in the order of their creation, and the one that was created and isn't finished
pub record Made : Type 0 where
  pub finished : List NamedBytes
  pub unfinished : Option NamedBytes

-- how many more files there is room for, and how many more bytes in all
pub record FilesLeft : Type 0 where
  pub files : ℕ
  pub bytes : ℕ

-- the files made so far and what is left, each where it is told, and how many calls have failed
pub record FilesSeen : Type 0 where
  pub made : Option Made
  pub left : Option FilesLeft
  pub faults : ℕ

-- all files in the order of their creation
abbrev pub files_in : Made → List NamedBytes
files_in made = made.finished ++ option_to_list made.unfinished

-- their names
abbrev pub names_in : Made → List (List ℕ)
names_in made = map (λ (file : NamedBytes). file.name) (files_in made)

-- the bytes of each
abbrev pub bodies_in : Made → List (List ℕ)
bodies_in made = map (λ (file : NamedBytes). file.bytes) (files_in made)

-- a file of that name is there
abbrev pub HasName : Made → List ℕ → Type 0
HasName made name = Contains (names_in made) name

-- an empty file of that name is begun
abbrev pub with_new_file : List ℕ → Made → Made
with_new_file name made = record made { unfinished = Some (record { name = name; bytes = [] }) }

-- bytes come after those of the unfinished file
abbrev pub longer_by : List ℕ → Made → Made
longer_by bytes made =
    record made {
      unfinished =
          option_map (λ (file : NamedBytes). record file { bytes = file.bytes ++ bytes })
          made.unfinished;
    }

-- the unfinished file is finished
abbrev pub with_all_finished : Made → Made
with_all_finished made = record { finished = files_in made; unfinished = None }

abbrev pub less_a_file : FilesLeft → FilesLeft
less_a_file left = record left { files = left.files - 1 }

abbrev pub less_bytes : ℕ → FilesLeft → FilesLeft
less_bytes n left = record left { bytes = left.bytes - n }

-- a file was created, which took one of those that are left
pub record Created (name : List ℕ) (old new : FilesSeen) : Type 0 where
  pub made : new.made ≡ option_map (with_new_file name) old.made
  pub left : new.left ≡ option_map less_a_file old.left
  pub faults : new.faults ≡ old.faults

-- bytes were appended, which took as many of those that are left
pub record AppendedAll (bytes : List ℕ) (old new : FilesSeen) : Type 0 where
  pub made : new.made ≡ option_map (longer_by bytes) old.made
  pub left : new.left ≡ option_map (less_bytes (length bytes)) old.left
  pub faults : new.faults ≡ old.faults

-- a file was finished
pub record Finished (old new : FilesSeen) : Type 0 where
  pub made : new.made ≡ option_map with_all_finished old.made
  pub left : new.left ≡ old.left
  pub faults : new.faults ≡ old.faults

-- a call failed, which made nothing
pub record MakingFails (old new : FilesSeen) : Type 0 where
  pub made : new.made ≡ old.made
  pub left : new.left ≡ old.left
  pub rose : Rose old.faults new.faults
  pub count : old.faults ≤ new.faults

-- a call failed before bytes were appended whole: their front was. Where what is left was told, it was less than the
-- bytes.
pub record AppendedFront (bytes : List ℕ) (old new : FilesSeen) : Type 0 where
  pub front : List ℕ
  pub rest : List ℕ
  pub splits : bytes ≡ front ++ rest
  pub missing : 0 < length rest
  pub made : new.made ≡ option_map (longer_by front) old.made
  pub left : new.left ≡ option_map (less_bytes (length front)) old.left
  pub short : ForSome old.left (λ left. left.bytes < length bytes)
  pub rose : Rose old.faults new.faults
  pub count : old.faults ≤ new.faults

-- bytes were appended, or their front at a fault
pub record Appended {T E : Type 0} (bytes : List ℕ) (old new : FilesSeen)
    (result : Result T E) : Type 0 where
  pub all : OnOk result (AppendedAll bytes old new)
  pub front : OnErr result (AppendedFront bytes old new)

-- What appends make that follow one another: all bytes or their front, as the last of them ended.
pub record AppendsJoin : Type 0 where
  pub joins : (xs ys : List ℕ) (old middle new : FilesSeen) → AppendedAll xs old middle →
      AppendedAll ys middle new → AppendedAll (xs ++ ys) old new
  pub stops : (xs ys : List ℕ) (old middle new : FilesSeen) → AppendedAll xs old middle →
      AppendedFront ys middle new → AppendedFront (xs ++ ys) old new
  pub breaks_off : (xs ys : List ℕ) (old new : FilesSeen) → AppendedFront xs old new →
      AppendedFront (xs ++ ys) old new

-- a name of at most 64 bytes, which is none of the files' names where these are told, while a file is told to be left
pub record CanCreate (name : List ℕ) (seen : FilesSeen) : Type 0 where
  pub is_new : ForSome seen.made (λ made. ¬ HasName made name)
  pub left : FilesLeft
  pub left_is_told : seen.left ≡ Some left
  pub file : 0 < left.files
  pub short : length name ≤ 64

-- Files that are made one after another, seen from what was told before the first.
-- Source: this project's choice.
use Rattle.std.specs.Prelude.{◌≡◌, ℕ, ◌+◌, ◌-◌, ◌≤◌, ◌⊎◌, Bool, true, false, List, [], ◌∷◌, ◌++◌, length, take, map, slice_get, Option, Some, None, Result, OnOk, OnErr, Contains}
use Rattle.std.specs.Option.{option_map}
use Rattle.psr_base.specs.Count.{Rose}
use Rattle.psr_base.specs.Made.{NamedBytes, Made, FilesLeft, FilesSeen, files_in}

-- ---- what is told

-- what was told before the first file: these files, all of them finished, and what was left, where
-- that was told
pub record Outset : Type 0 where
  pub files : List NamedBytes
  pub left : Option FilesLeft

-- files in the order of their creation: the last one is not finished, or all are
abbrev pub made_with : Bool → List NamedBytes → Made
made_with true files =
    record {
      finished = take (length files - 1) files;
      unfinished = slice_get files (length files - 1);
    }
made_with false files = record { finished = files; unfinished = None }

-- the bytes of all files together
unfoldable pub total_bytes : List NamedBytes → ℕ
total_bytes [] = 0
total_bytes (file ∷ files) = length file.bytes + total_bytes files

-- what is left after these files
abbrev pub left_after : List NamedBytes → FilesLeft → FilesLeft
left_after files left =
    record { files = left.files - length files; bytes = left.bytes - total_bytes files }

-- what is told is that of the outset, and these files after it
pub record HasMade (outset : Outset) (last_is_open : Bool) (files : List NamedBytes)
    (seen : FilesSeen) : Type 0 where
  pub made : seen.made ≡ Some (made_with last_is_open (outset.files ++ files))
  pub left : seen.left ≡ option_map (left_after files) outset.left

-- it is the outset itself
pub record BeginsAt (outset : Outset) (seen : FilesSeen) : Type 0 where
  pub made : seen.made ≡ Some (record { finished = outset.files; unfinished = None })
  pub left : seen.left ≡ outset.left

-- ---- what is enough

abbrev pub names : List NamedBytes → List (List ℕ)
names files = map (λ (file : NamedBytes). file.name) files

-- none of the names is one of those that are there, or one before it
abbrev pub AreNew : List (List ℕ) → List (List ℕ) → Type 0
AreNew there [] = Unit {0}
AreNew there (name ∷ more) = (¬ Contains there name) × AreNew (there ++ name ∷ []) more

-- what was left was told, and is enough for these files; and their names are new
pub record HasEnoughFor (outset : Outset) (files : List NamedBytes) : Type 0 where
  pub left : FilesLeft
  pub is_told : outset.left ≡ Some left
  pub count : length files ≤ left.files
  pub bytes : total_bytes files ≤ left.bytes
  pub new : AreNew (names outset.files) (names files)

-- ---- fronts of files

-- a file has the other's name, and a front of its bytes
pub record IsFrontOf (front file : NamedBytes) : Type 0 where
  pub name : front.name ≡ file.name
  pub rest : List ℕ
  pub splits : file.bytes ≡ front.bytes ++ rest

-- files are a front of others: whole ones in order, and then at most one that is a front of a file
abbrev pub IsFileFront : List NamedBytes → List NamedBytes → Type 0
IsFileFront [] all = Unit {0}
IsFileFront (file ∷ files) [] = ⊥
IsFileFront (file ∷ files) (whole ∷ more) =
    ((file ≡ whole) × IsFileFront files more) ⊎ ((files ≡ []) × IsFrontOf file whole)

-- A call failed on the way to these files: a front of them was made. What was left at the outset was not enough for
-- all of them, or was not told, or one of their names was not new.
pub record BreaksOff (outset : Outset) (all : List NamedBytes) (seen : FilesSeen) : Type 0 where
  pub made : Made
  pub is_told : seen.made ≡ Some made
  pub files : List NamedBytes
  pub files_are : files_in made ≡ outset.files ++ files
  pub front : IsFileFront files all
  pub short : ¬ HasEnoughFor outset all

-- ---- calls

-- Files that were made came to be others; or a call failed on the way to any files that those are a
-- front of.
pub record Makes {T E : Type 0} (was_open : Bool) (old_files : List NamedBytes) (is_open : Bool)
    (new_files : List NamedBytes) (old new : FilesSeen) (result : Result T E) : Type 0 where
  pub all : (outset : Outset) → HasMade outset was_open old_files old →
      OnOk result (HasMade outset is_open new_files new)
  pub front : (outset : Outset) (all : List NamedBytes) → HasMade outset was_open old_files old →
      IsFileFront new_files all → OnErr result (BreaksOff outset all new)

-- no call failed; or one did, and was counted
pub record CountsFault {T E : Type 0} (old new : FilesSeen) (result : Result T E) : Type 0 where
  pub none : OnOk result (new.faults ≡ old.faults)
  pub rose : OnErr result (Rose old.faults new.faults)
  pub count : OnErr result (old.faults ≤ new.faults)

-- whether a file is open is as it is told
abbrev pub IsOpenAs : Bool → Type 0 → Type 0
IsOpenAs true answer = answer
IsOpenAs false answer = ¬ answer

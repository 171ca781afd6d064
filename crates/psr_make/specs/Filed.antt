-- What making a file comes to.
-- Source: this project's choice.
use Rattle.std.specs.Prelude.{◌≡◌, ◌⊎◌, ℕ, ◌≤◌, List, ◌++◌, length}
use Rattle.std.specs.Option.{option_map}
use Rattle.psr_base.specs.Count.{Rose}
use Rattle.psr_base.specs.Made.{Made, FilesLeft, FilesSeen, with_new_file, longer_by, with_all_finished, less_a_file, less_bytes, CanCreate}

-- a file of that name with these bytes was created and finished
pub record FileMade (name bytes : List ℕ) (old new : FilesSeen) : Type 0 where
  pub made : new.made
      ≡ option_map (λ (made : Made). with_all_finished (longer_by bytes (with_new_file name made)))
      old.made
  pub left : new.left
      ≡ option_map (λ (left : FilesLeft). less_bytes (length bytes) (less_a_file left)) old.left
  pub faults : new.faults ≡ old.faults

-- a front of the bytes stands in an unfinished file of that name
abbrev pub HoldsFront : List ℕ → List ℕ → FilesSeen → FilesSeen → Type 0
HoldsFront name bytes old new = (front : List ℕ) × (rest : List ℕ) × (bytes ≡ front ++ rest)
    × (new.made ≡ option_map (λ (made : Made). longer_by front (with_new_file name made)) old.made)

-- the files told that they have room for a new file of that name with so many bytes
pub record HasRoomFor (name : List ℕ) (count : ℕ) (seen : FilesSeen) : Type 0 where
  pub can_create : CanCreate name seen
  pub bytes : count ≤ can_create.left.bytes

-- a call failed: no file was created, or it holds a front of the bytes. Room for them was not told.
pub record MakingStopped (name bytes : List ℕ) (old new : FilesSeen) : Type 0 where
  pub front : (new.made ≡ old.made) ⊎ HoldsFront name bytes old new
  pub rose : Rose old.faults new.faults
  pub count : old.faults ≤ new.faults
  pub short : ¬ HasRoomFor name (length bytes) old

-- What the search of a part is over: its words, its checkpoint, and the pulses that it is to find.
-- Source: this project's choice.
use Rattle.std.specs.Prelude.{◌≡◌, ℕ, ◌<◌, ◌&&◌, Bool, List, [], ◌∷◌, length, slice_index_or, nat_lt, is_some, unwrap_or, Option, Some, if◌then◌else◌}
use Rattle.std.specs.Option.{ForSome}
use Rattle.std.specs.Str.{bytes_eq}
use Rattle.psr_base.specs.Told.{Told}
use Rattle.search_model.specs.declared.candidate.Candidate.{Candidate}
use Rattle.search_model.specs.Observed.{candidates_of, filterbank_of}
use Rattle.search_model.specs.Parts.{within_part}
use Rattle.search_words.specs.Settings.{SettingsSeen}
use Rattle.stream_model.specs.Walk.{FileStream, transfer_data}
use Rattle.warm_restart.specs.declared.checkpoint.Checkpoint.{Checkpoint}
use Rattle.warm_restart.specs.Checkpoint.{IsCheckpointText}
use Rattle.warm_restart.specs.Counts.{until_of}
use Rattle.warm_restart.specs.Named.{named_text, new_word}
use Rattle.warm_restart.specs.Warm.{text_of_part}
use Rattle.run_outcome.specs.Lone.{LoneSearch}
use Rattle.run_outcome.specs.Runs.{Task, Alone, ForFiles, first_observation}

-- ---- the words

-- the second word is UNTIL, and the third one CHECK; the words of a search follow
abbrev pub until_word : List (List ℕ) → List ℕ
until_word words = slice_index_or words 1 []

abbrev pub check_word : List (List ℕ) → List ℕ
check_word words = slice_index_or words 2 []

-- the form that is judged first: both are there, and the first of them is a number of its range
abbrev pub has_form : List (List ℕ) → Bool
has_form words = nat_lt 2 (length words) && is_some (until_of (until_word words))

-- the spectrum that the part stops before, by words of this form
abbrev pub until_in : List (List ℕ) → ℕ
until_in words = unwrap_or (until_of (until_word words)) 0

-- what is read besides the files of the search: CHECK, where it names a file
abbrev pub check_names : List (List ℕ) → List (List ℕ)
check_names words =
    if bytes_eq (check_word words) new_word then [] else check_word words ∷ []

-- the text that CHECK stands for, where it is told
abbrev pub check_text_of : Told → List (List ℕ) → Option (List ℕ)
check_text_of told words = named_text told (check_word words)

-- A part goes on from this checkpoint: it is the one that CHECK says, where that is told, and its place is before the
-- spectrum that the part stops before.
pub record GoesOnFrom (told : Told) (words : List (List ℕ)) (from : Checkpoint) : Type 0 where
  pub text : ForSome (check_text_of told words) (λ text. IsCheckpointText text from)
  pub before : from.place < until_in words

-- the same where it is told
pub record SaysCheckpoint (told : Told) (words : List (List ℕ)) (from : Checkpoint) : Type 0 where
  pub bytes : List ℕ
  pub named : check_text_of told words ≡ Some bytes
  pub text : IsCheckpointText bytes from
  pub before : from.place < until_in words

-- ---- the part

-- how many spectra the data of the first transfer have
abbrev pub spectra_in : FileStream → ℕ
spectra_in w = (filterbank_of (first_observation w 0) (transfer_data w 0)).spectra

-- the pulses of the part from a checkpoint on
abbrev pub pulses_in_part : List (List ℕ) → Checkpoint → SettingsSeen → FileStream → List Candidate
pulses_in_part words from s w = within_part from.place (until_in words)
    (candidates_of (first_observation w 0) s.search (transfer_data w 0))

-- and its text
abbrev pub text_in_part : List (List ℕ) → Checkpoint → SettingsSeen → FileStream → List ℕ
text_in_part words from s w =
    text_of_part (first_observation w 0) s.search from (until_in words) (transfer_data w 0)

-- the search of a part as one that is driven alone: two words stand before those of a search, and nothing is folded
abbrev pub part_search : List (List ℕ) → Checkpoint → LoneSearch
part_search words from = record {
  before = 2;
  has_form = has_form;
  makes = λ s. nat_lt s.search.fold_max s.search.fold_min;
  total = λ s w. length (pulses_in_part words from s w);
}

abbrev pub searching : List (List ℕ) → Checkpoint → Task
searching words from = Alone (part_search words from)

-- P holds of the settings that the words say and of the files that they name, where the bytes of all are told
abbrev pub ForPart : List (List ℕ) → Checkpoint → Told → (SettingsSeen → FileStream → Type 0) → Type 0
ForPart words from told P = ForFiles (searching words from) words told P

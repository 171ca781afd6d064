-- The words of a search of several beams: how near pulses are, and of how many beams; and then those of a search of one
-- transfer, whose files are the beams.
-- Source: this project's choice.
use Rattle.std.specs.Prelude.{ℕ, Bool, ◌&&◌, nat_lt, nat_le, if◌then◌else◌, is_some, List, [], length, slice_index_or, Option, Some, None}
use Rattle.std.specs.Option.{unwrap_or}
use Rattle.std.specs.Str.{all_ascii_digits}
use Rattle.std.specs.Str.Parse.{digits_value}
use Rattle.search_model.specs.Observed.{candidates_of}
use Rattle.search_words.specs.Settings.{SettingsSeen}
use Rattle.stream_model.specs.Walk.{FileStream, transfer_data}
use Rattle.run_outcome.specs.Lone.{LoneSearch, SayAlone}
use Rattle.run_outcome.specs.Runs.{Task, Alone, first_observation}

-- a text of 1 to 5 decimal digits alone
abbrev pub is_short_number : List ℕ → Bool
is_short_number text = nat_lt 0 (length text) && nat_le (length text) 5 && all_ascii_digits text

-- the number that such a text says, where it is one of these
unfoldable pub number_between : ℕ → ℕ → List ℕ → Option ℕ
number_between least most text =
    let number = digits_value 10 text in
    if is_short_number text && (nat_le least number && nat_le number most) then Some number else None

-- a word by its place, or the empty one
abbrev pub word_at : List (List ℕ) → ℕ → List ℕ
word_at words place = slice_index_or words place []

-- the second word: by how many spectra the ends of pulses that are near each other differ at most
abbrev pub within_of : List (List ℕ) → Option ℕ
within_of words = number_between 0 65536 (word_at words 1)

-- the third word: in how many beams a pulse may be that is not marked
abbrev pub more_of : List (List ℕ) → Option ℕ
more_of words = number_between 1 6 (word_at words 2)

-- what these words say, where they say it
abbrev pub within_in : List (List ℕ) → ℕ
within_in words = unwrap_or (within_of words) 0

abbrev pub more_in : List (List ℕ) → ℕ
more_in words = unwrap_or (more_of words) 0

abbrev pub have_form : List (List ℕ) → Bool
have_form words = is_some (within_of words) && is_some (more_of words)

-- how many beams there may be
abbrev pub is_beam_count : ℕ → Bool
is_beam_count count = nat_le 2 count && nat_le count 7

-- how many candidates the first transfer of a stream has
abbrev pub candidate_count : SettingsSeen → FileStream → ℕ
candidate_count s w = length (candidates_of (first_observation w 0) s.search (transfer_data w 0))

-- what tells this program from others that search one transfer alone
abbrev pub beam_search : LoneSearch
beam_search = record {
  before = 2;
  has_form = have_form;
  makes = λ s. is_beam_count (length s.names);
  total = candidate_count;
}

abbrev pub searching_beams : Task
searching_beams = Alone beam_search

-- the words say a search of beams with these settings
abbrev pub SayBeams : List (List ℕ) → SettingsSeen → Type 0
SayBeams words s = SayAlone beam_search words s

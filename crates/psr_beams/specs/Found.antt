-- What is found in the data of several beams, each searched alone, and why a beam has no list.
-- Source: this project's choice.
use Rattle.std.specs.Prelude.{◌≡◌, ℕ, ◌<◌, ◌≤◌, List, length, map, Some}
use Rattle.search_words.specs.Settings.{SettingsSeen}
use Rattle.search_model.specs.Observed.{candidates_of}
use Rattle.stream_model.specs.Walk as walk
use Rattle.stream_model.specs.Walk.{walk_stop, data_of}
use Rattle.beam_set.specs.Searched.{searched_beams_text}
use Rattle.run_outcome.specs.declared.stop.Stop.{Stop}
use Rattle.run_outcome.specs.Runs.{stop_of_walk}
use Rattle.psr_beams.specs.Words.{within_in, more_in}
use Rattle.psr_beams.specs.Files.{beam_stream, beam_data, beams_observation}
use Rattle.psr_beams.specs.Refusals.{CanSearch}

-- all data of a beam are read
abbrev pub IsWhole : SettingsSeen → List (List ℕ) → ℕ → Type 0
IsWhole s files beam = walk_stop (beam_stream s files beam) ≡ walk.Whole

-- this beam stops here at its data, and those before it are read whole
pub record StopsBeam (s : SettingsSeen) (files : List (List ℕ)) (stop : Stop) : Type 0 where
  pub begins : CanSearch s files
  pub beam : ℕ
  pub there : beam < length files
  pub stops : stop_of_walk s.max_bytes (walk_stop (beam_stream s files beam)) ≡ Some stop
  pub earlier : (k : ℕ) → k < beam → IsWhole s files k

-- all data of all beams are read
pub record AreWhole (s : SettingsSeen) (files : List (List ℕ)) : Type 0 where
  pub begins : CanSearch s files
  pub whole : (beam : ℕ) → beam < length files → IsWhole s files beam

-- how many candidates the list of a beam has
abbrev pub count_in : SettingsSeen → List (List ℕ) → ℕ → ℕ
count_in s files beam =
    length (candidates_of (beams_observation files) s.search (beam_data files beam))

-- this is the first beam whose list has more candidates than there may be, which are so many
pub record HasTooMany (s : SettingsSeen) (files : List (List ℕ)) (count limit : ℕ) : Type 0 where
  pub read : AreWhole s files
  pub beam : ℕ
  pub there : beam < length files
  pub counted : count_in s files beam ≡ count
  pub limit_is : limit ≡ s.search.max_candidates
  pub many : limit < count
  pub earlier : (k : ℕ) → k < beam → count_in s files k ≤ s.search.max_candidates

-- all data are read, and no list has more candidates than there may be
pub record AreSearched (s : SettingsSeen) (files : List (List ℕ)) : Type 0 where
  pub read : AreWhole s files
  pub few : (beam : ℕ) → beam < length files → count_in s files beam ≤ s.search.max_candidates

-- the text of all beams
abbrev pub beams_text_of : List (List ℕ) → SettingsSeen → List (List ℕ) → List ℕ
beams_text_of words s files = searched_beams_text (beams_observation files) s.search
    (within_in words) (more_in words) (map data_of files)

-- and P holds of their text
abbrev pub HaveText : List (List ℕ) → (List ℕ → Type 0) → SettingsSeen → List (List ℕ) → Type 0
HaveText words P s files = AreSearched s files × P (beams_text_of words s files)

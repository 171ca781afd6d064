-- The files of several beams, each of which has one: each is a stream of its own.
-- Source: PSRDADA manual (a transfer is what one header describes); that beams of one observation have the same values
-- is this project's choice.
use Rattle.std.specs.Prelude.{◌≡◌, ℕ, ◌-◌, ◌<◌, ◌≤◌, List, [], ◌∷◌, length, slice_index_or, Some}
use Rattle.psr_base.specs.Told.{Told, OfFile, opened, moved_by}
use Rattle.dada_model.specs.Observation.{Observation}
use Rattle.search_words.specs.Settings.{SettingsSeen}
use Rattle.stream_model.specs.Walk.{FileStream, data_of, observation_at}
use Rattle.disk_feeder.specs.Front.{front_of}
use Rattle.psr_beams.specs.Words.{SayBeams}

-- the file of a beam
abbrev pub beam_file : List (List ℕ) → ℕ → List ℕ
beam_file files beam = slice_index_or files beam []

-- the name of its file
abbrev pub beam_name : SettingsSeen → ℕ → List ℕ
beam_name s beam = slice_index_or s.names beam []

-- a file as a stream of its own, and so the file of a beam
abbrev pub stream_of_one : SettingsSeen → List ℕ → FileStream
stream_of_one s file = record { files = file ∷ []; starts = 0 ∷ []; max_bytes = s.max_bytes }

abbrev pub beam_stream : SettingsSeen → List (List ℕ) → ℕ → FileStream
beam_stream s files beam = stream_of_one s (beam_file files beam)

-- its data
abbrev pub beam_data : List (List ℕ) → ℕ → List ℕ
beam_data files beam = data_of (beam_file files beam)

-- the observation of all beams, which is that of beam 0
abbrev pub beams_observation : List (List ℕ) → Observation
beams_observation files = observation_at (beam_file files 0)

-- the inputs of each beam tell the bytes of its file
pub record AreBeamsTold (told : ℕ → Told) (names files : List (List ℕ)) : Type 0 where
  pub count : length files ≡ length names
  pub each : (beam : ℕ) → beam < length names →
      (told beam).bytes_under (slice_index_or names beam []) ≡ Some (beam_file files beam)

-- ---- what was read of a file; by its name and its bytes, over what was told before it was opened

-- its header was read, and no byte past it
abbrev pub header_read : List ℕ → List ℕ → Told → Told
header_read name file told = moved_by (front_of file) (opened name told)

-- its header was read, and maybe more of its bytes, at most so many of its data, and its end was not seen
pub record IsReadOn (limit : ℕ) (name file : List ℕ) (before after : Told) : Type 0 where
  pub place : ℕ
  pub past : front_of file ≤ place
  pub within : place ≤ length file
  pub few : place - front_of file ≤ limit
  pub is : after ≡ moved_by place (opened name before)

-- ---- the files that are told

-- P holds of the settings that the words say
abbrev pub ForSettings : List (List ℕ) → (SettingsSeen → Type 0) → Type 0
ForSettings words P = (s : SettingsSeen) → SayBeams words s → P s

-- P holds of the file of a beam, where its bytes are told; of those of other beams nothing is said
abbrev pub OfBeam : (ℕ → Told) → SettingsSeen → ℕ → (List ℕ → Type 0) → Type 0
OfBeam told s beam P = OfFile (told beam) (beam_name s beam) P

-- P holds of the settings that the words say, and of the files of their beams, where the bytes of all are told
abbrev pub ForBeams : List (List ℕ) → (ℕ → Told) → (SettingsSeen → List (List ℕ) → Type 0) → Type 0
ForBeams words told P = (s : SettingsSeen) (files : List (List ℕ)) → SayBeams words s →
    AreBeamsTold told s.names files → P s files

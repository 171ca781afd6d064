-- What a stop of a search of several beams says of their files, of each that is told, and of all where all are. In its
-- line a file is a beam.
-- Source: this project's choice.
use Rattle.std.specs.Prelude.{◌≡◌, ℕ, ◌<◌, ◌⊎◌, ⊤, List, length}
use Rattle.psr_base.specs.Told.{Told}
use Rattle.search_words.specs.Settings.{SettingsSeen}
use Rattle.disk_feeder.specs.declared.answers.HeaderCause.TheVariants.{Text, Fields}
use Rattle.run_outcome.specs.declared.stop.Stop.{Stop}
use Rattle.run_outcome.specs.declared.stop.Stop.TheVariants.{Header, Plan, Gap, TooLong, TooMany, Memory, ReadFault, SinkFault, Words, Value}
use Rattle.psr_beams.specs.Refusals.{RefusesText, RefusesFirst, RefusesLater, RefusesSearch}
use Rattle.psr_beams.specs.Files.{AreBeamsTold}
use Rattle.psr_beams.specs.Found.{StopsBeam, HasTooMany}
use Rattle.psr_beams.specs.EachBeam.{RefusesTextAt, RefusesFirstAt, RefusesLaterAt, RefusesSearchAt, StopsBeamAt, HasTooManyAt}

-- ---- of each file that is told

-- the fields of beam 0, or those of a later one, are refused
abbrev pub RefusesFieldsAt : (ℕ → Told) → SettingsSeen → Stop → Type 0
RefusesFieldsAt told s (Header beam (Fields fault)) = ((beam ≡ 0) × RefusesFirstAt told s fault)
    ⊎ RefusesLaterAt told s beam (Header beam (Fields fault))
RefusesFieldsAt told s stop = ⊥

abbrev pub SaysOfBeams : (ℕ → Told) → SettingsSeen → Stop → Type 0
SaysOfBeams told s (Header beam (Text fault)) = RefusesTextAt told s beam fault
SaysOfBeams told s (Header beam (Fields fault)) =
    RefusesFieldsAt told s (Header beam (Fields fault))
SaysOfBeams told s (Gap beam expected found) =
    RefusesLaterAt told s beam (Gap beam expected found)
SaysOfBeams told s (Plan cause) = RefusesSearchAt told s cause
SaysOfBeams told s (TooLong limit) = StopsBeamAt told s limit
SaysOfBeams told s (TooMany count limit) = HasTooManyAt told s count limit
SaysOfBeams told s Memory = ⊤
SaysOfBeams told s ReadFault = ⊤
SaysOfBeams told s SinkFault = ⊤
SaysOfBeams told s Words = ⊤
SaysOfBeams told s (Value opt) = ⊤
SaysOfBeams told s stop = ⊥

-- ---- of all files

-- the fields of beam 0, or those of a later one, are refused
abbrev pub RefusesFields : List (List ℕ) → Stop → Type 0
RefusesFields files (Header beam (Fields fault)) =
    ((beam ≡ 0) × RefusesFirst files fault) ⊎ RefusesLater files (Header beam (Fields fault))
RefusesFields files stop = ⊥

abbrev pub IsStopOfBeams : SettingsSeen → List (List ℕ) → Stop → Type 0
IsStopOfBeams s files (Header beam (Text fault)) = RefusesText files beam fault
IsStopOfBeams s files (Header beam (Fields fault)) =
    RefusesFields files (Header beam (Fields fault))
IsStopOfBeams s files (Gap beam expected found) = RefusesLater files (Gap beam expected found)
IsStopOfBeams s files (Plan cause) = RefusesSearch s files cause
IsStopOfBeams s files (TooLong limit) = StopsBeam s files (TooLong limit)
IsStopOfBeams s files (TooMany count limit) = HasTooMany s files count limit
IsStopOfBeams s files Memory = ⊤
IsStopOfBeams s files ReadFault = ⊤
IsStopOfBeams s files SinkFault = ⊤
IsStopOfBeams s files Words = ⊤
IsStopOfBeams s files (Value opt) = ⊤
IsStopOfBeams s files stop = ⊥

-- where the bytes of all files are told, a stop says of them what it says of each
abbrev pub ToldStopsAreOfFiles : Type 0
ToldStopsAreOfFiles = (told : ℕ → Told) (s : SettingsSeen) (files : List (List ℕ)) (stop : Stop) →
    AreBeamsTold told s.names files → 0 < length s.names → SaysOfBeams told s stop →
    IsStopOfBeams s files stop

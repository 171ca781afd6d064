-- What stands against a search of beams whose words are accepted is answered: the outcome read from the cause to the
-- status.
-- Source: this project's choice.
use Rattle.std.specs.Prelude.{◌≡◌, ◌≢◌, ℕ, ◌<◌, ◌≤◌, ◌⊎◌, List, length, Some}
use Rattle.psr_base.specs.Count.{Rose}
use Rattle.psr_base.specs.Told.{InputsSeen}
use Rattle.psr_base.specs.Written.{Noted}
use Rattle.dada_header.specs.declared.faults.HeaderFault.{HeaderFault}
use Rattle.dada_header.specs.Faults.{IsHeaderRefusal}
use Rattle.search_words.specs.Settings.{SettingsSeen}
use Rattle.disk_feeder.specs.declared.answers.HeaderCause.{HeaderCause}
use Rattle.disk_feeder.specs.declared.answers.HeaderCause.TheVariants.{Text}
use Rattle.run_outcome.specs.declared.causes.PlanCause.{PlanCause}
use Rattle.run_outcome.specs.declared.stop.Stop.{Stop}
use Rattle.run_outcome.specs.declared.stop.Stop.TheVariants.{Header, Gap, TooLong}
use Rattle.run_outcome.specs.Firsts.{HasHeader}
use Rattle.run_outcome.specs.Texts.{status_of, note_of}
use Rattle.psr_beams.specs.Words.{SayBeams}
use Rattle.psr_beams.specs.Files.{beam_name}
use Rattle.psr_beams.specs.Refusals.{RefusesLater, RefusesSearch}
use Rattle.psr_beams.specs.Found.{StopsBeam, HasTooMany, beams_text_of}
use Rattle.psr_beams.specs.Stops.{IsStopOfBeams}
use Rattle.psr_beams.specs.Outcome.{Outcome, BeamsSeen, NoneFails, ForOutcomes}

-- the status is this one, or there was no memory
abbrev pub Answers : ℕ → ℕ → Type 0
Answers status wanted = (status ≡ wanted) ⊎ (status ≡ 5)

-- Each cause that stands against a search of these files has its status: the first header that is refused, the first
-- later beam with another OBS_OFFSET, the search that is refused, the lowest beam that has too many data, and the
-- lowest that has too many candidates.
pub record EachIsAnswered (s : SettingsSeen) (files : List (List ℕ)) (status : ℕ) : Type 0 where
  pub header : (beam : ℕ) (cause : HeaderCause) → IsStopOfBeams s files (Header beam cause) →
      Answers status 3
  pub offset : (beam expected found : ℕ) → RefusesLater files (Gap beam expected found) →
      Answers status 7
  pub plan : (cause : PlanCause) → RefusesSearch s files cause → Answers status 4
  pub too_long : (limit : ℕ) → StopsBeam s files (TooLong limit) → Answers status 8
  pub too_many : (count limit : ℕ) → HasTooMany s files count limit → Answers status 9

-- So it is over inputs of which none fails.
abbrev pub CausesAreAnswered : (ℕ → Type 0) → Type 0
CausesAreAnswered is_calm = ForOutcomes is_calm (λ words seen s files.
    NoneFails is_calm seen.inputs s → EachIsAnswered s files seen.status)

-- Of the first beams up to this one the files are told; those before it have headers, and its own has none. Their
-- inputs are calm or count no fault.
pub record HasNoHeaderAt (is_calm : ℕ → Type 0) (inputs : ℕ → InputsSeen) (s : SettingsSeen)
    (beam : ℕ) (fault : HeaderFault) : Type 0 where
  pub there : beam < length s.names
  pub file_of : ℕ → List ℕ
  pub told : (k : ℕ) → k ≤ beam →
      (inputs k).told.bytes_under (beam_name s k) ≡ Some (file_of k)
  pub earlier : (k : ℕ) → k < beam → HasHeader (file_of k)
  pub refused : IsHeaderRefusal (file_of beam) fault
  pub serves : (k : ℕ) → k ≤ beam →
      is_calm k ⊎ ¬ Rose (inputs k).faults_before (inputs k).faults_after

-- a search came to this stop, whose line its notes took, or their front at a fault; or there was no memory
pub record IsAnsweredAt (seen : BeamsSeen) (stop : Stop) : Type 0 where
  pub status : Answers seen.status (status_of stop)
  pub line : seen.status ≡ status_of stop →
      Noted (note_of stop) seen.notes_before seen.notes_after

-- A file that has no header is refused, whatever is told of the files of the beams after it: those may be missing.
abbrev pub ShortBeamsAreAnswered : (ℕ → Type 0) → Type 0
ShortBeamsAreAnswered is_calm = (words : List (List ℕ)) (seen : BeamsSeen) →
    Outcome words seen.inputs is_calm seen.out_before seen.out_after seen.notes_before
    seen.notes_after seen.status →
    (s : SettingsSeen) → SayBeams words s → (beam : ℕ) (fault : HeaderFault) →
    HasNoHeaderAt is_calm seen.inputs s beam fault → IsAnsweredAt seen (Header beam (Text fault))

-- Who told enough room has no fault: 10 never comes where the output told room for the text.
abbrev pub ToldRoomIsEnough : (ℕ → Type 0) → Type 0
ToldRoomIsEnough is_calm = ForOutcomes is_calm (λ words seen s files. (room : ℕ) →
    seen.out_before.room ≡ Some room → length (beams_text_of words s files) ≤ room →
    seen.status ≢ 10)

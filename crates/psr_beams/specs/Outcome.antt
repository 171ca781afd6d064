-- What the exit status of a search of several beams says.
-- Source: this project's choice.
use Rattle.std.specs.Prelude.{◌≡◌, ◌≢◌, ℕ, ◌<◌, ◌≤◌, ◌⊎◌, List, [], ◌∷◌, length, IsSome, Contains}
use Rattle.psr_base.specs.Count.{Rose}
use Rattle.psr_base.specs.Told.{Told, InputsSeen}
use Rattle.psr_base.specs.Written.{SinkSeen, WroteAll, WroteFront, Noted}
use Rattle.search_words.specs.Settings.{SettingsSeen}
use Rattle.disk_feeder.specs.declared.answers.HeaderCause.{HeaderCause}
use Rattle.disk_feeder.specs.Front.{BreaksAt}
use Rattle.run_outcome.specs.declared.causes.PlanCause.{PlanCause}
use Rattle.run_outcome.specs.declared.stop.Stop.{Stop}
use Rattle.run_outcome.specs.declared.stop.Stop.TheVariants.{Header, Gap}
use Rattle.run_outcome.specs.Texts.{status_of, note_of}
use Rattle.run_outcome.specs.Runs.{IsStopOfWords}
use Rattle.run_outcome.specs.Outcomes.{JudgesWords}
use Rattle.psr_beams.specs.Words.{searching_beams, SayBeams}
use Rattle.psr_beams.specs.Seen.{told_in}
use Rattle.psr_beams.specs.Files.{ForSettings, OfBeam, ForBeams, AreBeamsTold, beam_name, header_read, IsReadOn}
use Rattle.psr_beams.specs.EachBeam.{HaveHeadersAt, RefusesLaterAt, CanSearchAt, RefusesSearchAt, AreWholeAt, StopsBeamAt, HasTooManyAt, AreSearchedAt}
use Rattle.psr_beams.specs.Found.{AreSearched, HaveText}
use Rattle.psr_beams.specs.Stops.{SaysOfBeams}

-- ---- the inputs

-- the inputs of a beam tell the bytes of its file
abbrev pub HoldsName : Told → SettingsSeen → ℕ → Type 0
HoldsName told s beam = IsSome (told.bytes_under (beam_name s beam))

-- The inputs of this beam failed, and those of the beams before it didn't: it is one of the words, and its inputs are
-- not calm ones that hold its file. The beams before it have headers.
pub record FailsBeam (words : List (List ℕ)) (inputs : ℕ → InputsSeen) (is_calm : ℕ → Type 0) :
    Type 0 where
  pub beam : ℕ
  pub there : (s : SettingsSeen) → SayBeams words s → beam < length s.names
  pub rose : Rose (inputs beam).faults_before (inputs beam).faults_after
  pub uncalm : is_calm beam → (s : SettingsSeen) → SayBeams words s →
      ¬ HoldsName (inputs beam).told s beam
  pub earlier : (k : ℕ) → k < beam → (inputs k).faults_after ≡ (inputs k).faults_before
  pub texts : ForSettings words (λ s. HaveHeadersAt (told_in inputs) s beam)

-- no call of the inputs of a beam failed
abbrev pub AreQuiet : (ℕ → InputsSeen) → Type 0
AreQuiet inputs = (beam : ℕ) → (inputs beam).faults_after ≡ (inputs beam).faults_before

-- the lowest beam that stops has too many data: no call of its inputs failed, nor of those of the beams before it
pub record IsTooLong (s : SettingsSeen) (inputs : ℕ → InputsSeen) : Type 0 where
  pub long : StopsBeamAt (told_in inputs) s s.max_bytes
  pub quiet : (k : ℕ) → k ≤ long.beam → (inputs k).faults_after ≡ (inputs k).faults_before

-- 6 only where the inputs of a beam failed. At 8 those of beams after the one that stopped may have, and at no other
-- status any did.
pub record ReadsBeams (words : List (List ℕ)) (inputs : ℕ → InputsSeen) (is_calm : ℕ → Type 0)
    (status : ℕ) : Type 0 where
  pub failed : status ≡ 6 → FailsBeam words inputs is_calm
  pub quiet : status ≢ 6 → status ≢ 8 → AreQuiet inputs
  pub lowest : status ≡ 8 → ForSettings words (λ s. IsTooLong s inputs)
  pub count : (beam : ℕ) → (inputs beam).faults_before ≤ (inputs beam).faults_after

-- the header of this file of a beam was read, and no byte past it
abbrev pub IsHeaderRead : SettingsSeen → ℕ → (ℕ → Told) → (ℕ → Told) → List ℕ → Type 0
IsHeaderRead s beam before after file =
    after beam ≡ header_read (beam_name s beam) file (before beam)

-- of each beam, no file was opened, or its header was read, and no byte past it
abbrev pub ReadsNoData : List (List ℕ) → (ℕ → Told) → (ℕ → Told) → Type 0
ReadsNoData words before after = (beam : ℕ) → (after beam ≡ before beam)
    ⊎ ForSettings words (λ s. OfBeam before s beam (IsHeaderRead s beam before after))

-- Only headers were read: those of the beams before this one, which have headers, and of this one less than judges its
-- header; the inputs of the beams after it stand.
pub record ReadsHeadersTo (s : SettingsSeen) (beam : ℕ) (before after : ℕ → Told) : Type 0 where
  pub headers : HaveHeadersAt before s beam
  pub read : (k : ℕ) → k < beam → OfBeam before s k (IsHeaderRead s k before after)
  pub broke : OfBeam before s beam (λ file.
      BreaksAt (beam_name s beam) file (before beam) (after beam))
  pub others : (k : ℕ) → beam < k → after k ≡ before k

-- All headers and the search are accepted, and the data of the beams before this one are read whole; of its own file
-- its header was read, and maybe more, no more data than the limit, and its end was not seen.
pub record ReadsDataTo (s : SettingsSeen) (beam : ℕ) (before after : ℕ → Told) : Type 0 where
  pub begins : CanSearchAt before s
  pub whole : AreWholeAt before s beam
  pub broke : OfBeam before s beam (λ file.
      IsReadOn s.max_bytes (beam_name s beam) file (before beam) (after beam))

-- The inputs of this beam failed, and those of the beams before it didn't. Nothing came before that: only headers were
-- read to there; or all are accepted, and data were. Each is said of the beams whose files are told.
pub record FailsFirst (words : List (List ℕ)) (inputs : ℕ → InputsSeen) (after : ℕ → Told) :
    Type 0 where
  pub beam : ℕ
  pub rose : Rose (inputs beam).faults_before (inputs beam).faults_after
  pub earlier : (k : ℕ) → k < beam → (inputs k).faults_after ≡ (inputs k).faults_before
  pub first : ForSettings words (λ s. ReadsHeadersTo s beam (told_in inputs) after
      ⊎ ReadsDataTo s beam (told_in inputs) after)

-- ---- the files

-- 3 only where the header of a beam is refused, and 7 only where a later one has another OBS_OFFSET than beam 0; 4 only
-- where the search is refused, and 8 only where the data of a beam are too many. Each is said of every beam whose file
-- is told.
pub record StopsAtBeams (words : List (List ℕ)) (told : ℕ → Told) (status : ℕ) : Type 0 where
  pub header : status ≡ 3 → ForSettings words (λ s. (beam : ℕ) × (cause : HeaderCause)
      × SaysOfBeams told s (Header beam cause))
  pub plan : status ≡ 4 → ForSettings words (λ s. (cause : PlanCause)
      × RefusesSearchAt told s cause)
  pub offset : status ≡ 7 → ForSettings words (λ s. (beam : ℕ) × (expected : ℕ)
      × (found : ℕ) × RefusesLaterAt told s beam (Gap beam expected found))
  pub too_long : status ≡ 8 → ForSettings words (λ s. StopsBeamAt told s s.max_bytes)
  -- 9 exactly where some list has more candidates than there may be
  pub too_many : status ≡ 9 → ForSettings words (λ s. (count : ℕ) × (limit : ℕ)
      × HasTooManyAt told s count limit)
  -- and 0 and 10 only where nothing of this is so
  pub searched : (status ≡ 0) ⊎ (status ≡ 10) → ForSettings words (λ s. AreSearchedAt told s)

-- ---- the output

-- What the output took: nothing but the text of all data of all beams. It is whole at 0; at 10 its front is there,
-- which comes only where the output failed.
pub record WritesBeams (words : List (List ℕ)) (told : ℕ → Told) (before after : SinkSeen)
    (status : ℕ) : Type 0 where
  pub text : status ≡ 0 → ForBeams words told
      (HaveText words (λ text. WroteAll text before after))
  pub front : status ≡ 10 → ForBeams words told
      (HaveText words (λ text. WroteFront text before after))
  pub failed : status ≡ 10 → Rose before.faults after.faults
  pub quiet : status ≢ 10 → after.faults ≡ before.faults
  pub untouched : status ≢ 0 → status ≢ 10 → after ≡ before

-- ---- the notes

-- the notes took the line of a stop with the status, or its front at a fault of theirs; what it says of the words and
-- of the files of the beams is so
pub record NotesBeams (words : List (List ℕ)) (told : ℕ → Told) (before after : SinkSeen)
    (status : ℕ) : Type 0 where
  pub stop : Stop
  pub answered : status ≡ status_of stop
  pub words_cause : IsStopOfWords searching_beams words stop
  pub cause : ForSettings words (λ s. SaysOfBeams told s stop)
  pub line : Noted (note_of stop) before after

-- nothing at 0, and one line at each other status
pub record TellsBeams (words : List (List ℕ)) (told : ℕ → Told) (before after : SinkSeen)
    (status : ℕ) : Type 0 where
  pub silent : status ≡ 0 → after ≡ before
  pub noted : status ≢ 0 → NotesBeams words told before after status

-- ---- the outcome

-- The outcome of a search of beams for these words, over inputs that may be calm, each beam over its own: how it ended,
-- by its status, and what the outside objects took. Where more than one cause is there, the first of these counts:
-- words; the texts of all headers, in the order of the beams; their fields, in this order; the search; the stop of the
-- lowest beam that stops; the candidates; the output.
pub record Outcome (words : List (List ℕ)) (inputs : ℕ → InputsSeen) (is_calm : ℕ → Type 0)
    (out_before out_after notes_before notes_after : SinkSeen) (status : ℕ) : Type 0 where
  -- there is no other status; 5 is want of memory, before any data are read
  pub known : Contains (0 ∷ 2 ∷ 3 ∷ 4 ∷ 5 ∷ 6 ∷ 7 ∷ 8 ∷ 9 ∷ 10 ∷ []) status
  -- the headline: the output has grown by exactly the text of all data of all beams
  pub written : WritesBeams words (told_in inputs) out_before out_after status
  pub judged : JudgesWords searching_beams words status
  pub read : ReadsBeams words inputs is_calm status
  pub stopped : StopsAtBeams words (told_in inputs) status
  pub noted : TellsBeams words (told_in inputs) notes_before notes_after status

-- ---- the other way round, from what is accepted or refused to the status

-- what is seen of a search from outside: the inputs of its beams, its output and its notes, and what it answered
pub record BeamsSeen : Type 0 where
  pub inputs : ℕ → InputsSeen
  pub out_before : SinkSeen
  pub out_after : SinkSeen
  pub notes_before : SinkSeen
  pub notes_after : SinkSeen
  pub status : ℕ

-- the inputs of each beam are calm, or count no fault
abbrev pub NoneFails : (ℕ → Type 0) → (ℕ → InputsSeen) → SettingsSeen → Type 0
NoneFails is_calm inputs s = (beam : ℕ) → beam < length s.names →
    is_calm beam ⊎ ¬ Rose (inputs beam).faults_before (inputs beam).faults_after

-- P holds of each outcome, where its words say settings and the bytes of all files are told: of the words, of what is
-- seen of it, and of the settings and the files
abbrev pub ForOutcomes : (ℕ → Type 0) →
    (List (List ℕ) → BeamsSeen → SettingsSeen → List (List ℕ) → Type 0) → Type 0
ForOutcomes is_calm P = (words : List (List ℕ)) (seen : BeamsSeen) →
    Outcome words seen.inputs is_calm seen.out_before seen.out_after seen.notes_before
    seen.notes_after seen.status →
    (s : SettingsSeen) (files : List (List ℕ)) → SayBeams words s →
    AreBeamsTold (told_in seen.inputs) s.names files → P words seen s files

-- Words, headers, searches, data and candidates of all beams that are accepted are searched, over inputs of which none
-- fails and an output that counts no fault: 0, or want of memory.
abbrev pub AcceptedIsSearched : (ℕ → Type 0) → Type 0
AcceptedIsSearched is_calm = ForOutcomes is_calm (λ words seen s files.
    AreSearched s files → NoneFails is_calm seen.inputs s →
    ¬ Rose seen.out_before.faults seen.out_after.faults →
    (seen.status ≡ 0) ⊎ (seen.status ≡ 5))

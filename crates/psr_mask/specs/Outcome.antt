-- What the exit status of a search without masked channels says.
-- Source: this project's choice.
use Rattle.std.specs.Prelude.{◌≡◌, ◌≢◌, ℕ, ◌≤◌, ◌<◌, ◌⊎◌, List, [], ◌∷◌, length, Option, None, IsSome, Contains}
use Rattle.psr_base.specs.Count.{Rose}
use Rattle.psr_base.specs.Told.{Told, InputsSeen}
use Rattle.psr_base.specs.Written.{SinkSeen, WroteAll, WroteFront, Noted}
use Rattle.ring_ends.specs.declared.finished.Finished.{Finished}
use Rattle.search_words.specs.Settings.{SettingsSeen}
use Rattle.stream_model.specs.Walk.{FileStream}
use Rattle.disk_feeder.specs.Plan.{AreTold, AreToldAt, IsFirstFile}
use Rattle.run_outcome.specs.declared.ran.Ran.{Ran}
use Rattle.run_outcome.specs.Firsts.{first_name}
use Rattle.run_outcome.specs.Lone.{SayAlone}
use Rattle.run_outcome.specs.Outcomes.{NotesStop}
use Rattle.run_outcome.specs.Runs.{Alone, FindsAlone, stream_for}
use Rattle.drive_lone.specs.Outcomes.{RunsAlone}
use Rattle.psr_mask.specs.Masking.{ForMask, AcceptsFirst, AcceptsMaskWord, RefusesMaskWord, mask_search, text_without}
use Rattle.psr_mask.specs.Notes.{mask_status, mask_note}
use Rattle.psr_mask.specs.declared.refusal.MaskRefusal.{MaskRefusal}

-- ---- the output

-- all data are read, and P holds of how many candidates they have in the channels that are kept
abbrev pub HasMasked : List (List ℕ) → SettingsSeen → FileStream → (ℕ → Type 0) → Type 0
HasMasked words s w P = FindsAlone (mask_search words) s w P

-- there are no more than there may be
abbrev pub IsSearched : List (List ℕ) → SettingsSeen → FileStream → Type 0
IsSearched words s w = HasMasked words s w (λ total. total ≤ s.search.max_candidates)

-- and P holds of their text
abbrev pub HasText : List (List ℕ) → (List ℕ → Type 0) → SettingsSeen → FileStream → Type 0
HasText words P s w = IsSearched words s w × P (text_without words s w)

-- What the output took: nothing but the text of all data in the channels that are kept. It is whole at 0; at 10 its
-- front is there, which comes only where the output failed.
pub record WritesMasked
    (words : List (List ℕ)) (told : Told) (before after : SinkSeen) (status : ℕ) : Type 0 where
  pub text : status ≡ 0 → ForMask words told (HasText words (λ text. WroteAll text before after))
  pub front : status ≡ 10 →
      ForMask words told (HasText words (λ text. WroteFront text before after))
  pub failed : status ≡ 10 → Rose before.faults after.faults
  pub quiet : status ≢ 10 → after.faults ≡ before.faults
  pub untouched : status ≢ 0 → status ≢ 10 → after ≡ before

-- ---- the mask

-- 12 only where the first header is accepted and the mask text of the words is no mask of its observation; where the
-- plan is refused, and once there is a data ring, it is one.
pub record JudgesMask (words : List (List ℕ)) (told : Told) (blocks : Option Finished)
    (status : ℕ) : Type 0 where
  pub refused : status ≡ mask_status → (blocks ≡ None)
      × (refusal : MaskRefusal) × RefusesMaskWord words told refusal
  pub accepted : (status ≡ 4) ⊎ IsSome blocks → AcceptsMaskWord words told

-- ---- the notes

-- nothing at 0, and one line at each other status: at 12 that of the mask, with its cause
pub record TellsMask (words : List (List ℕ)) (told : Told) (before after : SinkSeen)
    (status : ℕ) : Type 0 where
  pub silent : status ≡ 0 → after ≡ before
  pub refused : status ≡ mask_status → (refusal : MaskRefusal)
      × RefusesMaskWord words told refusal × Noted (mask_note refusal) before after
  pub noted : status ≢ 0 → status ≢ mask_status →
      NotesStop (Alone (mask_search words)) words told before after status

-- ---- the whole

-- what a search for these words over these inputs, which may be calm, leaves but for its notes
pub record Answered (words : List (List ℕ)) (inputs : InputsSeen) (is_calm : Type 0)
    (out_before out_after : SinkSeen) (blocks : Option Finished) (status : ℕ) : Type 0 where
  -- there is no other status; 5 is want of memory, before the session alone
  pub known : Contains (0 ∷ 2 ∷ 3 ∷ 4 ∷ 5 ∷ 6 ∷ 7 ∷ 8 ∷ 9 ∷ 10 ∷ mask_status ∷ []) status
  -- the headline: the output has grown by exactly the text of all data in the channels that are kept
  pub written : WritesMasked words inputs.told out_before out_after status
  pub run : RunsAlone mask_status (mask_search words) words inputs is_calm blocks status
  pub mask : JudgesMask words inputs.told blocks status
  -- calm inputs that hold the first file fail in the session alone
  pub held : is_calm → (s : SettingsSeen) → SayAlone (mask_search words) words s →
      IsSome (inputs.told.bytes_under (first_name s.names s.starts 0)) → status ≡ 6 →
      IsSome blocks
  -- 9 exactly where all data have more candidates in these channels than there may be
  pub too_many : status ≡ 9 → ForMask words inputs.told (λ s w.
      HasMasked words s w (λ total. s.search.max_candidates < total))

-- The outcome of a search: how it ended, by its status, and what the outside objects and the data ring took. Where more
-- than one cause is there, the first of these counts: words, first header, mask, plan; the stop of the walk of the
-- files; the candidates; the output.
pub record Outcome (words : List (List ℕ)) (inputs : InputsSeen) (is_calm : Type 0)
    (out_before out_after notes_before notes_after : SinkSeen) (ran : Ran) : Type 0 where
  pub answered : Answered words inputs is_calm out_before out_after ran.blocks ran.status
  -- there is no recorder
  pub unrecorded : ran.recorded ≡ None
  pub noted : TellsMask words inputs.told notes_before notes_after ran.status

-- ---- the other way round, from what is accepted or refused to the status

-- what is seen of a search from outside: its inputs, its output and its notes, and what it answered
pub record SearchSeen : Type 0 where
  pub inputs : InputsSeen
  pub out_before : SinkSeen
  pub out_after : SinkSeen
  pub notes_before : SinkSeen
  pub notes_after : SinkSeen
  pub ran : Ran

-- it is an outcome of a search for these words over inputs that may be calm
abbrev pub IsOutcome : List (List ℕ) → Type 0 → SearchSeen → Type 0
IsOutcome words is_calm seen = Outcome words seen.inputs is_calm seen.out_before seen.out_after
    seen.notes_before seen.notes_after seen.ran

-- P holds of each outcome where its words say settings and the bytes of all their files are told: of the words, of what
-- is seen of it, and of the settings and the files as a walk sees them
abbrev pub ForOutcomes : Type 0 →
    (List (List ℕ) → SearchSeen → SettingsSeen → FileStream → Type 0) → Type 0
ForOutcomes is_calm P = (words : List (List ℕ)) (seen : SearchSeen) →
    IsOutcome words is_calm seen → (s : SettingsSeen) (files : List (List ℕ)) →
    SayAlone (mask_search words) words s → AreTold seen.inputs.told s.names files →
    P words seen s (stream_for s files)

-- the same where the first file is told; of all others nothing is said
abbrev pub ForOutcomesByFirst : Type 0 →
    (List (List ℕ) → SearchSeen → SettingsSeen → FileStream → Type 0) → Type 0
ForOutcomesByFirst is_calm P = (words : List (List ℕ)) (seen : SearchSeen) →
    IsOutcome words is_calm seen → (s : SettingsSeen) (files : List (List ℕ)) →
    SayAlone (mask_search words) words s →
    AreToldAt (IsFirstFile s.starts (length s.names)) seen.inputs.told s.names files →
    P words seen s (stream_for s files)

-- Words, first header, mask, plan, data and candidates that are accepted are searched, over inputs that are calm or
-- count no fault, and an output that counts none: 0, or want of memory.
abbrev pub AcceptedIsSearched : Type 0 → Type 0
AcceptedIsSearched is_calm = ForOutcomes is_calm (λ words seen s w. AcceptsFirst words w →
    IsSearched words s w → is_calm ⊎ ¬ Rose seen.inputs.faults_before seen.inputs.faults_after →
    ¬ Rose seen.out_before.faults seen.out_after.faults →
    (seen.ran.status ≡ 0) ⊎ (seen.ran.status ≡ 5))

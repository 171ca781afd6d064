-- What the exit status of psr_make says.
-- Source: this project's choice.
use Rattle.std.specs.Prelude.{◌≡◌, ◌≢◌, ℕ, List, [], ◌∷◌, Result, Ok, Err, Contains}
use Rattle.psr_base.specs.Count.{Rose}
use Rattle.psr_base.specs.Made.{FilesSeen}
use Rattle.psr_base.specs.Written.{SinkSeen, Noted}
use Rattle.psr_make.specs.Made.{made_file}
use Rattle.psr_make.specs.Filed.{FileMade, MakingStopped}
use Rattle.psr_make.specs.Request.{Asks}
use Rattle.psr_make.specs.Stop.{status_of, note_of, ExplainsStop}
use Rattle.psr_make.specs.declared.spec.MakeSpec.{MakeSpec}
use Rattle.psr_make.specs.declared.stop.Stop.{Stop}
use Rattle.psr_make.specs.declared.stop.Stop.TheVariants.{RecordFault}

-- P holds of the observation and of the name that the words ask for
abbrev pub ForAsked : List (List ℕ) → (MakeSpec → List ℕ → Type 0) → Type 0
ForAsked words P = (s : MakeSpec) (name : List ℕ) → Asks words s name → P s name

-- the words ask for an observation
abbrev pub AskForOne : List (List ℕ) → Type 0
AskForOne words = (s : MakeSpec) × (name : List ℕ) × Asks words s name

-- the file that the words ask for was made: created, its bytes appended, and finished
abbrev pub AskedIsMade : List (List ℕ) → FilesSeen → FilesSeen → Type 0
AskedIsMade words old new = ForAsked words (λ s name. FileMade name (made_file s) old new)

-- its making stopped at a fault
abbrev pub AskedIsStopped : List (List ℕ) → FilesSeen → FilesSeen → Type 0
AskedIsStopped words old new = ForAsked words (λ s name. MakingStopped name (made_file s) old new)

-- the notes took the line of a stop with the status, or its front at a fault of theirs; what it says of the words is so
pub record NotesStop (words : List (List ℕ)) (before after : SinkSeen) (status : ℕ) : Type 0 where
  pub stop : Stop
  pub answered : status ≡ status_of stop
  pub cause : ExplainsStop words stop
  pub line : Noted (note_of stop) before after

-- The outcome of making an observation for these words: how it ended, by its status, what the files and the notes took,
-- and which faults were counted.
pub record Outcome (words : List (List ℕ)) (files_before files_after : FilesSeen)
    (notes_before notes_after : SinkSeen) (status : ℕ) : Type 0 where
  -- there is no other status; 5 is want of memory
  pub known : Contains (0 ∷ 2 ∷ 5 ∷ 11 ∷ []) status
  -- exactly that file was made
  pub made : status ≡ 0 → AskedIsMade words files_before files_after
  -- 2 exactly where the words don't ask for an observation; want of memory may come before that is known
  pub asked : status ≢ 2 → status ≢ 5 → AskForOne words
  pub words_refused : status ≡ 2 → ForAsked words (λ s name. ⊥)
  -- 11 only where the files failed, which they don't where they told room for the file; a front of it is there, or none
  pub record_fault : status ≡ 11 → Rose files_before.faults files_after.faults
  pub front : status ≡ 11 → AskedIsStopped words files_before files_after
  pub files_quiet : status ≢ 11 → files_after.faults ≡ files_before.faults
  pub untouched : status ≢ 0 → status ≢ 11 → files_after ≡ files_before
  -- the line to the notes; their faults change nothing else
  pub silent : status ≡ 0 → notes_after ≡ notes_before
  pub noted : status ≢ 0 → NotesStop words notes_before notes_after status

-- ---- the same without the notes

pub record EndsAtWords (words : List (List ℕ)) (old new : FilesSeen) (stop : Stop) : Type 0 where
  pub cause : ExplainsStop words stop
  pub untouched : new ≡ old

pub record EndsMaking (words : List (List ℕ)) (old new : FilesSeen) : Type 0 where
  pub asked : AskForOne words
  pub stopped : AskedIsStopped words old new
  pub rose : Rose old.faults new.faults

pub record EndsWhole (words : List (List ℕ)) (old new : FilesSeen) : Type 0 where
  pub asked : AskForOne words
  pub made : AskedIsMade words old new
  pub quiet : new.faults ≡ old.faults

-- why it ended by a stop
abbrev pub EndsBy : List (List ℕ) → FilesSeen → FilesSeen → Stop → Type 0
EndsBy words old new RecordFault = EndsMaking words old new
EndsBy words old new stop = EndsAtWords words old new stop

abbrev pub Ends : {T : Type 0} → List (List ℕ) → FilesSeen → FilesSeen → Result T Stop → Type 0
Ends words old new (Ok x) = EndsWhole words old new
Ends words old new (Err stop) = EndsBy words old new stop

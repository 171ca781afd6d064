-- What the exit status of the demonstration says.
-- Source: this project's choice.
use Rattle.std.specs.Prelude.{◌≡◌, ◌≢◌, ◌⊎◌, ℕ, List, [], ◌∷◌, Contains}
use Rattle.psr_base.specs.Count.{Rose}
use Rattle.psr_base.specs.Written.{SinkSeen, WroteAll, WroteFront}
use Rattle.psr_demo.specs.Words.{AskFor}
use Rattle.psr_demo.specs.Demo.{EndsAt, TellsEnd, summary}

-- P holds of the number that the words ask for
abbrev pub ForAsked : List (List ℕ) → (ℕ → Type 0) → Type 0
ForAsked words P = (number : ℕ) → AskFor words number → P number

-- the search of the number's observation ended with this status, and its summary was written
pub record IsSummed (number status : ℕ) (out_before out_after notes_before notes_after : SinkSeen) :
    Type 0 where
  pub ends : EndsAt number status
  pub written : WroteAll (summary number status) out_before out_after
  pub told : TellsEnd number status notes_before notes_after

-- it ended with some status, and the output failed: it took the front of the summary
pub record IsBrokenOff (number : ℕ) (out_before out_after notes_before notes_after : SinkSeen) :
    Type 0 where
  pub status : ℕ
  pub ends : EndsAt number status
  pub front : WroteFront (summary number status) out_before out_after
  pub told : TellsEnd number status notes_before notes_after

-- The outcome of a demonstration for these words: how it ended, by its status, and what the output and the notes took.
pub record Outcome (words : List (List ℕ))
    (out_before out_after notes_before notes_after : SinkSeen) (status : ℕ) : Type 0 where
  -- there is no other status
  pub known : Contains (0 ∷ 2 ∷ 5 ∷ 9 ∷ 10 ∷ []) status
  -- 2 exactly where the words ask for no number; nothing is written
  pub refused : status ≡ 2 → (number : ℕ) → ¬ AskFor words number
  pub asked : status ≢ 2 → (number : ℕ) × AskFor words number
  pub untouched : status ≡ 2 → (out_after ≡ out_before) × (notes_after ≡ notes_before)
  -- 0 where the whole text is found, and 9 exactly where there are more candidates than there may be
  pub found : status ≡ 0 → ForAsked words (λ number.
      IsSummed number 0 out_before out_after notes_before notes_after)
  pub too_many : status ≡ 9 → ForAsked words (λ number.
      IsSummed number 9 out_before out_after notes_before notes_after)
  -- 5 is want of memory: before the search, where nothing is written, or of the search
  pub no_memory : status ≡ 5 → ((out_after ≡ out_before) × (notes_after ≡ notes_before))
      ⊎ ForAsked words (λ number.
      IsSummed number 5 out_before out_after notes_before notes_after)
  -- 10 only where the output failed
  pub broken_off : status ≡ 10 → ForAsked words (λ number.
      IsBrokenOff number out_before out_after notes_before notes_after)
  pub failed : status ≡ 10 → Rose out_before.faults out_after.faults
  pub quiet : status ≢ 10 → out_after.faults ≡ out_before.faults

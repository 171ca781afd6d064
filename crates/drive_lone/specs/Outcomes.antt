-- What the exit status of a program that searches alone says. Such a program makes no files, and may stop for a reason
-- of its own, before its session or after it.
-- Source: this project's choice.
use Rattle.std.specs.Prelude.{◌≡◌, ◌≢◌, ℕ, ◌≤◌, List, [], ◌∷◌, length, Option, Some, None, IsSome, Contains}
use Rattle.psr_base.specs.Told.{Told, InputsSeen}
use Rattle.ring_ends.specs.declared.finished.Finished.{Finished}
use Rattle.ring_ends.specs.Ended.{sealed_at_end}
use Rattle.search_words.specs.Settings.{SettingsSeen}
use Rattle.stream_model.specs.Walk.{walk_stream}
use Rattle.run_outcome.specs.declared.stop.Stop.{Stop}
use Rattle.run_outcome.specs.Texts.{status_of}
use Rattle.run_outcome.specs.Lone.{LoneSearch, SayAlone}
use Rattle.run_outcome.specs.Runs.{Alone, ForFiles, BeginsByFirsts, PassesTo, CanBegin}
use Rattle.run_outcome.specs.Outcomes.{JudgesWords, ReadsInputs, StopsAtFiles, BreaksStream, AllCleared}
use Rattle.run_outcome.specs.Ends.{IsSaid, short_statuses}

-- What went through the data ring, which is there from the session on, and was cleared by its reader: the stream of the
-- walk, whole or abandoned; at a fault of the inputs an abandoned stream of what was read. Nothing stands against a run
-- then by its first file, and where all data were sealed no file stops the walk, each by the files up to it. `own` is
-- the status of the program's own stop.
pub record SealsAlone (own : ℕ) (lone : LoneSearch) (words : List (List ℕ)) (told : Told)
    (blocks : Option Finished) (status : ℕ) : Type 0 where
  pub none : blocks ≡ None → Contains (2 ∷ 3 ∷ 4 ∷ 5 ∷ 6 ∷ own ∷ []) status
  pub some : IsSome blocks → Contains (0 ∷ 3 ∷ 6 ∷ 7 ∷ 8 ∷ 9 ∷ 10 ∷ own ∷ []) status
  pub begun : IsSome blocks → BeginsByFirsts (Alone lone) words told
  pub passed : IsSome blocks → ¬ Contains (3 ∷ 6 ∷ 7 ∷ 8 ∷ []) status → (s : SettingsSeen) →
      SayAlone lone words s → PassesTo (length s.names) (Alone lone) words told
  pub sealed : (b : Finished) → blocks ≡ Some b → status ≢ 6 →
      ForFiles (Alone lone) words told (λ s w.
      CanBegin (Alone lone) s w × (sealed_at_end b ≡ walk_stream s.size w))
  pub broken : (b : Finished) → blocks ≡ Some b → status ≡ 6 →
      BreaksStream (Alone lone) words told b
  pub cleared : (b : Finished) → blocks ≡ Some b → AllCleared b 0 1

-- what the exit status says of the words, the inputs, the files and the data ring; the inputs may be calm
pub record RunsAlone (own : ℕ) (lone : LoneSearch) (words : List (List ℕ)) (inputs : InputsSeen)
    (is_calm : Type 0) (blocks : Option Finished) (status : ℕ) : Type 0 where
  pub judged : JudgesWords (Alone lone) words status
  pub read : ReadsInputs (Alone lone) words inputs is_calm status
  pub stopped : StopsAtFiles (Alone lone) words inputs.told blocks status
  pub sealed : SealsAlone own lone words inputs.told blocks status

-- it ends so, with a stop that any run may come to: at its words, before its session, or where its feeder was stopped
pub record EndsAlone (own : ℕ) (lone : LoneSearch) (words : List (List ℕ)) (inputs : InputsSeen)
    (is_calm : Type 0) (blocks : Option Finished) (stop : Stop) : Type 0 where
  pub known : Contains short_statuses (status_of stop)
  pub least : 2 ≤ status_of stop
  pub most : status_of stop ≤ 8
  pub run : RunsAlone own lone words inputs is_calm blocks (status_of stop)
  pub said : IsSaid (Alone lone) words inputs.told (Some stop)

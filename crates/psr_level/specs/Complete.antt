-- What stands against a levelling is answered by its status, and if nothing does, the file is levelled.
-- Source: this project's choice.
use Rattle.std.specs.Prelude.{◌≡◌, ℕ, ◌+◌, ◌<◌, ◌⊎◌, length, Some, None}
use Rattle.psr_base.specs.Told.{Told}
use Rattle.stream_model.specs.Walk.{WalkStop, Whole, stop_at, walk_stop}
use Rattle.stream_model.specs.WalkLaws.{AreWalked}
use Rattle.disk_feeder.specs.declared.answers.HeaderCause.{HeaderCause}
use Rattle.run_outcome.specs.declared.stop.Stop.{Stop}
use Rattle.run_outcome.specs.Runs.{RefusesFirstHeader, stop_of_walk}
use Rattle.run_outcome.specs.Texts.{status_of}
use Rattle.search_opening.specs.Settings.{OfRun, OfRunFirsts, OfRunTo}
use Rattle.level_words.specs.Settings.{LevelSeen}
use Rattle.drive_stream.specs.Outcome.{OfHead}
use Rattle.psr_level.specs.declared.refusal.LevelRefusal.{LevelRefusal}
use Rattle.psr_level.specs.Levels.{CanLevel, Refuses}

-- want of memory, a fault of the inputs or of the output
abbrev pub IsOutside : ℕ → Type 0
IsOutside status = (status ≡ 5) ⊎ ((status ≡ 6) ⊎ (status ≡ 10))

-- By these settings: a first header that is accepted, of which nothing is refused, and a walk that no file stops, give
-- status 0. A first header that is refused gives 3; and one that is accepted, whose TSAMP, mask or room is refused, 3
-- or 12. The first file that stops the walk gives the status of that stop, whatever is told of later ones. Or else
-- memory, inputs or output failed.
pub record IsComplete (s : LevelSeen) (told : Told) (status : ℕ) : Type 0 where
  pub accepted : OfRun told s.run (λ w. AreWalked w → OfHead (CanLevel s) w →
      walk_stop w ≡ Whole → (status ≡ 0) ⊎ IsOutside status)
  pub headers : OfRunFirsts told s.run (λ w. (file : ℕ) (cause : HeaderCause) →
      RefusesFirstHeader w file cause → (status ≡ 3) ⊎ IsOutside status)
  pub refusals : OfRunFirsts told s.run (λ w. AreWalked w → (refusal : LevelRefusal) →
      OfHead (λ o header. Refuses s o header refusal) w →
      (status ≡ 3) ⊎ ((status ≡ 12) ⊎ IsOutside status))
  pub stops : (file : ℕ) → file < length s.run.names → OfRunTo (file + 1) told s.run (λ w.
      AreWalked w → OfHead (CanLevel s) w → ((k : ℕ) → k < file → stop_at w k ≡ None) →
      (at : WalkStop) (stop : Stop) → stop_at w file ≡ Some at →
      stop_of_walk s.run.max_bytes at ≡ Some stop →
      (status ≡ status_of stop) ⊎ IsOutside status)

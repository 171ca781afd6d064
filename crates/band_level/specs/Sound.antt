-- What always holds of a leveller.
-- Source: this project's choice.
use Rattle.std.specs.Prelude.{ℕ, ◌≡◌, ◌*◌, ◌≤◌, Bool, List, length}
use Rattle.band_level.specs.declared.format.Format.{Format}
use Rattle.band_level.specs.declared.plan.Plan.{Plan}
use Rattle.band_level.specs.declared.task.Task.{Task as TaskHeld}
use Rattle.band_level.specs.Values.{spectrum_bytes}
use Rattle.band_level.specs.Holding.{Holding, held_bytes}
use Rattle.band_level.specs.Levelled.{Task}
use Rattle.band_level.specs.Spectra.{task_of, written_bytes}
use Rattle.band_level.specs.Ranges.{FormatInRange, PlanInRange}

-- what is held of a stretch, and which of its spectra are to be levelled
pub record StretchFits (f : Format) (p : Plan) (held : Holding) (first last : ℕ) : Type 0 where
  pub same : held.format ≡ f
  pub room : held.room ≡ p.spectra * spectrum_bytes f
  pub order : first ≤ last
  pub inside : last * spectrum_bytes f ≤ held_bytes f held
  pub few : last ≤ p.spectra

-- room for the bytes of levels
pub record PieceFits (f : Format) (p : Plan) (piece : List ℕ) (made : ℕ) : Type 0 where
  pub made_in : made ≤ length piece
  pub room : written_bytes f p ≤ length piece

pub record TaskFits (f : Format) (p : Plan) (masked : List Bool) : Type 0 where
  pub format : FormatInRange f
  pub plan : PlanInRange p
  pub masked_long : length masked ≡ f.channels

-- the task that the code holds
abbrev pub task_in : TaskHeld → Task
task_in k = task_of k.format k.plan k.masked.items

abbrev pub FitsTask : TaskHeld → Type 0
FitsTask k = TaskFits k.format k.plan k.masked.items

-- Runs of spectra at which pulses pass a channel.
-- Source: this project's choice.
use Rattle.std.specs.Prelude.{◌≡◌, ℕ, ◌<◌, ◌≤◌, true, false}
use Rattle.psr_make.specs.Pulses.{is_passed}
use Rattle.psr_make.specs.declared.spec.MakeSpec.{MakeSpec}
use Rattle.psr_make.specs.declared.train.Run.{Run}

-- the run has the first spectra within `from` up to `to` at which a pulse passes the channel
pub record IsNextRun (s : MakeSpec) (enters leaves from to : ℕ) (run : Run) : Type 0 where
  pub above : from ≤ run.start
  pub order : run.start ≤ run.end
  pub within : run.end ≤ to
  pub goes_on : from < to → from < run.end
  pub before : (t : ℕ) → from ≤ t → t < run.start → is_passed s enters leaves t ≡ false
  pub inside : (t : ℕ) → run.start ≤ t → t < run.end → is_passed s enters leaves t ≡ true

-- What a leveller makes of the bytes that it took.
-- Source: this project's choice.
use Rattle.std.specs.Prelude.{◌≡◌, ℕ, ◌*◌, ◌/◌, true, false, List, ◌++◌}
use mathlib.Core.List.{IsPrefix}
use Rattle.psr_base.specs.Written.{SinkSeen, WroteAll, WroteFront}
use Rattle.band_level.specs.Values.{band}
use Rattle.band_level.specs.Ranges.{FormatInRange}
use Rattle.band_level.specs.Levelled.{Task, first_levels, levelled}
use Rattle.band_level.specs.Levelling.{Levelling, Levels, IsDone, pending}

-- the whole stretches of data bytes, levelled
abbrev pub whole_stretches : Task → List ℕ → List ℕ
whole_stretches k bytes = first_levels k (band k.format bytes)
    ((band k.format bytes).spectra / k.plan.spectra * k.plan.spectra)

-- it made this text of what it had taken
pub record Makes (l m : Levelling) (text : List ℕ) : Type 0 where
  pub task : m.task ≡ l.task
  pub ended : m.has_ended ≡ l.has_ended
  pub levels : (bytes out : List ℕ) → Levels l bytes out → Levels m bytes (out ++ text)

-- all that is to be levelled was, and written; or a call of the output failed, and the front was written
pub record Drains (l m : Levelling) (before after : SinkSeen) : Type 0 where
  pub text : List ℕ
  pub makes : Makes l m text
  pub wrote : WroteAll text before after
  pub drained : pending m ≡ 0
  pub done : m.has_ended ≡ true → IsDone m

pub record BreaksDrain (l m : Levelling) (before after : SinkSeen) : Type 0 where
  pub text : List ℕ
  pub makes : Makes l m text
  pub front : WroteFront text before after

-- What was made while more data may come is a front of the whole stretches of what was taken. What was made at any time
-- is a front of all that was taken, levelled.
pub record LevelsAreFronts : Type 0 where
  pub going : (l : Levelling) (bytes out : List ℕ) → FormatInRange l.task.format →
      l.has_ended ≡ false → Levels l bytes out → IsPrefix out (whole_stretches l.task bytes)
  pub ever : (l : Levelling) (bytes out : List ℕ) → FormatInRange l.task.format →
      Levels l bytes out → IsPrefix out (levelled l.task bytes)

-- once nothing is to be levelled, and more data may come, what was made are the whole stretches of what was taken
abbrev pub StretchesAreWhole : Type 0
StretchesAreWhole = (l : Levelling) (bytes out : List ℕ) → pending l ≡ 0 →
    l.has_ended ≡ false → Levels l bytes out → out ≡ whole_stretches l.task bytes

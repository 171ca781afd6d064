-- Laws of checkpoint texts; functions of this crate carry them.
-- Source: this project's choice.
use Rattle.std.specs.Prelude.{◌≡◌, ℕ, ◌≤◌, ◌↔◌, List, length, Some}
use Rattle.search_model.specs.Parts.{check_line}
use Rattle.warm_restart.specs.Counts.{IsUntil, until_of}
use Rattle.warm_restart.specs.Checkpoint.{IsCheckpointText, CanBeSaid, checkpoint_of}
use Rattle.warm_restart.specs.declared.checkpoint.Checkpoint.{Checkpoint}

-- A text stands for at most one checkpoint, and then has at most 38 bytes. What it stands for, and
-- what the argument UNTIL stands for, are what their computed definitions give.
pub record TextsSayOne : Type 0 where
  pub computed : (text : List ℕ) (checkpoint : Checkpoint) →
      IsCheckpointText text checkpoint ↔ (checkpoint_of text ≡ Some checkpoint)
  pub short : (text : List ℕ) (checkpoint : Checkpoint) → IsCheckpointText text checkpoint →
      length text ≤ 38
  pub until : (word : List ℕ) (n : ℕ) → IsUntil word n ↔ (until_of word ≡ Some n)

-- the CHECK line of numbers that can stand in a checkpoint text is the text of that checkpoint
pub record LinesAreReadBack : Type 0 where
  pub line : (checkpoint : Checkpoint) → CanBeSaid checkpoint →
      IsCheckpointText (check_line checkpoint.place checkpoint.pulses) checkpoint

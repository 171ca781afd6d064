-- Checkpoint texts: the CHECK line that ends the text of a part, from which the next part takes the search up again.
-- Source: this project's choice.
use Rattle.std.specs.Prelude.{◌≡◌, ◌≢◌, ℕ, ◌≤◌, ◌<◌, ◌==◌, ◌&&◌, ◌↔◌, Bool, nat_lt, List, ◌++◌, length, slice_index, codes, Option, Some, None, Result, Ok, Err, if◌then◌else◌}
use Rattle.std.specs.List.{before_first, after_first}
use Rattle.std.specs.Str.{bytes_eq}
use Rattle.std.specs.Str.Parse.{digits_value}
use Rattle.warm_restart.specs.Counts.{greatest_count, IsCount, is_count}
use Rattle.warm_restart.specs.declared.checkpoint.Checkpoint.{Checkpoint}
use Rattle.warm_restart.specs.declared.checkpoint.CheckpointFault.{CheckpointFault}
use Rattle.warm_restart.specs.declared.checkpoint.CheckpointFault.TheVariants.{Form, Place}

-- CHECK and two words, each after one space, and LF
abbrev pub check_text : List ℕ → List ℕ → List ℕ
check_text place pulses = codes "CHECK " ++ place ++ codes " " ++ pulses ++ codes "\n"

-- none of the bytes is this one
abbrev pub Lacks : ℕ → List ℕ → Type 0
Lacks byte bytes = (k : ℕ) → k < length bytes → slice_index bytes k ≢ byte

-- The text is exactly one CHECK line. It has the place, which is the first spectrum that was not
-- searched yet, and the number of pulses that end before it.
pub record IsCheckpointText (text : List ℕ) (checkpoint : Checkpoint) : Type 0 where
  pub place : List ℕ
  pub pulses : List ℕ
  pub line : text ≡ check_text place pulses
  pub place_is : IsCount place checkpoint.place
  pub pulses_are : IsCount pulses checkpoint.pulses

-- a text that is no checkpoint text
abbrev pub IsNoCheckpointText : List ℕ → Type 0
IsNoCheckpointText text = (checkpoint : Checkpoint) → ¬ IsCheckpointText text checkpoint

-- the numbers of a checkpoint can stand in a checkpoint text
pub record CanBeSaid (checkpoint : Checkpoint) : Type 0 where
  pub place : checkpoint.place ≤ greatest_count
  pub pulses : checkpoint.pulses ≤ greatest_count

-- a checkpoint, if a part that stops before `until` can go on from it
abbrev pub judged_place : ℕ → Checkpoint → Result Checkpoint CheckpointFault
judged_place until checkpoint =
    if nat_lt checkpoint.place until then Ok checkpoint else Err (Place checkpoint.place until)

-- The text is judged for a part that stops before `until`: a checkpoint exactly where it is the text of one whose place
-- is before that; Form exactly where it is no checkpoint text; Place, with both numbers, exactly where it is one whose
-- place is not before it.
pub record IsJudged (text : List ℕ) (until : ℕ)
    (result : Result Checkpoint CheckpointFault) : Type 0 where
  pub accepted : (checkpoint : Checkpoint) → (result ≡ Ok checkpoint)
      ↔ (IsCheckpointText text checkpoint × (checkpoint.place < until))
  pub form : (result ≡ Err Form) ↔ IsNoCheckpointText text
  pub place : (place limit : ℕ) → (result ≡ Err (Place place limit))
      ↔ ((checkpoint : Checkpoint) × IsCheckpointText text checkpoint
      × (checkpoint.place ≡ place) × (until ≡ limit) × (until ≤ place))

-- 32 is the space, and 10 is LF
abbrev pub is_space : ℕ → Bool
is_space byte = byte == 32

abbrev pub is_line_feed : ℕ → Bool
is_line_feed byte = byte == 10

-- what stands between the first space of a text and the second
abbrev pub place_word : List ℕ → List ℕ
place_word text = before_first is_space (after_first is_space text)

-- what stands between the second space and the line feed
abbrev pub pulses_word : List ℕ → List ℕ
pulses_word text =
    before_first is_line_feed (after_first is_space (after_first is_space text))

-- the checkpoint of a text, computed
unfoldable pub checkpoint_of : List ℕ → Option Checkpoint
checkpoint_of text =
    let place = place_word text in
    let pulses = pulses_word text in
    if bytes_eq text (check_text place pulses) && is_count place && is_count pulses
    then Some (record { place = digits_value 10 place; pulses = digits_value 10 pulses })
    else None

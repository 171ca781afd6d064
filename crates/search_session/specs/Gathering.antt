-- Shards and a recorder that leave their hands.
-- Source: this project's choice.
use Rattle.std.specs.Prelude.{◌≡◌, ℕ, ◌%◌, ◌==◌, Bool, false, List, length, slice_get, slice_set, Option, Some, None}
use Rattle.session_readers.specs.declared.shard.ShardActor.{ShardActor}
use Rattle.session_readers.specs.declared.record.RecordActor.{RecordActor}
use Rattle.search_session.specs.declared.hand.Hand.{Hand}
use Rattle.session_readers.specs.Shards.{shard_number}

-- whether the shard of a slot has this number
abbrev pub is_numbered : ℕ → Option ShardActor → Bool
is_numbered number None = false
is_numbered number (Some x) = shard_number x == number

-- some shard of these slots has this number
pub record HasNumber (slots : List (Option ShardActor)) (number : ℕ) : Type 0 where
  pub place : ℕ
  pub shard : ShardActor
  pub there : slice_get slots place ≡ Some (Some shard)
  pub is : shard_number shard ≡ number

-- it left its slot
pub record GivesShard (old : List (Option ShardActor)) (number : ℕ) (shard : ShardActor)
    (new : List (Option ShardActor)) : Type 0 where
  pub place : ℕ
  pub there : slice_get old place ≡ Some (Some shard)
  pub is : shard_number shard ≡ number
  pub slots : new ≡ slice_set old place None

-- the recorder of a hand, where there is one
abbrev pub recorder_of : {I F : Type 0} → Option (Hand I F) → Option (RecordActor F)
recorder_of None = None
recorder_of (Some hand) = hand.recorder

-- and of the hand in which the recorder works
abbrev pub recorder_in : {I F : Type 0} → List (Hand I F) → Option (RecordActor F)
recorder_in hands = recorder_of (slice_get hands (8 % length hands))

-- that hand gave it
pub record GivesRecorder {I F : Type 0} (old : List (Hand I F)) (recorder : Option (RecordActor F))
    (new : List (Hand I F)) : Type 0 where
  pub before : Hand I F
  pub there : slice_get old (8 % length old) ≡ Some before
  pub works : before.recorder ≡ recorder
  pub after : Hand I F
  pub hands : new ≡ slice_set old (8 % length old) after
  pub feeder : after.feeder ≡ before.feeder
  pub shards : after.shards ≡ before.shards

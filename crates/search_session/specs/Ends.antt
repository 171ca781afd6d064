-- What is known of shards and a recorder that ended.
-- Source: this project's choice.
use Rattle.std.specs.Prelude.{◌≡◌, ℕ, ◌+◌, ◌<◌, ◌≤◌, true, List, [], ◌∷◌, ◌++◌, length, slice_get, Option, Some, None, option_map, IfSome}
use Rattle.dada_hdu.specs.declared.hdu.Hdu.{Hdu}
use Rattle.dada_hdu.specs.declared.ended.HduEnded.{HduEnded}
use Rattle.dada_hdu.specs.Passes.{data_shape, number_of, EndedFromBoth}
use Rattle.search_session.specs.declared.feed.FeedActor.{FeedActor}
use Rattle.session_readers.specs.declared.shard.ShardActor.{ShardActor}
use Rattle.session_readers.specs.declared.record.RecordActor.{RecordActor}
use Rattle.search_session.specs.declared.hand.Hand.{Hand}
use Rattle.session_readers.specs.Shards.{ShardOn, shard_number}
use Rattle.search_session.specs.Gathering.{recorder_in}
use Rattle.search_session.specs.Stages.{HasShard, IsInHand}
use Rattle.search_session.specs.Books.{passes_of}
use Rattle.session_readers.specs.Banks.{engines_of}

-- the pass of a slot, where there is one
abbrev pub as_passes : Option HduEnded → List (Option HduEnded)
as_passes None = []
as_passes (Some pass) = Some pass ∷ []

-- the pass of a recorder, where there is one
abbrev pub recorder_passes : {F : Type 0} → Option (RecordActor F) → List (Option HduEnded)
recorder_passes recorder = as_passes (option_map (λ x. x.pass) recorder)

-- the passes of shards, and that of a recorder after them
abbrev pub passes_with : {F : Type 0} → List (Option ShardActor) → Option (RecordActor F) →
    List (Option HduEnded)
passes_with shards recorder = passes_of shards ++ recorder_passes recorder

-- a shard that ended
pub record IsDone (hdu : Hdu) (transfers s : ℕ) (x : ShardActor) : Type 0 where
  pub number : shard_number x ≡ s
  pub on : ShardOn hdu x
  pub ended : x.ended ≡ true
  pub count : length (engines_of x.part) ≡ transfers

-- a recorder that reads by a reader with this number
pub record ReadsLast {F : Type 0} (hdu : Hdu) (reader : ℕ) (x : RecordActor F) : Type 0 where
  pub number : number_of x.pass ≡ reader
  pub reads : EndedFromBoth hdu x.pass

-- all readers of the rings are shards that ended, in order, and after them a recorder, where there is one
pub record AreDone {F : Type 0} (hdu : Hdu) (transfers : ℕ) (shards : List (Option ShardActor))
    (recorder : Option (RecordActor F)) : Type 0 where
  pub all : length (passes_with shards recorder) ≡ (data_shape hdu).readers
  pub each : (s : ℕ) → s < length shards →
      (x : ShardActor) × (slice_get shards s ≡ Some (Some x)) × IsDone hdu transfers s x
  pub last : IfSome recorder (ReadsLast hdu (length shards))

-- in these hands, each shard with a number below this has so many engines
abbrev pub HaveEnginesIn : {I F : Type 0} → List (Hand I F) → ℕ → ℕ → Type 0
HaveEnginesIn hands shards transfers = (x : ShardActor) → IsInHand hands x →
    shard_number x < shards → length (engines_of x.part) ≡ transfers

-- In these hands work a feeder, so many shards, each with as many engines, and the recorder, where there is one. They
-- have all readers of the rings, the shards in order and the recorder the last.
pub record HaveActors {I F : Type 0} (hdu : Hdu) (hands : List (Hand I F)) (shards : ℕ) :
    Type 0 where
  pub feeder : (h : Hand I F) × (f : FeedActor I) × (slice_get hands 0 ≡ Some h)
      × (h.feeder ≡ Some f)
  pub few : shards ≤ 7
  pub shards_work : (s : ℕ) → s < shards → HasShard hands s
  pub readers : shards + length (recorder_passes (recorder_in hands)) ≡ (data_shape hdu).readers
  pub last : IfSome (recorder_in hands) (λ x. number_of x.pass ≡ shards)
  pub engines : (transfers : ℕ) × HaveEnginesIn hands shards transfers

-- The hands of a session, and what their turns did.
-- Source: this project's choice.
use Rattle.std.specs.Prelude.{◌≡◌, ℕ, ◌<◌, ◌≤◌, ⊤, true, All, IfSome, IsSome, List, length, slice_index_or, Option, Some, None}
use Rattle.psr_base.specs.Told.{Told}
use Rattle.psr_base.specs.Made.{FilesSeen}
use Rattle.dada_hdu.specs.declared.hdu.Hdu.{Hdu}
use Rattle.session_readers.specs.declared.shard.ShardActor.{ShardActor}
use Rattle.search_session.specs.declared.hand.Hand.{Hand}
use Rattle.session_readers.specs.Shards.{IsRetired, ShardOn, ShardMoved}
use Rattle.search_session.specs.Feeds.{FeedOn, FeedMoved}
use Rattle.session_readers.specs.Records.{RecordOn, RecordMoved}

-- ---- slots

-- what is true of the actor of a slot before and after; an empty slot stays empty
abbrev pub SlotMoved : {A : Type 0} → (A → A → Type 0) → Option A → Option A → Type 0
SlotMoved R None None = ⊤
SlotMoved R None (Some new) = ⊥
SlotMoved R (Some old) None = ⊥
SlotMoved R (Some old) (Some new) = R old new

-- the same of each element of a list and the one at its place of another
pub record EachMoved {A : Type 0} (R : A → A → Type 0) (old new : List A) : Type 0 where
  pub count : length new ≡ length old
  pub each : (k : ℕ) (d : A) → k < length old → R (slice_index_or old k d) (slice_index_or new k d)

-- the first n of them have moved, and the others stand
pub record FirstMoved {A : Type 0} (R : A → A → Type 0) (n : ℕ) (old new : List A) : Type 0 where
  pub count : length new ≡ length old
  pub moved : (k : ℕ) (d : A) → k < n → k < length old → R (slice_index_or old k d)
      (slice_index_or new k d)
  pub ahead : (k : ℕ) (d : A) → n ≤ k → slice_index_or new k d ≡ slice_index_or old k d

-- ---- hands

-- each shard works over these rings
abbrev pub ShardsOn : Hdu → List (Option ShardActor) → Type 0
ShardsOn hdu slots = All (λ slot. IfSome slot (ShardOn hdu)) slots

abbrev pub ShardsMoved : ℕ → List (Option ShardActor) → List (Option ShardActor) → Type 0
ShardsMoved n old new = EachMoved (SlotMoved (ShardMoved n)) old new

-- those that ended have retired
abbrev pub ShardsRetired : List (Option ShardActor) → Type 0
ShardsRetired slots = All (λ slot. IfSome slot (λ x. x.ended ≡ true → IsRetired x.pass)) slots

abbrev pub ShardsEnded : List (Option ShardActor) → Type 0
ShardsEnded slots = All (λ slot. IfSome slot (λ x. x.ended ≡ true)) slots

-- Each actor of a hand works over these rings. In these and the following: what inputs tell, whether a name is open,
-- whether they are calm, and how many calls have failed; whether a file is open, and what files show.
pub record HandOn {I F : Type 0} (told : I → Told) (is_open : I → Type 0)
    (files_open : F → Type 0) (hdu : Hdu) (h : Hand I F) : Type 0 where
  pub feeder : IfSome h.feeder (FeedOn told is_open hdu)
  pub shards : ShardsOn hdu h.shards.items
  pub recorder : IfSome h.recorder (RecordOn files_open hdu)

-- each actor of a hand made n turns, or fewer where it ended
pub record HandMoved {I F : Type 0} (told : I → Told) (is_calm : I → Type 0) (faults : I → ℕ)
    (seen : F → FilesSeen) (n : ℕ) (old new : Hand I F) : Type 0 where
  pub feeder : SlotMoved (FeedMoved told is_calm faults n) old.feeder new.feeder
  pub shards : ShardsMoved n old.shards.items new.shards.items
  pub recorder : SlotMoved (RecordMoved seen n) old.recorder new.recorder

-- the writer of the rings no longer waits for those of a hand that ended
pub record HandRetired {I F : Type 0} (h : Hand I F) : Type 0 where
  pub shards : ShardsRetired h.shards.items
  pub recorder : IfSome h.recorder (λ x. IsSome x.end → IsRetired x.pass)

-- each actor of a hand ended
pub record HandEnded {I F : Type 0} (h : Hand I F) : Type 0 where
  pub feeder : IfSome h.feeder (λ f. IsSome f.end)
  pub shards : ShardsEnded h.shards.items
  pub recorder : IfSome h.recorder (λ x. IsSome x.end)

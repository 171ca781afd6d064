-- Turns of a hand that follow one another.
use Rattle.std.proofs.Common.{◌≡◌, ℕ, ◌+◌, ◌<◌, ◌≤◌, List, length, Option, Some, None, slice_index_or, slice_set, get_or, refl, ◌∙◌, arith}
use Rattle.std.specs.Prelude.{All, IfSome}
use Rattle.std.proofs.lemmas.List.{length-set, get_or-set_same, get_or-set_other}
use Rattle.std.proofs.lemmas.List.Elements.{at_read}
use mathlib.Core.Logic.{dite}
use native.Mathlib.Decide.{ℕ_discrete}
use Rattle.psr_base.specs.Told.{Told}
use Rattle.psr_base.specs.Made.{FilesSeen}
use Rattle.dada_hdu.specs.declared.hdu.Hdu.{Hdu}
use Rattle.search_session.specs.declared.feed.FeedActor.{FeedActor}
use Rattle.session_readers.specs.declared.shard.ShardActor.{ShardActor}
use Rattle.session_readers.specs.declared.record.RecordActor.{RecordActor}
use Rattle.search_session.specs.declared.hand.Hand.{Hand}
use Rattle.session_readers.specs.Shards.{ShardOn, ShardMoved}
use Rattle.search_session.specs.Feeds.{FeedOn, FeedMoved}
use Rattle.session_readers.specs.Records.{RecordOn, RecordMoved}
use Rattle.search_session.specs.Hands.{SlotMoved, EachMoved, FirstMoved, ShardsOn, ShardsMoved, HandOn, HandMoved}
use Rattle.search_session.proofs.Moves.{shard_none, shard_more, slot_more, each_more}
use Rattle.search_session.proofs.Feeding.{feed_none, feed_more}
use Rattle.search_session.proofs.Recording.{record_none, record_more}

-- ---- the elements of a list move one after another

module _ {A : Type 0} (R : A → A → Type 0) where
  pub first_none : (xs : List A) → FirstMoved R 0 xs xs
  first_none xs = record {
    count = refl;
    moved = λ k d before near. absurd (omega arith);
    ahead = λ k d after. refl;
  }

  pub first_more : (xs ys : List A) (n : ℕ) (old new : A) → n < length ys → FirstMoved R n xs ys →
      old ≡ get_or ys n old → R old new → FirstMoved R (n + 1) xs (slice_set ys n new)
  first_more xs ys n old new near first is moved = record {
    count = length-set ys n new ∙ first.count;
    moved = λ k d before within. dite (ℕ_discrete k n)
        (λ same. rw (same, get_or-set_same ys n new d near) (rw (first.ahead n d (omega arith)) at
        (at_read ys (λ x. R x new) n old near is moved d)))
        (λ other. rw (get_or-set_other ys n k new d other) (first.moved k d (omega arith) within));
    ahead = λ k d after.
        let other : (k ≡ n) → ⊥ = λ same. absurd (omega arith) in
        get_or-set_other ys n k new d other ∙ first.ahead k d (omega arith);
  }

  pub first_all : (xs ys : List A) (n : ℕ) → length ys ≤ n → FirstMoved R n xs ys → EachMoved R xs ys
  first_all xs ys n all first =
      let count = first.count in
      record {
        count = first.count;
        each = λ k d near. first.moved k d (omega arith) near;
      }

-- the first n of them are so
abbrev pub FirstAre : {A : Type 0} → (A → Type 0) → ℕ → List A → Type 0
FirstAre P n xs = (k : ℕ) (d : _) → k < n → k < length xs → P (slice_index_or xs k d)

module _ {A : Type 0} (P : A → Type 0) where
  pub are_none : (xs : List A) → FirstAre P 0 xs
  are_none xs = λ k d before near. absurd (omega arith)

  pub are_more : (xs : List A) (n : ℕ) (new : A) → n < length xs → FirstAre P n xs → P new →
      FirstAre P (n + 1) (slice_set xs n new)
  are_more xs n new near first is = λ k d before within.
      let count = length-set xs n new in
      dite (ℕ_discrete k n)
      (λ same. rw (same, get_or-set_same xs n new d near) is)
      (λ other. rw (get_or-set_other xs n k new d other) (first k d (omega arith) (omega arith)))

  pub are_all : (xs : List A) (n : ℕ) → length xs ≤ n → FirstAre P n xs → All P xs
  are_all xs n all first = λ k d near. first k d (omega arith) near

-- ---- shards

slot_none : (hdu : Hdu) (slot : Option ShardActor) → IfSome slot (ShardOn hdu) → SlotMoved (ShardMoved 0) slot slot
slot_none hdu None on = tt
slot_none hdu (Some x) on = shard_none x on.count

pub shards_none : (hdu : Hdu) (slots : List (Option ShardActor)) → ShardsOn hdu slots → ShardsMoved 0 slots slots
shards_none hdu slots on = record {
  count = refl;
  each = λ k d near. slot_none hdu (slice_index_or slots k d) (on k d near);
}

pub shards_more : (n m : ℕ) (xs ys zs : List (Option ShardActor)) → ShardsMoved n xs ys → ShardsMoved m ys zs →
    ShardsMoved (n + m) xs zs
shards_more n m = each_more (SlotMoved (ShardMoved n)) (SlotMoved (ShardMoved m)) (SlotMoved (ShardMoved (n + m)))
    (slot_more (ShardMoved n) (ShardMoved m) (ShardMoved (n + m)) (shard_more n m))

-- ---- hands

module _ {I : Type 0} (told : I → Told) (is_open is_calm : I → Type 0) (faults : I → ℕ) where
  pub feeder_none : (hdu : Hdu) (slot : Option (FeedActor I)) → IfSome slot (FeedOn told is_open hdu) →
      SlotMoved (FeedMoved told is_calm faults 0) slot slot
  feeder_none hdu None on = tt
  feeder_none hdu (Some f) on = feed_none told is_calm faults f on.count

module _ {F : Type 0} (files_open : F → Type 0) (seen : F → FilesSeen) where
  pub recorder_none : (hdu : Hdu) (slot : Option (RecordActor F)) → IfSome slot (RecordOn files_open hdu) →
      SlotMoved (RecordMoved seen 0) slot slot
  recorder_none hdu None on = tt
  recorder_none hdu (Some x) on = record_none seen x on.count

module _ {I F : Type 0} (told : I → Told) (is_open is_calm : I → Type 0) (faults : I → ℕ) (files_open : F → Type 0)
    (seen : F → FilesSeen) where
  pub hand_none : (hdu : Hdu) (h : Hand I F) → HandOn told is_open files_open hdu h →
      HandMoved told is_calm faults seen 0 h h
  hand_none hdu h on = record {
    feeder = feeder_none told is_open is_calm faults hdu h.feeder on.feeder;
    shards = shards_none hdu h.shards.items on.shards;
    recorder = recorder_none files_open seen hdu h.recorder on.recorder;
  }

  pub hand_more : (n m : ℕ) (f g h : Hand I F) → HandMoved told is_calm faults seen n f g →
      HandMoved told is_calm faults seen m g h → HandMoved told is_calm faults seen (n + m) f h
  hand_more n m f g h first second = record {
    feeder = slot_more (FeedMoved told is_calm faults n) (FeedMoved told is_calm faults m)
        (FeedMoved told is_calm faults (n + m)) (feed_more told is_calm faults n m) f.feeder g.feeder h.feeder
        first.feeder second.feeder;
    shards = shards_more n m f.shards.items g.shards.items h.shards.items first.shards second.shards;
    recorder = slot_more (RecordMoved seen n) (RecordMoved seen m) (RecordMoved seen (n + m)) (record_more seen n m)
        f.recorder g.recorder h.recorder first.recorder second.recorder;
  }

  pub hands_none : (hdu : Hdu) (hands : List (Hand I F)) → All (HandOn told is_open files_open hdu) hands →
      EachMoved (HandMoved told is_calm faults seen 0) hands hands
  hands_none hdu hands on = record {
    count = refl;
    each = λ k d near. hand_none hdu (slice_index_or hands k d) (on k d near);
  }

  pub hands_more : (n m : ℕ) (xs ys zs : List (Hand I F)) → EachMoved (HandMoved told is_calm faults seen n) xs ys →
      EachMoved (HandMoved told is_calm faults seen m) ys zs →
      EachMoved (HandMoved told is_calm faults seen (n + m)) xs zs
  hands_more n m = each_more (HandMoved told is_calm faults seen n) (HandMoved told is_calm faults seen m)
      (HandMoved told is_calm faults seen (n + m)) (hand_more n m)

-- Who works in which hand, through rounds.
use Rattle.std.proofs.Common.{◌≡◌, ℕ, ◌+◌, ◌%◌, ◌<◌, List, [], length, Option, Some, None, slice_get, slice_index_or, refl, ◌∙◌, arith}
use Rattle.std.specs.Prelude.{All, IfSome}
use Rattle.std.proofs.lemmas.Option.{slice_get_within, slice_get-get_or, get_or_from_slice_get}
use Rattle.psr_base.specs.Told.{Told}
use Rattle.psr_base.specs.Made.{FilesSeen}
use Rattle.dada_recorder.specs.declared.recorder.Recorder.{Recorder}
use Rattle.session_readers.specs.declared.bank.Bank.{Bank}
use Rattle.search_session.specs.declared.feed.FeedActor.{FeedActor}
use Rattle.session_readers.specs.declared.shard.ShardActor.{ShardActor}
use Rattle.session_readers.specs.declared.record.RecordActor.{RecordActor}
use Rattle.search_session.specs.declared.hand.Hand.{Hand}
use Rattle.session_readers.specs.Shards.{shard_cleared, ShardMoved}
use Rattle.search_session.specs.Feeds.{FeedMoved}
use Rattle.session_readers.specs.Records.{RecordMoved}
use Rattle.search_session.specs.Hands.{SlotMoved, EachMoved, HandMoved}
use Rattle.search_session.specs.Stages.{HasFeeder, HasShard, HasRecorder, RecorderWorks, IsOfBank, AreOfBanks}
use Rattle.search_session.proofs.Engines.{follow_more}
use Rattle.search_session.proofs.Feeding.{feed_more}
use Rattle.search_session.proofs.Recording.{record_more}
use Rattle.session_readers.specs.Banks.{engines_of}

-- ---- slots and places

module _ {A : Type 0} (R : A → A → Type 0) where
  pub slot_some : (a b : Option A) (x : A) → a ≡ Some x → SlotMoved R a b → (y : A) × (b ≡ Some y) × R x y
  slot_some None b x is moved = absurd cc
  slot_some (Some z) None x is moved = absurd moved
  slot_some (Some z) (Some y) x is moved =
      let same : z ≡ x = cc in
      (y, refl, rw same at moved)

  pub slot_none : (a b : Option A) → a ≡ None → SlotMoved R a b → b ≡ None
  slot_none None None is moved = refl
  slot_none None (Some y) is moved = absurd moved
  slot_none (Some z) b is moved = absurd cc

  pub each_at : (xs ys : List A) (k : ℕ) (x : A) → EachMoved R xs ys → slice_get xs k ≡ Some x →
      (y : A) × (slice_get ys k ≡ Some y) × R x y
  each_at xs ys k x moved at =
      let near = slice_get_within xs k x at in
      let count = moved.count in
      let there : k < length ys = omega arith in (
        slice_index_or ys k x,
        slice_get-get_or ys k x there,
        rw (get_or_from_slice_get xs k x x at) at (moved.each k x near),
      )

-- ---- shards

of_bank_moved : (banks : List (Option Bank)) (n : ℕ) (x y : ShardActor) → ShardMoved n x y → IsOfBank banks x →
    IsOfBank banks y
of_bank_moved banks n x y moved of = λ bank at.
    follow_more [] (shard_cleared x) (shard_cleared y) (engines_of bank) (engines_of x.part)
    (engines_of y.part)
    (of bank (rw moved.number at at)) moved.engines

slot_of_bank : (banks : List (Option Bank)) (n : ℕ) (a b : Option ShardActor) → SlotMoved (ShardMoved n) a b →
    IfSome a (IsOfBank banks) → IfSome b (IsOfBank banks)
slot_of_bank banks n (Some x) (Some y) moved of = of_bank_moved banks n x y moved of
slot_of_bank banks n None None moved of = of
slot_of_bank banks n a b moved of = absurd moved

module _ {I F : Type 0} (told : I → Told) (is_calm : I → Type 0) (faults : I → ℕ) (seen : F → FilesSeen) (n : ℕ)
    (old new : List (Hand I F)) (moved : EachMoved (HandMoved told is_calm faults seen n) old new) where
  -- the feeder is still in its hand
  pub feeder_stays : (start : FeedActor I) → HasFeeder told is_calm faults start old →
      HasFeeder told is_calm faults start new
  feeder_stays start has =
      let h = each_at (HandMoved told is_calm faults seen n) old new 0 has.hand moved has.there in
      let f = slot_some (FeedMoved told is_calm faults n) has.hand.feeder h.0.feeder has.feeder has.works h.2.feeder in
      record {
        turns = has.turns + n;
        hand = h.0;
        there = h.1;
        feeder = f.0;
        works = f.1;
        moved = feed_more told is_calm faults has.turns n start has.feeder f.0 has.moved f.2;
      }

  -- the recorder is still in its hand
  recorder_in : (start : RecordActor F) → HasRecorder seen start old → HasRecorder seen start new
  recorder_in start has =
      let there : slice_get old (8 % length new) ≡ Some has.hand = rw moved.count has.there in
      let h = each_at (HandMoved told is_calm faults seen n) old new (8 % length new) has.hand moved there in
      let x = slot_some (RecordMoved seen n) has.hand.recorder h.0.recorder has.recorder has.works h.2.recorder in
      record {
        turns = has.turns + n;
        hand = h.0;
        there = h.1;
        recorder = x.0;
        works = x.1;
        moved = record_more seen has.turns n start has.recorder x.0 has.moved x.2;
      }

  -- or no hand has one
  no_recorder : All (λ h. h.recorder ≡ None) old → All (λ h. h.recorder ≡ None) new
  no_recorder none = λ k d near.
      let count = moved.count in
      let was : k < length old = omega arith in
      slot_none (RecordMoved seen n) (slice_index_or old k d).recorder (slice_index_or new k d).recorder
      (none k d was) (moved.each k d was).recorder

  pub recorder_stays : (recorder : Option (Recorder F)) (number : ℕ) → RecorderWorks seen recorder number old →
      RecorderWorks seen recorder number new
  recorder_stays None number none = no_recorder none
  recorder_stays (Some part) number works = (works.0, works.1, recorder_in works.0 works.2)

  -- each shard is still in its hand
  pub shard_stays : (s : ℕ) → HasShard old s → HasShard new s
  shard_stays s has =
      let there : slice_get old ((s + 1) % length new) ≡ Some has.hand = rw moved.count has.there in
      let h = each_at (HandMoved told is_calm faults seen n) old new ((s + 1) % length new) has.hand moved there in
      let slot = each_at (SlotMoved (ShardMoved n)) has.hand.shards.items h.0.shards.items has.place (Some has.shard)
      h.2.shards has.works in
      let x = slot_some (ShardMoved n) (Some has.shard) slot.0 has.shard refl slot.2 in
      record {
        hand = h.0;
        there = h.1;
        shard = x.0;
        place = has.place;
        works = rw x.1 at slot.1;
        number = x.2.number ∙ has.number;
      }

  -- and its engines are those of its bank
  pub banks_stay : (banks : List (Option Bank)) → AreOfBanks banks old → AreOfBanks banks new
  banks_stay banks of = λ k d near.
      let count = moved.count in
      let was : k < length old = omega arith in
      let h = slice_index_or old k d in
      let h' = slice_index_or new k d in
      let m = moved.each k d was in
      λ j e here.
      let count = m.shards.count in
      let before : j < length h.shards.items = omega arith in
      slot_of_bank banks n (slice_index_or h.shards.items j e) (slice_index_or h'.shards.items j e)
      (m.shards.each j e before) (of k d was j e before)

-- All actors leave their hands.
use Rattle.std.proofs.Common.{◌≡◌, ℕ, ◌+◌, ◌%◌, ◌<◌, List, length, length-append, Option, Some, None, refl, sym, ap, ◌∙◌, arith}
use Rattle.std.specs.Prelude.{All, IfSome}
use Rattle.std.proofs.lemmas.Option.{slice_get_within}
use Rattle.psr_base.specs.Told.{Told}
use Rattle.dada_hdu.specs.declared.hdu.Hdu.{Hdu}
use Rattle.dada_hdu.specs.Passes.{data_shape, number_of}
use Rattle.search_session.specs.declared.feed.FeedActor.{FeedActor}
use Rattle.session_readers.specs.declared.shard.ShardActor.{ShardActor}
use Rattle.session_readers.specs.declared.record.RecordActor.{RecordActor}
use Rattle.search_session.specs.declared.hand.Hand.{Hand}
use Rattle.search_session.specs.Hands.{HandOn, HandEnded}
use Rattle.search_session.specs.Gathering.{GivesRecorder, recorder_in}
use Rattle.search_session.specs.Stages.{HasShard, IsInHand, GivesFeeder, AreGathered}
use Rattle.search_session.specs.Books.{passes_of}
use Rattle.search_session.specs.Ends.{passes_with, recorder_passes, ReadsLast, AreDone, HaveEnginesIn}
use Rattle.search_session.proofs.Gathered.{count_same, still_in, still_work, still_recorder}
use Rattle.search_session.proofs.Finishing.{pass_count}
use Rattle.search_session.proofs.Ending.{if_some, on_in, ended_in, recorder_on}

-- what is so of each element that a slot may hold
if_each : {A : Type 0} (P : A → Type 0) (slot : Option A) → ((x : A) → slot ≡ Some x → P x) → IfSome slot P
if_each P None all = _
if_each P (Some x) all = all x refl

module _ {I F : Type 0} (old mid new : List (Hand I F)) (f : FeedActor I) (r : Option (RecordActor F))
    (first : GivesFeeder old f mid) (second : GivesRecorder mid r new) where
  pub in_old : (y : ShardActor) → IsInHand new y → IsInHand old y
  in_old y is = still_in old mid 0 first.before first.after first.there first.hands first.shards y
      (still_in mid new (8 % length mid) second.before second.after second.there second.hands second.shards y is)

  pub work_still : (s : ℕ) → HasShard old s → HasShard new s
  work_still s has = still_work mid new (8 % length mid) second.before second.after second.there second.hands
      second.shards s (still_work old mid 0 first.before first.after first.there first.hands first.shards s has)

  pub some_mid : 0 < length mid
  some_mid =
      let near = slice_get_within old 0 first.before first.there in
      let count = count_same old mid 0 first.after first.hands in
      omega arith

  pub some_new : 0 < length new
  some_new =
      let some = some_mid in
      let count = count_same mid new (8 % length mid) second.after second.hands in
      omega arith

  pub is_recorder : r ≡ recorder_in mid → r ≡ recorder_in old
  is_recorder is = is ∙ still_recorder old mid 0 first.before first.after first.there first.hands first.recorder

  module _ (told : I → Told) (is_open : I → Type 0) (files_open : F → Type 0) (hdu : Hdu)
      (on : All (HandOn told is_open files_open hdu) old) (ended : All HandEnded old) (r_is : r ≡ recorder_in mid)
      (shards : List (Option ShardActor)) (n : ℕ) (gathered : AreGathered new n shards)
      (readers : n + length (recorder_passes (recorder_in old)) ≡ (data_shape hdu).readers)
      (last : IfSome (recorder_in old) (λ (x : RecordActor F). number_of x.pass ≡ n)) where
    all_readers : length (passes_with shards r) ≡ (data_shape hdu).readers
    all_readers =
        let one = recorder_passes r in
        let long = pass_count shards in
        let count = gathered.count in
        let same = ap (λ (o : Option (RecordActor F)). length (recorder_passes o)) (is_recorder r_is) in
        let both = length-append (passes_of shards) one in
        omega arith

    reads_last : (x : RecordActor F) → r ≡ Some x → ReadsLast hdu (length shards) x
    reads_last x is =
        let there = sym (is_recorder r_is) ∙ is in record {
          number = if_some (λ (y : RecordActor F). number_of y.pass ≡ n) (recorder_in old) x there last
              ∙ sym gathered.count;
          reads = (recorder_on told is_open files_open hdu old on x there).reads;
        }

    pub are_done : (transfers : ℕ) → HaveEnginesIn old n transfers → AreDone hdu transfers shards r
    are_done transfers engines = record {
      all = all_readers;
      each = λ s near.
          let count = gathered.count in
          let h = gathered.each s (omega arith) in
          let is = in_old h.0 h.3 in
          let number = h.2 in (
            h.0,
            h.1,
            record {
              number = h.2;
              on = on_in told is_open files_open hdu old on h.0 is;
              ended = ended_in old h.0 ended is;
              count = engines h.0 is (omega arith);
            },
          );
      last = if_each (ReadsLast hdu (length shards)) r reads_last;
    }

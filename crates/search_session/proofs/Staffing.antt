-- The actors of a session come to their hands.
use Rattle.std.proofs.Common.{◌≡◌, ℕ, ◌+◌, ◌%◌, ◌<◌, ◌≤◌, List, [], ◌∷◌, length, length-append, Option, Some, None, slice_get, slice_set, drop, slice_index_or, refl, ap, ◌∙◌, arith}
use Rattle.std.specs.Prelude.{All, IfSome, IsSomeAnd}
use Rattle.std.proofs.lemmas.List.Elements.{All-set, All-push, All-weaker}
use Rattle.std.proofs.lemmas.Option.{slice_get_within, slice_get-get_or}
use mathlib.Core.Logic.{dite}
use native.Mathlib.Decide.{ℕ_discrete}
use Rattle.psr_base.specs.Told.{Told}
use Rattle.psr_base.specs.Made.{FilesSeen}
use Rattle.dada_hdu.specs.declared.hdu.Hdu.{Hdu}
use Rattle.dada_hdu.specs.declared.passes.HduReader.{HduReader}
use Rattle.dada_recorder.specs.declared.recorder.Recorder.{Recorder}
use Rattle.session_readers.specs.declared.bank.Bank.{Bank}
use Rattle.search_session.specs.declared.feed.FeedActor.{FeedActor}
use Rattle.session_readers.specs.declared.shard.ShardActor.{ShardActor}
use Rattle.session_readers.specs.declared.record.RecordActor.{RecordActor}
use Rattle.search_session.specs.declared.hand.Hand.{Hand}
use Rattle.session_readers.specs.Shards.{shard_cleared, ShardOn}
use Rattle.search_session.specs.Feeds.{FeedOn}
use Rattle.session_readers.specs.Records.{RecordOn}
use Rattle.search_session.specs.Hands.{HandOn}
use Rattle.search_session.specs.Stages.{IsUnread, IsFirstReader, recorder_count, IsEmptyHand, IsShardOf, IsRecorderOf, IsOfBank, AreOfBanks, HasShard, HasFeeder, HasRecorder, RecorderWorks, TakesShard, TakesFeeder, TakesRecorder, RecorderPlaced, AreStaffed}
use Rattle.search_session.proofs.Engines.{follow_still}
use Rattle.search_session.proofs.Feeding.{feed_none}
use Rattle.search_session.proofs.Recording.{record_none}
use Rattle.search_session.proofs.Rows.{all_at, one_at, removed, first_left, longer, at_end}
use Rattle.search_session.proofs.Gathered.{put_here, count_same, at_place, shard_works, still_work}
use Rattle.session_readers.specs.Banks.{engines_of}

-- what is taken out of its slot: the element of the list, and the space that serves
pub taken_is : {X : Type 0} (all left : List (Option X)) (s : ℕ) (r : Option X) (x y : X) →
    slice_get all s ≡ Some (Some x) → left ≡ drop s all → r ≡ slice_index_or left 0 r → r ≡ Some y → x ≡ y
taken_is all left s r x y at is first some =
    let there : r ≡ Some x = removed all left s (Some x) r at is first in cc

pub none_taken : {X : Type 0} (all left : List (Option X)) (s : ℕ) (r : Option X) (x : X) →
    slice_get all s ≡ Some (Some x) → left ≡ drop s all → r ≡ slice_index_or left 0 r → r ≡ None → ⊥
none_taken all left s r x at is first none =
    let there : r ≡ Some x = removed all left s (Some x) r at is first in cc

some_and : {X : Type 0} (P : X → Type 0) (slot : Option X) (x : X) → IsSomeAnd slot P → slot ≡ Some x → P x
some_and P None x holds is = absurd cc
some_and P (Some y) x holds is = let same : y ≡ x = cc in rw same at holds

some_there : {X : Type 0} (P : X → Type 0) (slot : Option X) → IsSomeAnd slot P → slot ≡ None → ⊥
some_there P None holds is = absurd holds
some_there P (Some y) holds is = cc

module _ {X : Type 0} (P : X → Type 0) (all left : List (Option X)) (s : ℕ) (r : Option X)
    (each : All (λ slot. IsSomeAnd slot P) all) (near : s < length all) (is : left ≡ drop s all)
    (first : r ≡ slice_index_or left 0 r) where
  r_holds : IsSomeAnd r P
  r_holds = rw (removed all left s (slice_index_or all s r) r (slice_get-get_or all s r near) is first)
      (each s r near)

  pub taken_holds : (x : X) → r ≡ Some x → P x
  taken_holds x some = some_and P r x r_holds some

  pub taken_there : r ≡ None → ⊥
  taken_there none = some_there P r r_holds none

-- ---- the reader that is left

pub first_reader : {F : Type 0} (hdu : Hdu) (readers left : List (Option HduReader)) (n : ℕ)
    (recorder : Option (Recorder F)) → left ≡ drop n readers → length readers ≡ n + recorder_count recorder →
    ((s : ℕ) → s < length readers →
    (reader : HduReader) × (slice_get readers s ≡ Some (Some reader)) × IsUnread hdu s reader) →
    IfSome recorder (λ r. IsFirstReader hdu n left)
first_reader hdu readers left n None is count unread = tt
first_reader hdu readers left n (Some r) is count unread =
    let h = unread n (omega arith) in
    (h.0, rw is (first_left readers n (Some h.0) h.1), h.2)

-- ---- one hand changes, and what it holds of one kind stays

module _ {I F : Type 0} (old new : List (Hand I F)) (place : ℕ) where
  pub all_kept : (after : Hand I F) → new ≡ slice_set old place after → (P : Hand I F → Type 0) → All P old →
      P after → All P new
  all_kept after is P was now = rw is (All-set P old place after now was)

  module _ (before after : Hand I F) (there : slice_get old place ≡ Some before) (is : new ≡ slice_set old place after)
    where
      pub banks_kept : after.shards ≡ before.shards → (banks : List (Option Bank)) → AreOfBanks banks old →
          AreOfBanks banks new
      banks_kept same banks of =
          all_kept after is (λ h. All (λ slot. IfSome slot (IsOfBank banks)) h.shards.items) of
          (rw same (all_at (λ (h : Hand I F). All (λ slot. IfSome slot (IsOfBank banks)) h.shards.items) old place
          before there of))

      recorder_kept : after.recorder ≡ before.recorder → (seen : F → FilesSeen) (start : RecordActor F) →
          HasRecorder seen start old → HasRecorder seen start new
      recorder_kept same seen start has =
          let g = at_place old new place before after there is (λ (h : Hand I F). h.recorder ≡ Some has.recorder)
          (λ here. same ∙ here) (8 % length old) has.hand has.there has.works in
          record {
            turns = has.turns;
            hand = g.0;
            there = rw (count_same old new place after is) g.1;
            recorder = has.recorder;
            works = g.2;
            moved = has.moved;
          }

      pub works_kept : after.recorder ≡ before.recorder → (seen : F → FilesSeen) (recorder : Option (Recorder F))
          (number : ℕ) → RecorderWorks seen recorder number old → RecorderWorks seen recorder number new
      works_kept same seen None number none = all_kept after is (λ h. h.recorder ≡ None) none
          (same ∙ all_at (λ (h : Hand I F). h.recorder ≡ None) old place before there none)
      works_kept same seen (Some part) number works = (works.0, works.1, recorder_kept same seen works.0 works.2)

-- ---- empty hands

none_if : {A : Type 0} (P : A → Type 0) (slot : Option A) → slot ≡ None → IfSome slot P
none_if P None is = tt
none_if P (Some x) is = absurd cc

none_all : {A : Type 0} (P : A → Type 0) (xs : List A) → xs ≡ [] → All P xs
none_all P xs is = λ k d near. let none : length xs ≡ 0 = ap length is in absurd (omega arith)

module _ {I F : Type 0} (told : I → Told) (is_open : I → Type 0) (files_open : F → Type 0) (hdu : Hdu)
    (banks : List (Option Bank)) where
  empty_on : (h : Hand I F) → IsEmptyHand h → HandOn told is_open files_open hdu h
  empty_on h empty = record {
    feeder = none_if (FeedOn told is_open hdu) h.feeder empty.feeder;
    shards = none_all (λ slot. IfSome slot (ShardOn hdu)) h.shards.items empty.shards;
    recorder = none_if (RecordOn files_open hdu) h.recorder empty.recorder;
  }

  pub staffed_none : (hands : List (Hand I F)) → All IsEmptyHand hands →
      AreStaffed told is_open files_open hdu banks 0 (length hands) hands
  staffed_none hands empty = record {
    on = All-weaker IsEmptyHand (HandOn told is_open files_open hdu) empty_on hands empty;
    no_recorder = All-weaker IsEmptyHand (λ h. h.recorder ≡ None) (λ h e. e.recorder) hands empty;
    few = All-weaker IsEmptyHand (λ h. length h.shards.items ≤ 0) (λ h e. let none : length h.shards.items ≡ 0 =
        ap length e.shards in omega arith) hands empty;
    count_is = refl;
    placed = λ s near. absurd (omega arith);
    of_banks = All-weaker IsEmptyHand (λ h. All (λ slot. IfSome slot (IsOfBank banks)) h.shards.items)
        (λ h e. none_all (λ slot. IfSome slot (IsOfBank banks)) h.shards.items e.shards) hands empty;
  }

  -- ---- a shard comes

  some_bank : (x : ShardActor) (n : ℕ) (bank : Bank) → slice_get banks n ≡ Some (Some bank) → IsShardOf bank n x →
      IsOfBank banks x
  some_bank x n bank at new = λ other there.
      let same : bank ≡ other = one_at banks n bank other at (rw new.number_is at there) in
      rw (new.bank_is, same) (follow_still [] (shard_cleared x) (engines_of other) new.nothing)

  module _ (old new : List (Hand I F)) (n count : ℕ) (x : ShardActor) (bank : Bank)
      (staffed : AreStaffed told is_open files_open hdu banks n count old)
      (takes : TakesShard old ((n + 1) % length old) x new) (at : slice_get banks n ≡ Some (Some bank))
      (fresh : IsShardOf bank n x) (on : ShardOn hdu x) where
    near : (n + 1) % length old < length old
    near = slice_get_within old ((n + 1) % length old) takes.before takes.there

    same_count : length new ≡ length old
    same_count = count_same old new ((n + 1) % length old) takes.after takes.hands

    all_new : (P : Hand I F → Type 0) → All P old → P takes.after → All P new
    all_new P was now = all_kept old new ((n + 1) % length old) takes.after takes.hands P was now

    before_on : HandOn told is_open files_open hdu takes.before
    before_on = all_at (HandOn told is_open files_open hdu) old ((n + 1) % length old) takes.before takes.there
        staffed.on

    after_on : HandOn told is_open files_open hdu takes.after
    after_on = record {
      feeder = rw takes.feeder before_on.feeder;
      shards = rw takes.shards
          (All-push (λ slot. IfSome slot (ShardOn hdu)) takes.before.shards.items (Some x) before_on.shards on);
      recorder = rw takes.recorder before_on.recorder;
    }

    after_none : takes.after.recorder ≡ None
    after_none = takes.recorder ∙ all_at (λ (h : Hand I F). h.recorder ≡ None) old ((n + 1) % length old) takes.before
        takes.there staffed.no_recorder

    after_few : length takes.after.shards.items ≤ n + 1
    after_few =
        let before : length takes.before.shards.items ≤ n =
        all_at (λ (h : Hand I F). length h.shards.items ≤ n) old ((n + 1) % length old) takes.before takes.there
        staffed.few in
        let long = ap length takes.shards ∙ length-append takes.before.shards.items (Some x ∷ []) in
        omega arith

    after_of : All (λ slot. IfSome slot (IsOfBank banks)) takes.after.shards.items
    after_of = rw takes.shards
        (All-push (λ slot. IfSome slot (IsOfBank banks)) takes.before.shards.items (Some x)
        (all_at (λ (h : Hand I F). All (λ slot. IfSome slot (IsOfBank banks)) h.shards.items) old ((n + 1) % length old)
        takes.before takes.there staffed.of_banks) (some_bank x n bank at fresh))

    here : HasShard new n
    here = record {
      hand = takes.after;
      there = rw same_count
          (put_here old new ((n + 1) % length old) ((n + 1) % length old) takes.after takes.hands near refl);
      shard = x;
      place = length takes.before.shards.items;
      works = rw takes.shards (at_end takes.before.shards.items (Some x) (length takes.before.shards.items) refl);
      number = fresh.number_is;
    }

    earlier : (s : ℕ) → HasShard old s → HasShard new s
    earlier s has = shard_works old new ((n + 1) % length old) takes.before takes.after takes.there takes.hands s has
        (λ works. rw takes.shards
        (longer takes.before.shards.items (Some x ∷ []) has.place (Some has.shard) works))

    pub staffed_more : AreStaffed told is_open files_open hdu banks (n + 1) count new
    staffed_more = record {
      on = all_new (HandOn told is_open files_open hdu) staffed.on after_on;
      few = all_new (λ h. length h.shards.items ≤ n + 1) (All-weaker (λ h. length h.shards.items ≤ n)
          (λ h. length h.shards.items ≤ n + 1) (λ h few. omega arith) old staffed.few) after_few;
      no_recorder = all_new (λ h. h.recorder ≡ None) staffed.no_recorder after_none;
      count_is = same_count ∙ staffed.count_is;
      placed = λ s before. dite (ℕ_discrete s n)
          (λ same. rw same here)
          (λ other. earlier s (staffed.placed s (omega arith)));
      of_banks = all_new (λ h. All (λ slot. IfSome slot (IsOfBank banks)) h.shards.items) staffed.of_banks after_of;
    }

  -- ---- the recorder comes

  -- the shards and the recorder work in these hands
  pub record AreReady (seen : F → FilesSeen) (recorder : Option (Recorder F)) (n count : ℕ)
      (hands : List (Hand I F)) : Type 0 where
    pub on : All (HandOn told is_open files_open hdu) hands
    pub count_is : length hands ≡ count
    pub placed : (s : ℕ) → s < n → HasShard hands s
    pub of_banks : AreOfBanks banks hands
    pub works : RecorderWorks seen recorder n hands

  module _ (seen : F → FilesSeen) (old new : List (Hand I F)) (n count : ℕ)
      (staffed : AreStaffed told is_open files_open hdu banks n count old) where
    with_one : (part : Recorder F) (x : RecordActor F) → RecordOn files_open hdu x → IsRecorderOf part n x →
        TakesRecorder old (8 % length old) x new → AreReady seen (Some part) n count new
    with_one part x on fresh takes =
        let before_on = all_at (HandOn told is_open files_open hdu) old (8 % length old) takes.before takes.there
        staffed.on in
        let same_count = count_same old new (8 % length old) takes.after takes.hands in
        record {
          on = all_kept old new (8 % length old) takes.after takes.hands (HandOn told is_open files_open hdu) staffed.on
              (record {
                feeder = rw takes.feeder before_on.feeder;
                shards = rw takes.shards before_on.shards;
                recorder = rw takes.works on;
              });
          count_is = same_count ∙ staffed.count_is;
          placed = λ s near. still_work old new (8 % length old) takes.before takes.after takes.there takes.hands
              takes.shards s (staffed.placed s near);
          of_banks = banks_kept old new (8 % length old) takes.before takes.after takes.there takes.hands takes.shards
              banks staffed.of_banks;
          works = (
            x,
            fresh,
            record {
              turns = 0;
              hand = takes.after;
              there = rw same_count (put_here old new (8 % length old) (8 % length old) takes.after takes.hands
                  (slice_get_within old (8 % length old) takes.before takes.there) refl);
              recorder = x;
              works = takes.works;
              moved = record_none seen x on.count;
            },
          );
        }

    pub ready : (recorder : Option (Recorder F)) → RecorderPlaced files_open hdu recorder n old new →
        AreReady seen recorder n count new
    ready None same = rw same (record {
      on = staffed.on;
      count_is = staffed.count_is;
      placed = staffed.placed;
      of_banks = staffed.of_banks;
      works = staffed.no_recorder;
    })
    ready (Some part) placed = with_one part placed.0 placed.1 placed.2 placed.3

  -- ---- the feeder comes

  -- all actors work in these hands
  pub record AreFed (is_calm : I → Type 0) (faults : I → ℕ) (seen : F → FilesSeen) (recorder : Option (Recorder F))
      (n : ℕ) (f : FeedActor I) (hands : List (Hand I F)) : Type 0 where
    pub on : All (HandOn told is_open files_open hdu) hands
    pub some : 0 < length hands
    pub feeder : HasFeeder told is_calm faults f hands
    pub placed : (s : ℕ) → s < n → HasShard hands s
    pub of_banks : AreOfBanks banks hands
    pub works : RecorderWorks seen recorder n hands

  pub fed : (is_calm : I → Type 0) (faults : I → ℕ) (seen : F → FilesSeen) (recorder : Option (Recorder F))
      (old new : List (Hand I F)) (n count : ℕ) (f : FeedActor I) → AreReady seen recorder n count old →
      TakesFeeder old f new → FeedOn told is_open hdu f → AreFed is_calm faults seen recorder n f new
  fed is_calm faults seen recorder old new n count f all takes on =
      let near = slice_get_within old 0 takes.before takes.there in
      let before = all_at (HandOn told is_open files_open hdu) old 0 takes.before takes.there all.on in
      let same = count_same old new 0 takes.after takes.hands in
      record {
        on = all_kept old new 0 takes.after takes.hands (HandOn told is_open files_open hdu) all.on (record {
          feeder = rw takes.works on;
          shards = rw takes.shards before.shards;
          recorder = rw takes.recorder before.recorder;
        });
        some = omega arith;
        feeder = record {
          turns = 0;
          hand = takes.after;
          there = put_here old new 0 0 takes.after takes.hands near refl;
          feeder = f;
          works = takes.works;
          moved = feed_none told is_calm faults f on.count;
        };
        placed = λ s close. still_work old new 0 takes.before takes.after takes.there takes.hands takes.shards s
            (all.placed s close);
        of_banks = banks_kept old new 0 takes.before takes.after takes.there takes.hands takes.shards banks
            all.of_banks;
        works = works_kept old new 0 takes.before takes.after takes.there takes.hands takes.recorder seen recorder n
            all.works;
      }

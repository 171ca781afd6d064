-- What is known once all actors have ended: two lists are compared once.
use Rattle.std.proofs.Common.{◌≡◌, ℕ, ◌%◌, ◌<◌, true, List, [], length, Option, Some, None, slice_get, refl, sym, ◌∙◌, arith}
use Rattle.std.specs.Prelude.{All, IfSome, IsSome, nat_lt}
use Rattle.std.proofs.lemmas.List.{append-nil}
use Rattle.std.proofs.lemmas.List.Elements.{All-weaker}
use Rattle.std.proofs.lemmas.Bool.Decides.{nat_tests}
use Rattle.std.proofs.lemmas.Option.{slice_get_within}
use Rattle.dada_model.specs.Observation.{Observation}
use Rattle.search_model.specs.Candidates.{shard_part}
use Rattle.search_model.specs.Observed.{candidates_of}
use Rattle.candidate_book.specs.Book.{book_of}
use Rattle.psr_base.specs.Told.{Told}
use Rattle.ring_ends.specs.Ended.{sealed_at_end, cleared_at_end}
use Rattle.dada_hdu.specs.declared.hdu.Hdu.{Hdu}
use Rattle.stream_model.specs.Blocks.{ended_transfers, is_over}
use Rattle.search_engine.specs.Engine.{EngineState, SameShard, StandsForPart, StandsForData, HasSearched}
use Rattle.disk_feeder.specs.declared.answers.FeedEnd.TheVariants.{Whole}
use Rattle.disk_feeder.specs.Feeding.{IsEnding}
use Rattle.session_readers.specs.declared.bank.Bank.{Bank}
use Rattle.search_session.specs.declared.feed.FeedActor.{FeedActor}
use Rattle.session_readers.specs.declared.shard.ShardActor.{ShardActor}
use Rattle.session_readers.specs.declared.record.RecordActor.{RecordActor}
use Rattle.search_session.specs.declared.hand.Hand.{Hand}
use Rattle.search_session.specs.declared.ended.SessionEnd.{SessionEnd}
use Rattle.session_readers.specs.Banks.{HasEnded, HasEngine, engines_of}
use Rattle.session_readers.specs.Shards.{StandsAt, EnginesFollow, shard_cleared, shard_number, ShardOn}
use Rattle.search_session.specs.Feeds.{FeedOn}
use Rattle.session_readers.specs.Records.{RecordOn}
use Rattle.search_session.specs.Hands.{HandOn, HandEnded}
use Rattle.search_session.specs.Gathering.{recorder_of, recorder_in}
use Rattle.search_session.specs.Stages.{IsOfBank, AreOfBanks, IsInHand}
use Rattle.search_session.specs.Books.{HasBank}
use Rattle.search_session.specs.Sessions.{IsSearched, IsEndOf, data_through}
use Rattle.search_session.proofs.Rows.{all_at}
use Rattle.search_session.proofs.Engines.{nothing}
use Rattle.search_session.proofs.Unfed.{none_ended, not_below_zero}

-- ---- what holds of all is true of one in a hand

pub if_some : {A : Type 0} (P : A → Type 0) (slot : Option A) (x : A) → slot ≡ Some x → IfSome slot P → P x
if_some P None x is holds = absurd cc
if_some P (Some y) x is holds = let same : y ≡ x = cc in rw same at holds

module _ {I F : Type 0} where
  all_slots : (P : ShardActor → Type 0) (hands : List (Hand I F)) (x : ShardActor) →
      All (λ h. All (λ slot. IfSome slot P) h.shards.items) hands → IsInHand hands x → P x
  all_slots P hands x all is =
      all_at (λ slot. IfSome slot P) is.hand.shards.items is.place (Some x) is.works
      (all_at (λ (h : Hand I F). All (λ slot. IfSome slot P) h.shards.items) hands is.hand_place is.hand is.there all)

  pub ended_in : (hands : List (Hand I F)) (x : ShardActor) → All HandEnded hands → IsInHand hands x → x.ended ≡ true
  ended_in hands x ended is = all_slots (λ y. y.ended ≡ true) hands x
      (All-weaker HandEnded (λ h. All (λ slot. IfSome slot (λ y. y.ended ≡ true)) h.shards.items) (λ h e. e.shards)
      hands ended) is

  pub of_bank_in : (banks : List (Option Bank)) (hands : List (Hand I F)) (x : ShardActor) → AreOfBanks banks hands →
      IsInHand hands x → IsOfBank banks x
  of_bank_in banks hands x of is = all_slots (IsOfBank banks) hands x of is

  pub feeder_ended : (hands : List (Hand I F)) (h : Hand I F) (f : FeedActor I) → All HandEnded hands →
      slice_get hands 0 ≡ Some h → h.feeder ≡ Some f → IsSome f.end
  feeder_ended hands h f ended at works =
      if_some (λ (x : FeedActor I). IsSome x.end) h.feeder f works (all_at HandEnded hands 0 h at ended).feeder

  -- the recorder of the hand in which it works
  hand_of : (slot : Option (Hand I F)) (x : RecordActor F) → recorder_of slot ≡ Some x →
      (h : Hand I F) × (slot ≡ Some h) × (h.recorder ≡ Some x)
  hand_of None x is = absurd cc
  hand_of (Some h) x is = (h, refl, is)

  pub recorder_ended : (hands : List (Hand I F)) (x : RecordActor F) → All HandEnded hands →
      recorder_in hands ≡ Some x → IsSome x.end
  recorder_ended hands x ended is =
      let h = hand_of (slice_get hands (8 % length hands)) x is in
      if_some (λ (y : RecordActor F). IsSome y.end) h.0.recorder x h.2
      (all_at HandEnded hands (8 % length hands) h.0 h.1 ended).recorder

module _ {I F : Type 0} (told : I → Told) (is_open : I → Type 0) (files_open : F → Type 0) (hdu : Hdu)
    (hands : List (Hand I F)) (on : All (HandOn told is_open files_open hdu) hands) where
  pub on_in : (x : ShardActor) → IsInHand hands x → ShardOn hdu x
  on_in x is = all_slots (ShardOn hdu) hands x (All-weaker (HandOn told is_open files_open hdu)
      (λ h. All (λ slot. IfSome slot (ShardOn hdu)) h.shards.items) (λ h o. o.shards) hands on) is

  pub feeder_on : (h : Hand I F) (f : FeedActor I) → slice_get hands 0 ≡ Some h → h.feeder ≡ Some f →
      FeedOn told is_open hdu f
  feeder_on h f at works = if_some (FeedOn told is_open hdu) h.feeder f works
      (all_at (HandOn told is_open files_open hdu) hands 0 h at on).feeder

  pub recorder_on : (x : RecordActor F) → recorder_in hands ≡ Some x → RecordOn files_open hdu x
  recorder_on x is =
      let h = hand_of (slice_get hands (8 % length hands)) x is in
      if_some (RecordOn files_open hdu) h.0.recorder x h.2
      (all_at (HandOn told is_open files_open hdu) hands (8 % length hands) h.0 h.1 on).recorder

-- ---- the shards' ends

pub none_stands : (o : Observation) (k : ℕ) (e : EngineState) → StandsForPart o [] e → StandsAt o k [] e
none_stands o k e stands =
    rw (none_ended, not_below_zero k, nothing k) stands

pub below_true : (a b : ℕ) → a < b → nat_lt a b ≡ true
below_true a b less = grind (arith, nat_tests)

-- the book of an engine that searched all data of its transfer
book_is : (o : Observation) (bytes : List ℕ) (e f : EngineState) → SameShard f e → HasSearched o bytes f →
    f.book ≡ book_of e.search.max_candidates (shard_part e.search e.shard (candidates_of o e.search bytes))
book_is o bytes e f same searched = rw (same.search, same.shard) at searched.book

module _ {I F : Type 0} (hdu : Hdu) (transfers : ℕ) (banks : List (Option Bank)) (end : SessionEnd I F)
    (ending : IsEnding transfers (sealed_at_end end.blocks) end.feed) (s : ℕ) (x : ShardActor)
    (number : shard_number x ≡ s) (is_end : IsEndOf end s x) (on : ShardOn hdu x) (ended : x.ended ≡ true)
    (of : IsOfBank banks x) (bank : Bank) (at : HasBank banks s bank)
    (count : length (engines_of bank) ≡ transfers) where
  follow : EnginesFollow [] (shard_cleared x) (engines_of bank) (engines_of x.part)
  follow = of bank (rw number at)

  over : is_over transfers (shard_cleared x) ≡ true
  over = rw (follow.count, count) at (sym on.over ∙ ended)

  pub cleared_all : shard_cleared x ≡ sealed_at_end end.blocks
  cleared_all =
      let none = ending.once (shard_cleared x) is_end.begins.0 (sym is_end.begins.1) over in
      sym (rw (none, append-nil) at is_end.begins.1)

  pub cleared_at : cleared_at_end end.blocks s ≡ sealed_at_end end.blocks
  cleared_at = is_end.cleared ∙ cleared_all

  pub searched : (bytes : ℕ) → end.feed ≡ Whole bytes → (transfer : ℕ) (e : EngineState) (o : Observation) →
      HasEngine (engines_of bank) transfer e → StandsForData o [] e → IsSearched end transfer s o e
  searched bytes whole transfer e o has stands =
      let f = follow.each transfer e has in
      let near = slice_get_within (engines_of bank) transfer (Some e) has in
      let all = ending.all bytes whole in
      let below : nat_lt transfer (ended_transfers (sealed_at_end end.blocks)) ≡ true =
      below_true transfer (ended_transfers (sealed_at_end end.blocks)) (omega arith) in
      let stood : StandsAt o transfer (sealed_at_end end.blocks) f.0 =
      rw cleared_all at (f.2.stands o (none_stands o transfer e stands.part)) in
      let through : HasEnded o (data_through end transfer) f.0 = rw below at stood in
      let done : HasSearched o (data_through end transfer) f.0 = through.searched (f.2.scope ∙ stands.whole) in
      record {
        book = rw (book_is o (data_through end transfer) e f.0 f.2.same done) at (is_end.books transfer f.0 f.1);
        spectra = λ first. rw done.spectra at (is_end.spectra first transfer f.0 f.1);
      }

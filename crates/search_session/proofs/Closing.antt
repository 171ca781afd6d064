-- A session from its staffing to its end.
use Rattle.std.proofs.Common.{◌≡◌, ℕ, ◌%◌, ◌<◌, List, [], ◌++◌, length, take, drop, Option, Some, None, slice_get, refl, ◌∙◌, arith}
use Rattle.std.specs.Prelude.{All, IfSome}
use Rattle.std.proofs.lemmas.Option.{slice_get_within}
use Rattle.psr_base.specs.Told.{Told}
use Rattle.psr_base.specs.Made.{FilesSeen}
use Rattle.dada_hdu.specs.declared.hdu.Hdu.{Hdu}
use Rattle.dada_hdu.specs.Passes.{number_of}
use Rattle.dada_model.specs.Observation.{Observation}
use Rattle.candidate_book.specs.Book.{BookContents}
use Rattle.search_engine.specs.Engine.{EngineState, StandsForData}
use Rattle.disk_feeder.specs.declared.answers.FeedEnd.TheVariants.{Whole}
use Rattle.disk_feeder.specs.Feeding.{IsEnding}
use Rattle.ring_ends.specs.Ended.{sealed_at_end, cleared_at_end}
use Rattle.disk_feeder.specs.Feeder.{plan_at, has_end, FeederFaultless}
use Rattle.disk_feeder.specs.Turns.{sealed_headers, sealed_blocks}
use Rattle.dada_recorder.specs.declared.recorder.Recorder.{Recorder}
use Rattle.session_readers.specs.declared.bank.Bank.{Bank}
use Rattle.search_session.specs.declared.feed.FeedActor.{FeedActor}
use Rattle.session_readers.specs.declared.shard.ShardActor.{ShardActor}
use Rattle.session_readers.specs.declared.record.RecordActor.{RecordActor}
use Rattle.search_session.specs.declared.hand.Hand.{Hand}
use Rattle.search_session.specs.declared.ended.SessionEnd.{SessionEnd}
use Rattle.session_readers.specs.Shards.{shard_number}
use Rattle.search_session.specs.Feeds.{FeedOn}
use Rattle.search_session.specs.Hands.{HandOn, HandMoved, HandEnded, EachMoved}
use Rattle.search_session.specs.Gathering.{recorder_of, recorder_in}
use Rattle.search_session.specs.Stages.{IsUnfed, IsFreshRecorder, HasFeeder, HasShard, HasRecorder, RecorderWorks, IsInHand, AreOfBanks, recorder_count}
use Rattle.session_readers.specs.Banks.{HasEngine, engines_of}
use Rattle.search_session.specs.Books.{HasBank, HasBook, AreCounted}
use Rattle.search_session.specs.Ends.{HaveEnginesIn, recorder_passes}
use Rattle.search_session.specs.Recorded.{HasNoRecording, RecordedAnswers}
use Rattle.search_session.specs.Sessions.{FeedAnswers, IsSearched, ShardAnswers, IsEndOf, IsEndOfRecorder}
use Rattle.search_session.proofs.Rows.{all_at, one_at, all_written}
use Rattle.search_session.proofs.Working.{feeder_stays, shard_stays, banks_stay, recorder_stays}
use Rattle.search_session.proofs.Ending.{on_in, ended_in, of_bank_in, feeder_on, recorder_on, recorder_ended, cleared_at, searched}
use Rattle.search_session.proofs.FeedEnds.{SessionLaws, feed_answers, is_ending, keep_up, headers_sealed, all_few}
use Rattle.search_session.proofs.Recordings.{some_end, recorded_by}
use Rattle.search_session.proofs.Holding.{held_found}

-- ---- the recorder of a stage in its hand

module _ {I F : Type 0} (seen : F → FilesSeen) (number : ℕ) (hands : List (Hand I F)) where
  -- no hand has one
  none_at : (slot : Option (Hand I F)) → ((h : Hand I F) → slot ≡ Some h → h.recorder ≡ None) → recorder_of slot ≡ None
  none_at None none = refl
  none_at (Some h) none = none h refl

  pub works_none : All (λ (h : Hand I F). h.recorder ≡ None) hands → recorder_in hands ≡ None
  works_none none = none_at (slice_get hands (8 % length hands))
      (λ h at. all_at (λ (g : Hand I F). g.recorder ≡ None) hands (8 % length hands) h at none)

  pub works_some : (start : RecordActor F) → (has : HasRecorder seen start hands) →
      recorder_in hands ≡ Some has.recorder
  works_some start has = rw has.there has.works

  pub works_count : (recorder : Option (Recorder F)) → RecorderWorks seen recorder number hands →
      length (recorder_passes (recorder_in hands)) ≡ recorder_count recorder
  works_count None none = rw (works_none none) refl
  works_count (Some part) works = rw (works_some works.0 works.2) refl

  pub works_last : (recorder : Option (Recorder F)) → RecorderWorks seen recorder number hands →
      IfSome (recorder_in hands) (λ (x : RecordActor F). number_of x.pass ≡ number)
  works_last None none = rw (works_none none) tt
  works_last (Some part) works = rw (works_some works.0 works.2) (works.2.moved.number ∙ works.1.number_is)

module _ {I F : Type 0} (told : I → Told) (is_open is_calm : I → Type 0) (faults : I → ℕ) (files_open : F → Type 0)
    (seen : F → FilesSeen) where
  -- the hands once all actors have ended
  pub record AllEnded (hdu : Hdu) (start : FeedActor I) (banks : List (Option Bank)) (recorder : Option (Recorder F))
      (hands : List (Hand I F)) : Type 0 where
    pub on : All (HandOn told is_open files_open hdu) hands
    pub ended : All HandEnded hands
    pub feeder : HasFeeder told is_calm faults start hands
    pub shards : (s : ℕ) → s < length banks → HasShard hands s
    pub of_banks : AreOfBanks banks hands
    pub recorder_works : RecorderWorks seen recorder (length banks) hands

  all_ended : (hdu : Hdu) (start : FeedActor I) (banks : List (Option Bank)) (recorder : Option (Recorder F))
      (old new : List (Hand I F)) (n : ℕ) →
      EachMoved (HandMoved told is_calm faults seen n) old new → HasFeeder told is_calm faults start old →
      ((s : ℕ) → s < length banks → HasShard old s) → AreOfBanks banks old →
      RecorderWorks seen recorder (length banks) old →
      All (HandOn told is_open files_open hdu) new → All HandEnded new → AllEnded hdu start banks recorder new
  all_ended hdu start banks recorder old new n moved feeder shards of works on ended = record {
    on = on;
    ended = ended;
    feeder = feeder_stays told is_calm faults seen n old new moved start feeder;
    shards = λ s near. shard_stays told is_calm faults seen n old new moved s (shards s near);
    of_banks = banks_stay told is_calm faults seen n old new moved banks of;
    recorder_works = recorder_stays told is_calm faults seen n old new moved recorder (length banks) works;
  }

  -- the same, where the hands are seen through the slices of their Vec
  pub hands_ended : (hdu : Hdu) (start : FeedActor I) (banks : List (Option Bank)) (recorder : Option (Recorder F))
      (items first two last : List (Hand I F)) (len n : ℕ) → first ≡ items → length first ≡ len →
      last ≡ take len (two ++ drop (length two) items) →
      EachMoved (HandMoved told is_calm faults seen n) first two → HasFeeder told is_calm faults start items →
      ((s : ℕ) → s < length banks → HasShard items s) → AreOfBanks banks items →
      RecorderWorks seen recorder (length banks) items →
      All (HandOn told is_open files_open hdu) two → All HandEnded two → AllEnded hdu start banks recorder last
  hands_ended hdu start banks recorder items first two last len n shown long written moved
      feeder shards of works on ended =
      rw (written, all_written len items two (moved.count ∙ long)) (all_ended hdu start banks recorder items two n
      (rw shown at moved) feeder shards of works on ended)

  -- a session that ended
  module _ (hdu : Hdu) (start : FeedActor I) (banks : List (Option Bank)) (recorder : Option (Recorder F))
      (hands : List (Hand I F)) (transfers : ℕ) (unfed : (s : ℕ) → s < length banks →
      (bank : Bank) × (slice_get banks s ≡ Some (Some bank)) × IsUnfed transfers bank)
      (all : AllEnded hdu start banks recorder hands) where
    -- each shard has as many engines as its bank
    pub have_engines : HaveEnginesIn hands (length banks) transfers
    have_engines = λ x is near.
        let h = unfed (shard_number x) near in
        (of_bank_in banks hands x all.of_banks is h.0 h.1).count ∙ h.2.count

    module _ (laws : SessionLaws I) (end : SessionEnd I F) (feed : all.feeder.feeder.end ≡ Some end.feed)
        (inputs : end.inputs.now ≡ all.feeder.feeder.part.inputs.now)
        (sealed : sealed_at_end end.blocks ≡ sealed_blocks all.feeder.feeder.pass) where
      feeder_is_on : FeedOn told is_open hdu all.feeder.feeder
      feeder_is_on = feeder_on told is_open files_open hdu hands all.on all.feeder.hand
          all.feeder.feeder all.feeder.there all.feeder.works

      pub feed_is : end.inputs.ghost_name ≡ all.feeder.feeder.part.inputs.ghost_name → has_end start.part ≡ None →
          FeederFaultless start.part → FeedAnswers told is_calm faults start.part end
      feed_is = feed_answers laws told is_open faults hdu start all.feeder.feeder all.feeder.turns
          all.feeder.moved feeder_is_on end feed inputs sealed

      ending : IsEnding (length (plan_at start.part).starts) (sealed_at_end end.blocks) end.feed
      ending = is_ending laws told is_open faults hdu start all.feeder.feeder all.feeder.turns
          all.feeder.moved feeder_is_on end feed inputs sealed

      -- ---- shards

      module _ (same : length (plan_at start.part).starts ≡ transfers)
          (counted : AreCounted (length banks) transfers end.books.items end.spectra.items)
          (ends : (s : ℕ) → s < length banks → (x : ShardActor) × IsInHand hands x × (shard_number x ≡ s)
          × IsEndOf end s x)
        where
          ends_so : IsEnding transfers (sealed_at_end end.blocks) end.feed
          ends_so = rw same at ending

          all_cleared : (s : ℕ) → s < length banks → cleared_at_end end.blocks s ≡ sealed_at_end end.blocks
          all_cleared s near =
              let e = ends s near in
              let h = unfed s near in
              cleared_at hdu transfers banks end ends_so s e.0 e.2 e.3
              (on_in told is_open files_open hdu hands all.on e.0 e.1) (ended_in hands e.0 all.ended e.1)
              (of_bank_in banks hands e.0 all.of_banks e.1) h.0 h.1 h.2.count

          book_there : (k s : ℕ) → k < transfers → s < length banks →
              (book : BookContents) × HasBook end.books.items k s book
          book_there k s below near =
              let x = ends s near in
              let number : shard_number x.0 ≡ s = x.2 in
              let many : length (engines_of x.0.part) ≡ transfers = have_engines x.0 x.1 (omega arith) in
              let engine = (on_in told is_open files_open hdu hands all.on x.0 x.1).engines k (omega arith) in
              (engine.0.book, x.3.books k engine.0 engine.1)

          all_searched : (bytes : ℕ) → end.feed ≡ Whole bytes → (transfer s : ℕ) (bank : Bank) (e : EngineState)
              (o : Observation) → HasBank banks s bank → HasEngine (engines_of bank) transfer e →
              StandsForData o [] e → IsSearched end transfer s o e
          all_searched bytes whole transfer s bank e o at has stands =
              let near = slice_get_within banks s (Some bank) at in
              let x = ends s near in
              let h = unfed s near in
              let this : h.0 ≡ bank = one_at banks s h.0 bank h.1 at in
              searched hdu transfers banks end ends_so s x.0 x.2 x.3
              (on_in told is_open files_open hdu hands all.on x.0 x.1) (ended_in hands x.0 all.ended x.1)
              (of_bank_in banks hands x.0 all.of_banks x.1) bank at
              (rw this at h.2.count)
              bytes whole transfer e o has stands

          pub shards_are : ShardAnswers transfers banks end
          shards_are = record {
            cleared = all_cleared;
            counted = counted;
            there = book_there;
            searched = all_searched;
            held = λ search o found bytes whole opened found_is.
                held_found transfers banks end counted (all_searched bytes whole) search o found opened found_is;
          }

      -- ---- the recorder

      pub recorded_are : IfSome recorder (IsFreshRecorder files_open hdu) →
          ((x : RecordActor F) → recorder_in hands ≡ Some x →
          IsEndOfRecorder end (length banks) (sealed_headers all.feeder.feeder.pass) x) →
          (recorder_in hands ≡ None → HasNoRecording end) →
          RecordedAnswers files_open seen start.part recorder (length banks) end
      recorded_are fresh ends none = by_cases recorder all.recorder_works fresh
        where
          by_cases : (r : Option (Recorder F)) → RecorderWorks seen r (length banks) hands →
              IfSome r (IsFreshRecorder files_open hdu) →
              RecordedAnswers files_open seen start.part r (length banks) end
          by_cases None works fresh = none (works_none seen (length banks) hands works)
          by_cases (Some part) works fresh =
              let has = works.2 in
              let there = works_some seen (length banks) hands works.0 has in
              let f = all.feeder.feeder in
              let answer = some_end has.recorder.end (recorder_ended hands has.recorder all.ended there) in
              recorded_by seen files_open hdu part fresh (length banks) has.turns works.0 has.recorder works.1 has.moved
              (recorder_on told is_open files_open hdu hands all.on has.recorder there) laws.recordings start.part end
              (sealed_headers f.pass)
              (headers_sealed laws told is_open faults hdu start f all.feeder.turns
              all.feeder.moved feeder_is_on end feed inputs sealed)
              (keep_up laws told is_open faults hdu start f all.feeder.turns all.feeder.moved feeder_is_on end
              feed inputs sealed)
              ending
              (all_few laws told is_open faults hdu start f all.feeder.turns all.feeder.moved feeder_is_on end
              feed inputs sealed)
              (length banks) (ends has.recorder there) answer.0 answer.1

-- What the beams of a set came to.
use Rattle.std.proofs.Common.{◌≡◌, ℕ, ◌<◌, List, [], ◌∷◌, length, get_or, slice_get, All, Option, Some, None, refl, sym, ap, ◌∙◌, subst, arith}
use Rattle.psr_base.specs.Told.{Told}
use Rattle.dada_model.specs.Observation.{Observation, edges}
use Rattle.search_model.specs.declared.candidate.Candidate.{Candidate}
use Rattle.search_model.specs.declared.search.Search.{Search}
use Rattle.search_model.specs.Search.{in_one_shard}
use Rattle.search_model.specs.Candidates.{plain_cells, shard_part}
use Rattle.search_model.specs.CandidateLaws.{OneShardIsAll}
use Rattle.search_model.specs.Observed.{filterbank_of, candidates_of}
use Rattle.candidate_book.specs.Book.{BookContents, book_of}
use Rattle.stream_model.specs.Blocks.{transfer_bytes}
use Rattle.ring_ends.specs.Ended.{sealed_at_end}
use Rattle.search_engine.specs.Engine.{EngineState, HasSearched}
use Rattle.disk_feeder.specs.declared.answers.FeedEnd.{FeedEnd}
use Rattle.disk_feeder.specs.declared.answers.FeedEnd.TheVariants.{Whole}
use Rattle.disk_feeder.specs.Resting.{feeder_over}
use Rattle.search_session.specs.declared.lone.LoneEnd.{LoneEnd}
use Rattle.session_readers.specs.Banks.{HasEngine, engines_of}
use Rattle.search_session.specs.LoneEnds.{LoneAnswers, LoneSessionsEnd}
use Rattle.search_session.specs.Sessions.{FeedAnswers, data_through}
use Rattle.beam_set.specs.declared.ended.BeamEnd.{BeamEnd}
use Rattle.beam_set.specs.declared.beam.Beam.{Beam}
use Rattle.beam_set.specs.Beam.{engines_in, feeder_in, session_in}
use Rattle.beam_set.specs.Laws.{HoldsData}
use Rattle.beam_set.specs.Answers.{BeamAnswers, SearchesAll, session_of}
use Rattle.beam_set.specs.Sets.{EachPair, PairsMoved, SlotBegins, SlotOn, SlotMoved, HasSlotEnded, CanClose, IsSlotEnd, SlotAnswers, AreSetEnds, SetAnswers}

-- a list that is not empty has an element
an_element : {A : Type 0} (xs : List A) (k : ℕ) → k < length xs → A
an_element [] k near = absurd (omega arith)
an_element (x ∷ xs) k near = x

-- an engine that is alone stands at the first place
alone_there : (engines : List (Option EngineState)) (e : EngineState) → engines ≡ Some e ∷ [] → HasEngine engines 0 e
alone_there engines e is = ap (λ l. slice_get l 0) is

-- two engines at one place are one
same_engine : (engines : List (Option EngineState)) (k : ℕ) (e f : EngineState) → HasEngine engines k e →
    HasEngine engines k f → e ≡ f
same_engine engines k e f at_e at_f = inside e f (sym at_e ∙ at_f)
  where
    inside : (a b : EngineState) → Some (Some a) ≡ Some (Some b) → a ≡ b
    inside a b e = cc

-- what an engine of one shard has searched is all that is found
all_found : OneShardIsAll → (s : Search) (o : Observation) (bytes : List ℕ) (f : EngineState) →
    f.search ≡ in_one_shard s → f.shard ≡ 0 → HasSearched o bytes f →
    f.book ≡ book_of s.max_candidates (candidates_of o s bytes)
all_found one s o bytes f search shard searched =
    let at : Search → ℕ → BookContents = λ t k. book_of t.max_candidates (shard_part t k (candidates_of o t bytes)) in
    searched.book ∙ ap (λ (t : Search). at t f.shard) search ∙ ap (at (in_one_shard s)) shard
    ∙ ap (λ (list : List Candidate). book_of s.max_candidates list)
    (one (filterbank_of o bytes) (edges o) (plain_cells o.channels) (in_one_shard s) refl)

-- beams that begin can take turns
slot_on : {I : Type 0} (told : I → Told) (is_open : I → Type 0) (slot : Option Beam) (lent : I) →
    SlotBegins told is_open slot lent → SlotOn told is_open slot lent
slot_on told is_open None lent begins = absurd begins
slot_on told is_open (Some beam) lent begins = (begins.0.session.on, begins.1)

pub begin_on : {I : Type 0} (told : I → Told) (is_open : I → Type 0) (xs : List (Option Beam)) (lent : List I) →
    EachPair (SlotBegins told is_open) xs lent → EachPair (SlotOn told is_open) xs lent
begin_on told is_open xs lent begin = record {
  count = begin.count;
  each = λ k x y near. slot_on told is_open (get_or xs k x) (get_or lent k y) (begin.each k x y near);
}

module _ {I : Type 0} (told : I → Told) (is_open is_calm : I → Type 0) (faults : I → ℕ) (one : OneShardIsAll)
    (law : LoneSessionsEnd told is_calm faults) where
  module _ (start : Beam) (before after : I) (end : BeamEnd) (session : LoneEnd) (feed_is : end.feed ≡ session.feed)
      (answers : LoneAnswers told is_calm faults (session_in start) before after session) (engine : EngineState)
      (has : HasEngine (engines_of session.bank) 0 engine) (book_is : end.book ≡ engine.book)
      (spectra_is : end.spectra ≡ engine.sums.carry.fed) where
    -- the end with another end of its feeder
    abbrev with_feed : FeedEnd → BeamEnd
    with_feed feed = record { feed = feed; book = end.book; spectra = end.spectra }

    feed_answers : FeedAnswers told is_calm faults (feeder_over before (feeder_in start))
        (session_of after end session.blocks)
    feed_answers =
        subst (λ (feed : FeedEnd). FeedAnswers told is_calm faults (feeder_over before (feeder_in start))
        (session_of after (with_feed feed) session.blocks)) (sym feed_is) answers.feed

    held : (s : Search) (o : Observation) (bytes : ℕ) → end.feed ≡ Whole bytes → SearchesAll s o start →
        HoldsData o s (data_through (session_of after end session.blocks) 0) (Some end)
    held s o bytes whole searches =
        let went = answers.bank.searched bytes (sym feed_is ∙ whole) 0 searches.engine
        (alone_there (engines_in start) searches.engine searches.engine_is) in
        let f = went.0 in
        let same = same_engine (engines_of session.bank) 0 engine f has went.1 in
        let through = went.2 in
        let searched = (through.stands o searches.stands.part).searched (through.scope ∙ searches.stands.whole) in (
          book_is ∙ ap (λ (e : EngineState). e.book) same
              ∙ all_found one s o (transfer_bytes 0 (sealed_at_end session.blocks)) f
              (through.same.search ∙ searches.opened.search_is) (through.same.shard ∙ searches.opened.shard_is)
              searched,
          spectra_is ∙ ap (λ (e : EngineState). e.sums.carry.fed) same ∙ searched.spectra,
        )

    beam_answers : BeamAnswers told is_calm faults start before after end
    beam_answers = record { blocks = session.blocks; feed = feed_answers; held = held }

  pub slot_answers : (n : ℕ) (x y : Option Beam) (before after : I) (end : Option BeamEnd) →
      SlotBegins told is_open x before → SlotMoved told is_calm faults n before x after y → SlotOn told is_open y after →
      HasSlotEnded y → IsSlotEnd y end → SlotAnswers told is_calm faults x before after end
  slot_answers n None y before after end begins moved on ended closed = absurd begins
  slot_answers n (Some x) None before after end begins moved on ended closed = absurd moved
  slot_answers n (Some x) (Some y) before after None begins moved on ended closed = absurd closed
  slot_answers n (Some x) (Some y) before after (Some end) begins moved on ended closed =
      beam_answers x before after end closed.session closed.feed_is
      (law (session_in x) (session_in y) before after n closed.session begins.0.session moved on.0 ended closed.closed)
      closed.engine closed.has_engine closed.book_is closed.spectra_is

  pub set_answers : (n : ℕ) (xs ys : List (Option Beam)) (before after : List I) (ends : List (Option BeamEnd)) →
      EachPair (SlotBegins told is_open) xs before → PairsMoved (SlotMoved told is_calm faults n) before xs after ys →
      EachPair (SlotOn told is_open) ys after → All HasSlotEnded ys → AreSetEnds ys ends →
      SetAnswers told is_calm faults xs before after ends
  set_answers n xs ys before after ends begin moved on ended closed =
      let count = moved.count in
      record {
        count = closed.count ∙ moved.count;
        inputs_count = moved.lent;
        each = λ b lent near.
            slot_answers n (get_or xs b None) (get_or ys b None) (get_or before b lent) (get_or after b lent)
            (get_or ends b None) (begin.each b None lent near) (moved.moved b None lent near)
            (on.each b None lent (omega (arith, count))) (ended b None (omega (arith, count)))
            (closed.each b (omega (arith, count)));
        others = moved.others;
      }

  -- ---- that beams can be closed

  slot_can_close : (n : ℕ) (x y : Option Beam) (before after : I) → SlotBegins told is_open x before →
      SlotMoved told is_calm faults n before x after y → SlotOn told is_open y after → HasSlotEnded y → CanClose y
  slot_can_close n None y before after begins moved on ended = absurd begins
  slot_can_close n (Some x) None before after begins moved on ended = absurd moved
  slot_can_close n (Some x) (Some y) before after begins moved on ended =
      let f = moved.shard.engines.each 0 begins.0.engine
      (alone_there (engines_in x) begins.0.engine begins.0.engine_is) in
      ((told after, on.0), ended, (f.0, f.1))

  pub can_close : (n : ℕ) (xs ys : List (Option Beam)) (before after : List I) →
      EachPair (SlotBegins told is_open) xs before → PairsMoved (SlotMoved told is_calm faults n) before xs after ys →
      EachPair (SlotOn told is_open) ys after → All HasSlotEnded ys → All CanClose ys
  can_close n xs ys before after begin moved on ended = λ k d near.
      let count = moved.count in
      let less = begin.count in
      let lent = an_element before k (omega (arith, count, less)) in
      slot_can_close n (get_or xs k d) (get_or ys k d) (get_or before k lent) (get_or after k lent)
      (begin.each k d lent (omega (arith, count))) (moved.moved k d lent (omega (arith, count)))
      (on.each k d lent near) (ended k d near)

-- What a beam answers. No word of it speaks of another beam.
-- Source: this project's choice.
use Rattle.std.specs.Prelude.{◌≡◌, ℕ, ⊤, [], ◌∷◌, Some, None}
use Rattle.psr_base.specs.Told.{Told}
use Rattle.dada_model.specs.Observation.{Observation}
use Rattle.search_model.specs.declared.search.Search.{Search}
use Rattle.search_model.specs.Search.{in_one_shard}
use Rattle.ring_ends.specs.declared.finished.Finished.{Finished}
use Rattle.search_engine.specs.Engine.{EngineState, IsOpenedEngine, StandsForData}
use Rattle.disk_feeder.specs.declared.answers.FeedEnd.TheVariants.{Whole}
use Rattle.disk_feeder.specs.Resting.{feeder_over}
use Rattle.search_session.specs.declared.ended.SessionEnd.{SessionEnd}
use Rattle.search_session.specs.declared.lone.LoneEnd.{LoneEnd}
use Rattle.session_readers.specs.Banks.{HasEngine, engines_of}
use Rattle.search_session.specs.Sessions.{FeedAnswers, data_through}
use Rattle.search_session.specs.LoneEnds.{IsLoneEnd}
use Rattle.beam_set.specs.declared.ended.BeamEnd.{BeamEnd}
use Rattle.beam_set.specs.declared.beam.Beam.{Beam}
use Rattle.beam_set.specs.Beam.{engines_in, feeder_in, session_in}
use Rattle.beam_set.specs.Laws.{HoldsData}

-- The end of a beam to which these inputs were lent, as that of a session that gives them back; these blocks went
-- through its data ring.
abbrev pub session_of : {I : Type 0} → I → BeamEnd → Finished → SessionEnd I ⊤
session_of lent end blocks = record {
  feed = end.feed;
  books = record { items = [] };
  spectra = record { items = [] };
  recorded = None;
  blocks = blocks;
  inputs = record { ref_ptr = (0, 0); ghost_name = 0; now = lent };
  files = None;
}

-- the engine of a beam searches all delays of an observation, and was fed nothing
pub record SearchesAll (s : Search) (o : Observation) (beam : Beam) : Type 0 where
  pub engine : EngineState
  pub engine_is : engines_in beam ≡ Some engine ∷ []
  pub opened : IsOpenedEngine engine (in_one_shard s) 0
  pub stands : StandsForData o [] engine

-- What a beam came to, which began over inputs that were `before`, and ended when they were `after`. Its feeder ended
-- where the walk of its own files does, or at a fault of its own inputs that they counted. Where all data of these
-- files went through, its book is that of their candidate list, and it counted their spectra.
pub record BeamAnswers {I : Type 0} (told : I → Told) (is_calm : I → Type 0) (faults : I → ℕ)
    (start : Beam) (before after : I) (end : BeamEnd) : Type 0 where
  pub blocks : Finished
  pub feed : FeedAnswers told is_calm faults (feeder_over before (feeder_in start))
      (session_of after end blocks)
  pub held : (s : Search) (o : Observation) (bytes : ℕ) → end.feed ≡ Whole bytes →
      SearchesAll s o start →
      HoldsData o s (data_through (session_of after end blocks) 0) (Some end)

-- ---- once a beam has ended

-- what was closed is what its session came to, with the book of its engine
pub record IsBeamEnd (beam : Beam) (end : BeamEnd) : Type 0 where
  pub session : LoneEnd
  pub closed : IsLoneEnd (session_in beam) session
  pub feed_is : end.feed ≡ session.feed
  pub engine : EngineState
  pub has_engine : HasEngine (engines_of session.bank) 0 engine
  pub book_is : end.book ≡ engine.book
  pub spectra_is : end.spectra ≡ engine.sums.carry.fed

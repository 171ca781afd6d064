use Rattle.std.proofs.Common.{refl, ap, ◌∙◌}
use Rattle.search_engine.specs.Engine.{EngineState}
use Rattle.session_readers.specs.Banks.{HasEngine, engines_of}
use Rattle.beam_set.proofs.beam.Beam.close.Goals as goal

pub engine_of-engine-requires : goal.engine_of-engine-requires
engine_of-engine-requires c = (
  c.requires.engine.0,
  rw c.close-feed.ensures.bank c.requires.engine.1,
)

pub returns : goal.returns
returns c =
    let e = c.requires.engine.0 in
    let has : HasEngine (engines_of c.close-feed.result.bank) 0 e =
    rw c.close-feed.ensures.bank c.requires.engine.1 in
    let is = c.engine_of-engine.ensures e has in
    record {
      session = c.close-feed.result;
      closed = c.close-feed.ensures;
      feed_is = refl;
      engine = e;
      has_engine = has;
      book_is = c.into_book.ensures ∙ ap (λ (f : EngineState). f.book) is;
      spectra_is = c.spectra-spectra.ensures ∙ ap (λ (f : EngineState). f.sums.carry.fed) is;
    }

-- The session of a beam of which all is opened.
use Rattle.std.proofs.Common.{◌≡◌, ℕ, zero, suc, ◌<◌, List, [], ◌∷◌, length, slice_get, Option, Some, sym, ap, ◌∙◌, arith}
use Rattle.psr_base.specs.Told.{Told}
use Rattle.search_engine.specs.Engine.{EngineState}
use Rattle.disk_feeder.specs.declared.feeder.FeederSpace.{FeederSpace}
use Rattle.session_readers.specs.Banks.{HasEngine, engines_of}
use Rattle.search_session.specs.Lone.{IsLoneReady, LoneBegins, bank_in, lone_bank}
use Rattle.beam_set.specs.declared.space.BeamSpace.{BeamSpace}
use Rattle.beam_set.specs.declared.beam.Beam.{Beam}
use Rattle.beam_set.specs.Beam.{BeamBegins, IsBeamReady, engines_held, session_in, session_space}

-- the one engine of a list
the_one : (engines : List (Option EngineState)) (e : EngineState) → engines ≡ Some e ∷ [] → (k : ℕ) → k < 1 →
    HasEngine engines k e
the_one engines e is zero near = ap (λ l. slice_get l 0) is
the_one engines e is (suc k) near = absurd (omega arith)

module _ (told : Told) (space : BeamSpace) (feeder : FeederSpace) (ready : IsBeamReady told space feeder) where
  pub lone_ready : IsLoneReady told (session_space space) feeder
  lone_ready =
      let one = ready.one_transfer in
      record {
        shape = ready.shape;
        header = ready.header;
        space_is = ready.space_is.rings;
        feeds = ready.feeds;
        transfers = omega (arith, one);
        engines = record {
          count = ap length ready.space_is.engine_is ∙ sym one;
          each = λ k near. (
            ready.engine,
            the_one (engines_held space) ready.engine ready.space_is.engine_is k (omega (arith, one)),
            ready.unfed,
            ready.running,
          );
        };
        few = ready.few;
      }

  pub beam_begins : (beam : Beam) → LoneBegins told (session_in beam) →
      lone_bank (session_in beam) ≡ bank_in (session_space space) → BeamBegins told beam
  beam_begins beam begins same = record {
    session = begins;
    engine = ready.engine;
    engine_is = ap (λ l. engines_of l) same ∙ ready.space_is.engine_is;
  }

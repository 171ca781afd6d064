use Rattle.search_words.specs.Settings.{settings_seen}
use Rattle.psr_beams.proofs.Joining.{HasAccepted, HasSpace, header_there, ready, joined}
use Rattle.psr_beams.proofs.opened.open_beam.Goals as goal
use Rattle.psr_beams.proofs.opened.open_beam.Goals.{After-accept}

pub header-requires : goal.header-requires
header-requires c =
    let can = c.requires.can in
    header_there can.0 (settings_seen c.args.settings.now) c.args.observation.now can.1 c.args.feeder can.2

pub accept-requires-clause-there : goal.accept-requires-clause-there
accept-requires-clause-there c =
    let can = c.requires.can in
    header_there can.0 (settings_seen c.args.settings.now) c.args.observation.now can.1 c.args.feeder can.2

pub accept-requires-clause-begun : goal.accept-requires-clause-begun
accept-requires-clause-begun c = (c.requires.can.0, c.requires.can.2.begun)

pub accept-requires-clause-accepted : goal.accept-requires-clause-accepted
accept-requires-clause-accepted c = c.requires.can.2.accepted

accepted : (c : After-accept) → HasAccepted c.args.feeder c.accept.new.self
accepted c = record {
  kept = c.accept.ensures.kept;
  feeds = c.accept.ensures.feeds;
  accepts = c.accept.ensures.accepts;
}

space : (c : After-accept) →
    HasSpace (settings_seen c.args.settings.now) c.args.observation.now c.args.feeder c.in_ok-space.space
space c = record {
  engine = c.args.engine;
  engine_is = c.requires.engine;
  text = c.header.result.now;
  header_is = c.header.ensures;
  shape = c.run_shape-shape.result;
  shape_is = c.run_shape-shape.ensures.shape;
  space_is = c.in_ok-space.ensures;
  total = c.run_shape-shape.ensures.total;
}

pub beam-requires : goal.beam-requires
beam-requires c =
    let here = (goal.at.beam-requires c).After-accept in
    let can = c.requires.can in
    record {
      ready = (
        can.0,
        ready can.0 (settings_seen c.args.settings.now) c.args.observation.now can.1 c.args.feeder can.2
            c.accept.new.self (accepted here) c.in_ok-space.space (space here),
      );
    }

pub returns : goal.returns
returns c = λ told name can.
    let here = (goal.at.returns c).After-accept in
    joined told (settings_seen c.args.settings.now) c.args.observation.now name c.args.feeder can c.accept.new.self
    (accepted here) c.in_ok-space.space (space here) c.beam.result c.beam.ensures.begins c.beam.ensures.feeder
    c.beam.ensures.engine

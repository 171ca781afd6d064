use Rattle.beam_tests.proofs.Ready.{HasAccepted, ready}
use Rattle.beam_tests.proofs.sets.beam_of.Goals as goal

pub beam-requires : goal.beam-requires
beam-requires c =
    let after = c.accept.ensures in
    let opened = c.in-Ok-open.ensures.opened in
    let accepted : HasAccepted c.args.feeder c.accept.new.self = record {
      plan = after.kept.plan;
      headers = after.kept.headers;
      feeds = after.feeds;
      faultless = after.kept.faultless;
      running = after.kept.running;
      accepts = after.accepts;
    } in
    let told = c.requires.begun.0 in
    record {
      ready = (
        told,
        ready _ c.args.feeder c.accept.new.self c.requires.plan.1 accepted told c.in_ok-space.space
            c.in-Ok-open.engine _ c.requires.begun.1 c.header-2.ensures c.in_ok-space.ensures opened.nothing_fed
            opened.running,
      );
    }

pub returns-clause-begins : goal.returns-clause-begins
returns-clause-begins c = λ told begun.
    let after = c.accept.ensures in
    let opened = c.in-Ok-open.ensures.opened in
    let accepted : HasAccepted c.args.feeder c.accept.new.self = record {
      plan = after.kept.plan;
      headers = after.kept.headers;
      feeds = after.feeds;
      faultless = after.kept.faultless;
      running = after.kept.running;
      accepts = after.accepts;
    } in
    c.beam.ensures.begins told (ready _ c.args.feeder c.accept.new.self c.requires.plan.1 accepted told
    c.in_ok-space.space c.in-Ok-open.engine _ begun c.header-2.ensures c.in_ok-space.ensures opened.nothing_fed
    opened.running)

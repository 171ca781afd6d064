use Rattle.disk_feeder.specs.Turns.{sealed_headers, sealed_blocks}
use Rattle.disk_feeder.proofs.feeder.Feeder.turn.Goals as goal

pub returns-clause-begins : goal.returns-clause-begins
returns-clause-begins g c = λ running.
    let old = c.args.self.now in
    let new = c.turn.new.pass in
    c.feeders_begin.ensures
    (record old { inputs = record old.inputs { now = c.turn.new.inputs }; stream = c.turn.new.self })
    (g.I.Inputs.told c.turn.new.inputs) (sealed_headers new) (sealed_blocks new) c.turn.ensures.feeding running

pub returns-clause-headers : goal.returns-clause-headers
returns-clause-headers g c =
    let old = c.args.self.now in
    let new = c.turn.new.pass in
    c.headers_are_first.ensures
    (record old { inputs = record old.inputs { now = c.turn.new.inputs }; stream = c.turn.new.self })
    (g.I.Inputs.told c.turn.new.inputs) (sealed_headers new) (sealed_blocks new) c.turn.ensures.feeding

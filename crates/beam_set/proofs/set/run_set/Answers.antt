use Rattle.beam_set.proofs.Answering.{begin_on, can_close, set_answers}
use Rattle.beam_set.proofs.set.run_set.Goals as goal

pub run_rounds-requires-clause-on : goal.run_rounds-requires-clause-on
run_rounds-requires-clause-on g c κs lives =
    begin_on g.I.Inputs.told g.I.Inputs.is_open c.args.beams.items c.args.inputs.now c.requires.begins

pub close_all-requires : goal.close_all-requires
close_all-requires g c =
    let told = g.I.Inputs.told in
    let is_open = g.I.Inputs.is_open in
    let is_calm = g.I.Inputs.is_calm in
    let faults = g.I.Inputs.faults in
    let rounds = c.run_rounds.ensures in
    can_close told is_open is_calm faults c.one_shard_is_all.ensures c.lone_sessions_end.ensures rounds.moved.0
    c.args.beams.items c.run_rounds.new.beams.items c.args.inputs.now c.run_rounds.new.inputs c.requires.begins rounds.moved.1
    rounds.on rounds.ended

pub returns : goal.returns
returns g c =
    let told = g.I.Inputs.told in
    let is_open = g.I.Inputs.is_open in
    let is_calm = g.I.Inputs.is_calm in
    let faults = g.I.Inputs.faults in
    let rounds = c.run_rounds.ensures in
    set_answers told is_open is_calm faults c.one_shard_is_all.ensures c.lone_sessions_end.ensures rounds.moved.0
    c.args.beams.items c.run_rounds.new.beams.items c.args.inputs.now c.run_rounds.new.inputs c.close_all.result.items
    c.requires.begins rounds.moved.1 rounds.on rounds.ended c.close_all.ensures

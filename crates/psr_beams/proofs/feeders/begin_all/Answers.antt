use Rattle.std.proofs.Common.{◌<◌, length, arith}
use Rattle.search_words.specs.Settings.{settings_seen}
use Rattle.psr_beams.proofs.Begun.{read_more, begun_more}
use Rattle.psr_beams.proofs.feeders.begin_all.Goals as goal

pub loop-beam-preserved : goal.loop-beam-preserved
loop-beam-preserved g c =
    let s = settings_seen c.args.settings.now in
    let inv = c.loop-beam.invariant in
    let lent = inv.read.lent in
    let seven = c.requires.lent in
    let few = c.requires.few in
    let below = c.loop-beam-test.true in
    let within : c.loop-beam.beam < length c.loop-beam.inputs = omega arith in
    record {
      read = read_more g.I.Inputs.told g.I.Inputs.is_open g.I.Inputs.is_calm g.I.Inputs.faults s c.loop-beam.beam
          c.args.inputs.now c.loop-beam.inputs c.index-inputs-beam.result c.begin_beam.new.inputs inv.read within
          c.in-Ok.ensures.read;
      begun = begun_more g.I.Inputs.told g.I.Inputs.is_open g.I.Inputs.is_calm g.I.Inputs.faults s c.loop-beam.beam
          c.args.inputs.now c.loop-beam.inputs c.index-inputs-beam.result c.begin_beam.new.inputs
          c.loop-beam.slots.items c.push.new.self.items c.in-Ok.space inv.read inv.begun within c.in-Ok.ensures.begun
          c.push.ensures.items;
    }

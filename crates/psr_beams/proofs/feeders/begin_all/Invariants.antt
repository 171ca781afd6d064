use Rattle.search_words.specs.Settings.{settings_seen}
use Rattle.psr_beams.specs.Feeders.{AreRead, AreBegun}
use Rattle.psr_beams.proofs.feeders.begin_all.Given as goal

-- the headers of the beams before were read
abbrev pub invariant-loop-beam : goal.invariant-loop-beam
invariant-loop-beam g l = record {
  read : AreRead g.I.Inputs.told g.I.Inputs.is_calm g.I.Inputs.faults (settings_seen l.settings) l.beam l.fn.inputs
      l.inputs;
  begun : AreBegun g.I.Inputs.told g.I.Inputs.is_open (settings_seen l.settings) l.beam l.fn.inputs l.inputs
      l.slots.items;
}

use Rattle.std.proofs.Common.{◌≡◌, None}
use Rattle.dada_hdu.specs.Passes.{WritesBoth, ReadsBoth}
use Rattle.disk_feeder.specs.Feeder.{has_end}
use Rattle.disk_feeder.specs.Resting.{FeederStands}
use Rattle.stream_tests.proofs.feeding.take_turns.Given as goal

abbrev pub invariant-loop-turn : goal.invariant-loop-turn
invariant-loop-turn g l =
    let i = g.I.Inputs in
    record {
      writes : WritesBoth l.hdu l.pass;
      reads : ReadsBoth l.hdu l.reader;
      running : has_end l.feeder ≡ None;
      stands : FeederStands i.told i.is_open l.hdu l.feeder l.pass;
    }

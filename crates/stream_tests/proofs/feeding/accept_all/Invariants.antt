use Rattle.std.proofs.Common.{◌≡◌, ℕ, ◌<◌, [], Some, take}
use Rattle.std.specs.Prelude.{slice_get}
use Rattle.dada_model.specs.Fields.{HeaderText}
use Rattle.disk_feeder.specs.Feeder.{KeepsBegun, FeederFeeds, IsBegun, IsAcceptedAt, AllAccepted, headers_of}
use Rattle.disk_feeder.specs.Feeding.{header_entries}
use Rattle.stream_tests.proofs.feeding.accept_all.Given as goal

abbrev pub invariant-loop-k : goal.invariant-loop-k
invariant-loop-k g l =
    let i = g.I.Inputs in
    record {
      begun : IsBegun (i.told l.feeder.inputs.now) l.feeder;
      same_reference : l.feeder.inputs.ghost_name ≡ l.fn.feeder.inputs.ghost_name;
      inputs : l.feeder.inputs.now ≡ l.fn.feeder.inputs.now;
      kept : KeepsBegun l.fn.feeder l.feeder;
      accepted : (j : ℕ) (header : HeaderText) → j < l.k → slice_get (headers_of l.feeder) j ≡ Some header →
          IsAcceptedAt l.feeder j header;
      feeds : 0 < l.k → AllAccepted l.feeder →
          FeederFeeds (i.told l.feeder.inputs.now) l.feeder (header_entries (take 1 (headers_of l.feeder))) [];
    }

use Rattle.std.proofs.Common.{ℕ, ◌≡◌, ◌<◌, [], None, Some, slice_get, take}
use Rattle.psr_base.specs.Told.{Told}
use Rattle.dada_model.specs.Fields.{HeaderText}
use Rattle.disk_feeder.specs.Feeder.{IsBegun, SamePlan, AllAccepted, IsAcceptedAt, FeederFeeds, FeederFaultless, FeederRead, HasOpenFile, headers_of, has_end}
use Rattle.disk_feeder.specs.Feeding.{header_entries}
use Rattle.search_opening.proofs.accept.accept_all.Given as goal

-- the observations before were accepted
abbrev pub invariant-loop-k : goal.invariant-loop-k
invariant-loop-k g l = record {
  same_reference : l.feeder.inputs.ghost_name ≡ l.fn.feeder.inputs.ghost_name;
  inputs : l.feeder.inputs.now ≡ l.fn.feeder.inputs.now;
  plan : SamePlan l.fn.feeder l.feeder;
  headers : headers_of l.feeder ≡ headers_of l.fn.feeder;
  begun : IsBegun (g.I.Inputs.told l.feeder.inputs.now) l.feeder;
  accepted : (j : ℕ) (header : HeaderText) → j < l.k → slice_get (headers_of l.feeder) j ≡ Some header →
      IsAcceptedAt l.feeder j header;
  reads_on : (before told : Told) → FeederRead before told l.fn.feeder → FeederRead before told l.feeder;
  reading : HasOpenFile l.feeder → HasOpenFile l.fn.feeder;
  feeds : 0 < l.k → AllAccepted l.feeder → FeederFeeds (g.I.Inputs.told l.feeder.inputs.now) l.feeder
      (header_entries (take 1 (headers_of l.feeder))) [];
  faultless : 0 < l.k → FeederFaultless l.feeder;
  running : 0 < l.k → has_end l.feeder ≡ None;
}

use Rattle.std.proofs.Common.{ap}
use Rattle.disk_feeder.specs.Sources.{plan_of}
use Rattle.disk_feeder.proofs.Cutting.{cut_begun, cut_read}
use Rattle.disk_feeder.proofs.feeder.Feeder.cut_blocks.Goals as goal

pub returns-clause-cut : goal.returns-clause-cut
returns-clause-cut g c =
    let old = c.args.self.now.stream in
    let new = c.cut_blocks.new.self in
    let is = c.cut_blocks.ensures in
    record {
      size_is = is.size;
      plan = ap plan_of is.source;
      place = ap (λ s. s.place) is.source;
      running = is.end;
      begun = cut_begun old new is.source is.held is.due is.header_due is.end;
      reads_on = cut_read old new is.source is.due is.end;
    }

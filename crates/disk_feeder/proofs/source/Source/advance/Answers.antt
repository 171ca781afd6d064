use Rattle.std.proofs.Common.{length}
use Rattle.disk_feeder.proofs.source.Source.advance.Goals as goal

pub returns-in-Err-clause-read : goal.returns-in-Err-clause-read
returns-in-Err-clause-read g c = λ before current has.
    c.in-Err.ensures.read before current has (length c.args.into.now)

use Rattle.std.proofs.Common.{map}
use Rattle.std.specs.Prelude.{string_bytes}
use Rattle.psr_live.proofs.Said.{explains}
use Rattle.psr_live.proofs.words.live_words.Goals as goal

pub returns-in-Err-clause-fault : goal.returns-in-Err-clause-fault
returns-in-Err-clause-fault c =
    explains (map string_bytes c.args.words.now) c.in-Err.fault c.in-Some.ensures.form c.in-Err.ensures.fault

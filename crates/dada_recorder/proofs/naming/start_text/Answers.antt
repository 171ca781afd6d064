use Rattle.std.proofs.Common.{sym}
use Rattle.stream_model.specs.Recorded.{start_time}
use Rattle.dada_recorder.proofs.TimeForm.{time_length}
use Rattle.dada_recorder.proofs.naming.start_text.Goals as goal

pub returns-clause-len : goal.returns-clause-len
returns-clause-len c =
    time_length (start_time c.args.header.now) c.in-Some.time.now (sym c.in-Some.ensures) c.requires.time

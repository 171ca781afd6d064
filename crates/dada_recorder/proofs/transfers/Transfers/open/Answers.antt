use Rattle.std.proofs.Common.{refl}
use Rattle.dada_recorder.proofs.Opening.{fresh_runs}
use Rattle.dada_recorder.proofs.transfers.Transfers.open.Goals as goal

pub returns-clause-running : goal.returns-clause-running
returns-clause-running c =
    fresh_runs _ (rw c.in_ok-files.ensures.file_size c.requires.plan) refl refl refl refl c.in_ok-files.ensures.closed

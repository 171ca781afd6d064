use Rattle.dada_recorder.proofs.DataBlocks.{more_runs}
use Rattle.dada_recorder.proofs.transfers.Transfers.after_data.Goals as goal

pub returns-in-More-clause-stands : goal.returns-in-More-clause-stands
returns-in-More-clause-stands g c = λ headers blocks bytes has.
    rw c.in-More.is (more_runs c.entries_are_of_transfers.ensures c.ends_are_counted.ensures c.args.self.now headers
    blocks bytes (rw c.in-More.is at has))

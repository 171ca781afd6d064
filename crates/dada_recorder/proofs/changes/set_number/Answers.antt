use Rattle.std.proofs.Common.{sym, ◌∙◌}
use Rattle.dada_recorder.proofs.Refusals.{parts_of_fault, overfull}
use Rattle.dada_recorder.proofs.changes.set_number.Goals as goal

pub returns-in-Err-Overfull-clause-fault : goal.returns-in-Err-Overfull-clause-fault
returns-in-Err-Overfull-clause-fault c =
    let it = parts_of_fault c.in-Err-Overfull.field-0 in
    let full = rw it.2 at c.in-Err-Overfull.ensures.full.0 in
    let text = c.as_str.ensures.value ∙ c.padded_number-value.ensures.text in
    rw it.2 (rw (sym text) (overfull c.args.key.now c.as_str.result.now c.args.header.now it.0 it.1 full))

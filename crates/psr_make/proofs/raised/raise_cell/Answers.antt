use Rattle.std.proofs.Common.{arith}
use Rattle.psr_make.proofs.Adding.{cell_raised}
use Rattle.psr_make.proofs.raised.raise_cell.Goals as goal

pub returns : goal.returns
returns c =
    cell_raised c.args.spec.now c.args.bytes.now c.raise_values.new.values c.args.cell c.cell_bytes-wide.result _
    c.cell_bytes-wide.ensures.bytes (omega arith) (rw c.cell_bytes-wide.ensures.bytes c.requires.within)
    c.raise_values.auto.values c.raise_values.ensures

-- One number stands after the word, and it is too large.
use Rattle.std.proofs.Common.{arith}
use Rattle.ring_trace.proofs.Splits.{one_number}
use Rattle.ring_trace.proofs.lines.reader.Goals as goal

pub returns-in_default-clause-none : goal.returns-in_default-clause-none
returns-in_default-clause-none c i is below =
    let same = one_number _ _ _ i c.in-Some.ensures.some is in let above = c.if-i-readers.false in omega arith

pub returns-in_default-2-clause-none : goal.returns-in_default-2-clause-none
returns-in_default-2-clause-none c i is below = c.in_default.ensures.none i is

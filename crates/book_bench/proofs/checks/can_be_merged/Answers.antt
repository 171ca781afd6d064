use Rattle.std.proofs.Common.{arith}
use Rattle.book_bench.proofs.Parts.{parts_can_be_merged}
use Rattle.book_bench.proofs.checks.can_be_merged.Goals as goal

pub returns : goal.returns
returns c = λ yes. parts_can_be_merged c.args.books.now (omega arith) (λ j h. c.loop-k.invariant j (omega arith))

use Rattle.std.proofs.Common.{arith}
use Rattle.dada_header.proofs.HeaderReads.{kept_zeros}
use Rattle.dada_header.proofs.header.Header.blank.Goals as goal

pub invariant_of-result : goal.invariant_of-result
invariant_of-result c =
    kept_zeros c.in_ok-space.space.items 4096 c.in_ok-space.ensures.len c.in_ok-space.ensures.zero
    c.blank_is_read_back.ensures (omega arith) (omega arith)

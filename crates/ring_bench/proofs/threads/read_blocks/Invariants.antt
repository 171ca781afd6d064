use Rattle.std.proofs.Common.{◌≡◌, ◌≤◌, vec_len}
use Rattle.ring_ends.specs.Passes.{ring_shape, reader_knows, ReadsFrom}
use Rattle.ring_bench.proofs.threads.read_blocks.Given as goal

abbrev pub invariant-loop-try : goal.invariant-loop-try
invariant-loop-try l = ReadsFrom l.ring l.pass × ((ring_shape l.ring).size ≤ vec_len l.into)
    × ((reader_knows l.pass).number ≡ (reader_knows l.fn.pass).number)

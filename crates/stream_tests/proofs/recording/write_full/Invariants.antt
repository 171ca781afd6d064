use Rattle.std.proofs.Common.{◌≤◌, length}
use Rattle.dada_hdu.specs.Passes.{WritesBoth}
use Rattle.stream_tests.proofs.recording.write_full.Given as goal

abbrev pub invariant-loop-block : goal.invariant-loop-block
invariant-loop-block l = record { writes : WritesBoth l.hdu l.pass; within : l.at ≤ length l.bytes }

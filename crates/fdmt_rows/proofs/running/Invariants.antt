use Rattle.std.proofs.Common.{ℕ, ◌≡◌, ◌<◌, length, slice_index}
use Rattle.fdmt_rows.specs.Rows.{sum_from}
use Rattle.fdmt_rows.proofs.running.Given as goal

abbrev pub invariant-loop-later : goal.invariant-loop-later
invariant-loop-later l = (k : ℕ) → k < length l.out → slice_index l.out k ≡ sum_from l.x k l.later

use Rattle.std.proofs.Common.{◌≢◌, ℕ, ◌+◌, ◌≤◌, ◌<◌, length, slice_index}
use Rattle.psr_demo.proofs.last_line.last_start.Given as goal

-- no line feed stands from here on, but at the end
abbrev pub invariant-loop-start : goal.invariant-loop-start
invariant-loop-start l = record {
  within : l.start ≤ length l.text;
  some : 0 < length l.text → l.start < length l.text;
  bare : (i : ℕ) → l.start ≤ i → i + 1 < length l.text → slice_index l.text i ≢ 10;
}

abbrev pub decreases-loop-start : goal.decreases-loop-start
decreases-loop-start l = l.start

use Rattle.std.proofs.Common.{◌≡◌, ℕ, ◌+◌, ◌<◌, ◌≤◌, slice_index}
use Rattle.psr_make.proofs.raised.raise_bytes.Given as goal

abbrev pub invariant-loop-value : goal.invariant-loop-value
invariant-loop-value l = record {
  done : (x : ℕ) → x < l.value-index → slice_index l.values x ≡ slice_index l.fn.values x + l.height;
  rest : (x : ℕ) → l.value-index ≤ x → slice_index l.values x ≡ slice_index l.fn.values x;
}

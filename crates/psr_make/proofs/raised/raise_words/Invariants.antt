use Rattle.std.proofs.Common.{◌≡◌, ℕ, ◌+◌, ◌*◌, ◌%◌, ◌<◌, ◌≤◌, slice_index}
use Rattle.psr_make.proofs.raised.raise_words.Given as goal

abbrev pub invariant-loop-i : goal.invariant-loop-i
invariant-loop-i l = record {
  done : (x : ℕ) → x < 2 * l.i → x % 2 ≡ 0 → slice_index l.values x ≡ slice_index l.fn.values x + l.height;
  high : (x : ℕ) → x % 2 ≡ 1 → slice_index l.values x ≡ slice_index l.fn.values x;
  rest : (x : ℕ) → 2 * l.i ≤ x → slice_index l.values x ≡ slice_index l.fn.values x;
}

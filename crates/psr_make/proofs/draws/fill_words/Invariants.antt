use Rattle.std.proofs.Common.{◌≡◌, ℕ, ◌+◌, ◌*◌, ◌<◌, slice_index}
use Rattle.psr_make.specs.Draws.{noise, state_after}
use Rattle.psr_make.specs.Made.{byte_of}
use Rattle.psr_make.proofs.draws.fill_words.Given as goal

abbrev pub invariant-loop-i : goal.invariant-loop-i
invariant-loop-i l = (number first : ℕ) → l.fn.draws ≡ state_after number first → record {
  stands : l.draws ≡ state_after number (first + l.i);
  low : (k : ℕ) → k < l.i → slice_index l.values (2 * k) ≡ byte_of (noise number (first + k)) 0;
  high : (k : ℕ) → k < l.i → slice_index l.values (2 * k + 1) ≡ byte_of (noise number (first + k)) 1;
}

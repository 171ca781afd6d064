use Rattle.std.proofs.Common.{◌≡◌, ℕ, ◌+◌, ◌<◌, slice_index}
use Rattle.psr_make.specs.Draws.{noise, state_after}
use Rattle.psr_make.specs.Made.{byte_of}
use Rattle.psr_make.proofs.draws.fill_bytes.Given as goal

abbrev pub invariant-loop-value : goal.invariant-loop-value
invariant-loop-value l = (number first : ℕ) → l.fn.draws ≡ state_after number first → record {
  stands : l.draws ≡ state_after number (first + l.value-index);
  bytes : (k : ℕ) → k < l.value-index → slice_index l.values k ≡ byte_of (noise number (first + k)) 0;
}

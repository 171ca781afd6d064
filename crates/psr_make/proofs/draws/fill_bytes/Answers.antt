use Rattle.std.proofs.Common.{◌≡◌, ℕ, ◌+◌, ◌∙◌, ap, arith, rules}
use Rattle.psr_make.specs.Draws.{state_after}
use Rattle.psr_make.proofs.NoiseSteps.{byte_more}
use Rattle.psr_make.proofs.draws.fill_bytes.Goals as goal

pub loop-value-preserved : goal.loop-value-preserved
loop-value-preserved c = λ number first starts.
    let so_far = c.loop-value.invariant number first starts in
    let i : ℕ = c.loop-value.value-index in
    let e : first + i + 1 ≡ first + (i + 1) = omega arith in
    record {
      stands = c.next_noise.ensures.next number (first + i) so_far.stands ∙ ap (state_after number) e;
      bytes = byte_more c.loop-value.values i c.next_noise.result number first (search rules)
          (c.next_noise.ensures.noise number (first + i) so_far.stands) so_far.bytes;
    }

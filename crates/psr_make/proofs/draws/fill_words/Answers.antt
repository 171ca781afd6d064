use Rattle.std.proofs.Common.{◌≡◌, ℕ, ◌+◌, ◌∙◌, ap, arith, rules}
use Rattle.psr_make.specs.Draws.{state_after}
use Rattle.psr_make.proofs.NoiseSteps.{low_more, high_more}
use Rattle.psr_make.proofs.draws.fill_words.Goals as goal

pub loop-i-preserved : goal.loop-i-preserved
loop-i-preserved c = λ number first starts.
    let so_far = c.loop-i.invariant number first starts in
    let i : ℕ = c.loop-i.i in
    let y : ℕ = c.next_noise.result in
    let e : first + i + 1 ≡ first + (i + 1) = omega arith in
    record {
      stands = c.next_noise.ensures.next number (first + i) so_far.stands ∙ ap (state_after number) e;
      low = low_more c.loop-i.values i y number first (omega arith)
          (c.next_noise.ensures.noise number (first + i) so_far.stands) so_far.low;
      high = high_more c.loop-i.values i y number first (search rules) so_far.high;
    }

-- The draws of a number go on from any of its states.
use Rattle.std.proofs.Common.{◌≡◌, ℕ, ◌+◌, ◌*◌, ◌/◌, ◌%◌, ◌^◌, ◌<◌, ◌≤◌, sym, ◌∙◌, ap, refl, arith}
use Rattle.std.proofs.Math.Nat.{mod-add-mod}
use Rattle.std.specs.Prelude.{bit_xor, count_ones}
use Rattle.std.proofs.lemmas.Nat.{ones-le}
use Rattle.rand_xoshiro.specs.SplitMix64.{mix_u64, next_state}
use Rattle.psr_make.specs.Draws.{golden_gamma, state_after, mixed, draw, noise}
use Rattle.psr_make.specs.Laws.{DrawsAreSplitMix}

two_steps : (number g i j : ℕ) → ((number + i * g) % 2 ^ 64 + j * g) % 2 ^ 64 ≡ (number + (i + j) * g) % 2 ^ 64
two_steps number g i j =
    let e : number + i * g + j * g ≡ number + (i + j) * g = omega arith in
    mod-add-mod (number + i * g) (2 ^ 64) (j * g) ∙ ap (λ x. x % 2 ^ 64) e

pub goes_on : (number i j : ℕ) → state_after (state_after number i) j ≡ state_after number (i + j)
goes_on number i j = two_steps number golden_gamma i j

-- the draw at a state
drawn : ℕ → ℕ
drawn state =
    let b = mixed (mixed state 30 0xbf58476d1ce4e5b9) 27 0x94d049bb133111eb in
    bit_xor b (b / 2 ^ 31)

draw_is : (number i : ℕ) → draw number i ≡ drawn (state_after number (i + 1))
unfolding draw drawn
draw_is number i = refl

next_is : (number i : ℕ) → next_state (state_after number i) ≡ state_after number (i + 1)
next_is number i =
    let e : 1 * golden_gamma ≡ golden_gamma = refl in
    goes_on number i 1

word_is : (state : ℕ) → (mix_u64 state).0 ≡ drawn (next_state state)
unfolding drawn
word_is state = refl

draw_on : (number i j : ℕ) → draw (state_after number i) j ≡ draw number (i + j)
draw_on number i j =
    let e : i + (j + 1) ≡ i + j + 1 = omega arith in
    draw_is (state_after number i) j ∙ ap drawn (goes_on number i (j + 1) ∙ ap (state_after number) e)
    ∙ sym (draw_is number (i + j))

noise_on : (number i j : ℕ) → noise (state_after number i) j ≡ noise number (i + j)
unfolding noise
noise_on number i j = ap (λ d. count_ones (d % 2 ^ 32)) (draw_on number i j)

first_is : (number : ℕ) → number < 2 ^ 64 → state_after number 0 ≡ number
first_is number small = omega arith

pub draws_are_splitmix : DrawsAreSplitMix
draws_are_splitmix = record {
  first = first_is;
  word = λ number i. word_is (state_after number i) ∙ ap drawn (next_is number i) ∙ sym (draw_is number i);
  next = next_is;
  goes_on = goes_on;
  noise = noise_on;
}

-- at most 32 bits are set
pub noise_bound : (number i : ℕ) → noise number i ≤ 32
unfolding noise
noise_bound number i = ones-le 32 (draw number i % 2 ^ 32) (omega arith)

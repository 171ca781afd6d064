-- Worked values of noise.
use Rattle.std.proofs.Common.{◌≡◌, ℕ, zero, suc, ◌+◌, ◌*◌, ◌/◌, ◌%◌, ◌^◌, ◌<◌, ◌∙◌, ap, arith, lit<}
use Rattle.std.specs.Prelude.{count_ones}
use Rattle.std.proofs.lemmas.Nat.{ones-le}
use Rattle.std.proofs.Math.Nat.{pow-suc}
use lib.Count.{ones_step}
use Rattle.psr_make.specs.Draws.{draw, noise}

-- the set bits among the lowest d
abbrev bits_in : ℕ → ℕ → ℕ
bits_in zero n = 0
bits_in (suc d) n = n % 2 + bits_in d (n / 2)

counted : (d n : ℕ) → n < 2 ^ d → count_ones n ≡ bits_in d n
counted zero n small = omega (arith, ones-le 0 n small)
counted (suc d) n small =
    let double : 2 ^ suc d ≡ 2 ^ d * 2 = pow-suc 2 d in
    ones_step n ∙ ap (λ k. n % 2 + k) (counted d (n / 2) (omega arith))

first_noise : noise 0 0 ≡ 21
unfolding draw noise
first_noise = counted 32 (draw 0 0 % 2 ^ 32) (lit< tt)

second_noise : noise 0 1 ≡ 17
unfolding draw noise
second_noise = counted 32 (draw 0 1 % 2 ^ 32) (lit< tt)

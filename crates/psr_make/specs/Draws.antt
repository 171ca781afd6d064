-- The draws of a number: the words of SplitMix64, seeded with the number, in order. Products and sums are modulo 2^64.
-- Source: Steele, Lea & Flood, OOPSLA 2014, section 4.
use Rattle.std.specs.Prelude.{ℕ, ◌+◌, ◌*◌, ◌/◌, ◌%◌, ◌^◌, bit_xor, count_ones}

-- how far the state goes on from one draw to the next
abbrev pub golden_gamma : ℕ
golden_gamma = 0x9e3779b97f4a7c15

-- the state after i draws
abbrev pub state_after : ℕ → ℕ → ℕ
state_after number i = (number + i * golden_gamma) % 2 ^ 64

-- z and its high bits, folded down by k places, times m
abbrev pub mixed : ℕ → ℕ → ℕ → ℕ
mixed z k m = bit_xor z (z / 2 ^ k) * m % 2 ^ 64

-- draw i
unfoldable pub draw : ℕ → ℕ → ℕ
draw number i =
    let a = mixed (state_after number (i + 1)) 30 0xbf58476d1ce4e5b9 in
    let b = mixed a 27 0x94d049bb133111eb in
    bit_xor b (b / 2 ^ 31)

-- the noise of draw i: how many of its low 32 bits are set. Over fair draws the mean is 16 and the variance 8.
unfoldable pub noise : ℕ → ℕ → ℕ
noise number i = count_ones (draw number i % 2 ^ 32)

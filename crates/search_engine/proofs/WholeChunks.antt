-- Whole chunks of spectra, and those after them.
use Rattle.std.proofs.Common.{◌≡◌, ℕ, ◌+◌, ◌%◌, ◌<◌, min, sym, ◌∙◌, ap, arith}
use Rattle.std.proofs.Math.Nat.{add-mod_right, mod-add-mod, mod-eq_of_lt}

pub chunk_more : (u r chunk v : ℕ) → r ≡ chunk → v ≡ u + r → u % chunk ≡ 0 → v % chunk ≡ 0
chunk_more u r chunk v full sum whole =
    ap (λ n. n % chunk) (sum ∙ ap (λ n. u + n) full) ∙ add-mod_right u chunk ∙ whole

-- fewer than a chunk are what comes after the last whole chunk
pub rest_of : (u r chunk n : ℕ) → n ≡ u + r → u % chunk ≡ 0 → r < chunk → n % chunk ≡ r
rest_of u r chunk n sum whole short =
    let none : u % chunk + r ≡ r = omega (arith, whole) in
    ap (λ k. k % chunk) sum ∙ sym (mod-add-mod u chunk r) ∙ ap (λ k. k % chunk) none ∙ mod-eq_of_lt short

-- the tables are of the last of them
pub last_are : (u r chunk n most room : ℕ) → room ≡ min chunk most → n ≡ u + r → u % chunk ≡ 0 → r < chunk →
    min r room ≡ min (n % chunk) most
last_are u r chunk n most room is sum whole short =
    let rest = rest_of u r chunk n sum whole short in
    omega (arith, is, rest, short)

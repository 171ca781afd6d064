-- Lists that were written as slices.
use Rattle.std.proofs.Common.{◌≡◌, ℕ, ◌+◌, ◌++◌, ◌*◌, ◌/◌, ◌≤◌, inl, inr, max, List, replicate, length, take, drop, ◌∙◌, ap, arith}
use Rattle.std.proofs.Math.Nat.{mul-le-mul_right, div-mul-le_self}
use Rattle.std.proofs.lemmas.Bool.{cases_lt}
use Rattle.std.proofs.lemmas.List.{take_at}
use Rattle.std.proofs.lemmas.Simd.{length-replicate}

-- a list that was written whole
pub written : (new old : List ℕ) (long : ℕ) → length new ≡ long → take long (new ++ drop (length new) old) ≡ new
written new old long e = take_at new (drop (length new) old) long e

pub long_written : (new old : List ℕ) (long n : ℕ) → length new ≡ long → long ≡ n
    → length (take long (new ++ drop (length new) old)) ≡ n
long_written new old long n e f = ap length (written new old long e) ∙ e ∙ f

-- ---- lists of zeroes

pub zero_long : (xs : List ℕ) (n : ℕ) → xs ≡ replicate n 0 → length xs ≡ n
zero_long xs n is = let zero_value : ℕ = 0 in ap length is ∙ length-replicate n zero_value

-- as many pieces as fit into a size, but at least one
pub piece_most : (size wide : ℕ) → max (size / wide) 1 * wide ≤ size + wide
piece_most size wide = elim (cases_lt 1 (size / wide)) [
  | inl more ↦
      let e : max (size / wide) 1 ≡ size / wide = omega arith in rw e (omega (arith, div-mul-le_self size wide))
  | inr one ↦ let e : max (size / wide) 1 ≡ 1 = omega arith in rw e (omega arith)
]

pub piece_least : (size wide : ℕ) → wide ≤ max (size / wide) 1 * wide
piece_least size wide =
    let h : 1 * wide ≤ max (size / wide) 1 * wide = mul-le-mul_right wide (omega arith) in
    omega arith

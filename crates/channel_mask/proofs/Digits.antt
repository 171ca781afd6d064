-- A number of 1 to 9 digits.
use Rattle.std.proofs.Common.{◌≡◌, ℕ, ◌+◌, ◌*◌, ◌^◌, ◌<◌, ◌≤◌, zero, suc, true, List, [], ◌∷◌, length, get_or, lit≤, arith}
use Rattle.std.specs.Prelude.{nat_le, nat_lt}
use Rattle.std.specs.Char.{IsAsciiDigit, is_ascii_digit}
use Rattle.std.specs.Str.{all_ascii_digits}
use Rattle.std.proofs.Math.Nat.{pow-suc}
use Rattle.std.proofs.lemmas.Bool.{and_parts, leb-true}
use Rattle.channel_mask.specs.Texts.{is_number}

digit_at : (digits : List ℕ) (i : ℕ) → all_ascii_digits digits ≡ true → i < length digits →
    IsAsciiDigit (get_or digits i 0)
digit_at [] i are within = absurd (omega arith)
digit_at (digit ∷ more) zero are within =
    let both = and_parts (is_ascii_digit digit) (all_ascii_digits more) are in
    let range = and_parts (nat_le 48 digit) (nat_le digit 57) both.0 in
    (leb-true 48 digit range.0, leb-true digit 57 range.1)
digit_at (digit ∷ more) (suc i) are within =
    let both = and_parts (is_ascii_digit digit) (all_ascii_digits more) are in
    digit_at more i both.1 (omega arith)

pub is_digit_at : (digits : List ℕ) (i : ℕ) → is_number digits ≡ true → i < length digits →
    IsAsciiDigit (get_or digits i 0)
is_digit_at digits i is within =
    let both = and_parts (nat_lt 0 (length digits)) _ is in
    digit_at digits i (and_parts (nat_le (length digits) 9) (all_ascii_digits digits) both.1).1 within

tens : (i : ℕ) → i ≤ 8 → 10 ^ i ≤ 100000000
tens zero few = lit≤ tt
tens (suc zero) few = lit≤ tt
tens (suc (suc zero)) few = lit≤ tt
tens (suc (suc (suc zero))) few = lit≤ tt
tens (suc (suc (suc (suc zero)))) few = lit≤ tt
tens (suc (suc (suc (suc (suc zero))))) few = lit≤ tt
tens (suc (suc (suc (suc (suc (suc zero)))))) few = lit≤ tt
tens (suc (suc (suc (suc (suc (suc (suc zero))))))) few = lit≤ tt
tens (suc (suc (suc (suc (suc (suc (suc (suc zero)))))))) few = lit≤ tt
tens (suc (suc (suc (suc (suc (suc (suc (suc (suc i))))))))) few = absurd (omega arith)

-- one digit more fits 32 bits
pub room : (digits : List ℕ) (i number : ℕ) → is_number digits ≡ true → i < length digits → number < 10 ^ i →
    number < 100000000
room digits i number is within bound =
    let both = and_parts (nat_lt 0 (length digits)) _ is in
    let few = leb-true (length digits) 9
    (and_parts (nat_le (length digits) 9) (all_ascii_digits digits) both.1).0 in
    let most = tens i (omega arith) in
    omega arith

pub ten_more : (i number digit : ℕ) → number < 10 ^ i → digit ≤ 9 → number * 10 + digit < 10 ^ (i + 1)
ten_more i number digit bound small =
    let e : i + 1 ≡ suc i = omega arith in
    let p = pow-suc 10 i in
    rw (e, p) (omega arith)

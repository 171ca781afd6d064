-- Numbers with a fixed count of decimals: where a text stops being one, why one is refused, and how one is written.
-- Source: this project's choice.
use Rattle.std.specs.Prelude.{◌≡◌, ℕ, ◌-◌, ◌/◌, ◌%◌, ◌^◌, ◌<◌, ◌≤◌, IsTrue, ◌==◌, if◌then◌else◌, List, [], ◌∷◌, ◌++◌, length, take, replicate, Some, None, ℤ, pos, int_lt, unsigned_abs}
use Rattle.std.specs.Fmt.{decimal, sign_text}
use Rattle.dada_model.specs.Number.{is_number, number_value}
use Rattle.psr_base.specs.declared.fixed.NumberFault.{NumberFault}
use Rattle.psr_base.specs.declared.fixed.NumberFault.TheVariants.{BadNumber, TooLarge}

-- ---- reading

-- some bytes more make the text a number
abbrev pub BeginsNumber : List ℕ → Type 0
BeginsNumber text = (rest : List ℕ) × IsTrue (is_number (text ++ rest))

-- the text stops being the beginning of a number at a place: its longest beginning of a number is so long
pub record StopsAt (text : List ℕ) (place : ℕ) : Type 0 where
  pub within : place ≤ length text
  pub begins : BeginsNumber (take place text)
  pub longest : (n : ℕ) → place < n → n ≤ length text → ¬ BeginsNumber (take n text)

-- what a fault says of a text that is read with k decimals
abbrev pub ExplainsNumber : ℕ → List ℕ → NumberFault → Type 0
ExplainsNumber k text (BadNumber place) = (number_value k text ≡ None) × StopsAt text place
ExplainsNumber k text TooLarge =
    (z : ℤ) × (number_value k text ≡ Some z) × (10 ^ 18 < unsigned_abs z)

-- ---- writing

-- a number in k decimal digits, with zeros in front
abbrev pub padded : ℕ → ℕ → List ℕ
padded k n = replicate (k - length (decimal n)) 48 ++ decimal n

-- the whole part of a magnitude of so many units of the k-th decimal, and its fraction after a point
abbrev pub unsigned_text : ℕ → ℕ → List ℕ
unsigned_text k n = decimal (n / 10 ^ k) ++ (if k == 0 then [] else 46 ∷ padded k (n % 10 ^ k))

-- the text of a value of so many units of the k-th decimal, after a minus where it is negative
abbrev pub fixed_text : ℕ → ℤ → List ℕ
fixed_text k z = sign_text (int_lt z (pos 0)) ++ unsigned_text k (unsigned_abs z)

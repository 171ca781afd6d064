-- The parts of a text that may be a number.
-- Source: this project's choice.
use Rattle.std.specs.Prelude.{◌≡◌, ◌≢◌, ℕ, ◌<◌, ◌⊎◌, Bool, List, [], ◌∷◌, ◌++◌, length, slice_index, All, min}
use Rattle.std.specs.Char.{IsAsciiDigit}
use Rattle.dada_model.specs.Laws.{IsSign}

-- no byte, or first one that isn't the given one: 43 is '+', 45 '-', and 46 '.'
abbrev pub BeginsWithout : List ℕ → ℕ → Type 0
BeginsWithout text byte = 0 < length text → slice_index text 0 ≢ byte

abbrev pub BeginsWithoutDigit : List ℕ → Type 0
BeginsWithoutDigit text = 0 < length text → ¬ IsAsciiDigit (slice_index text 0)

-- a text is a sign, where it begins with one, and the rest
pub record SplitsSign (text : List ℕ) (negative : Bool) (rest : List ℕ) : Type 0 where
  pub sign : List ℕ
  pub signed : IsSign negative sign
  pub joined : text ≡ sign ++ rest
  pub bare : sign ≡ [] → BeginsWithout rest 43 × BeginsWithout rest 45

-- a text is all the digits that it begins with, and the rest
pub record SplitsDigits (text digits rest : List ℕ) : Type 0 where
  pub joined : text ≡ digits ++ rest
  pub digits_are : All IsAsciiDigit digits
  pub stops : BeginsWithoutDigit rest

-- a text is a point and all the digits after it, where it begins with a point, and the rest
pub record SplitsFraction (text fraction rest : List ℕ) : Type 0 where
  pub joined : (text ≡ 46 ∷ (fraction ++ rest))
      ⊎ ((text ≡ rest) × (fraction ≡ []) × BeginsWithout rest 46)
  pub digits_are : All IsAsciiDigit fraction
  pub stops : BeginsWithoutDigit rest

-- a text is a sign or none, digits or none, a point and digits or none, and the rest
pub record SplitsNumber (text : List ℕ) (negative : Bool)
    (whole fraction rest : List ℕ) : Type 0 where
  pub unsigned : List ℕ
  pub after_whole : List ℕ
  pub sign : SplitsSign text negative unsigned
  pub digits : SplitsDigits unsigned whole after_whole
  pub point : SplitsFraction after_whole fraction rest

-- a number, or 10^18 + 1 where it is greater
abbrev pub capped : ℕ → ℕ
capped n = min 1000000000000000001 n

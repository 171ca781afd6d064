-- The words of the demonstration.
-- Source: this project's choice.
use Rattle.std.specs.Prelude.{◌≡◌, ℕ, ◌≤◌, List, [], ◌∷◌}
use Rattle.std.specs.Str.Parse.{digits_value}
use Rattle.dada_model.specs.Number.{IsWholeNumber}

-- the text writes the number, in 1 to 19 decimal digits, and an observation can be made of it
pub record IsNumber (text : List ℕ) (number : ℕ) : Type 0 where
  pub digits : IsWholeNumber 19 text
  pub value : number ≡ digits_value 10 text
  pub most : number ≤ 9223372036854775807

-- the words are the program's name and a number
pub record AskFor (words : List (List ℕ)) (number : ℕ) : Type 0 where
  pub name : List ℕ
  pub text : List ℕ
  pub are : words ≡ name ∷ text ∷ []
  pub reads : IsNumber text number

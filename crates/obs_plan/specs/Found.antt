-- What a header has for a key.
-- Source: PSRDADA manual (the keywords); the numbers are this project's choice.
use Rattle.std.specs.Prelude.{◌≡◌, ◌<◌, ◌≤◌, ◌^◌, List, Ok, Err, ℤ, unsigned_abs}
use Rattle.dada_model.specs.declared.key.Key.{Key}
use Rattle.dada_model.specs.Fields.{Field}
use Rattle.dada_model.specs.Observation as model
use Rattle.dada_model.specs.Observation.{number_of}
use Rattle.obs_plan.specs.declared.found.Found.{Found}
use Rattle.obs_plan.specs.declared.found.Found.TheVariants.{Missing, BadNumber, TooLarge, Number}

-- a number is too large where its absolute value is above 10^18, in the units of the key's row
abbrev pub Says : List Field → Key → Found → Type 0
Says fields key Missing = number_of fields key ≡ Err (model.Missing key)
Says fields key BadNumber = number_of fields key ≡ Err (model.BadNumber key)
Says fields key TooLarge = (z : ℤ) × (number_of fields key ≡ Ok z) × (10 ^ 18 < unsigned_abs z)
Says fields key (Number z) = (number_of fields key ≡ Ok z) × (unsigned_abs z ≤ 10 ^ 18)

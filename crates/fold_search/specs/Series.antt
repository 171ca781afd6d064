-- The front of a series that is kept.
-- Source: this project's choice.
use Rattle.std.specs.Prelude.{ℕ, ◌≡◌, List, [], take}

-- `values` are kept, of which there are at most `most`
pub record Front : Type 0 where
  pub most : ℕ
  pub values : List ℕ

-- a front that keeps nothing
abbrev pub no_front : Front
no_front = record { most = 0; values = [] }

-- what is kept of these values
abbrev pub IsFrontOf : Front → List ℕ → Type 0
IsFrontOf front xs = front.values ≡ take front.most xs

-- The words of a search that prints its parts while the data come. EVERY stands where psr_part has UNTIL, and CHECK
-- behind it.
-- Source: this project's choice.
use Rattle.std.specs.Prelude.{ℕ, ◌%◌, ◌==◌, ◌&&◌, Bool, List, nat_lt}
use Rattle.run_outcome.specs.Lone.{LoneSearch}
use Rattle.psr_part.specs.Part as part

-- how many spectra a part has
abbrev pub every_in : List (List ℕ) → ℕ
every_in words = part.until_in words

-- the form that is judged first: both words are there, and the first of them is a number of steps in its range
abbrev pub has_form : List (List ℕ) → Bool
has_form words = part.has_form words && (every_in words % 512 == 0)

-- the search: two words stand before those of one that is searched alone, and nothing is folded
abbrev pub live_alone : LoneSearch
live_alone = record {
  before = 2;
  has_form = has_form;
  makes = λ s. nat_lt s.search.fold_max s.search.fold_min;
  total = λ s w. 0;
}

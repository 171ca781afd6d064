-- Files that were read before the open one.
-- Source: this project's choice.
use Rattle.std.specs.Prelude.{ℕ, ◌==◌, List, [], ◌∷◌, ◌++◌, slice_index}
use Rattle.psr_base.specs.Told.{Reading}

-- one more, by its name, its place and 1 where its end was seen
abbrev pub with_one_more : List ℕ → List ℕ → List Reading → List Reading
with_one_more name numbers files =
    files
    ++ record { name = name; place = slice_index numbers 0; ended = slice_index numbers 1 == 1 }
    ∷ []

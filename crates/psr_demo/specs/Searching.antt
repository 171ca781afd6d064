-- The words of the search.
-- Source: this project's choice.
use Rattle.std.specs.Prelude.{List, ℕ, [], ◌∷◌, codes}

abbrev pub search_line : List (List ℕ)
search_line =
    codes "psr_search" ∷ codes "--mean" ∷ codes "16" ∷ codes "--sd" ∷ codes "2.828"
    ∷ codes "--max-delay" ∷ codes "128" ∷ codes "--shards" ∷ codes "4"
    ∷ codes "--hands" ∷ codes "3" ∷ codes "--max-candidates" ∷ codes "100000"
    ∷ codes "demo" ∷ []

-- Books that share the delays by their remainders.
-- Source: this project's choice.
use Rattle.std.specs.Prelude.{◌≡◌, ℕ, ◌%◌, ◌⊎◌, List, [], All, Contains, Option, Some, None}
use Rattle.std.specs.Option.{ForSome}
use Rattle.search_model.specs.declared.candidate.Candidate.{Candidate}
use Rattle.search_model.specs.Candidates.{delay_of}
use Rattle.search_model.specs.Order.{Precedes, IsRising}
use Rattle.candidate_book.specs.Conditions.{IsSearched}

-- a rising list of candidates that a search can have, whose delays have remainder k by n
pub record IsPart (n k : ℕ) (list : List Candidate) : Type 0 where
  pub rises : IsRising list
  pub searched : All IsSearched list
  pub shared : All (λ c. delay_of c % n ≡ k) list

-- a candidate that may stand behind the last one of such a list
pub record Continues (n k : ℕ) (last : Option Candidate) (c : Candidate) : Type 0 where
  pub after : ForSome last (λ before. Precedes before c)
  pub searched : IsSearched c
  pub shared : delay_of c % n ≡ k

-- the list is empty, or each of its candidates is the last one or precedes it
abbrev pub EndsWith : List Candidate → Option Candidate → Type 0
EndsWith list None = list ≡ []
EndsWith list (Some last) = (c : Candidate) → Contains list c → (c ≡ last) ⊎ Precedes c last

-- A book of candidates keeps the first of them and counts all.
-- Source: this project's choice.
use Rattle.std.specs.Prelude.{ℕ, List, take, length}
use Rattle.search_model.specs.declared.candidate.Candidate.{Candidate}

pub record BookContents : Type 0 where
  pub limit : ℕ
  pub kept : List Candidate
  pub count : ℕ

-- the book of a list that was added to it
abbrev pub book_of : ℕ → List Candidate → BookContents
book_of limit list = record { limit = limit; kept = take limit list; count = length list }

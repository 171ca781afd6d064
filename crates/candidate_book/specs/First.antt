-- The first of the candidates that stand next in several books.
-- Source: this project's choice.
use Rattle.std.specs.Prelude.{◌≡◌, ℕ, ◌<◌, List, slice_get, slice_index, slice_index_or, Option, Some, None}
use Rattle.search_model.specs.declared.candidate.Candidate.{Candidate}
use Rattle.search_model.specs.Order.{Precedes}
use Rattle.candidate_book.specs.Book.{BookContents}
use Rattle.candidate_book.specs.Conditions.{kept_in}
use Rattle.candidate_book.specs.declared.merge.Next.{Next}

-- what book k keeps
abbrev pub kept_at : List (Option BookContents) → ℕ → List Candidate
kept_at books k = kept_in (slice_index_or books k None)

-- its next candidate: the one at its place, behind those that were written
abbrev pub next_at : List (Option BookContents) → List ℕ → ℕ → Option Candidate
next_at books places k = slice_get (kept_at books k) (slice_index places k)

-- the candidate that stands next in one of the first n books, and that none which stands next in them precedes
pub record IsFirst (next : ℕ → Option Candidate) (n : ℕ) (found : Next) : Type 0 where
  pub within : found.book < n
  pub is_next : next found.book ≡ Some found.candidate
  pub first : (k : ℕ) → k < n → (other : Candidate) → next k ≡ Some other →
      ¬ Precedes other found.candidate

-- it was found, or none stands next in any of them
abbrev pub FindsFirst : (ℕ → Option Candidate) → ℕ → Option Next → Type 0
FindsFirst next n (Some found) = IsFirst next n found
FindsFirst next n None = (k : ℕ) → k < n → next k ≡ None

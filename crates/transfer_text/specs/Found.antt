-- What the books of a search hold once all data were searched, and how the writing of its text ends.
-- Source: this project's choice.
use Rattle.std.specs.Prelude.{◌≡◌, ◌<◌, ◌≤◌, ℕ, List, map, Option, Some, None, Result, Ok, Err}
use Rattle.std.specs.List.{sum_by}
use Rattle.psr_base.specs.Written.{SinkSeen, WroteAll, WroteFront}
use Rattle.dada_model.specs.Observation.{Observation}
use Rattle.search_model.specs.declared.candidate.Candidate.{Candidate}
use Rattle.search_model.specs.declared.search.Search.{Search}
use Rattle.search_model.specs.CandidateLaws.{shard_parts}
use Rattle.search_model.specs.Observed.{candidates_of}
use Rattle.candidate_book.specs.Book.{BookContents, book_of}
use Rattle.transfer_text.specs.Searched.{ObservedTransfer, spectra_of, candidate_total, searched_text}
use Rattle.transfer_text.specs.declared.found.TextStop.{TextStop}
use Rattle.transfer_text.specs.declared.found.TextStop.TheVariants.{TooMany, SinkFault}

-- how many candidates were added to the book of a place
abbrev pub count_in : Option BookContents → ℕ
count_in None = 0
count_in (Some book) = book.count

-- and to all books
abbrev pub book_total : List (List (Option BookContents)) → ℕ
book_total books = sum_by (λ shards. sum_by count_in shards) books

-- the books of the shards, to which the parts of a candidate list were added
abbrev pub part_books : Search → List Candidate → List (Option BookContents)
part_books s list = map (λ part. Some (book_of s.max_candidates part)) (shard_parts s list)

-- the observations of the transfers, the books of their candidate lists, and how many spectra were searched
pub record HoldTransfers
    (s : Search) (transfers : List ObservedTransfer) (observations : List (Option Observation))
    (books : List (List (Option BookContents))) (spectra : List ℕ) : Type 0 where
  pub observed : observations ≡ map (λ t. Some t.observation) transfers
  pub added : books ≡ map (λ t. part_books s (candidates_of t.observation s t.bytes)) transfers
  pub counted : spectra ≡ map spectra_of transfers

-- all candidates together are as many as there may be
abbrev pub HasFew : Search → List ObservedTransfer → Type 0
HasFew s transfers = candidate_total s transfers ≤ s.max_candidates

-- the text was written, or its front at a fault, or there are too many candidates
abbrev pub EndsText : Search → List ObservedTransfer → SinkSeen → SinkSeen
    → Result (Unit {0}) TextStop → Type 0
EndsText s transfers before after (Ok done) =
    HasFew s transfers × WroteAll (searched_text s transfers) before after
EndsText s transfers before after (Err SinkFault) =
    HasFew s transfers × WroteFront (searched_text s transfers) before after
EndsText s transfers before after (Err (TooMany count limit)) =
    (candidate_total s transfers ≡ count) × (limit ≡ s.max_candidates) × (limit < count)
    × (after ≡ before)

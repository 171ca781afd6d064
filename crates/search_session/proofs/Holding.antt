-- The books of a session hold what is found, as lists.
use Rattle.std.proofs.Common.{◌≡◌, ℕ, ◌<◌, List, [], length, get_or, Option, Some, slice_get, refl, sym, ◌∙◌, arith}
use Rattle.std.specs.Prelude.{map}
use Rattle.std.specs.List.{range_with_len}
use Rattle.std.proofs.lemmas.List.{length-map, same_lists}
use Rattle.std.proofs.lemmas.List.FromFn.{get_or-map-range_with_len, length-map-range_with_len}
use Rattle.std.proofs.lemmas.Option.{slice_get-map, get_or_from_slice_get, same_Some}
use Rattle.std.proofs.lemmas.Simd.{map-map}
use Rattle.arrayvec.specs.ArrayVec.{ArrayVec}
use Rattle.dada_model.specs.Observation.{Observation}
use Rattle.search_model.specs.declared.candidate.Candidate.{Candidate}
use Rattle.search_model.specs.declared.search.Search.{Search}
use Rattle.search_model.specs.Candidates.{shard_part}
use Rattle.search_model.specs.CandidateLaws.{shard_parts}
use Rattle.search_model.specs.Observed.{filterbank_of, candidates_of}
use Rattle.candidate_book.specs.Book.{BookContents, book_of}
use Rattle.search_engine.specs.Engine.{EngineState, StandsForData}
use Rattle.session_readers.specs.declared.bank.Bank.{Bank}
use Rattle.search_session.specs.declared.ended.SessionEnd.{SessionEnd}
use Rattle.session_readers.specs.Banks.{HasEngine, engines_of}
use Rattle.search_session.specs.Books.{HasBank, HasBook, AreCounted}
use Rattle.search_session.specs.Sessions.{data_through, IsSearched, AreBanksFor, shard_books, HoldFound}
use Rattle.search_session.proofs.Rows.{all_at}
use Rattle.search_session.proofs.Taking.{some_searched}

-- the book of a shard's part of a list
abbrev part_book : Search → List Candidate → ℕ → Option BookContents
part_book settings list s = Some (book_of settings.max_candidates (shard_part settings s list))

book_count : (settings : Search) (list : List Candidate) → length (shard_books settings list) ≡ settings.shards
book_count settings list =
    length-map (shard_parts settings list) (λ part. Some (book_of settings.max_candidates part))
    ∙ length-map-range_with_len (λ s. shard_part settings s list) 0 settings.shards

book_there : (settings : Search) (list : List Candidate) (s : ℕ) (d : Option BookContents) → s < settings.shards →
    get_or (shard_books settings list) s d ≡ part_book settings list s
book_there settings list s d near =
    rw (map-map (λ part. Some (book_of settings.max_candidates part)) (λ k. shard_part settings k list)
    (range_with_len 0 settings.shards))
    (get_or-map-range_with_len (part_book settings list) 0 settings.shards s s d near (omega arith))

module _ {I F : Type 0} (transfers : ℕ) (banks : List (Option Bank)) (end : SessionEnd I F)
    (counted : AreCounted (length banks) transfers end.books.items end.spectra.items)
    (searched : (transfer s : ℕ) (bank : Bank) (e : EngineState) (o : Observation) → HasBank banks s bank →
    HasEngine (engines_of bank) transfer e → StandsForData o [] e → IsSearched end transfer s o e)
    (settings : Search)
    (o : ℕ → Observation) (found : ℕ → List ℕ) (opened : AreBanksFor settings o transfers banks)
    (same : (k : ℕ) → k < transfers → data_through end k ≡ found k) where
  abbrev list_at : ℕ → List Candidate
  list_at k = candidates_of (o k) settings (found k)

  -- what is known of the engine of a place
  at_place : (s k : ℕ) → s < length banks → k < transfers →
      HasBook end.books.items k s (book_of settings.max_candidates (shard_part settings s (list_at k)))
  at_place s k near below =
      let h = opened.each s k near below in
      let bank = h.0 in
      let e = h.2.0 in
      let is = (searched k s bank e (o k) h.1 h.2.1 h.2.3).book in
      rw (same k below, h.2.2.shard_is, h.2.2.search_is) at is

  -- a row has the books of all shards
  row_is : (k : ℕ) → k < transfers → (row : ArrayVec (Option BookContents)) → slice_get end.books.items k ≡ Some row →
      row.items ≡ shard_books settings (list_at k)
  row_is k below row at =
      let long = book_count settings (list_at k) in
      let shards = opened.shards in
      let count : length row.items ≡ length banks =
      all_at (λ (r : ArrayVec (Option BookContents)). length r.items ≡ length banks) end.books.items k row at
      counted.shards_count in
      same_lists row.items (shard_books settings (list_at k)) (omega arith) (λ s d near.
      let h = at_place s k (omega arith) below in
      let this : h.0 ≡ row = same_Some h.0 row (sym h.1 ∙ at) in
      get_or_from_slice_get row.items s (part_book settings (list_at k) s) d
      (rw this at h.2)
      ∙ sym (book_there settings (list_at k) s d (omega arith)))

  abbrev items_of : ArrayVec (Option BookContents) → List (Option BookContents)
  items_of row = row.items

  many_books : length end.books.items ≡ transfers
  many_books = counted.books_count ∙ some_searched (length banks) transfers opened.some

  rows_are : map items_of end.books.items ≡ map (λ k. shard_books settings (list_at k)) (range_with_len 0 transfers)
  rows_are =
      let books = end.books.items in
      let rows = map items_of books in
      let all : ℕ → List (Option BookContents) = λ k. shard_books settings (list_at k) in
      let many = many_books in
      let long = length-map books items_of in
      let ranged = length-map-range_with_len all 0 transfers in
      same_lists rows (map all (range_with_len 0 transfers)) (omega arith) (λ k d near.
      let below : k < transfers = omega arith in
      let h = at_place 0 k opened.some below in
      get_or_from_slice_get rows k (items_of h.0) d (slice_get-map items_of books k ∙ rw h.1 refl)
      ∙ row_is k below h.0 h.1
      ∙ sym (get_or-map-range_with_len all 0 transfers k k d below (omega arith)))

  spectra_are : end.spectra.items ≡ map (λ k. (filterbank_of (o k) (found k)).spectra) (range_with_len 0 transfers)
  spectra_are =
      let spectra = end.spectra.items in
      let all : ℕ → ℕ = λ k. (filterbank_of (o k) (found k)).spectra in
      let many = counted.spectra_count ∙ some_searched (length banks) transfers opened.some in
      let ranged = length-map-range_with_len all 0 transfers in
      same_lists spectra (map all (range_with_len 0 transfers)) (omega arith) (λ k d near.
      let below : k < transfers = omega arith in
      let h = opened.each 0 k opened.some below in
      let is = (searched k 0 h.0 h.2.0 (o k) h.1 h.2.1 h.2.3).spectra refl in
      get_or_from_slice_get spectra k (all k) d
      (rw (same k below) at is)
      ∙ sym (get_or-map-range_with_len all 0 transfers k k d below (omega arith)))

  pub held_found : HoldFound settings o found transfers end
  held_found = record { added = rows_are; counted = spectra_are }

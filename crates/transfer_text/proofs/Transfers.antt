-- The books of all transfers, once all of their data were searched.
use Rattle.std.proofs.Common.{◌≡◌, ℕ, ◌<◌, ◌≤◌, inl, inr, List, [], ◌∷◌, map, length, get_or, slice_index, Option, Some, None, refl, sym, ap, subst, ◌∙◌, arith, rules}
use Rattle.std.specs.Prelude.{All, IsSome}
use Rattle.std.specs.List.{sum_by}
use Rattle.std.proofs.lemmas.List.{length-map, get_or-map}
use Rattle.std.proofs.lemmas.List.Elements.{All-map}
use Rattle.std.proofs.lemmas.List.Sums.{sum_by-cons, sum_by_more_le}
use Rattle.std.proofs.lemmas.Option.{slice_get_within, slice_get_cases, get_or_from_slice_get}
use Rattle.dada_model.specs.Observation.{Observation}
use Rattle.search_model.specs.declared.search.Search.{Search}
use Rattle.search_model.specs.Search.{SettingsInRange}
use Rattle.search_model.specs.CandidateLaws.{CandidatesAreListed, CandidatesRise, ShardsMerge}
use Rattle.search_model.specs.Observed.{candidates_of}
use Rattle.candidate_book.specs.Book.{BookContents}
use Rattle.candidate_book.specs.Conditions.{CanBeMerged}
use Rattle.transfer_text.specs.Text.{FoundList}
use Rattle.transfer_text.specs.Searched.{ObservedTransfer, spectra_of, found_in, candidate_total}
use Rattle.transfer_text.specs.Books.{IsMerged, AreMerged, CanBeWritten}
use Rattle.transfer_text.specs.Found.{count_in, book_total, part_books, HoldTransfers, HasFew}
use Rattle.transfer_text.proofs.Merging.{all_added, can_be_merged, merged}

module _ (listed : CandidatesAreListed) (rise : CandidatesRise) (merge : ShardsMerge)
    (s : Search) (range : SettingsInRange s) where
  abbrev books_of : ObservedTransfer → List (Option BookContents)
  books_of t = part_books s (candidates_of t.observation s t.bytes)

  abbrev count_of : ObservedTransfer → ℕ
  count_of t = length (candidates_of t.observation s t.bytes)

  total_of_parts : (ts : List ObservedTransfer) → book_total (map books_of ts) ≡ candidate_total s ts
  total_of_parts [] = refl
  total_of_parts (t ∷ ts) =
      let e1 = sum_by-cons (λ b. sum_by count_in b) (books_of t) (map books_of ts) in
      let e2 = sum_by-cons count_of t ts in
      let here = all_added listed rise merge t.observation s t.bytes range in
      let rest = total_of_parts ts in
      omega (arith, e1, e2, here, rest)

  -- of all transfers
  module _ (ts : List ObservedTransfer) (observations : List (Option Observation))
      (books : List (List (Option BookContents))) (spectra : List ℕ)
      (holds : HoldTransfers s ts observations books spectra) where
    pub total_is : book_total books ≡ candidate_total s ts
    total_is = ap book_total holds.added ∙ total_of_parts ts

    count_is : length books ≡ length ts
    count_is = ap length holds.added ∙ length-map ts books_of

    few_each : HasFew s ts → All (λ t. count_of t ≤ s.max_candidates) ts
    few_each few = λ k d within.
        let le = sum_by_more_le count_of ts k d within in
        omega (arith, few, le)

    pub can_be_written : HasFew s ts → CanBeWritten observations books spectra
    can_be_written few = record {
      observed = ap length holds.observed ∙ length-map ts (λ t. Some t.observation) ∙ sym count_is;
      counted = ap length holds.counted ∙ length-map ts spectra_of ∙ sym count_is;
      there = subst (All IsSome) (sym holds.observed)
          (All-map IsSome (λ (t : ObservedTransfer). Some t.observation) ts (λ k d within. search rules));
      mergeable = subst (All CanBeMerged) (sym holds.added)
          (All-map CanBeMerged books_of ts (λ k d within.
          let t = get_or ts k d in
          can_be_merged listed rise merge t.observation s t.bytes range (few_each few k d within)));
    }

    -- what stands beside a transfer
    merged_with : (k : ℕ) (t : ObservedTransfer) → k < length ts → get_or ts k t ≡ t → HasFew s ts →
        IsMerged (found_in s t) (get_or observations k None) (get_or books k []) (slice_index spectra k)
    merged_with k t within same few =
        let short = subst (λ x. count_of x ≤ s.max_candidates) same (few_each few k t within) in
        let o : get_or observations k None ≡ Some t.observation =
        ap (λ xs. get_or xs k None) holds.observed
        ∙ get_or-map (λ (x : ObservedTransfer). Some x.observation) ts k t None within
        ∙ ap (λ (x : ObservedTransfer). Some x.observation) same in
        let b : get_or books k [] ≡ books_of t =
        ap (λ xs. get_or xs k []) holds.added ∙ get_or-map books_of ts k t [] within ∙ ap books_of same in
        let n : slice_index spectra k ≡ spectra_of t =
        ap (λ (xs : List ℕ). slice_index xs k) holds.counted ∙ get_or-map spectra_of ts k t 0 within
        ∙ ap spectra_of same in
        let alone : IsMerged (found_in s t) (Some t.observation) (books_of t) (spectra_of t) = record {
          described = refl;
          counted = refl;
          merged = merged listed rise merge t.observation s t.bytes range short;
        } in
        subst (λ x. IsMerged (found_in s t) (get_or observations k None) (get_or books k []) x) (sym n)
        (subst (λ x. IsMerged (found_in s t) (get_or observations k None) x (spectra_of t)) (sym b)
        (subst (λ x. IsMerged (found_in s t) x (books_of t) (spectra_of t)) (sym o) alone))

    pub are_merged : HasFew s ts → AreMerged (map (found_in s) ts) observations books spectra
    are_merged few = record {
      count = length-map ts (found_in s) ∙ sym count_is;
      each = λ k found there.
          let long = length-map ts (found_in s) in
          let inside = slice_get_within (map (found_in s) ts) k found there in
          elim (slice_get_cases ts k).1 [
            | inl at ↦
                let t = at.0 in
                let is : found_in s t ≡ found =
                sym (get_or-map (found_in s) ts k t (found_in s t) at.1 ∙ ap (found_in s) at.3)
                ∙ get_or_from_slice_get (map (found_in s) ts) k found (found_in s t) there in
                subst (λ (x : FoundList).
                IsMerged x (get_or observations k None) (get_or books k []) (slice_index spectra k)) is
                (merged_with k t at.1 at.3 few)
            | inr past ↦ absurd (omega (arith, past.0, inside, long))
          ];
    }

-- What stands at a place of several lists beside each other.
use Rattle.std.proofs.Common.{◌≡◌, ℕ, ◌+◌, ◌<◌, ◌≤◌, List, [], map, length, take, get_or, slice_get, slice_index, Option, Some, None, sym, ap, subst, ◌∙◌, arith}
use Rattle.std.specs.List.{sum_by}
use Rattle.std.proofs.lemmas.List.{get_or-map}
use Rattle.std.proofs.lemmas.List.Sums.{sum_by_more, sum_by_more_le}
use Rattle.dada_model.specs.Observation.{Observation}
use Rattle.candidate_book.specs.Book.{BookContents}
use Rattle.transfer_text.specs.Text.{FoundList}
use Rattle.transfer_text.specs.Books.{IsMerged, AreMerged}
use Rattle.transfer_text.specs.Found.{count_in, book_total}

-- what a vector of a list holds
pub items_at : {A X : Type 0} (items : A → List X) (vectors : List A) (k : ℕ) (v : A) (shown : List X) →
    k < length vectors → v ≡ get_or vectors k v → shown ≡ items v → get_or (map items vectors) k [] ≡ shown
items_at items vectors k v shown within is shows =
    get_or-map items vectors k v [] within ∙ ap items (sym is) ∙ sym shows

-- the list of a transfer beside what was read of it
pub merged_at : (lists : List FoundList) (observations : List (Option Observation))
    (books : List (List (Option BookContents))) (spectra : List ℕ) (k : ℕ) (found : FoundList)
    (observation : Option Observation) (shards : List (Option BookContents)) →
    AreMerged lists observations books spectra → slice_get lists k ≡ Some found →
    observation ≡ get_or observations k None → get_or books k [] ≡ shards →
    IsMerged found observation shards (slice_index spectra k)
merged_at lists observations books spectra k found observation shards merged there read held =
    subst (λ o. IsMerged found o shards (slice_index spectra k)) (sym read)
    (subst (λ b. IsMerged found (get_or observations k None) b (slice_index spectra k)) held
    (merged.each k found there))

-- the count so far and that of one transfer more are within the whole
pub total_within : (books : List (List (Option BookContents))) (k count : ℕ) (shards : List (Option BookContents)) →
    k < length books → get_or books k [] ≡ shards → count ≡ book_total (take k books) →
    count + sum_by count_in shards ≤ book_total books
total_within books k count shards within held counted =
    let le = sum_by_more_le (λ b. sum_by count_in b) books k [] within in
    let same = ap (λ b. sum_by count_in b) held in
    omega (arith, le, same, counted)

pub total_more : (books : List (List (Option BookContents))) (k count more : ℕ) (shards : List (Option BookContents)) →
    k < length books → get_or books k [] ≡ shards → count ≡ book_total (take k books) →
    more ≡ sum_by count_in shards → count + more ≡ book_total (take (k + 1) books)
total_more books k count more shards within held counted is =
    let e = sum_by_more (λ b. sum_by count_in b) books k [] within in
    let same = ap (λ b. sum_by count_in b) held in
    omega (arith, e, same, counted, is)

-- Where transfers begin among the names.
use Rattle.std.proofs.Common.{◌≡◌, ℕ, ◌+◌, ◌<◌, suc, zero, Bool, true, false, not, List, [], ◌∷◌, length, get_or, cond, refl, ap, arith, add-one}
use Rattle.std.specs.List.{list_all}
use Rattle.std.proofs.lemmas.Bool.{and_parts, ltb-true}
use Rattle.search_words.specs.Transfers.{AreTransferStarts, is_plus, file_names, transfers_in, with_first, starts_after, starts_in, has_names}
use Rattle.search_words.proofs.Parted.{starts_begin}

pub starts_counted : (n : ℕ) (transfers : List (List (List ℕ))) → length (starts_after n transfers) ≡ length transfers
starts_counted n [] = refl
starts_counted n (names ∷ more) = ap suc (starts_counted (n + length names) more)

some_transfers : (files : List (List ℕ)) → 0 < length (transfers_in files)
some_transfers files =
    let begun = ap length (starts_begin 0 files) in
    let counted = starts_counted 0 (transfers_in files) in
    omega arith

-- how many names transfers have
abbrev name_count : List (List (List ℕ)) → ℕ
name_count [] = 0
name_count (names ∷ more) = length names + name_count more

one_more : (word : List ℕ) (transfers : List (List (List ℕ))) → 0 < length transfers →
    name_count (with_first word transfers) ≡ name_count transfers + 1
one_more word [] some = absurd (omega arith)
one_more word (names ∷ more) some = omega arith

counted_at : (b : Bool) (word : List ℕ) (files : List (List ℕ)) →
    name_count (transfers_in files) ≡ length (file_names files) →
    name_count (cond b ([] ∷ transfers_in files) (with_first word (transfers_in files)))
    ≡ length (cond (not b) (word ∷ file_names files) (file_names files))
counted_at true word files e = omega (arith, e)
counted_at false word files e = omega (arith, e, one_more word (transfers_in files) (some_transfers files))

counted : (files : List (List ℕ)) → name_count (transfers_in files) ≡ length (file_names files)
counted [] = refl
counted (word ∷ files) = counted_at (is_plus word) word files (counted files)

rises : (n i d : ℕ) (transfers : List (List (List ℕ))) → list_all has_names transfers ≡ true →
    suc i < length transfers →
    get_or (starts_after n transfers) i d < get_or (starts_after n transfers) (suc i) d
rises n i d [] all within = absurd (omega arith)
rises n i d (names ∷ []) all within = absurd (omega arith)
rises n i d (names ∷ next ∷ more) all within =
    let both = and_parts (has_names names) (list_all has_names (next ∷ more)) all in
    let some : 0 < length names = ltb-true 0 (length names) both.0 in
    elim i as (λ k. suc k < suc (suc (length more)) →
    get_or (starts_after n (names ∷ next ∷ more)) k d < get_or (starts_after n (names ∷ next ∷ more)) (suc k) d) [
      | zero ↦ λ _. omega arith
      | suc k ↦ λ less. rises (n + length names) k d (next ∷ more) both.1 (omega arith)
    ] within

below : (n i d : ℕ) (transfers : List (List (List ℕ))) → list_all has_names transfers ≡ true →
    i < length transfers → get_or (starts_after n transfers) i d < n + name_count transfers
below n i d [] all within = absurd (omega arith)
below n i d (names ∷ more) all within =
    let both = and_parts (has_names names) (list_all has_names more) all in
    let some : 0 < length names = ltb-true 0 (length names) both.0 in
    elim i as (λ k. k < suc (length more) →
    get_or (starts_after n (names ∷ more)) k d < n + name_count (names ∷ more)) [
      | zero ↦ λ _. omega arith
      | suc k ↦ λ less. let later = below (n + length names) k d more both.1 (omega arith) in omega arith
    ] within

-- the names that are parted into transfers, each of which has one
pub are_starts : (files : List (List ℕ)) → list_all has_names (transfers_in files) ≡ true →
    AreTransferStarts (starts_in files) (length (file_names files))
are_starts files all =
    let transfers = transfers_in files in
    let count = length (file_names files) in
    let size = starts_counted 0 transfers in
    record {
      some = let some = some_transfers files in omega (arith, size);
      first = ap (λ starts. get_or starts 0 count) (starts_begin 0 files);
      rise = λ i more. rw add-one (rises 0 i count transfers all (omega (arith, size)));
      within = λ i less. let low = below 0 i count transfers all (omega (arith, size)) in
          omega (arith, counted files);
    }

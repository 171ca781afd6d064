-- Which folds of a list of values are detected.
-- Source: Staelin, Proc. IEEE 57:724, 1969 (all trials of a period); the detection rule is this project's choice.
use Rattle.std.specs.Prelude.{◌≡◌, ℕ, ◌*◌, ◌^◌, ◌≤◌, List, [], ◌∷◌, ◌++◌, Bool, false, Option, Some, None, length, slice_index, slice_index_or, nat_lt, nat_le, if◌then◌else◌}
use Rattle.std.specs.List.{range_with_len, flat_map}
use Rattle.search_model.specs.declared.candidate.Candidate.{Candidate}
use Rattle.search_model.specs.declared.candidate.Candidate.TheVariants.{Fold}
use Rattle.search_model.specs.declared.search.Search.{Search}
use Rattle.search_model.specs.Folds.{halvings, fold_sum}
use Rattle.search_model.specs.Search.{periods}
use Rattle.search_model.specs.Candidates.{if_detected}
use Rattle.detect_rule.specs.Noise.{Noise, StandOutFrom}
use Rattle.candidate_book.specs.Book.{BookContents, book_of}

-- the noise that a search states
abbrev pub noise_of : Search → Noise
noise_of s = record { mean = s.mean; sd = s.sd; snr = s.snr }

-- for each number of halvings, the smallest sum of a fold that is detected, if a path sum has
-- `cells` cells
abbrev pub AreFoldThresholds : Noise → ℕ → ℕ → List (Option ℕ) → Type 0
AreFoldThresholds noise cells most least =
    (m : ℕ) → m ≤ most → StandOutFrom noise (2 ^ m * cells) (slice_index_or least m None)

-- these candidates were added to a book
abbrev pub Adds : BookContents → BookContents → List Candidate → Type 0
Adds old new more = (list : List Candidate) → old ≡ book_of old.limit list
    → new ≡ book_of old.limit (list ++ more)

-- a sum is at least the least one
abbrev pub reaches : Option ℕ → ℕ → Bool
reaches None sum = false
reaches (Some least) sum = nat_le least sum

-- the fold of a trial at a phase, if its sum reaches the threshold
abbrev pub reaching_at : Option ℕ → ℕ → ℕ → ℕ → ℕ → List ℕ → ℕ → List Candidate
reaching_at least d p m j sums phase =
    if reaches least (slice_index sums phase)
    then Fold d p m j phase (slice_index sums phase) ∷ [] else []

-- the folds of a trial with these sums that reach the threshold, by phase
abbrev pub reaching_folds : Option ℕ → ℕ → ℕ → ℕ → ℕ → List ℕ → List Candidate
reaching_folds least d p m j sums =
    flat_map (λ phase. reaching_at least d p m j sums phase) (range_with_len 0 (length sums))

-- the detected folds of a trial with these sums; a path sum of delay d has `cells d` cells
abbrev pub detected_folds : (ℕ → ℕ) → Search → ℕ → ℕ → ℕ → ℕ → List ℕ → List Candidate
detected_folds cells s d p m j sums =
    flat_map (λ phase. if_detected cells s (Fold d p m j phase (slice_index sums phase)))
    (range_with_len 0 (length sums))

-- the detected folds of a list of values at a trial, by phase
abbrev pub folds_in_trial : (ℕ → ℕ) → Search → ℕ → ℕ → ℕ → ℕ → List ℕ → List Candidate
folds_in_trial cells s d p m j values =
    flat_map (λ phase. if_detected cells s (Fold d p m j phase (fold_sum values p m j phase)))
    (range_with_len 0 p)

-- the detected folds of all trials, by trial
abbrev pub folds_in_trials : (ℕ → ℕ) → Search → ℕ → ℕ → ℕ → List ℕ → List Candidate
folds_in_trials cells s d p m values =
    flat_map (λ j. folds_in_trial cells s d p m j values) (range_with_len 0 (2 ^ m))

-- the detected folds of a period; none if not even two rows fit
abbrev pub folds_in_period : (ℕ → ℕ) → Search → ℕ → ℕ → List ℕ → List Candidate
folds_in_period cells s d p values =
    let m = halvings s.fold_rows p (length values) in
    if nat_lt 0 m then folds_in_trials cells s d p m values else []

-- the detected folds of all periods, by period
abbrev pub folds_in_values : (ℕ → ℕ) → Search → ℕ → List ℕ → List Candidate
folds_in_values cells s d values = flat_map (λ p. folds_in_period cells s d p values) (periods s)

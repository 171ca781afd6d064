-- The candidates of a search over a whole file: all detected pulses, then all detected folds.
-- Source: this project's choice.
use Rattle.std.specs.Prelude.{ℕ, ◌+◌, ◌-◌, ◌*◌, ◌^◌, ◌&&◌, List, [], ◌∷◌, ◌++◌, filter, nat_le, nat_lt, if◌then◌else◌}
use Rattle.std.specs.List.{range_with_len, flat_map}
use Rattle.search_model.specs.declared.candidate.Candidate.{Candidate}
use Rattle.search_model.specs.declared.candidate.Candidate.TheVariants.{Pulse, Fold}
use Rattle.search_model.specs.declared.search.Search.{Search}
use Rattle.search_model.specs.Samples.{Filterbank}
use Rattle.search_model.specs.Sums.{box_sum}
use Rattle.search_model.specs.Folds.{series, halvings, fold_sum}
use Rattle.search_model.specs.Detection.{is_detected}
use Rattle.search_model.specs.Search.{delays, widths, fold_delays, periods, shard_start}

abbrev pub delay_of : Candidate → ℕ
delay_of (Pulse _ delay _ _) = delay
delay_of (Fold delay _ _ _ _ _) = delay

abbrev pub sum_of : Candidate → ℕ
sum_of (Pulse _ _ _ sum) = sum
sum_of (Fold _ _ _ _ _ sum) = sum

-- how many cells a path sum of delay d over n channels has
abbrev pub plain_cells : ℕ → ℕ → ℕ
plain_cells n d = n + d

-- how many cells were added up, where a path sum of delay d has `cells d`
abbrev pub cells_of : (ℕ → ℕ) → Candidate → ℕ
cells_of cells (Pulse _ delay width _) = width * cells delay
cells_of cells (Fold delay _ halvings _ _ _) = 2 ^ halvings * cells delay

-- the candidate by itself, if it is detected
abbrev pub if_detected : (ℕ → ℕ) → Search → Candidate → List Candidate
if_detected cells s c =
    if is_detected s.mean s.sd s.snr (sum_of c) (cells_of cells c) then c ∷ [] else []

-- the box of width w and delay d that ends at spectrum u, if it begins at the delay or later and is detected
abbrev pub pulse_at : Filterbank → List ℕ → (ℕ → ℕ) → Search → ℕ → ℕ → ℕ → List Candidate
pulse_at f edges cells s u d w =
    if nat_le (d + w) (u + 1) then if_detected cells s (Pulse u d w (box_sum f edges u d w)) else []

-- those of one end and one delay, by width
abbrev pub pulses_at : Filterbank → List ℕ → (ℕ → ℕ) → Search → ℕ → ℕ → List Candidate
pulses_at f edges cells s u d = flat_map (λ w. pulse_at f edges cells s u d w) (widths s)

-- those of one end, by delay
abbrev pub pulses_ending : Filterbank → List ℕ → (ℕ → ℕ) → Search → ℕ → List Candidate
pulses_ending f edges cells s u = flat_map (λ d. pulses_at f edges cells s u d) (delays s)

-- all detected pulses by end, then delay, then width
abbrev pub pulses : Filterbank → List ℕ → (ℕ → ℕ) → Search → List Candidate
pulses f edges cells s =
    flat_map (λ u. pulses_ending f edges cells s u) (range_with_len 0 f.spectra)

-- the fold of the series of delay d by m halvings of period p, at a trial and a phase, if it is detected
abbrev pub fold_at : Filterbank → List ℕ → (ℕ → ℕ) → Search → ℕ → ℕ → ℕ → ℕ → ℕ → List Candidate
fold_at f edges cells s d p m j phase =
    if_detected cells s (Fold d p m j phase (fold_sum (series f edges d) p m j phase))

-- those of one delay, one period and one trial, by phase
abbrev pub folds_of_trial : Filterbank → List ℕ → (ℕ → ℕ) → Search → ℕ → ℕ → ℕ → ℕ → List Candidate
folds_of_trial f edges cells s d p m j =
    flat_map (λ phase. fold_at f edges cells s d p m j phase) (range_with_len 0 p)

-- those of one delay and one period, by trial; none where not even two rows fit
abbrev pub folds_at : Filterbank → List ℕ → (ℕ → ℕ) → Search → ℕ → ℕ → List Candidate
folds_at f edges cells s d p =
    let m = halvings s.fold_rows p (f.spectra - d) in
    if nat_lt 0 m
    then flat_map (λ j. folds_of_trial f edges cells s d p m j) (range_with_len 0 (2 ^ m))
    else []

-- those of one delay, by period
abbrev pub folds_of_delay : Filterbank → List ℕ → (ℕ → ℕ) → Search → ℕ → List Candidate
folds_of_delay f edges cells s d = flat_map (λ p. folds_at f edges cells s d p) (periods s)

-- all detected folds by delay, then period, then trial, then phase
abbrev pub folds : Filterbank → List ℕ → (ℕ → ℕ) → Search → List Candidate
folds f edges cells s = flat_map (λ d. folds_of_delay f edges cells s d) (fold_delays s)

-- the candidate list: all pulses, and then all folds
abbrev pub candidates : Filterbank → List ℕ → (ℕ → ℕ) → Search → List Candidate
candidates f edges cells s = pulses f edges cells s ++ folds f edges cells s

-- the candidates whose delay lies from `least` up to, but without, `bound`, in their order
abbrev pub within_delays : ℕ → ℕ → List Candidate → List Candidate
within_delays least bound list =
    filter (λ c. nat_le least (delay_of c) && nat_lt (delay_of c) bound) list

-- the part of shard k
abbrev pub shard_part : Search → ℕ → List Candidate → List Candidate
shard_part s k list = within_delays (shard_start s k) (shard_start s (k + 1)) list

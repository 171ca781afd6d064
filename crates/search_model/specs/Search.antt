-- What a search looks for, how its delays are shared, and in which ranges the settings lie.
-- Source: this project's choice.
use Rattle.std.specs.Prelude.{ℕ, ◌+◌, ◌-◌, ◌*◌, ◌/◌, ◌%◌, ◌≤◌, ◌==◌, List, [], ◌∷◌, Bool, IsTrue, filter, nat_le}
use Rattle.std.specs.List.{list_any}
use Rattle.dada_model.specs.Bounds.{most_delay}
use Rattle.search_model.specs.declared.search.Search.{Search}
use Rattle.search_model.specs.Sums.{between}

abbrev pub delays : Search → List ℕ
delays s = between s.min_delay s.max_delay

-- the powers of two that a box can be wide
abbrev pub box_widths : List ℕ
box_widths = 1 ∷ 2 ∷ 4 ∷ 8 ∷ 16 ∷ 32 ∷ []

-- each of them up to the widest box
abbrev pub widths : Search → List ℕ
widths s = filter (λ w. nat_le w s.widest) box_widths

abbrev pub folds_are_on : Search → Bool
folds_are_on s = nat_le s.fold_min s.fold_max

-- the delays whose series are folded: each `fold_step`-th one from the least on
abbrev pub fold_delays : Search → List ℕ
fold_delays s = filter (λ d. (d - s.min_delay) % s.fold_step == 0) (delays s)

abbrev pub periods : Search → List ℕ
periods s = between s.fold_min s.fold_max

-- how many delays there are
abbrev pub delay_count : Search → ℕ
delay_count s = s.max_delay + 1 - s.min_delay

-- the least delay of shard k; it ends where shard k + 1 begins
abbrev pub shard_start : Search → ℕ → ℕ
shard_start s k = s.min_delay + k * delay_count s / s.shards

-- the same search by one shard, which has all delays
abbrev pub in_one_shard : Search → Search
in_one_shard s = record s { shards = 1 }

-- the longest period of a fold, in spectra
abbrev pub longest_period : ℕ
longest_period = 1048576

-- how often the rows of a fold are halved at most
abbrev pub greatest_halvings : ℕ
greatest_halvings = 12

-- how many spectra are unpacked at a time at most
abbrev pub longest_chunk : ℕ
longest_chunk = 65536

-- how many shards there are at most
abbrev pub shard_limit : ℕ
shard_limit = 7

-- how many candidates a shard keeps at most
abbrev pub candidate_limit : ℕ
candidate_limit = 1048576

-- the greatest mean and deviation of a sample, in thousandths
abbrev pub greatest_noise : ℕ
greatest_noise = 200000000

-- the greatest threshold, in hundredths
abbrev pub greatest_snr : ℕ
greatest_snr = 100000

-- the delays, and the widest box
pub record DelaysInRange (s : Search) : Type 0 where
  pub rise : s.min_delay ≤ s.max_delay
  pub most : s.max_delay ≤ most_delay
  pub widest : IsTrue (list_any (λ w. w == s.widest) box_widths)

-- the settings of the folds
pub record FoldsInRange (s : Search) : Type 0 where
  pub least_min : 2 ≤ s.fold_min
  pub most_min : s.fold_min ≤ longest_period
  pub most_max : s.fold_max ≤ longest_period
  pub least_rows : 1 ≤ s.fold_rows
  pub most_rows : s.fold_rows ≤ greatest_halvings
  pub least_step : 1 ≤ s.fold_step
  pub most_step : s.fold_step ≤ most_delay

-- how the work is cut and shared
pub record PartsInRange (s : Search) : Type 0 where
  pub least_chunk : 1 ≤ s.chunk
  pub most_chunk : s.chunk ≤ longest_chunk
  pub least_shards : 1 ≤ s.shards
  pub most_shards : s.shards ≤ shard_limit
  pub most_candidates : s.max_candidates ≤ candidate_limit

-- the noise, and how far a candidate stands out of it
pub record NoiseInRange (s : Search) : Type 0 where
  pub most_mean : s.mean ≤ greatest_noise
  pub least_sd : 1 ≤ s.sd
  pub most_sd : s.sd ≤ greatest_noise
  pub least_snr : 1 ≤ s.snr
  pub most_snr : s.snr ≤ greatest_snr

-- each setting lies in its range
pub record SettingsInRange (s : Search) : Type 0 where
  pub delays : DelaysInRange s
  pub folds : FoldsInRange s
  pub parts : PartsInRange s
  pub noise : NoiseInRange s

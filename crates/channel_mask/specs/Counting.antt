-- How cells are counted: over each part of the band that the halving tree comes to.
-- Source: this project's choice.
use Rattle.std.specs.Prelude.{◌≡◌, ℕ, ◌+◌, ◌-◌, ◌≤◌, ◌<◌, Bool, List, length, slice_index, if◌then◌else◌}
use Rattle.search_model.specs.Samples.{Filterbank}
use Rattle.search_model.specs.Subbands.{node_sum}
use Rattle.search_engine.specs.Scope.{kept_by}

-- spectra that are all alike, 1 in the channels that are kept and 0 in others
abbrev pub marks_bank : List Bool → Filterbank
marks_bank mask = record {
  channels = length mask;
  spectra = 0;
  value = λ c t. if kept_by mask c then 1 else 0;
}

-- how many kept cells the path of delay d has in the channels from lo up to hi: its sum over such spectra
unfoldable pub part_cells : List ℕ → List Bool → ℕ → ℕ → ℕ → ℕ
part_cells edges mask lo hi d = node_sum (marks_bank mask) edges lo hi d d 0

-- a count of these
pub record IsCount (edges : List ℕ) (mask : List Bool) (lo hi d count : ℕ) : Type 0 where
  pub is : count ≡ part_cells edges mask lo hi d
  pub few : count ≤ hi - lo + d

-- the counts of the first n delays
pub record AreCounts (edges : List ℕ) (mask : List Bool) (lo hi n : ℕ) (counts : List ℕ)
    : Type 0 where
  pub entries : length counts ≡ n
  pub each : (d : ℕ) → d < n → IsCount edges mask lo hi d (slice_index counts d)

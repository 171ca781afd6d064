-- The least detected sums of boxes, and the hits: delays and widths at which a box may be detected.
-- Source: this project's choice.
use Rattle.std.specs.Prelude.{◌≡◌, ℕ, ◌+◌, ◌-◌, ◌*◌, ◌≤◌, ◌<◌, List, Option, Some, slice_get, slice_index, length}
use Rattle.std.specs.List.{flat_map}
use Rattle.box_sums.specs.Rows.{IsWidth}
use Rattle.detect_rule.specs.Noise.{StandOutFrom}
use Rattle.search_model.specs.declared.candidate.Candidate.{Candidate}
use Rattle.search_model.specs.declared.search.Search.{Search}
use Rattle.search_model.specs.Search.{widths}
use Rattle.shard_search.specs.declared.thresholds.Hit.{Hit}
use Rattle.shard_search.specs.declared.thresholds.BoxThresholds.{BoxThresholds}
use Rattle.fold_search.specs.Judging.{noise_of}
use Rattle.shard_search.specs.Pulses.{pulse_of}
use Rattle.shard_search.specs.Sought.{Sought, cells_in}

-- The least detected sums of one delay stand one behind the other, one for each width, and those of delay first + i
-- behind those of the i delays before it.
abbrev pub AreLeastSums : Search → Sought → ℕ → List ℕ → List (Option ℕ) → Type 0
AreLeastSums s c first ws least_sums =
    (i at : ℕ) (least : Option ℕ) → at < length ws →
    slice_get least_sums (length ws * i + at) ≡ Some least →
    StandOutFrom (noise_of s) (slice_index ws at * cells_in c (first + i)) least

-- these are the thresholds of all widths of a search, for the delays from `first` up to, but
-- without, `end`
pub record AreThresholds
    (s : Search) (c : Sought) (first end : ℕ) (thresholds : BoxThresholds)
    : Type 0 where
  pub widths_are : thresholds.widths.items ≡ widths s
  pub count : length thresholds.least_sums.items
      ≡ length thresholds.widths.items * (end - first)
  pub least_sums : AreLeastSums s c first thresholds.widths.items thresholds.least_sums.items

-- a delay and a width that are searched, with the least sum of such a box that is detected
pub record IsHit (s : Search) (c : Sought) (first end : ℕ) (hit : Hit) : Type 0 where
  pub above : first ≤ hit.delay
  pub below : hit.delay < end
  pub width : IsWidth hit.width
  pub within : hit.width ≤ s.widest
  pub least : StandOutFrom (noise_of s) (hit.width * cells_in c hit.delay) (Some hit.least)

-- the pulse of a hit that ends at spectrum u, if it is sought and detected
abbrev pub pulse_of_hit : (ℕ → ℕ → ℕ) → Search → Sought → ℕ → Hit → List Candidate
pulse_of_hit y s c u hit = pulse_of y s c u hit.delay hit.width

-- the detected pulses of several hits
abbrev pub pulses_of_hits : (ℕ → ℕ → ℕ) → Search → Sought → ℕ → List Hit → List Candidate
pulses_of_hits y s c u hits = flat_map (λ hit. pulse_of_hit y s c u hit) hits

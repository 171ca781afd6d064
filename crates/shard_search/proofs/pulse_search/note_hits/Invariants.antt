use Rattle.std.proofs.Common.{◌≡◌, ◌+◌, ◌<◌, ◌≤◌, ◌++◌, ℕ, All, take, length, vec_capacity}
use Rattle.std.specs.List.{flat_map}
use Rattle.search_model.specs.declared.search.Search.{Search}
use Rattle.shard_search.specs.Sought.{Sought}
use Rattle.shard_search.specs.Thresholds.{IsHit, AreThresholds, pulses_of_hits}
use Rattle.shard_search.specs.PulseSearch.{IsTakenRow, AddsHitsOf}
use Rattle.shard_search.specs.Pulses.{pulse_of}
use Rattle.shard_search.proofs.pulse_search.note_hits.Given as goal

-- the hits of the first widths
abbrev pub invariant-loop-at : goal.invariant-loop-at
invariant-loop-at l = record {
  same : l.boxes ≡ l.fn.boxes;
  capacity : vec_capacity l.hits ≡ vec_capacity l.fn.hits;
  few : length l.hits.items ≤ length l.fn.hits.items + l.at;
  hits : (s : Search) (c : Sought) (end : ℕ) → AreThresholds s c l.first end l.thresholds
      → All (IsHit s c l.first end) l.fn.hits.items → All (IsHit s c l.first end) l.hits.items;
  own : AddsHitsOf l.d l.fn.hits.items l.hits.items;
  pulses : (s : Search) (c : Sought) (end m k : ℕ) (y : ℕ → ℕ → ℕ) → AreThresholds s c l.first end l.thresholds
      → IsTakenRow y l.fn.boxes l.d m l.row → k < length l.row
      → pulses_of_hits y s c (m + k) l.hits.items ≡ pulses_of_hits y s c (m + k) l.fn.hits.items
      ++ flat_map (λ w. pulse_of y s c (m + k) l.d w) (take l.at l.thresholds.widths.items);
}

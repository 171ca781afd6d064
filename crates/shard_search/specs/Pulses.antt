-- The pulses of a stream of path sums, of which `y d u` is the one of delay d that ends at spectrum u.
-- Source: this project's choice.
use Rattle.std.specs.Prelude.{◌≡◌, ℕ, ◌+◌, ◌-◌, ◌<◌, ◌&&◌, List, [], map, length, slice_index, sum_by, nat_le, if◌then◌else◌}
use Rattle.std.specs.List.{range_with_len, flat_map}
use Rattle.search_model.specs.declared.candidate.Candidate.{Candidate}
use Rattle.search_model.specs.declared.candidate.Candidate.TheVariants.{Pulse}
use Rattle.search_model.specs.declared.search.Search.{Search}
use Rattle.search_model.specs.Search.{widths}
use Rattle.search_model.specs.Candidates.{if_detected}
use Rattle.shard_search.specs.Sought.{Sought, cells_in, is_sought_end}

-- the path sums of delay d that end at the first m spectra
abbrev pub first_sums : (ℕ → ℕ → ℕ) → ℕ → ℕ → List ℕ
first_sums y d m = map (y d) (range_with_len 0 m)

-- a row has the sums of delay d that end at spectrum m and after it
abbrev pub IsRowOf : (ℕ → ℕ → ℕ) → ℕ → ℕ → List ℕ → Type 0
IsRowOf y d m row = (k : ℕ) → k < length row → slice_index row k ≡ y d (m + k)

-- the sum of the w path sums of delay d that end at u and before it, 0 before the first spectrum
unfoldable pub box_of : (ℕ → ℕ → ℕ) → ℕ → ℕ → ℕ → ℕ
box_of y d u w = sum_by (λ k. if nat_le k u then y d (u - k) else 0) (range_with_len 0 w)

-- the box of width w and delay d that ends at u, if it begins at the delay or later, is sought and is detected
unfoldable pub pulse_of : (ℕ → ℕ → ℕ) → Search → Sought → ℕ → ℕ → ℕ → List Candidate
pulse_of y s c u d w =
    if nat_le (d + w) (u + 1) && is_sought_end c u
    then if_detected (cells_in c) s (Pulse (c.first + u) d w (box_of y d u w)) else []

-- the detected pulses of one end and one delay, by width
abbrev pub pulses_of_delay : (ℕ → ℕ → ℕ) → Search → Sought → ℕ → ℕ → List Candidate
pulses_of_delay y s c u d = flat_map (λ w. pulse_of y s c u d w) (widths s)

-- the detected pulses of one end, by delay, from `first` up to, but without, `end`
abbrev pub pulses_of_end : (ℕ → ℕ → ℕ) → Search → Sought → ℕ → ℕ → ℕ → List Candidate
pulses_of_end y s c first end u =
    flat_map (λ d. pulses_of_delay y s c u d) (range_with_len first (end - first))

-- the detected pulses of `count` ends from spectrum `start` on
abbrev pub pulses_of_ends : (ℕ → ℕ → ℕ) → Search → Sought → ℕ → ℕ → ℕ → ℕ → List Candidate
pulses_of_ends y s c first end start count =
    flat_map (λ u. pulses_of_end y s c first end u) (range_with_len start count)

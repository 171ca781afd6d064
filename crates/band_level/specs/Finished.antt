-- What becomes of a levelled spectrum: a burst is clipped, and the mean of the spectrum is taken out.
-- Source: this project's choice.
use Rattle.std.specs.Prelude.{ℕ, ◌+◌, ◌-◌, ◌*◌, ◌/◌, Bool, List, length, map, min, replicate, sum_by, slice_index, nat_lt, Option, Some, None, if◌then◌else◌}
use Rattle.std.specs.List.{range_with_len}
use Rattle.band_level.specs.declared.plan.Plan.{Plan}
use Rattle.band_level.specs.Moments.{distance}

-- how many of the first n cells aren't masked
unfoldable pub kept_before : (ℕ → Bool) → ℕ → ℕ
kept_before is_masked n = sum_by (λ i. if is_masked i then 0 else 1) (range_with_len 0 n)

-- the sum of the values of those of them, and of all cells that aren't masked
unfoldable pub kept_sum : (ℕ → Bool) → List ℕ → ℕ → ℕ
kept_sum is_masked values n =
    sum_by (λ i. if is_masked i then 0 else slice_index values i) (range_with_len 0 n)

abbrev pub kept_total : (ℕ → Bool) → List ℕ → ℕ
kept_total is_masked values = kept_sum is_masked values (length values)

-- ---- bursts

-- Whether the sum of n values lies farther from n means than `clip` deviations of such a sum. The square of that
-- deviation is n squares of the plan's; clip, mean and deviation are in thousandths.
abbrev pub is_far : Plan → ℕ → ℕ → ℕ → Bool
is_far p clip n total =
    let far = distance (1000 * total) (n * p.mean) in
    nat_lt (clip * clip * (p.deviation * p.deviation) * n) (far * far * 1000000)

-- the mean of the plan, as it is written
abbrev pub mean_value : Plan → ℕ
mean_value p = min p.most (p.mean / 1000)

-- a burst has the mean in every cell
abbrev pub clipped_at : Plan → ℕ → (ℕ → Bool) → List ℕ → List ℕ
clipped_at p clip is_masked values =
    if is_far p clip (kept_before is_masked (length values)) (kept_total is_masked values)
    then replicate (length values) (mean_value p) else values

abbrev pub clipped_by : Option ℕ → Plan → (ℕ → Bool) → List ℕ → List ℕ
clipped_by None p is_masked values = values
clipped_by (Some clip) p is_masked values = clipped_at p clip is_masked values

abbrev pub clipped : Plan → (ℕ → Bool) → List ℕ → List ℕ
clipped p is_masked values = clipped_by p.clip p is_masked values

-- ---- the mean of a spectrum

-- n means, in whole values
abbrev pub means : Plan → ℕ → ℕ
means p n = n * p.mean / 1000

-- An amount is spread over n values: the first j of them have j of n parts of it, rounded down if `start` is 0, and up
-- if it is n - 1. This is what value j has.
abbrev pub share : ℕ → ℕ → ℕ → ℕ → ℕ
share n amount start j = ((j + 1) * amount + start) / n - (j * amount + start) / n

-- What value j of n loses if they sum to more than n means, and what it gains if they sum to less. A gain is a negative
-- loss, and losses are rounded down: so what the first j gain is rounded up.
abbrev pub loss : Plan → ℕ → ℕ → ℕ → ℕ
loss p n total j = share n (total - means p n) 0 j

abbrev pub gain : Plan → ℕ → ℕ → ℕ → ℕ
gain p n total j = share n (means p n - total) (n - 1) j

-- value j of n, of which the mean is taken out: at least 0, at most the greatest value
abbrev pub balanced : Plan → ℕ → ℕ → ℕ → ℕ → ℕ
balanced p n total j value = min p.most (value + gain p n total j - loss p n total j)

-- the cells that aren't masked lose together what they have more than their means
abbrev pub without_mean : Plan → (ℕ → Bool) → List ℕ → List ℕ
without_mean p is_masked values = map
    (λ i. if is_masked i then slice_index values i else
    balanced p (kept_before is_masked (length values)) (kept_total is_masked values)
    (kept_before is_masked i) (slice_index values i))
    (range_with_len 0 (length values))

-- ---- both

unfoldable pub finished : Plan → (ℕ → Bool) → List ℕ → List ℕ
finished p is_masked values =
    if p.zero_dm then without_mean p is_masked (clipped p is_masked values)
    else clipped p is_masked values

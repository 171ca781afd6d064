-- What the search of a shard's path sums needs, and what it is when it was opened.
-- Source: this project's choice.
use Rattle.std.specs.Prelude.{◌≡◌, ℕ, ◌-◌, ◌*◌, ◌^◌, ◌<◌, IsTrue, List, min}
use Rattle.fdmt_carry.specs.Carrying.{IsStream}
use Rattle.search_model.specs.declared.search.Search.{Search}
use Rattle.search_model.specs.Samples.{Filterbank}
use Rattle.search_model.specs.Search.{folds_are_on}
use Rattle.subband_plan.specs.Plans.{band_plan}
use Rattle.shard_search.specs.declared.tables.TheConstants.{MOST_TABLES}
use Rattle.fold_search.specs.FoldSearch.{FoldsFit}
use Rattle.shard_search.specs.Sought.{Sought}
use Rattle.shard_search.specs.Sums.{ShardState, StandsForStream}

-- no sum of a search whose path sums are at most `bound` passes 32 bits, and its folds are not too large
pub record SumsFit (s : Search) (bound : ℕ) : Type 0 where
  pub boxes : bound * s.widest < 2 ^ 32
  pub folds : IsTrue (folds_are_on s) → FoldsFit s bound

-- the search of the delays from `first` up to, but without, `end`, over a band with these edges, of which nothing is
-- taken
pub record IsOpenedShard
    (edges : List ℕ) (s : Search) (c : Sought) (first end chunk max_sample : ℕ) (x : ShardState)
    : Type 0 where
  pub plan : x.carry.tables.plan ≡ band_plan edges first (end - 1)
  pub rows : x.carry.tables.chunk ≡ chunk
  pub most : x.carry.tables.most ≡ min chunk MOST_TABLES
  pub greatest : x.carry.max_sample ≡ max_sample
  pub search_is : x.pulses.search ≡ s
  pub sought_is : x.pulses.sought ≡ c
  pub nothing_fed : x.carry.fed ≡ 0
  pub stands : (f : Filterbank) → IsStream (band_plan edges first (end - 1)) max_sample f
      → StandsForStream x f

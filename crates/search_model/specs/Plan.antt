-- Which searches are refused before they begin: a sum or a fold would be too large, too many delays would be folded, or
-- a shard would have no delay.
-- Source: this project's choice.
use Rattle.std.specs.Prelude.{ℕ, ◌+◌, ◌-◌, ◌*◌, ◌^◌, ◌&&◌, max, length, nat_lt, if◌then◌else◌, Option, Some, None}
use Rattle.dada_model.specs.Observation.{Observation, max_sample}
use Rattle.search_model.specs.declared.search.Search.{Search}
use Rattle.search_model.specs.Search.{folds_are_on, fold_delays, delay_count}

pub data PlanRefusal : Type 0 where
  SumBound : (max_sample cells factor : ℕ) → PlanRefusal
  FoldTooLarge : (longest halvings : ℕ) → PlanRefusal
  TooManyFolds : (count : ℕ) → PlanRefusal
  TooManyShards : (shards delays : ℕ) → PlanRefusal

-- how many path sums a box or a fold adds up at most
abbrev pub most_added : Search → ℕ
most_added s = max s.widest (if folds_are_on s then 2 ^ s.fold_rows else 1)

-- the first refusal of a search of an observation:
-- a sum past 32 bits; a fold of more than 2^22 values; more than 64 folded delays; more shards than delays
abbrev pub plan_refusal : Observation → Search → Option PlanRefusal
plan_refusal o s =
    let most_cells = o.channels + s.max_delay in
    let fold_count = length (fold_delays s) in
    if nat_lt (2 ^ 32 - 1) (max_sample o * most_cells * most_added s)
    then Some (SumBound (max_sample o) most_cells (most_added s))
    else (if folds_are_on s && nat_lt (2 ^ 22) (s.fold_max * 2 ^ s.fold_rows)
    then Some (FoldTooLarge s.fold_max s.fold_rows)
    else (if folds_are_on s && nat_lt 64 fold_count
    then Some (TooManyFolds fold_count)
    else (if nat_lt (delay_count s) s.shards
    then Some (TooManyShards s.shards (delay_count s))
    else None)))

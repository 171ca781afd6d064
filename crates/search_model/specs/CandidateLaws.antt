-- Laws of the candidate list in the subject's own words; the functions of this crate carry them.
-- Source: this project's choice.
use Rattle.std.specs.Prelude.{◌≡◌, ℕ, ◌+◌, ◌-◌, ◌*◌, ◌%◌, ◌^◌, ◌≤◌, ◌<◌, ◌⊎◌, ◌↔◌, List, map, Contains}
use Rattle.std.specs.List.{range_with_len}
use Rattle.search_model.specs.declared.candidate.Candidate.{Candidate}
use Rattle.search_model.specs.declared.candidate.Candidate.TheVariants.{Pulse, Fold}
use Rattle.search_model.specs.declared.search.Search.{Search}
use Rattle.search_model.specs.Samples.{Filterbank}
use Rattle.search_model.specs.Sums.{box_sum}
use Rattle.search_model.specs.Folds.{series, fold_sum}
use Rattle.search_model.specs.Detection.{IsDetected}
use Rattle.search_model.specs.Search.{box_widths, shard_start}
use Rattle.search_model.specs.Candidates.{delay_of, candidates, shard_part}
use Rattle.search_model.specs.Order.{Precedes, IsRising, IsMergeOf}

-- a box is searched: it ends at a spectrum, its delay and width are among those of the search, it begins at its delay
-- or later, and its sum is detected
pub record IsPulse
    (f : Filterbank) (edges : List ℕ) (cells : ℕ → ℕ) (s : Search) (end delay width sum : ℕ)
    : Type 0 where
  pub ends : end < f.spectra
  pub delay_from : s.min_delay ≤ delay
  pub delay_to : delay ≤ s.max_delay
  pub box : Contains box_widths width
  pub width_to : width ≤ s.widest
  pub begins : delay + width ≤ end + 1
  pub adds : sum ≡ box_sum f edges end delay width
  pub detected : IsDetected s.mean s.sd s.snr sum (width * cells delay)

-- m is the greatest of the numbers from 1 to `most` at which 2^m rows of p values fit into `room` values
pub record IsMostHalvings (most p room m : ℕ) : Type 0 where
  pub some : 1 ≤ m
  pub within : m ≤ most
  pub fits : 2 ^ m * p ≤ room
  pub greatest : (k : ℕ) → k ≤ most → 2 ^ k * p ≤ room → k ≤ m

-- a fold is searched: its delay is one of those that are folded, its period is searched, it has as many rows as fit
-- into the series of its delay, a trial and a phase of theirs, and its sum is detected
pub record IsFold
    (f : Filterbank) (edges : List ℕ) (cells : ℕ → ℕ) (s : Search)
    (delay period halvings trial phase sum : ℕ)
    : Type 0 where
  pub delay_from : s.min_delay ≤ delay
  pub delay_to : delay ≤ s.max_delay
  pub step : (delay - s.min_delay) % s.fold_step ≡ 0
  pub period_from : s.fold_min ≤ period
  pub period_to : period ≤ s.fold_max
  pub rows : IsMostHalvings s.fold_rows period (f.spectra - delay) halvings
  pub trials : trial < 2 ^ halvings
  pub phases : phase < period
  pub adds : sum ≡ fold_sum (series f edges delay) period halvings trial phase
  pub detected : IsDetected s.mean s.sd s.snr sum (2 ^ halvings * cells delay)

abbrev pub IsCandidate : Filterbank → List ℕ → (ℕ → ℕ) → Search → Candidate → Type 0
IsCandidate f edges cells s (Pulse end delay width sum) =
    IsPulse f edges cells s end delay width sum
IsCandidate f edges cells s (Fold delay period halvings trial phase sum) =
    IsFold f edges cells s delay period halvings trial phase sum

-- the candidate list has exactly the candidates
abbrev pub CandidatesAreListed : Type 0
CandidatesAreListed =
    (f : Filterbank) (edges : List ℕ) (cells : ℕ → ℕ) (s : Search) (c : Candidate) →
    Contains (candidates f edges cells s) c ↔ IsCandidate f edges cells s c

-- and it rises
abbrev pub CandidatesRise : Type 0
CandidatesRise =
    (f : Filterbank) (edges : List ℕ) (cells : ℕ → ℕ) (s : Search) →
    IsRising (candidates f edges cells s)

-- the order is strict, and of two candidates one precedes the other or they share a delay
pub record OrderIsStrict : Type 0 where
  pub never : (x : Candidate) → ¬ Precedes x x
  pub follows : (x y z : Candidate) → Precedes x y → Precedes y z → Precedes x z
  pub compares : (x y : Candidate) → Precedes x y ⊎ (Precedes y x ⊎ (delay_of x ≡ delay_of y))

-- rising lists that have the same members are one list; so lists have one merge
pub record RisingListsAgree : Type 0 where
  pub lists : (xs ys : List Candidate) → IsRising xs → IsRising ys →
      ((c : Candidate) → Contains xs c ↔ Contains ys c) → xs ≡ ys
  pub merges : (parts : List (List Candidate)) (xs ys : List Candidate) → IsMergeOf parts xs →
      IsMergeOf parts ys → xs ≡ ys

-- the parts of all shards
abbrev pub shard_parts : Search → List Candidate → List (List Candidate)
shard_parts s list = map (λ k. shard_part s k list) (range_with_len 0 s.shards)

-- a part has the members whose delays are the shard's, and rises where the list does; the parts of all shards are
-- merged to the candidate list
pub record ShardsMerge : Type 0 where
  pub members : (s : Search) (k : ℕ) (list : List Candidate) (c : Candidate) →
      Contains (shard_part s k list) c
      ↔ (Contains list c × (shard_start s k ≤ delay_of c) × (delay_of c < shard_start s (k + 1)))
  pub rises : (s : Search) (k : ℕ) (list : List Candidate) → IsRising list →
      IsRising (shard_part s k list)
  pub merge : (f : Filterbank) (edges : List ℕ) (cells : ℕ → ℕ) (s : Search) → 1 ≤ s.shards →
      IsMergeOf (shard_parts s (candidates f edges cells s)) (candidates f edges cells s)

-- of one shard, the part is the whole list
abbrev pub OneShardIsAll : Type 0
OneShardIsAll = (f : Filterbank) (edges : List ℕ) (cells : ℕ → ℕ) (s : Search) → s.shards ≡ 1 →
    shard_part s 0 (candidates f edges cells s) ≡ candidates f edges cells s

-- candidate lists agree where the cells of each delay that is searched do
abbrev pub CellsAgree : Type 0
CellsAgree = (f : Filterbank) (edges : List ℕ) (cells other : ℕ → ℕ) (s : Search) →
    ((d : ℕ) → s.min_delay ≤ d → d ≤ s.max_delay → cells d ≡ other d) →
    candidates f edges cells s ≡ candidates f edges other s

-- What contracts see of the search of a shard's path sums.
-- Source: this project's choice.
use Rattle.std.specs.Prelude.{◌≡◌, ℕ, ◌+◌, ◌-◌, ◌*◌, ◌≤◌, ◌<◌, true, All, List, length, map}
use Rattle.std.specs.List.{range_with_len}
use Rattle.band_paths.specs.Edges.{channels_of}
use Rattle.subband_plan.specs.Nodes.{BandPlan}
use Rattle.fdmt_carry.specs.Carrying as carry
use Rattle.fdmt_carry.specs.Carrying.{Carrying, AreNext}
use Rattle.search_model.specs.declared.candidate.Candidate.{Candidate}
use Rattle.search_model.specs.declared.search.Search.{Search}
use Rattle.search_model.specs.Candidates.{folds, within_delays}
use Rattle.search_model.specs.Samples.{Filterbank}
use Rattle.search_model.specs.Search.{SettingsInRange}
use Rattle.search_model.specs.Sums.{path_sum}
use Rattle.dada_model.specs.Edges.{AreEdges}
use Rattle.candidate_book.specs.Book.{BookContents}
use Rattle.shard_search.specs.Counts.{most_pulses_at_end}
use Rattle.fold_search.specs.Judging.{Adds}
use Rattle.fold_search.specs.FoldSearch.{Fronts, FoldsAlike, HasDelay, FoldsFor, KeepsFrontOf}
use Rattle.shard_search.specs.Thresholds.{pulses_of_hits}
use Rattle.shard_search.specs.PulseSearch.{PulseState, SearchAlike, SearchesDelay, SearchesFor, WideRowHas, RowsStandFor, IsHitBelow}
use Rattle.shard_search.specs.Pulses.{first_sums, pulses_of_end, pulses_of_ends}
use Rattle.shard_search.specs.Sought.{Sought, cells_in}

-- a carry over the delays of a shard, and the searches for pulses and for folds in its rows
pub record ShardState : Type 0 where
  pub carry : Carrying
  pub pulses : PulseState
  pub folds : Fronts

-- the path sum of delay d that ends at spectrum u
unfoldable pub sums_of : Filterbank → List ℕ → ℕ → ℕ → ℕ
sums_of f edges d u = path_sum f edges u d

-- the sums of delay d that end at spectrum d or later, up to, but without, spectrum m
abbrev pub sums_from_delay : (ℕ → ℕ → ℕ) → ℕ → ℕ → List ℕ
sums_from_delay y d m = map (λ i. y d (d + i)) (range_with_len 0 (m - d))

-- no path sum of the search is greater
abbrev pub sum_bound : Carrying → Search → ℕ
sum_bound c s = c.max_sample * (channels_of c.tables.plan.edges + s.max_delay)

-- the parts search the same delays, in as large chunks
pub record FitTogether (s : ShardState) : Type 0 where
  pub band : AreEdges (channels_of s.carry.tables.plan.edges) s.carry.tables.plan.edges
  pub range : SettingsInRange s.pulses.search
  pub order : s.carry.tables.plan.first ≤ s.carry.tables.plan.last
  pub within : s.carry.tables.plan.last ≤ s.pulses.search.max_delay
  pub pulses : SearchesFor s.pulses s.pulses.search s.pulses.sought
      s.carry.tables.plan.first (s.carry.tables.plan.last + 1) s.carry.tables.chunk
      (sum_bound s.carry s.pulses.search)
  pub folds : FoldsFor s.folds s.pulses.search s.carry.tables.plan.first
      (s.carry.tables.plan.last + 1) (sum_bound s.carry s.pulses.search)

-- the delays of a search are those from `first` up to, but without, `end`
pub record AreDelaysOf (p : PulseState) (first end : ℕ) : Type 0 where
  pub first_is : p.first ≡ first
  pub end_is : p.end ≡ end
  pub order : first ≤ end

-- both parts go on as they were opened, and these delays have no more hits than each has widths
pub record GoOnAlike (p p' : PulseState) (g g' : Fronts) (first end : ℕ) : Type 0 where
  pub pulses : SearchAlike p' p
  pub folds : FoldsAlike g' g
  pub few : length p'.hits ≤ 6 * (end - first)

-- Amid a chunk of n spectra that begins at spectrum m: the rows of the delays below d were taken, the others not yet.
-- So what is kept of a delay below d is of its sums that end at the first m + n spectra, and what is kept of another
-- is of those that end at the first m. The hits stand for all pulses of the delays below d that end in the chunk, and
-- boxes can be asked for over their rows.
pub record HaveTaken (y : ℕ → ℕ → ℕ) (p : PulseState) (g : Fronts) (m n d : ℕ) : Type 0 where
  pub rows_below : (e : ℕ) → SearchesDelay p e → e < d
      → WideRowHas p.boxes e (first_sums y e (m + n))
  pub rows_from : (e : ℕ) → SearchesDelay p e → d ≤ e → WideRowHas p.boxes e (first_sums y e m)
  pub folds_below : (e : ℕ) → HasDelay g e → e < d → KeepsFrontOf g e (sums_from_delay y e (m + n))
  pub folds_from : (e : ℕ) → HasDelay g e → d ≤ e → KeepsFrontOf g e (sums_from_delay y e m)
  pub hits : (k : ℕ) → k < n → pulses_of_hits y p.search p.sought (m + k) p.hits
      ≡ pulses_of_end y p.search p.sought p.first d (m + k)
  pub kept : All (IsHitBelow y p.boxes m n d) p.hits

-- all parts were fed the first spectra of a stream
pub record StandsForStream (s : ShardState) (f : Filterbank) : Type 0 where
  pub carry : carry.StandsForSamples s.carry f
  pub pulses : RowsStandFor (sums_of f s.carry.tables.plan.edges) s.pulses s.carry.fed
  pub folds : (d : ℕ) → HasDelay s.folds d → KeepsFrontOf s.folds d
      (sums_from_delay (sums_of f s.carry.tables.plan.edges) d s.carry.fed)

-- there is a stream that the carry stands for
pub record HasStream (c : Carrying) : Type 0 where
  pub stream : Filterbank
  pub stands : carry.StandsForSamples c stream

-- a carry stands for a stream that goes on with these rows
pub record ContinuesStream (c : Carrying) (rows : List ℕ) (spectra : ℕ) : Type 0 where
  pub stream : Filterbank
  pub stands : carry.StandsForSamples c stream
  pub next : AreNext c stream rows spectra

-- a carry in the middle of a pass over these rows stands for a stream that goes on with them
pub record PassesStream (c : Carrying) (rows : List ℕ) : Type 0 where
  pub stream : Filterbank
  pub stands : carry.StandsMidway c stream
  pub next : AreNext c stream rows c.last

-- a pass over no more spectra than a chunk has, from spectrum `start` on, comes to the row of delay d
pub record IsAtRow (c : Carrying) (d start : ℕ) : Type 0 where
  pub passing : c.is_passing ≡ true
  pub next_is : c.next ≡ d
  pub short : c.last ≤ c.tables.chunk
  pub start_is : start ≡ c.fed

-- a pass over a stream has come to the row of delay d, whose sums are small enough to be taken
pub record HasSmallRow (c : Carrying) (p : PulseState) (d : ℕ) : Type 0 where
  pub at : IsAtRow c d c.fed
  pub within : d ≤ c.tables.plan.last
  pub short : c.last ≤ p.boxes.chunk
  pub stream : Filterbank
  pub stands : carry.StandsMidway c stream
  pub small : (k : ℕ) → k < c.last →
      sums_of stream c.tables.plan.edges d (c.fed + k) ≤ p.boxes.bound

-- the pass goes on, and has come to the row of delay d
pub record IsPassedTo (before after : Carrying) (d : ℕ) : Type 0 where
  pub tables : after.tables ≡ before.tables
  pub max_sample : after.max_sample ≡ before.max_sample
  pub fed : after.fed ≡ before.fed
  pub last : after.last ≡ before.last
  pub passing : after.is_passing ≡ true
  pub next : after.next ≡ d

-- both search for the same
pub record SumsAlike (s t : ShardState) : Type 0 where
  pub tables : s.carry.tables ≡ t.carry.tables
  pub max_sample : s.carry.max_sample ≡ t.carry.max_sample
  pub search : s.pulses.search ≡ t.pulses.search
  pub sought : s.pulses.sought ≡ t.pulses.sought

-- the pulses of a plan's delays that are sought and end at the `spectra` spectra from spectrum
-- `start` on
abbrev pub pulses_of_plan : Filterbank → BandPlan → Search → Sought → ℕ → ℕ → List Candidate
pulses_of_plan f p s c start count =
    pulses_of_ends (sums_of f p.edges) s c p.first (p.last + 1) start count

-- the folds of a plan's delays
abbrev pub folds_of_plan : Filterbank → BandPlan → Search → Sought → List Candidate
folds_of_plan f p s c = within_delays p.first (p.last + 1) (folds f p.edges (cells_in c) s)

-- The next spectra were taken, and the pulses that end at them added to a book: for each stream whose first spectra
-- were taken before, and that goes on with these rows, they are taken after it.
pub record HasTakenNext
    (old new : ShardState) (rows : List ℕ) (spectra : ℕ) (before after : BookContents)
    : Type 0 where
  pub alike : SumsAlike new old
  pub fed : new.carry.fed ≡ old.carry.fed + spectra
  pub count : after.count ≤ before.count + most_pulses_at_end * spectra
  pub carried : (f : Filterbank) → carry.StandsForSamples old.carry f
      → AreNext old.carry f rows spectra → carry.StandsForSamples new.carry f
  pub stands : (f : Filterbank) → StandsForStream old f → AreNext old.carry f rows spectra
      → StandsForStream new f
  pub pulses : (f : Filterbank) → StandsForStream old f → AreNext old.carry f rows spectra
      → Adds before after
      (pulses_of_plan f old.carry.tables.plan old.pulses.search old.pulses.sought old.carry.fed
      spectra)

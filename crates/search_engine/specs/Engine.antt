-- What contracts see of an engine, and the data bytes that it stands for.
-- Source: this project's choice.
use Rattle.std.specs.Prelude.{◌≡◌, ℕ, ◌+◌, ◌-◌, ◌*◌, ◌/◌, ◌%◌, ◌^◌, ◌≤◌, ◌<◌, All, Bool, true, false, List, Option, None, length, min}
use Rattle.dada_model.specs.Bounds.{ObservationInRange}
use Rattle.dada_model.specs.Observation.{Observation, edges, max_sample}
use Rattle.search_model.specs.declared.search.Search.{Search}
use Rattle.search_model.specs.Samples.{Filterbank}
use Rattle.search_model.specs.Search.{SettingsInRange, shard_start}
use Rattle.search_model.specs.Candidates.{candidates, shard_part}
use Rattle.search_model.specs.Observed.{filterbank_of, candidates_of}
use Rattle.search_model.specs.Plan.{plan_refusal}
use Rattle.candidate_book.specs.Book.{BookContents, book_of}
use Rattle.spectra_rows.specs.Unpacking.{Unpacking, StandsForBytes, spectrum_bytes, unpacking_of}
use Rattle.subband_plan.specs.Plans.{band_plan}
use Rattle.fdmt_carry.specs.Carrying as carry
use Rattle.fdmt_carry.specs.Carrying.{IsStream}
use Rattle.shard_search.specs.Counts.{most_pulses_at_end}
use Rattle.shard_search.specs.declared.tables.TheConstants.{MOST_TABLES}
use Rattle.shard_search.specs.Pulses.{pulses_of_ends}
use Rattle.shard_search.specs.Sought.{Sought, cells_in, sought_of}
use Rattle.shard_search.specs.Sums.{ShardState, StandsForStream, sums_of}
use Rattle.search_engine.specs.declared.chunk.TheConstants.{MOST_CHUNK}
use Rattle.search_engine.specs.Scope.{Scope, bytes_in, candidates_in, kept_samples, limit_in_bytes, searched, whole_scope}

-- The search of one shard: which channels are masked, how many bytes it was fed, and whether it ended; what stands
-- behind.
pub record EngineState : Type 0 where
  pub search : Search
  pub shard : ℕ
  pub masked : List Bool
  pub fed : ℕ
  pub has_ended : Bool
  pub unpacker : Unpacking
  pub sums : ShardState
  pub book : BookContents

-- what of an observation is searched
abbrev pub scope_of : EngineState → Scope
scope_of e = record { masked = e.masked; sought = e.sums.pulses.sought }

-- how many whole spectra the bytes are that it was fed
abbrev pub spectra_fed : EngineState → ℕ
spectra_fed e = e.fed / spectrum_bytes e.unpacker

-- before which spectrum of the observation all pulses were judged
abbrev pub searched_to : EngineState → ℕ
searched_to e = e.sums.pulses.sought.first + e.sums.carry.fed

-- the sizes in bytes that an engine keeps
pub record KnowsSizes
    (chunk spectrum skipped : ℕ) (stop : Option ℕ) (u : Unpacking) (c : Sought) : Type 0 where
  pub chunk_is : chunk ≡ u.chunk
  pub spectrum_is : spectrum ≡ spectrum_bytes u
  pub skipped_is : skipped ≡ c.first * spectrum_bytes u
  pub stop_is : stop ≡ limit_in_bytes (spectrum_bytes u) c.until

-- the most bytes that an engine is fed
abbrev pub most_fed : ℕ
most_fed = 2 ^ 48 + 2 ^ 28

-- how many spectra are searched at a time at most
abbrev pub chunk_of : Search → ℕ
chunk_of s = min s.chunk MOST_CHUNK

-- a stream of an observation's samples that begins with the first u spectra of the samples g
pub record BeginsWith (o : Observation) (g : Filterbank) (u : ℕ) (f : Filterbank) : Type 0 where
  pub channels : f.channels ≡ o.channels
  pub small : (c t : ℕ) → f.value c t ≤ max_sample o
  pub same : (c t : ℕ) → c < o.channels → t < u → f.value c t ≡ g.value c t

-- the engine searches an observation: its parts are opened for the shard's delays
pub record Searches (o : Observation) (e : EngineState) : Type 0 where
  pub bounds : ObservationInRange o
  pub range : SettingsInRange e.search
  pub shard : e.shard < e.search.shards
  pub accepted : plan_refusal o e.search ≡ None
  pub marks : length e.masked ≤ o.channels
  pub channels : e.unpacker.channels ≡ o.channels
  pub is_falling : e.unpacker.is_falling ≡ o.is_falling
  pub nbit : e.unpacker.nbit ≡ o.nbit
  pub npol : e.unpacker.npol ≡ o.npol
  pub chunk : e.unpacker.chunk ≡ chunk_of e.search
  pub plan : e.sums.carry.tables.plan
      ≡ band_plan (edges o) (shard_start e.search e.shard) (shard_start e.search (e.shard + 1) - 1)
  pub rows : e.sums.carry.tables.chunk ≡ chunk_of e.search
  pub most : e.sums.carry.tables.most ≡ min (chunk_of e.search) MOST_TABLES
  pub max_sample : e.sums.carry.max_sample ≡ max_sample o
  pub search : e.sums.pulses.search ≡ e.search

-- the parts of an engine took these data bytes, which are some of those that it was fed
pub record HoldsData (o : Observation) (bytes : List ℕ) (e : EngineState) : Type 0 where
  pub searches : Searches o e
  pub numbers : All (λ byte. byte < 256) bytes
  pub few : length bytes ≤ e.fed
  pub most : e.fed ≤ most_fed
  pub held : StandsForBytes e.unpacker bytes e.sums.carry.fed
  pub sums : (f : Filterbank) → BeginsWith o (kept_samples o e.masked bytes) e.sums.carry.fed f
      → StandsForStream e.sums f

-- an engine took these data bytes and searched whole chunks of them: its book has the pulses that
-- end at these spectra
pub record HasTakenChunks (o : Observation) (bytes : List ℕ) (e : EngineState) : Type 0 where
  pub holds : HoldsData o bytes e
  pub chunks : e.sums.carry.fed % chunk_of e.search ≡ 0
  pub book : (f : Filterbank) → BeginsWith o (kept_samples o e.masked bytes) e.sums.carry.fed f
      → e.book ≡ book_of e.search.max_candidates
      (pulses_of_ends (sums_of f (edges o)) e.search e.sums.pulses.sought
      (shard_start e.search e.shard) (shard_start e.search (e.shard + 1)) 0 e.sums.carry.fed)

-- the engine was fed these data bytes of an observation, and took those that it is to search
pub record StandsForPart (o : Observation) (bytes : List ℕ) (e : EngineState) : Type 0 where
  pub numbers : All (λ byte. byte < 256) bytes
  pub count : length bytes ≡ e.fed
  pub chunks : HasTakenChunks o (bytes_in o e.sums.pulses.sought bytes) e

-- an engine that searches the whole observation was fed these data bytes
pub record StandsForData (o : Observation) (bytes : List ℕ) (e : EngineState) : Type 0 where
  pub part : StandsForPart o bytes e
  pub whole : scope_of e ≡ whole_scope o.channels

-- all full chunks of what it took were searched: fewer spectra are held than a chunk has
abbrev pub HoldsNoFullChunk : EngineState → Type 0
HoldsNoFullChunk e = e.unpacker.whole < e.unpacker.chunk

-- what always holds: there are bytes that it took; and as long as it has not ended, its book has room for more
pub record EngineIsSound (e : EngineState) : Type 0 where
  pub observation : Observation
  pub bytes : List ℕ
  pub holds : HoldsData observation bytes e
  pub room : e.has_ended ≡ false → e.book.count ≤ most_pulses_at_end * e.sums.carry.fed

-- opened for a shard of a search, and fed nothing
pub record IsOpenedEngine (e : EngineState) (s : Search) (shard : ℕ) : Type 0 where
  pub search_is : e.search ≡ s
  pub shard_is : e.shard ≡ shard
  pub nothing_fed : e.fed ≡ 0
  pub running : e.has_ended ≡ false

-- both search the same shard
pub record SameShard (e f : EngineState) : Type 0 where
  pub search : e.search ≡ f.search
  pub shard : e.shard ≡ f.shard

-- The engine has searched these data bytes of an observation: its book has the shard's part of the candidate list, and
-- its carry stands for all whole spectra over the shard's delays. The tables of all nodes stand for the last of these
-- alone, as many as come after the last whole chunk, but at most `MOST_TABLES`.
pub record HasSearched (o : Observation) (bytes : List ℕ) (e : EngineState) : Type 0 where
  pub book : e.book ≡ book_of e.search.max_candidates
      (shard_part e.search e.shard (candidates_of o e.search bytes))
  pub spectra : e.sums.carry.fed ≡ (filterbank_of o bytes).spectra
  pub plan : e.sums.carry.tables.plan
      ≡ band_plan (edges o) (shard_start e.search e.shard) (shard_start e.search (e.shard + 1) - 1)
  pub carry : carry.StandsForSamples e.sums.carry (filterbank_of o bytes)
  pub tables : e.sums.carry.has_tables ≡ true
  pub last : e.sums.carry.last
      ≡ min ((filterbank_of o bytes).spectra % chunk_of e.search) MOST_TABLES

-- The same of what lies in a scope: its book has the shard's part of the candidates that are sought there. That is the
-- same for all streams that begin with these samples. And how many whole spectra there are in all.
pub record HasFoundIn (o : Observation) (c : Scope) (bytes : List ℕ) (e : EngineState)
    : Type 0 where
  pub bounds : ObservationInRange o
  pub numbers : All (λ byte. byte < 256) bytes
  pub book : e.book ≡ book_of e.search.max_candidates
      (shard_part e.search e.shard (candidates_in o c e.search bytes))
  pub spectra : e.sums.carry.fed ≡ (searched o c bytes).spectra
  pub plan : e.sums.carry.tables.plan
      ≡ band_plan (edges o) (shard_start e.search e.shard) (shard_start e.search (e.shard + 1) - 1)
  pub carry : carry.StandsForSamples e.sums.carry (searched o c bytes)
  pub tables : e.sums.carry.has_tables ≡ true
  pub last : e.sums.carry.last ≡ min ((searched o c bytes).spectra % chunk_of e.search) MOST_TABLES
  pub all : spectra_fed e ≡ (filterbank_of o bytes).spectra
  pub alike : (f : Filterbank) → BeginsWith o (searched o c bytes) e.sums.carry.fed f
      → f.spectra ≡ e.sums.carry.fed
      → e.book ≡ book_of e.search.max_candidates (shard_part e.search e.shard
      (sought_of c.sought (candidates f (edges o) (cells_in c.sought) e.search)))

-- the engine has searched what it is to search in these data bytes
abbrev pub HasFoundPart : Observation → List ℕ → EngineState → Type 0
HasFoundPart o bytes e = HasFoundIn o (scope_of e) bytes e

-- an unpacker of an observation's data bytes, with no byte, whether its rows are of bytes or not
abbrev pub IsOpenedUnpacker : Observation → ℕ → Unpacking → Type 0
IsOpenedUnpacker o chunk u =
    u ≡ record (unpacking_of o.channels o.is_falling o.nbit o.npol chunk) { in_bytes = u.in_bytes }

-- the search of the path sums of shard k, of which none is taken
pub record IsOpenedSums (o : Observation) (search : Search) (k chunk : ℕ) (c : Sought)
    (s : ShardState) : Type 0 where
  pub plan : s.carry.tables.plan
      ≡ band_plan (edges o) (shard_start search k) (shard_start search (k + 1) - 1)
  pub rows : s.carry.tables.chunk ≡ chunk
  pub most : s.carry.tables.most ≡ min chunk MOST_TABLES
  pub greatest : s.carry.max_sample ≡ max_sample o
  pub search_is : s.pulses.search ≡ search
  pub sought_is : s.pulses.sought ≡ c
  pub nothing_fed : s.carry.fed ≡ 0
  pub stands : (f : Filterbank)
      → IsStream (band_plan (edges o) (shard_start search k) (shard_start search (k + 1) - 1))
      (max_sample o) f
      → StandsForStream s f

-- What of an observation is searched.
-- Source: this project's choice.
use Rattle.std.specs.Prelude.{ℕ, ◌+◌, ◌-◌, ◌*◌, ◌^◌, ◌≤◌, Bool, true, false, not, List, [], Option, Some, None, IfSome, length, take, drop, min, nat_lt, slice_index_or, if◌then◌else◌}
use Rattle.dada_model.specs.Observation.{Observation, edges}
use Rattle.search_model.specs.declared.candidate.Candidate.{Candidate}
use Rattle.search_model.specs.declared.search.Search.{Search}
use Rattle.search_model.specs.Samples.{Filterbank, sample_bytes}
use Rattle.search_model.specs.Candidates.{candidates}
use Rattle.search_model.specs.Masks.{kept_of}
use Rattle.search_model.specs.Observed.{filterbank_of}
use Rattle.shard_search.specs.Sought.{Sought, CanBeSought, cells_in, counted_of, part_of, sought_from, sought_of, whole_of}
use Rattle.search_engine.specs.declared.hiding.Masked.{Masked}
use Rattle.search_engine.specs.declared.hiding.Masked.TheVariants.{Nothing, Marked}

-- which channels are masked: those with a mark, counted from the highest frequency; and what is
-- sought in the others
pub record Scope : Type 0 where
  pub masked : List Bool
  pub sought : Sought

-- all of an observation of n channels
abbrev pub whole_scope : ℕ → Scope
whole_scope n = record { masked = []; sought = whole_of n }

-- the channels without a mark; a path sum of each delay adds up as many cells as are counted
abbrev pub scope_of_channels : List Bool → List ℕ → Scope
scope_of_channels masked counts = record { masked = masked; sought = counted_of counts }

-- the marks of channels; none where nothing is masked
abbrev pub marks_of : Masked → List Bool
marks_of Nothing = []
marks_of (Marked marks) = marks.items

-- the ends from `place` until `until`, in the spectra from `first` on
abbrev pub scope_of_part : ℕ → ℕ → ℕ → ℕ → Scope
scope_of_part n first place until =
    record { masked = []; sought = part_of n first place until }

-- a scope without the ends before `place`
abbrev pub scope_from : ℕ → Scope → Scope
scope_from place c = record { masked = c.masked; sought = sought_from place c.sought }

-- which channels are kept: those without a mark
abbrev pub kept_by : List Bool → ℕ → Bool
kept_by masked c = not (slice_index_or masked c false)

-- of the channels below i those without a mark, and all others
abbrev pub kept_below : List Bool → ℕ → ℕ → Bool
kept_below masked i c = if nat_lt c i then kept_by masked c else true

-- the samples of an observation's data bytes; those of the masked channels are 0
abbrev pub kept_samples : Observation → List Bool → List ℕ → Filterbank
kept_samples o masked bytes = kept_of (kept_by masked) (filterbank_of o bytes)

-- how many bytes a spectrum of an observation has
abbrev pub spectrum_size : Observation → ℕ
spectrum_size o = o.channels * sample_bytes o.nbit o.npol

-- a limit in spectra as a limit in bytes
abbrev pub limit_in_bytes : ℕ → Option ℕ → Option ℕ
limit_in_bytes size None = None
limit_in_bytes size (Some limit) = Some (limit * size)

-- the bytes before a limit
abbrev pub bytes_before : Option ℕ → List ℕ → List ℕ
bytes_before None bytes = bytes
bytes_before (Some limit) bytes = take limit bytes

-- how many of the n bytes after the first `past` come before a limit
abbrev pub count_before : Option ℕ → ℕ → ℕ → ℕ
count_before None past n = n
count_before (Some limit) past n = min (limit - past) n

-- the data bytes of the spectra that are searched: those from the first one on and before the limit
abbrev pub bytes_in : Observation → Sought → List ℕ → List ℕ
bytes_in o c bytes =
    drop (c.first * spectrum_size o)
    (bytes_before (limit_in_bytes (spectrum_size o) c.until) bytes)

-- the samples that are searched
abbrev pub searched : Observation → Scope → List ℕ → Filterbank
searched o c bytes = kept_samples o c.masked (bytes_in o c.sought bytes)

-- the candidates that are sought in them
abbrev pub candidates_in : Observation → Scope → Search → List ℕ → List Candidate
candidates_in o c s bytes =
    sought_of c.sought (candidates (searched o c bytes) (edges o) (cells_in c.sought) s)

-- a scope can be searched in an observation: no more channels have a mark than there are, no path sum adds up more
-- cells than there are on its path, and its bytes can be counted
pub record FitsObservation (o : Observation) (s : Search) (c : Scope) : Type 0 where
  pub marks : length c.masked ≤ o.channels
  pub sought : CanBeSought c.sought o.channels (s.max_delay + 1)
  pub first : c.sought.first ≤ 2 ^ 48
  pub until : IfSome c.sought.until (λ m. m ≤ 2 ^ 48)

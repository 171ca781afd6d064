-- What contracts see of a carry, and the streams of samples that it stands for.
-- Source: Zackay & Ofek, ApJ 835:11, 2017, section 2 (the dispersion transform, table by table);
-- that a stream is fed chunk by chunk is this project's choice.
use Rattle.std.specs.Prelude.{◌≡◌, ◌≢◌, ℕ, ◌+◌, ◌-◌, ◌*◌, ◌^◌, ◌≤◌, ◌<◌, ◌⊎◌, true, false, Bool, List, Option, None, IfSome, length, slice_index}
use Rattle.band_paths.specs.Edges.{channels_of}
use Rattle.row_schedule.specs.Filling.{HaveTableRoom}
use Rattle.row_schedule.specs.Running.{Stores, HaveRoom}
use Rattle.row_schedule.specs.Sizes.{AreEnough, AreEnoughForTables}
use Rattle.search_model.specs.Samples.{Filterbank}
use Rattle.subband_plan.specs.Nodes.{BandPlan}
use Rattle.subband_plan.specs.Values.{AreAtMost}
use Rattle.fdmt_carry.specs.declared.opening.Spare.{Spare}
use Rattle.fdmt_carry.specs.declared.passing.Passing.{Passing}
use Rattle.fdmt_carry.specs.Tables.{Tables, TablesStand}
use Rattle.fdmt_carry.specs.Passing.{AreKept, HasBandRow, HasDone, IsBefore, IsPassOf}

-- Tables that took `fed` spectra in all and `last` of them by the last call; `has_tables` tells
-- whether that made the tables of all nodes, which then stand. While a pass goes on, its `last`
-- spectra come after those that were fed, `next` is the delay of the row of the whole band that is
-- made next, and `done` of its orders were carried out. Passes go by `pass`, which is for samples up
-- to `limit`: none so far is greater.
pub record Carrying : Type 0 where
  pub tables : Tables
  pub pass : Passing
  pub limit : ℕ
  pub max_sample : ℕ
  pub fed : ℕ
  pub last : ℕ
  pub has_tables : Bool
  pub is_passing : Bool
  pub next : ℕ
  pub done : ℕ
  pub stores : Stores

abbrev pub carrying : Tables → Passing → ℕ → ℕ → ℕ → ℕ → Bool → Bool → ℕ → ℕ → Stores → Carrying
carrying tables pass limit max_sample fed last has_tables is_passing next done stores = record {
  tables = tables;
  pass = pass;
  limit = limit;
  max_sample = max_sample;
  fed = fed;
  last = last;
  has_tables = has_tables;
  is_passing = is_passing;
  next = next;
  done = done;
  stores = stores;
}

-- opened over a plan, and fed nothing
pub record IsOpened (c : Carrying) (plan : BandPlan) (chunk most max_sample : ℕ) : Type 0 where
  pub plan_is : c.tables.plan ≡ plan
  pub chunk_is : c.tables.chunk ≡ chunk
  pub most_is : c.tables.most ≡ most
  pub max_sample_is : c.max_sample ≡ max_sample
  pub nothing_fed : c.fed ≡ 0
  pub nothing_last : c.last ≡ 0
  pub no_tables : c.has_tables ≡ false
  pub not_passing : c.is_passing ≡ false

-- `spectra` spectra were fed
pub record IsFed (before after : Carrying) (spectra : ℕ) : Type 0 where
  pub tables : after.tables ≡ before.tables
  pub max_sample : after.max_sample ≡ before.max_sample
  pub fed : after.fed ≡ before.fed + spectra
  pub last : after.last ≡ spectra
  pub not_passing : after.is_passing ≡ false

-- a pass over `spectra` spectra has begun
pub record IsBegun (before after : Carrying) (spectra : ℕ) : Type 0 where
  pub tables : after.tables ≡ before.tables
  pub max_sample : after.max_sample ≡ before.max_sample
  pub fed : after.fed ≡ before.fed
  pub last : after.last ≡ spectra
  pub no_tables : after.has_tables ≡ false
  pub passing : after.is_passing ≡ true
  pub next : after.next ≡ before.tables.plan.first

-- a pass has gone on by one row
pub record IsRowOn (before after : Carrying) : Type 0 where
  pub tables : after.tables ≡ before.tables
  pub max_sample : after.max_sample ≡ before.max_sample
  pub fed : after.fed ≡ before.fed
  pub last : after.last ≡ before.last
  pub has_tables : after.has_tables ≡ before.has_tables
  pub passing : after.is_passing ≡ true
  pub next : after.next ≡ before.next + 1

-- a pass has made all that the next row is made of
pub record IsReached (before after : Carrying) : Type 0 where
  pub tables : after.tables ≡ before.tables
  pub max_sample : after.max_sample ≡ before.max_sample
  pub fed : after.fed ≡ before.fed
  pub last : after.last ≡ before.last
  pub has_tables : after.has_tables ≡ before.has_tables
  pub passing : after.is_passing ≡ true
  pub next : after.next ≡ before.next

-- an endless stream of samples of the band, none above `max_sample`
pub record IsStream (plan : BandPlan) (max_sample : ℕ) (f : Filterbank) : Type 0 where
  pub channels : f.channels ≡ channels_of plan.edges
  pub small : (c t : ℕ) → f.value c t ≤ max_sample

-- row c of `rows`, which begins at c * chunk, has the samples of the next spectra of a stream
abbrev pub AreNext : Carrying → Filterbank → List ℕ → ℕ → Type 0
AreNext c f rows spectra = (channel i : ℕ) → channel < f.channels → i < spectra →
    slice_index rows (channel * c.tables.chunk + i) ≡ f.value channel (c.fed + i)

-- The list has `spectra` samples of each channel, whose first ones are a chunk apart. It may end
-- with the last sample used, so a list that begins at a later spectrum can be lent.
abbrev pub AreThere : Carrying → List ℕ → ℕ → Type 0
AreThere c samples spectra = channels_of c.tables.plan.edges * c.tables.chunk
    ≤ length samples + (c.tables.chunk - spectra)

-- The carry was fed the first `c.fed` spectra of a stream, whatever the others are. What is kept is
-- of these spectra, and so are the rows of all nodes if they stand.
pub record StandsForSamples (c : Carrying) (f : Filterbank) : Type 0 where
  pub stream : IsStream c.tables.plan c.max_sample f
  pub small : AreAtMost f c.fed c.limit
  pub before : c.last ≤ c.fed
  pub kept : AreKept c.tables c.pass f c.fed c.stores
  pub nodes : c.has_tables ≡ true → TablesStand c.tables f (c.fed - c.last) c.last c.stores

-- The carry was fed the first `c.fed` spectra of a stream, and is in the middle of a pass over the
-- next ones, which has come to the row of the whole band of delay `c.next`.
pub record StandsMidway (c : Carrying) (f : Filterbank) : Type 0 where
  pub stream : IsStream c.tables.plan c.max_sample f
  pub small : AreAtMost f (c.fed + c.last) c.limit
  pub running : HasDone c.tables c.pass f c.fed c.last c.done c.stores

-- the row of the delay before `c.next` was made of a stream, and stands
pub record HasMade (c : Carrying) (f : Filterbank) : Type 0 where
  pub stream : IsStream c.tables.plan c.max_sample f
  pub row : HasBandRow c.tables c.pass f c.fed c.last (c.next - 1) c.stores

-- no next sample is above the limit, or none can be
abbrev pub AreWithinLimit : Carrying → List ℕ → Type 0
AreWithinLimit c samples = (c.max_sample ≤ c.limit) ⊎ ((k : ℕ) → slice_index samples k ≤ c.limit)

-- a carry goes on by a pass that is for the next samples
pub record IsSettled (before after : Carrying) (samples : List ℕ) : Type 0 where
  pub tables : after.tables ≡ before.tables
  pub max_sample : after.max_sample ≡ before.max_sample
  pub fed : after.fed ≡ before.fed
  pub last : after.last ≡ before.last
  pub not_passing : after.is_passing ≡ false
  pub within : AreWithinLimit after samples

-- what holds of a carry
pub record IsSound (c : Carrying) : Type 0 where
  pub fits : c.max_sample * (channels_of c.tables.plan.edges + c.tables.plan.last) < 2 ^ 32
  pub pass_is : IsPassOf c.tables c.limit c.pass
  pub short : c.last ≤ c.tables.chunk
  pub few_made : c.has_tables ≡ true → c.last ≤ c.tables.most
  pub few : c.is_passing ≡ true → c.fed + c.last ≤ 2 ^ 48
  pub table_room : HaveTableRoom c.tables.rows.rows c.tables.most c.stores
  pub pass_room : HaveRoom c.pass.schedule c.stores
  pub alone : c.is_passing ≡ true → c.has_tables ≡ false
  pub from : c.is_passing ≡ true → c.tables.plan.first ≤ c.next
  pub to : c.is_passing ≡ true → c.next ≤ c.tables.plan.last + 1
  pub before : c.is_passing ≡ true → IsBefore c.tables c.pass c.next c.done

-- a spare is a pass for samples up to m, with lists that are long enough for it and for the rows of
-- all nodes
pub record IsSpareOf (t : Tables) (m : ℕ) (spare : Spare) : Type 0 where
  pub pass_is : IsPassOf t m spare.pass
  pub room : AreEnough spare.pass.schedule spare.stores
  pub table_room : AreEnoughForTables t.rows.rows t.most spare.stores

-- a pass for all samples is there as long as the one in use is for smaller ones alone
pub record HasSpare (c : Carrying) (spare : Option Spare) : Type 0 where
  pub some : c.limit < c.max_sample → spare ≢ None
  pub is_spare : IfSome spare (IsSpareOf c.tables c.max_sample)

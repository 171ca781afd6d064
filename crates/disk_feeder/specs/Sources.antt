-- What a source of data shows, and what its calls answer.
-- Source: this project's profile.
use Rattle.std.specs.Prelude.{ℕ, ◌≡◌, ◌<◌, ◌≤◌, ◌+◌, ◌*◌, ◌-◌, false, if◌then◌else◌, List, [], map, slice_index_or, length, string_bytes, ⊤, Some, Ok, ◌≢◌, Option, slice_get, Result, IfOk, IfErr, OnErr}
use Rattle.psr_base.specs.Told.{Told}
use Rattle.dada_model.specs.Fields.{HeaderText, header_of}
use Rattle.disk_feeder.specs.declared.source.Source.{Source}
use Rattle.disk_feeder.specs.declared.place.Place.{Place}
use Rattle.disk_feeder.specs.declared.place.First.{First}
use Rattle.disk_feeder.specs.declared.answers.FeedEnd.{FeedEnd}
use Rattle.disk_feeder.specs.declared.answers.FeedFault.{FeedFault}
use Rattle.disk_feeder.specs.declared.answers.FeedFault.TheVariants as fault
use Rattle.disk_feeder.specs.declared.answers.FeedEnd.TheVariants.{Whole, ReadFault, BadHeader, TooLong}
use Rattle.disk_feeder.specs.declared.answers.HeaderCause.TheVariants.{Text}
use Rattle.dada_header.specs.Faults.{IsHeaderRefusal}
use Rattle.disk_feeder.specs.Ends.{NamesPlace}
use Rattle.disk_feeder.specs.Front.{FailsUntold}
use Rattle.disk_feeder.specs.Plan.{Plan, begin_at, AreAccepted}
use Rattle.dada_model.specs.Observation.{Observation}
use Rattle.obs_plan.specs.Later.{profile_of}

abbrev pub plan_of : Source → Plan
plan_of source = record {
  names = map string_bytes source.names.now;
  starts = source.starts.now;
  max_bytes = source.max_bytes;
  headers = source.headers.items;
  firsts = source.firsts;
}

-- an end that may come while data are read; the limit that it tells is that of the plan
abbrev pub IsEarly : Plan → FeedEnd → Type 0
IsEarly plan (Whole bytes) = ⊥
IsEarly plan (TooLong limit) = limit ≡ plan.max_bytes
IsEarly plan end = ⊤

-- an early end that came at a place, whose file is there: a file that it names is this one
pub record ComesEarly (plan : Plan) (at : Place) (end : FeedEnd) : Type 0 where
  pub early : IsEarly plan end
  pub there : at.file < length plan.names
  pub names : NamesPlace end at.file

-- how often files are still to be opened or to be read to their end
abbrev pub ends_left : ℕ → Place → ℕ
ends_left count at = 2 * (count - at.file) - (if at.is_open then 1 else 0)

-- the name of the file at the place
abbrev pub current_name : Source → List ℕ
current_name source = slice_index_or (plan_of source).names source.place.file []

-- that file was to be opened and could not be: it isn't told, and what is told stays
pub record FailsToOpen (source : Source) (old new : Told) : Type 0 where
  pub shut : source.place.is_open ≡ false
  pub fails : FailsUntold (current_name source) old new

-- the end says why the file has no header, unless the inputs failed
abbrev pub RefusesText : List ℕ → ℕ → FeedEnd → Type 0
RefusesText file number ReadFault = ⊤
RefusesText file number (BadHeader k (Text fault)) = (k ≡ number) × IsHeaderRefusal file fault
RefusesText file number end = ⊥

-- what a source reads, and where it is, stay
pub record StaysAt (old new : Source) : Type 0 where
  pub plan : plan_of new ≡ plan_of old
  pub place : new.place ≡ old.place

-- the place is within a transfer, and each first header was accepted
pub record IsWithin (source : Source) : Type 0 where
  pub there : source.place.transfer < length source.starts.now
  pub accepted : AreAccepted (plan_of source)

-- so it is, and a file of the transfer is still to be opened or read
pub record HasMore (source : Source) : Type 0 where
  pub there : source.place.transfer < length source.starts.now
  pub more : source.place.file
      < begin_at source.starts.now (length source.names.now) (source.place.transfer + 1)
  pub accepted : AreAccepted (plan_of source)

-- What a call that reads on keeps, and how far it comes. It stays in its transfer, and at its place where it says that
-- the stream ends, which is early; where it gives no bytes, one file less is to be opened or to be read to its end.
pub record Advances (old new : Source) (result : Result ℕ FeedEnd) : Type 0 where
  pub plan : plan_of new ≡ plan_of old
  pub transfer : new.place.transfer ≡ old.place.transfer
  pub place : OnErr result (new.place ≡ old.place)
  pub progress : IfOk result (λ n. n ≡ 0 → ends_left (length old.names.now) new.place
      < ends_left (length old.names.now) old.place)
  pub stays : ends_left (length old.names.now) new.place
      ≤ ends_left (length old.names.now) old.place
  pub early : IfErr result (ComesEarly (plan_of old) old.place)

-- m bytes, which are n, were counted as read
abbrev pub IsCounted : Place → ℕ → ℕ → Place → Type 0
IsCounted at n m at' = (m ≡ n) × (at' ≡ record at { since = at.since + n; total = at.total + n })

-- before anything was read
abbrev pub first_place : Place
first_place = record { transfer = 0; file = 0; is_open = false; since = 0; total = 0 }

-- the name of the first file of a transfer
abbrev pub first_name : Source → ℕ → List ℕ
first_name source transfer = slice_index_or (plan_of source).names
    (begin_at source.starts.now (length source.names.now) transfer) []

-- all stays but the header of one transfer
pub record KeepsHeaders (old : Source) (transfer : ℕ) (new : Source) : Type 0 where
  pub names : new.names ≡ old.names
  pub starts : new.starts ≡ old.starts
  pub limit : new.max_bytes ≡ old.max_bytes
  pub firsts : new.firsts ≡ old.firsts
  pub place : new.place ≡ old.place
  pub others : (k : ℕ) → k ≢ transfer →
      slice_get new.headers.items k ≡ slice_get old.headers.items k

-- the first header of a transfer is that of the file
abbrev pub HasHeaderAt : Source → ℕ → List ℕ → Type 0
HasHeaderAt source transfer file = (header : HeaderText) →
    slice_get source.headers.items transfer ≡ Some header → header_of file ≡ Ok header

-- why the first header of a file is refused
abbrev pub RefusesFirst : List ℕ → ℕ → FeedFault → Type 0
RefusesFirst file number fault.ReadFault = ⊤
RefusesFirst file number (fault.BadHeader k cause) = (k ≡ number) × IsHeaderRefusal file cause

-- what is kept of an observation of a transfer
abbrev pub IsKept : ℕ → Observation → List (Option First) → Type 0
IsKept transfer o firsts = (first : First) × (slice_get firsts transfer ≡ Some (Some first))
    × (first.profile ≡ profile_of o) × (first.offset ≡ o.obs_offset)

-- How a feeder begins: the first header of each transfer is read, and then its observation accepted.
-- Source: this project's profile.
use Rattle.std.specs.Prelude.{◌≡◌, ◌≢◌, ⊤, ℕ, ◌+◌, ◌<◌, ◌≤◌, Bool, true, false, None, Some, Ok, List, length, IsSome, slice_get}
use mathlib.Core.List.{IsPrefix}
use Rattle.psr_base.specs.Told.{Told, OfFile, history, left_to_read}
use Rattle.dada_model.specs.Fields.{HeaderText, header_of}
use Rattle.stream_model.specs.Walk.{data_of}
use Rattle.disk_feeder.specs.declared.answers.FeedFault.{FeedFault}
use Rattle.disk_feeder.specs.declared.answers.FeedFault.TheVariants as fault
use Rattle.disk_feeder.specs.declared.place.First.{First}
use Rattle.disk_feeder.specs.declared.place.Place.{Place}
use Rattle.disk_feeder.specs.declared.source.Source.{Source}
use Rattle.disk_feeder.specs.declared.stream.Stream.{Stream}
use Rattle.disk_feeder.specs.Plan.{Plan, begin_at, IsFirst}
use Rattle.disk_feeder.specs.Front.{BreaksAt}
use Rattle.disk_feeder.specs.History.{firsts_read}
use Rattle.disk_feeder.specs.Sources.{plan_of, first_place, first_name, HasHeaderAt, RefusesFirst, IsKept}
use Rattle.dada_model.specs.Observation.{Observation}

-- all stays but the headers
pub record KeepsSource (old new : Source) : Type 0 where
  pub names : new.names ≡ old.names
  pub starts : new.starts ≡ old.starts
  pub limit : new.max_bytes ≡ old.max_bytes
  pub firsts : new.firsts ≡ old.firsts
  pub place : new.place ≡ old.place

-- the first headers of so many transfers are those of the files
abbrev pub HeadersRead : Told → Source → ℕ → Source → Type 0
HeadersRead told old count new = (k : ℕ) → k < count →
    OfFile told (first_name old k) (HasHeaderAt new k)

-- what is left of the first file of the last of so many transfers are its data
abbrev pub LastLeft : Told → Source → ℕ → Told → Type 0
LastLeft told source count told' = (k : ℕ) → k + 1 ≡ count →
    OfFile told (first_name source k) (λ file. left_to_read told' ≡ Some (data_of file))

-- these bytes are told of the first files of so many transfers
abbrev pub AreFirstFiles : Told → Source → ℕ → (ℕ → List ℕ) → Type 0
AreFirstFiles told source count file_of = (k : ℕ) → k < count →
    told.bytes_under (first_name source k) ≡ Some (file_of k)

-- so they were, where they are told
abbrev pub FirstsRead : Told → Source → ℕ → Told → Type 0
FirstsRead told source count told' = (file_of : ℕ → List ℕ) →
    AreFirstFiles told source count file_of →
    told' ≡ firsts_read (first_name source) file_of count told

-- as far as bytes are told of the first files of so many transfers, from the first one on, the headers of these files
-- were read in order, before anything else
abbrev pub FirstsThrough : Told → Source → ℕ → Told → Type 0
FirstsThrough told source count told' = (k : ℕ) → k ≤ count → (file_of : ℕ → List ℕ) →
    AreFirstFiles told source k file_of →
    IsPrefix (history (firsts_read (first_name source) file_of k told)) (history told')

-- A fault came before the first header of some transfer was judged; those before it were read, as far as their files
-- are told, and are headers. Of calm inputs it comes only where that file isn't told, and nothing else was read.
pub record BreaksFirst (told : Told) (is_calm : Type 0) (source : Source) (told' : Told) :
    Type 0 where
  pub transfer : ℕ
  pub there : transfer < length source.starts.now
  pub earlier : (k : ℕ) → k < transfer →
      OfFile told (first_name source k)
      (λ file. (header : HeaderText) × (header_of file ≡ Ok header))
  pub broke : (file_of : ℕ → List ℕ) → AreFirstFiles told source (transfer + 1) file_of →
      BreaksAt (first_name source transfer) (file_of transfer)
      (firsts_read (first_name source) file_of transfer told) told'
  pub through : FirstsThrough told source transfer told'
  pub missing : is_calm → ¬ IsSome (told.bytes_under (first_name source transfer))
  pub unopened : is_calm → FirstsRead told source transfer told'

-- a fault names this file, if it names one
abbrev pub NamesFile : FeedFault → ℕ → Type 0
NamesFile fault.ReadFault file = ⊤
NamesFile (fault.BadHeader k cause) file = k ≡ file

-- the fault is that of the first file of some transfer; those of the transfers before it have headers
pub record RefusesSome (told : Told) (source : Source) (fault : FeedFault) : Type 0 where
  pub transfer : ℕ
  pub there : transfer < length source.starts.now
  pub names : NamesFile fault (begin_at source.starts.now (length source.names.now) transfer)
  pub refuses : OfFile told (first_name source transfer)
      (λ file. RefusesFirst file
      (begin_at source.starts.now (length source.names.now) transfer) fault)
  pub earlier : (k : ℕ) → k < transfer →
      OfFile told (first_name source k)
      (λ file. (header : HeaderText) × (header_of file ≡ Ok header))

-- at the first file, which may be open
abbrev pub start_place : Bool → Place
start_place is_open = record first_place { is_open = is_open }

-- nothing was read or kept
pub record IsFreshStream (s : Stream) : Type 0 where
  pub place : s.source.place ≡ first_place
  pub held : s.held ≡ 0
  pub due : s.due ≡ None
  pub header_due : s.header_due ≡ false
  pub end : s.end ≡ None

-- the first headers were read; the file is open only where there is one transfer
pub record IsBegunStream (told : Told) (s : Stream) : Type 0 where
  pub place : s.source.place ≡ start_place s.source.place.is_open
  pub one : s.source.place.is_open ≡ true → length s.source.starts.now ≡ 1
  pub held : s.held ≡ 0
  pub due : s.due ≡ None
  pub header_due : s.header_due ≡ false
  pub end : s.end ≡ None
  pub headers : HeadersRead told s.source (length s.source.starts.now) s.source
  pub left : s.source.place.is_open ≡ true →
      OfFile told (first_name s.source 0) (λ file. left_to_read told ≡ Some (data_of file))

-- a header's observation is kept as that of a transfer
abbrev pub IsAcceptedIn : Plan → ℕ → HeaderText → Type 0
IsAcceptedIn plan transfer header =
    (first : First) × (slice_get plan.firsts transfer ≡ Some (Some first)) × IsFirst header first

-- the names, the starts, the limit and the size of a block stay
pub record KeepsFiles (old new : Stream) : Type 0 where
  pub names : (plan_of new.source).names ≡ (plan_of old.source).names
  pub starts : (plan_of new.source).starts ≡ (plan_of old.source).starts
  pub limit : new.source.max_bytes ≡ old.source.max_bytes
  pub size : length new.block.items ≡ length old.block.items

-- the observation of a transfer is kept, and all else stays
pub record AcceptsIn (old : Source) (transfer : ℕ) (o : Observation) (new : Source) : Type 0 where
  pub names : new.names ≡ old.names
  pub starts : new.starts ≡ old.starts
  pub limit : new.max_bytes ≡ old.max_bytes
  pub headers : new.headers ≡ old.headers
  pub place : new.place ≡ old.place
  pub first : IsKept transfer o new.firsts
  pub others : (k : ℕ) → k ≢ transfer → slice_get new.firsts k ≡ slice_get old.firsts k

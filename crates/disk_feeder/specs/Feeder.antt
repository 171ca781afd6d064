-- What contracts see of a feeder.
-- Source: this project's profile.
use Rattle.std.specs.Prelude.{◌≡◌, ◌≢◌, ℕ, true, Option, Some, None, List, length, slice_get}
use Rattle.psr_base.specs.Told.{Told}
use Rattle.dada_model.specs.Fields.{HeaderText}
use Rattle.ring_blocks.specs.declared.Entry.{Entry}
use Rattle.dada_hdu.specs.declared.hdu.Hdu.{Hdu}
use Rattle.disk_feeder.specs.declared.answers.FeedEnd.{FeedEnd}
use Rattle.disk_feeder.specs.declared.answers.FeedFault.{FeedFault}
use Rattle.disk_feeder.specs.declared.feeder.Feeder.{Feeder}
use Rattle.disk_feeder.specs.declared.feeder.FeederSpace.{FeederSpace}
use Rattle.disk_feeder.specs.declared.place.Place.{Place}
use Rattle.disk_feeder.specs.declared.stream.Stream.{Stream}
use Rattle.disk_feeder.specs.Plan.{Plan}
use Rattle.disk_feeder.specs.Sources.{plan_of}
use Rattle.disk_feeder.specs.Filling.{IsSince}
use Rattle.disk_feeder.specs.Streams.{StreamRead, StreamReadsFirsts}
use Rattle.disk_feeder.specs.Beginning.{IsFreshStream, IsBegunStream, FirstsRead, BreaksFirst, RefusesSome, IsAcceptedIn}
use Rattle.disk_feeder.specs.Feeding.{FitsRings, IsFaultless, FaultIsUntold, FaultIsUnopened, IsFeeding, IsBeginning}

-- the stream of a feeder
abbrev pub stream_at : {I : Type 0} → Feeder I → Stream
stream_at f = f.stream

-- what it reads, and the first headers of its transfers
abbrev pub plan_at : {I : Type 0} → Feeder I → Plan
plan_at f = plan_of f.stream.source

-- how many bytes a block has
abbrev pub block_size : {I : Type 0} → Feeder I → ℕ
block_size f = length f.stream.block.items

abbrev pub names_at : {I : Type 0} → Feeder I → List (List ℕ)
names_at f = (plan_at f).names

abbrev pub headers_of : {I : Type 0} → Feeder I → List HeaderText
headers_of f = (plan_at f).headers

-- where it is in its files
abbrev pub place_at : {I : Type 0} → Feeder I → Place
place_at f = f.stream.source.place

-- how it ended, if it did
abbrev pub has_end : {I : Type 0} → Feeder I → Option FeedEnd
has_end f = f.stream.end

-- it reads these files, in blocks of this size
pub record HasPlan {I : Type 0} (f : Feeder I) (names : List (List ℕ)) (starts : List ℕ)
    (size max_bytes : ℕ) : Type 0 where
  pub files : (plan_at f).names ≡ names
  pub transfers : (plan_at f).starts ≡ starts
  pub limit : (plan_at f).max_bytes ≡ max_bytes
  pub block : block_size f ≡ size
  pub headers : length (headers_of f) ≡ length starts

-- a header's observation was accepted as that of a transfer
abbrev pub IsAcceptedAt : {I : Type 0} → Feeder I → ℕ → HeaderText → Type 0
IsAcceptedAt f transfer header = IsAcceptedIn (plan_at f) transfer header

-- the plan and the size of a block stay; what was accepted may not
pub record SamePlan {I : Type 0} (old new : Feeder I) : Type 0 where
  pub names : (plan_at new).names ≡ (plan_at old).names
  pub starts : (plan_at new).starts ≡ (plan_at old).starts
  pub limit : (plan_at new).max_bytes ≡ (plan_at old).max_bytes
  pub size : block_size new ≡ block_size old
  pub headers : length (headers_of new) ≡ length (headers_of old)

-- the space of a feeder that is to read these files, in blocks of this size
pub record IsSpaceFor (space : FeederSpace) (names : List (List ℕ)) (starts : List ℕ)
    (size max_bytes : ℕ) : Type 0 where
  pub files : (plan_of space.stream.source).names ≡ names
  pub transfers : (plan_of space.stream.source).starts ≡ starts
  pub limit : (plan_of space.stream.source).max_bytes ≡ max_bytes
  pub block : length space.stream.block.items ≡ size
  pub fresh : IsFreshStream space.stream

-- nothing was read
abbrev pub IsFresh : {I : Type 0} → Feeder I → Type 0
IsFresh f = IsFreshStream f.stream

-- a file is open
abbrev pub HasOpenFile : {I : Type 0} → Feeder I → Type 0
HasOpenFile f = f.stream.source.place.is_open ≡ true

-- the first headers were read; where the files are told, they are the headers of these files
abbrev pub IsBegun : {I : Type 0} → Told → Feeder I → Type 0
IsBegun told f = IsBegunStream told f.stream

-- the first headers of all transfers were read, in order, and nothing else was
abbrev pub FirstHeadersRead : {I : Type 0} → Told → Feeder I → Told → Type 0
FirstHeadersRead told f told' = FirstsRead told f.stream.source (length (plan_at f).starts) told'

-- a fault came before the first header of some transfer was judged, and after those before it were read
abbrev pub BreaksFirstHeaders : {I : Type 0} → Told → Type 0 → Feeder I → Told → Type 0
BreaksFirstHeaders told is_calm f told' = BreaksFirst told is_calm f.stream.source told'

-- why a first header is refused: the inputs failed, or it is the first in the order of the transfers that is refused
abbrev pub RefusesAt : {I : Type 0} → Told → Feeder I → FeedFault → Type 0
RefusesAt told f fault = RefusesSome told f.stream.source fault

-- the observation of a transfer's first header was accepted, and what was accepted of others stays
pub record AcceptsAt {I : Type 0} (old : Feeder I) (transfer : ℕ) (new : Feeder I) : Type 0 where
  pub first : (header : HeaderText) → slice_get (headers_of new) transfer ≡ Some header →
      IsAcceptedAt new transfer header
  pub others : (k : ℕ) (header : HeaderText) → k ≢ transfer → IsAcceptedAt old k header →
      IsAcceptedAt new k header

-- the feeder stands for these sealed lists of the header ring and of the data ring
abbrev pub FeederFeeds : {I : Type 0} → Told → Feeder I → List Entry → List Entry → Type 0
FeederFeeds told f headers blocks = IsFeeding f.stream told headers blocks

-- these blocks are a beginning of the stream of its files
abbrev pub FeederBegins : {I : Type 0} → Told → Feeder I → List Entry → Type 0
FeederBegins told f blocks = IsBeginning (plan_at f) told (block_size f) blocks

-- the data ring has blocks of its size, and may carry max_bytes / size + transfers + 1 of them
abbrev pub FeederFits : {I : Type 0} → Hdu → Feeder I → Type 0
FeederFits hdu f = FitsRings hdu f.stream

-- since the inputs had counted k faults, it met a fault only where the count rose, and where it met none the count is k
abbrev pub FeederSince : {I : Type 0} → ℕ → ℕ → Feeder I → Type 0
FeederSince k faults f = IsSince k faults f.stream.due f.stream.end

abbrev pub FeederFaultless : {I : Type 0} → Feeder I → Type 0
FeederFaultless f = IsFaultless f.stream.due f.stream.end

-- where a fault came, the file at the place isn't told
abbrev pub FeederMisses : {I : Type 0} → Told → Feeder I → Type 0
FeederMisses told f = FaultIsUntold told f.stream

-- and it was not opened; those before it were read since its inputs told `before`
abbrev pub FeederUnopened : {I : Type 0} → Told → Told → Feeder I → Type 0
FeederUnopened before told f = FaultIsUnopened before told f.stream

-- all first headers were accepted
abbrev pub AllAccepted : {I : Type 0} → Feeder I → Type 0
AllAccepted f = (k : ℕ) (header : HeaderText) → slice_get (headers_of f) k ≡ Some header →
    IsAcceptedAt f k header

-- what it opened and read of its files since its inputs told `before`, until an end is due that is no fault
abbrev pub FeederRead : {I : Type 0} → Told → Told → Feeder I → Type 0
FeederRead before told f = StreamRead before told f.stream

-- the first headers of all transfers were read, in order, and nothing else was; reading goes on from there
abbrev pub ReadsFirstHeaders : {I : Type 0} → Told → Feeder I → Told → Feeder I → Type 0
ReadsFirstHeaders told old told' new = StreamReadsFirsts told old.stream told' new.stream

-- What accepting a header keeps: what is to be read, the headers, and how far the files were read; no end came, and no
-- fault
pub record KeepsBegun {I : Type 0} (old new : Feeder I) : Type 0 where
  pub plan : SamePlan old new
  pub headers : headers_of new ≡ headers_of old
  pub reading : HasOpenFile new → HasOpenFile old
  pub reads_on : (before told : Told) → FeederRead before told old → FeederRead before told new
  pub faultless : FeederFaultless new
  pub running : has_end new ≡ None

-- The blocks were made shorter. What is to be read, what was accepted, and how far the files were read stay.
pub record IsCutTo {I : Type 0} (size : ℕ) (old new : Feeder I) : Type 0 where
  pub size_is : block_size new ≡ size
  pub plan : plan_at new ≡ plan_at old
  pub place : place_at new ≡ place_at old
  pub running : has_end new ≡ has_end old
  pub begun : (told : Told) → IsBegun told old → IsBegun told new
  pub reads_on : (before told : Told) → FeederRead before told old → FeederRead before told new

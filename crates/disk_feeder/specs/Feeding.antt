-- What a feeder stands for: the sealed lists of its pass.
-- Source: this project's profile.
use Rattle.std.specs.Prelude.{◌≡◌, ◌≢◌, ⊤, ℕ, ◌+◌, ◌/◌, ◌<◌, ◌≤◌, ◌⊎◌, Bool, true, false, if◌then◌else◌, Option, IsSome, Some, None, List, [], ◌∷◌, ◌++◌, map, length, take}
use mathlib.Core.List.{IsPrefix}
use Rattle.psr_base.specs.Told.{Told, history}
use Rattle.dada_model.specs.Fields.{HeaderText}
use Rattle.ring_blocks.specs.declared.Entry.{Entry}
use Rattle.dada_hdu.specs.declared.passes.HduWriter.{HduWriter}
use Rattle.dada_hdu.specs.Answers.{header_entry}
use Rattle.dada_hdu.specs.declared.hdu.Hdu.{Hdu}
use Rattle.dada_hdu.specs.Passes.{data_shape}
use Rattle.disk_feeder.specs.declared.due.Due.{Due}
use Rattle.disk_feeder.specs.declared.due.Due.TheVariants.{Stopped}
use Rattle.stream_model.specs.Blocks.{whole_stream, abandoned_stream, joined_data, cut_entry, joined_bytes, ended_transfers, has_cut, is_over}
use Rattle.stream_model.specs.Walk.{FileStream, header_stop, stop_at, walk_data, walk_stop, walk_stream, transfer_data}
use Rattle.stream_model.specs.WalkLaws.{IsIn}
use Rattle.disk_feeder.specs.declared.answers.FeedEnd.{FeedEnd}
use Rattle.disk_feeder.specs.declared.answers.FeedEnd.TheVariants.{Whole, ReadFault}
use Rattle.disk_feeder.specs.declared.answers.FeedTurn.{FeedTurn}
use Rattle.disk_feeder.specs.declared.answers.FeedTurn.TheVariants.{Moved, Ended}
use Rattle.disk_feeder.specs.declared.place.Place.{Place}
use Rattle.disk_feeder.specs.declared.stream.Stream.{Stream}
use Rattle.disk_feeder.specs.Ends.{end_of, NamesPlace}
use Rattle.disk_feeder.specs.declared.source.Source.{Source}
use Rattle.disk_feeder.specs.History.{BreaksIf, ReadsThrough, ReadsBefore}
use Rattle.disk_feeder.specs.Plan.{Plan, stream_of, AreTold, AreToldTo, AreToldWithFirsts, opened_at, IsAtFile, AreAccepted}
use Rattle.disk_feeder.specs.Reading.{NoStopBefore, DataBegin, StopsAtFile, judged_at}
use Rattle.disk_feeder.specs.Sources.{plan_of, current_name, IsEarly}
use Rattle.disk_feeder.specs.Streams.{IsStream, StreamRead}
use Rattle.disk_feeder.specs.Filling.{IsSince}
use Rattle.disk_feeder.specs.Turns.{sealed_headers, sealed_blocks}

-- the blocks of headers
abbrev pub header_entries : List HeaderText → List Entry
header_entries headers = map header_entry headers

-- how many headers are sealed while the data of a transfer are: that of the transfer too, unless it is due
abbrev pub headers_sealed : Bool → ℕ → ℕ
headers_sealed header_due transfer = if header_due then transfer else transfer + 1

-- Until a feeder ended, its pass sealed the first headers, and a front of the data's blocks.
pub record IsRunning (s : Stream) (told : Told) (headers blocks : List Entry) : Type 0 where
  pub there : s.source.place.transfer < length s.source.starts.now
  pub accepted : AreAccepted (plan_of s.source)
  pub sealed : headers ≡ header_entries
      (take (headers_sealed s.header_due s.source.place.transfer) (plan_of s.source).headers)
  pub stream : IsStream s told blocks

-- the end is that of the walk, and the blocks are those of the walk
pub record IsWalkEnd (s : FileStream) (size : ℕ) (blocks : List Entry) (end : FeedEnd) :
    Type 0 where
  pub is : end ≡ end_of (length (joined_data (walk_data s))) s.max_bytes (walk_stop s)
  pub stream : blocks ≡ walk_stream size s

-- at a fault of the inputs the blocks are those of a front of the data, and without the Cut they begin the walk's
pub record IsBroken (s : FileStream) (size : ℕ) (blocks : List Entry) : Type 0 where
  pub transfer : ℕ
  pub read : ℕ
  pub there : transfer < length s.starts
  pub stream : blocks ≡ abandoned_stream size s.max_bytes (take transfer (walk_data s))
      (take read (transfer_data s transfer))
  pub front : List Entry
  pub cut : blocks ≡ front ++ cut_entry ∷ []
  pub begins : IsPrefix front (walk_stream size s)

abbrev pub EndIs : FileStream → ℕ → List Entry → FeedEnd → Type 0
EndIs s size blocks ReadFault = IsBroken s size blocks
EndIs s size blocks end = IsWalkEnd s size blocks end

-- Until a feeder ended, its blocks are a beginning of the walk's stream in which some transfer has not ended
pub record IsBeginning (plan : Plan) (told : Told) (size : ℕ) (blocks : List Entry) : Type 0 where
  pub open_still : ended_transfers blocks < length plan.starts
  pub uncut : has_cut blocks ≡ false
  pub begins : (files : List (List ℕ)) → AreTold told plan.names files →
      IsPrefix blocks (walk_stream size (stream_of plan files))

-- The sealed headers are the accepted ones of the first transfers, in order: of as many as ended, or of one more
pub record HeadersKeepUp (headers : List HeaderText) (sealed blocks : List Entry) : Type 0 where
  pub count : ℕ
  pub there : count ≤ length headers
  pub are : sealed ≡ header_entries (take count headers)
  pub ended : ended_transfers blocks ≤ count
  pub next : count ≤ ended_transfers blocks + 1

-- a whole stream of data, and all headers; or an abandoned one, and the headers of the transfers that began
abbrev pub SealedAs : Plan → ℕ → List (List ℕ) → List ℕ → List Entry → List Entry → FeedEnd → Type 0
SealedAs plan size before current headers blocks (Whole bytes) =
    (blocks ≡ whole_stream size before) × (length before ≡ length plan.starts)
    × (headers ≡ header_entries plan.headers) × (bytes ≡ length (joined_data before))
SealedAs plan size before current headers blocks end =
    (blocks ≡ abandoned_stream size plan.max_bytes before current)
    × (length before < length plan.starts)
    × (headers ≡ header_entries (take (length before + 1) plan.headers)) × IsEarly plan end

-- Once a feeder ended, its blocks are over, and no sooner. All transfers have ended where it sealed all data, which are
-- as many bytes as it says; at any other end the stream was given up
pub record IsEnding (transfers : ℕ) (blocks : List Entry) (end : FeedEnd) : Type 0 where
  pub over : is_over transfers blocks ≡ true
  pub once : (front rest : List Entry) → front ++ rest ≡ blocks → is_over transfers front ≡ true →
      rest ≡ []
  pub all : (bytes : ℕ) → end ≡ Whole bytes → ended_transfers blocks ≡ transfers
  pub uncut : (bytes : ℕ) → end ≡ Whole bytes → has_cut blocks ≡ false
  pub count : (bytes : ℕ) → end ≡ Whole bytes → length (joined_bytes blocks) ≡ bytes
  pub cut : ((bytes : ℕ) → end ≢ Whole bytes) → has_cut blocks ≡ true

-- where an end is a stop of the walk, the walk stops at this file
abbrev pub StopsWalkAt : FeedEnd → FileStream → ℕ → Type 0
StopsWalkAt (Whole bytes) s file = ⊤
StopsWalkAt ReadFault s file = ⊤
StopsWalkAt end s file = StopsAtFile (walk_stop s) file

-- Once it ended at a place, they are the stream of the data that were read, which lie within the limit; and where the
-- files that judge the end are told, the walk's. No file before that of the place stops the walk. Where all data were
-- sealed it is past all files; else its file is there, and the only one that the end names.
pub record IsEnded (plan : Plan) (told : Told) (at : Place) (size : ℕ)
    (headers blocks : List Entry) (end : FeedEnd) : Type 0 where
  pub before : List (List ℕ)
  pub current : List ℕ
  pub few : length (joined_data before) + length current ≤ plan.max_bytes
  pub sealed : SealedAs plan size before current headers blocks end
  pub passed : NoStopBefore plan told at.file
  pub last : (bytes : ℕ) → end ≡ Whole bytes → at.file ≡ length plan.names
  pub there : ((bytes : ℕ) → end ≢ Whole bytes) → at.file < length plan.names
  pub names : NamesPlace end at.file
  pub known : (files : List (List ℕ)) → AreToldTo (judged_at end at) told plan files →
      EndIs (stream_of plan files) size blocks end
  pub stops : (files : List (List ℕ)) → AreToldTo (judged_at end at) told plan files →
      StopsWalkAt end (stream_of plan files) at.file

-- What was sealed where a fault came at a place: nothing that was read stops the walk, and the full blocks are those of
-- the data that were read of the transfer, all within the limit, with a Cut
pub record IsCutAt (s : FileStream) (at : Place) (size : ℕ) (blocks : List Entry) : Type 0 where
  pub inside : IsIn s at.transfer at.file
  pub passed : (j : ℕ) → j < at.file → stop_at s j ≡ None
  pub judged : at.is_open ≡ true → header_stop s at.file ≡ None
  pub few : length (joined_data (take at.transfer (walk_data s))) + at.since ≤ s.max_bytes
  pub stream : blocks ≡ abandoned_stream size s.max_bytes (take at.transfer (walk_data s))
      (take at.since (transfer_data s at.transfer))

-- What was sealed there, whether or not the file at the place is told: the full blocks of the data that were read, all
-- within the limit, with a Cut. These data begin with those of the files before the place, as far as these are told.
pub record IsCutPast (plan : Plan) (told : Told) (at : Place) (size : ℕ) (blocks : List Entry) :
    Type 0 where
  pub inside : IsAtFile plan at
  pub before : List (List ℕ)
  pub current : List ℕ
  pub transfers : length before ≡ at.transfer
  pub since : length current ≡ at.since
  pub begin : DataBegin plan told at before current
  pub few : length (joined_data before) + length current ≤ plan.max_bytes
  pub stream : blocks ≡ abandoned_stream size plan.max_bytes before current

-- once a stream ended, and where it did so by a fault
pub record HasEndedAs (s : Stream) (told : Told) (headers blocks : List Entry) (end : FeedEnd) :
    Type 0 where
  pub ended : IsEnded (plan_of s.source) told s.source.place (length s.block.items) headers blocks
      end
  pub cut : end ≡ ReadFault → (files : List (List ℕ)) →
      AreToldTo (opened_at s.source.place) told (plan_of s.source) files →
      IsCutAt (stream_of (plan_of s.source) files) s.source.place (length s.block.items) blocks
  pub past : end ≡ ReadFault →
      IsCutPast (plan_of s.source) told s.source.place (length s.block.items) blocks

abbrev pub FeedsTo : Stream → Told → List Entry → List Entry → Option FeedEnd → Type 0
FeedsTo s told headers blocks None = IsRunning s told headers blocks
FeedsTo s told headers blocks (Some end) = HasEndedAs s told headers blocks end

-- it stands for these sealed lists
abbrev pub IsFeeding : Stream → Told → List Entry → List Entry → Type 0
IsFeeding s told headers blocks = FeedsTo s told headers blocks s.end

-- What a fault of the inputs leaves of the walk of files, over what inputs told before anything was read and tell now.
-- It came at this place, and no file before stops the walk. Where the files that were opened are told, nothing that was
-- read stops it, and the full blocks of the transfer are those of the data bytes that were read of it, and no other.
-- Where the file at the place and the first one of each transfer are told too, it was not opened, or its header isn't
-- judged by what was read; or its header goes on, and it was read up to the place. Whether or not that file is told,
-- the data that were read begin with those of the files before it, as far as these are told; and where the first one of
-- each transfer is told too, these files were read to their ends before anything else. Calm inputs could not open the
-- file: where those before it are told, and the first one of each transfer, they were read to their ends, and nothing
-- else was.
pub record BreaksReading (plan : Plan) (before : Told) (is_calm : Type 0) (after : Told)
    (at : Place) (size : ℕ) (blocks : List Entry) : Type 0 where
  pub passed : NoStopBefore plan after at.file
  pub cut : (files : List (List ℕ)) → AreToldTo (opened_at at) after plan files →
      IsCutAt (stream_of plan files) at size blocks
  pub stood : (files : List (List ℕ)) → AreToldWithFirsts (at.file + 1) after plan files →
      BreaksIf at.is_open plan.names (stream_of plan files) before after at
  pub past : IsCutPast plan after at size blocks
  pub through : ReadsThrough plan before after at.file (history after)
  pub shut : is_calm → at.is_open ≡ false
  pub unopened : is_calm → ReadsBefore plan before after at

-- the plan and the size of a block stay
pub record KeepsPlan (old new : Stream) : Type 0 where
  pub plan : plan_of new.source ≡ plan_of old.source
  pub size : length new.block.items ≡ length old.block.items

-- a call that reads nothing: what stood for the sealed lists before stands for those after it
abbrev pub Feeds : Stream → HduWriter → Stream → HduWriter → Type 0
Feeds old pass new pass' = (told : Told) →
    IsRunning old told (sealed_headers pass) (sealed_blocks pass) →
    IsFeeding new told (sealed_headers pass') (sealed_blocks pass')

-- the file at the place isn't told
pub record IsUntold (told : Told) (source : Source) : Type 0 where
  pub there : source.place.file < length (plan_of source).names
  pub untold : ¬ IsSome (told.bytes_under (current_name source))

-- where a fault of the inputs is due or came, the file at the place is such a one
abbrev pub FaultIsUntold : Told → Stream → Type 0
FaultIsUntold told s = (s.due ≡ Some (Stopped ReadFault)) ⊎ (s.end ≡ Some ReadFault) →
    IsUntold told s.source

-- the file at the place was not opened, and those before it were read since the inputs told `before`
pub record IsUnopened (before told : Told) (source : Source) : Type 0 where
  pub shut : source.place.is_open ≡ false
  pub read : ReadsBefore (plan_of source) before told source.place

-- so it was where a fault of the inputs is due or came
abbrev pub FaultIsUnopened : Told → Told → Stream → Type 0
FaultIsUnopened before told s = (s.due ≡ Some (Stopped ReadFault)) ⊎ (s.end ≡ Some ReadFault) →
    IsUnopened before told s.source

-- no fault of the inputs came
abbrev pub IsFaultless : Option Due → Option FeedEnd → Type 0
IsFaultless due end = (due ≢ Some (Stopped ReadFault)) × (end ≢ Some ReadFault)

-- What reading keeps of the inputs. Files stay as they are told; a fault is due or came only where the count of faults
-- rose, and of calm inputs only at a file that isn't told and was not opened. In this: what inputs tell, whether they
-- are calm, and how many calls have failed.
pub record KeepsInputs {I : Type 0} (told : I → Told) (is_calm : I → Type 0) (faults : I → ℕ)
    (old new : Stream) (inputs inputs' : I) : Type 0 where
  pub names : (told inputs').bytes_under ≡ (told inputs).bytes_under
  pub count : faults inputs ≤ faults inputs'
  pub quiet : IsFaultless new.due new.end → faults inputs' ≡ faults inputs
  pub since : (k : ℕ) → IsSince k (faults inputs) old.due old.end →
      IsSince k (faults inputs') new.due new.end
  pub calm : is_calm inputs → is_calm inputs'
  pub missing : is_calm inputs → FaultIsUntold (told inputs) old →
      FaultIsUntold (told inputs') new
  pub unopened : is_calm inputs → (before : Told) → StreamRead before (told inputs) old →
      FaultIsUnopened before (told inputs) old → FaultIsUnopened before (told inputs') new

-- What a seal leaves, which reads nothing: the plan and the size of a block stay, and no file is opened. Where a fault
-- came before, one has come still; where it came at a file that isn't told, or was not opened, it stands there still
pub record AfterSeal (old new : Stream) : Type 0 where
  pub plan : plan_of new.source ≡ plan_of old.source
  pub size : length new.block.items ≡ length old.block.items
  pub opened : new.source.place.is_open ≡ true → old.source.place.is_open ≡ true
  pub since : (k faults : ℕ) → IsSince k faults old.due old.end → IsSince k faults new.due new.end
  pub missing : (told : Told) → FaultIsUntold told old → FaultIsUntold told new
  pub unopened : (before told : Told) → FaultIsUnopened before told old →
      FaultIsUnopened before told new
  pub failed : IsFaultless new.due new.end → IsFaultless old.due old.end

-- after a transfer: the header of the next one is due, or all data were sealed
abbrev pub GoesOn : Stream → Stream → FeedTurn → Type 0
GoesOn old new Moved = (old.source.place.transfer < length old.source.starts.now)
    × (new.header_due ≡ true) × (new.end ≡ None)
GoesOn old new (Ended end) = (length old.source.starts.now ≡ old.source.place.transfer)
    × (end ≡ Whole old.source.place.total) × (new.end ≡ Some end)
GoesOn old new turn = ⊥

-- the data ring has blocks of the stream's size, and may carry as many as it can come to
pub record FitsRings (hdu : Hdu) (s : Stream) : Type 0 where
  pub size : (data_shape hdu).size ≡ length s.block.items
  pub blocks : s.source.max_bytes / length s.block.items + length s.source.starts.now + 1
      ≤ (data_shape hdu).max_blocks

-- a stream of these rings, whose open file is open, stands for what its pass sealed
pub record StreamStands (told : Told) (is_open : Type 0) (hdu : Hdu) (s : Stream)
    (pass : HduWriter) : Type 0 where
  pub fits : FitsRings hdu s
  pub file : s.source.place.is_open ≡ true → is_open
  pub feeding : IsFeeding s told (sealed_headers pass) (sealed_blocks pass)

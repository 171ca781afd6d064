-- What the calls of a stream keep and fill.
-- Source: this project's profile.
use Rattle.std.specs.Prelude.{◌≡◌, ◌<◌, ℕ, false, ◌+◌, ◌-◌, ◌*◌, List, length, Option, None, Some}
use Rattle.psr_base.specs.Told.{Told}
use Rattle.ring_blocks.specs.declared.Entry.{Entry}
use Rattle.disk_feeder.specs.declared.due.Due.{Due}
use Rattle.disk_feeder.specs.declared.source.Source.{Source}
use Rattle.disk_feeder.specs.History.{fate, IsFated}
use Rattle.disk_feeder.specs.Plan.{begin_at}
use Rattle.disk_feeder.specs.declared.stream.Stream.{Stream}
use Rattle.disk_feeder.specs.Sources.{plan_of, ends_left}
use Rattle.disk_feeder.specs.Filling.{IsFilled}
use Rattle.disk_feeder.specs.Beginning.{LastLeft, FirstsRead}

-- the blocks of a stream that were sealed
abbrev pub IsStream : Stream → Told → List Entry → Type 0
IsStream s told blocks =
    IsFilled (plan_of s.source) told s.source.place s.block.items s.held s.due blocks

-- the plan, the size of a block and the transfer stay, and so does what comes of headers and ends
pub record KeepsStream (old new : Stream) : Type 0 where
  pub plan : plan_of new.source ≡ plan_of old.source
  pub size : length new.block.items ≡ length old.block.items
  pub transfer : new.source.place.transfer ≡ old.source.place.transfer
  pub header_due : new.header_due ≡ old.header_due
  pub end : new.end ≡ old.end

-- the same blocks are sealed of the data that are read then
abbrev pub Fills : Stream → Told → Stream → Told → Type 0
Fills old told new told' = (blocks : List Entry) → IsStream old told blocks →
    IsStream new told' blocks

-- how much is still to be opened and to be read for a block
abbrev pub work_left : Stream → ℕ
work_left s = ends_left (length s.source.names.now) s.source.place * (length s.block.items + 1)
    + (length s.block.items - s.held)

-- how often a block is still read into, at most
abbrev pub steps_left : Option Due → ℕ → ℕ
steps_left None work = work + 1
steps_left (Some due) work = 0

-- all data of its transfer were read
abbrev pub IsSourceOver : Source → Type 0
IsSourceOver source = (source.place.is_open ≡ false) × (source.place.file
    ≡ begin_at source.starts.now (length source.names.now) (source.place.transfer + 1))

-- nothing is due, and it has not ended
pub record IsIdle (s : Stream) : Type 0 where
  pub due : s.due ≡ None
  pub running : s.end ≡ None

-- the data of a transfer are read
pub record IsFilling (s : Stream) : Type 0 where
  pub running : s.end ≡ None
  pub header : s.header_due ≡ false
  pub there : s.source.place.transfer < length s.source.starts.now

-- the rest of a transfer's data lies in a block that has room
pub record HoldsLast (s : Stream) : Type 0 where
  pub short : s.held < length s.block.items
  pub over : IsSourceOver s.source

-- what a stream opened and read of its files since its inputs told `before`, until an end is due that is no fault
abbrev pub StreamRead : Told → Told → Stream → Type 0
StreamRead before told s =
    IsFated (fate s.due s.end) (plan_of s.source) before told s.source.place

-- The first headers of all transfers were read, in order, and nothing else was. What is left of the last of these files
-- are its data, and reading goes on from there.
pub record StreamReadsFirsts (told : Told) (old : Stream) (told' : Told) (new : Stream) :
    Type 0 where
  pub left : LastLeft told old.source (length old.source.starts.now) told'
  pub read : FirstsRead told old.source (length old.source.starts.now) told'
  pub begins : StreamRead told told' new

-- Laws of feeders; the functions of this crate carry them.
-- Source: this project's profile.
use Rattle.std.specs.Prelude.{◌≡◌, List, length, None, Some}
use Rattle.psr_base.specs.Told.{Told}
use Rattle.ring_blocks.specs.declared.Entry.{Entry}
use Rattle.disk_feeder.specs.declared.answers.FeedEnd.{FeedEnd}
use Rattle.disk_feeder.specs.declared.answers.FeedEnd.TheVariants.{ReadFault}
use Rattle.disk_feeder.specs.declared.feeder.Feeder.{Feeder}
use Rattle.disk_feeder.specs.Feeder.{FeederFeeds, FeederBegins, FeederRead, FeederUnopened, has_end, headers_of, plan_at, place_at, block_size}
use Rattle.disk_feeder.specs.Feeding.{HeadersKeepUp, IsEnding, BreaksReading}

-- until a feeder ended, the data blocks that it stands for are a beginning of the stream of its files, without a Cut
abbrev pub FeedersBegin : Type 0 → Type 0
FeedersBegin I = (f : Feeder I) (told : Told) (headers blocks : List Entry) →
    FeederFeeds told f headers blocks → has_end f ≡ None → FeederBegins told f blocks

-- once it ended, they are over, whole or given up
abbrev pub FeedersEnd : Type 0 → Type 0
FeedersEnd I = (f : Feeder I) (told : Told) (headers blocks : List Entry) (end : FeedEnd) →
    FeederFeeds told f headers blocks → has_end f ≡ Some end →
    IsEnding (length (plan_at f).starts) blocks end

-- the header blocks that it stands for are those of the first transfers, of as many as ended, or of one more
abbrev pub HeadersAreFirst : Type 0 → Type 0
HeadersAreFirst I = (f : Feeder I) (told : Told) (headers blocks : List Entry) →
    FeederFeeds told f headers blocks → HeadersKeepUp (headers_of f) headers blocks

-- where a fault of the inputs ended it, nothing that was read stops the walk of its files, and its full blocks are
-- those of the data that were read, as they are told. Where it came to a file that could not be opened after those
-- before it alone were read, it says so still
abbrev pub FaultsLeave : Type 0 → Type 0
FaultsLeave I = (f : Feeder I) (before told : Told) (headers blocks : List Entry) →
    FeederFeeds told f headers blocks → has_end f ≡ Some ReadFault → FeederRead before told f →
    BreaksReading (plan_at f) before (FeederUnopened before told f) told (place_at f) (block_size f)
    blocks

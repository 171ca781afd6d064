-- A block that is filled with the data of files.
-- Source: this project's profile.
use Rattle.std.specs.Prelude.{◌≡◌, ◌≢◌, ℕ, ◌+◌, ◌-◌, ◌*◌, ◌<◌, ◌≤◌, false, Option, Some, None, IsSome, List, [], ◌++◌, length, take, drop, slice_index_or, Result, MatchResult}
use Rattle.psr_base.specs.Count.{Rose}
use Rattle.psr_base.specs.Told.{Told}
use Rattle.ring_blocks.specs.declared.Entry.{Entry}
use Rattle.stream_model.specs.Blocks.{full_entries, whole_stream, joined_data}
use Rattle.disk_feeder.specs.declared.answers.FeedEnd.{FeedEnd}
use Rattle.disk_feeder.specs.declared.answers.FeedEnd.TheVariants.{ReadFault}
use Rattle.disk_feeder.specs.declared.place.Place.{Place}
use Rattle.disk_feeder.specs.declared.due.Due.{Due}
use Rattle.disk_feeder.specs.declared.due.Due.TheVariants.{Full, Last, Stopped}
use Rattle.disk_feeder.specs.History.{ReadsOn}
use Rattle.disk_feeder.specs.Plan.{Plan, begin_at}
use Rattle.disk_feeder.specs.Reading.{HasRead, HasEnded}
use Rattle.disk_feeder.specs.Sources.{ComesEarly}

-- what was read came behind the bytes that a block held; or reading ended, with room for so many more
abbrev pub FillsTo : Plan → Place → Told → Place → Told → ℕ → List ℕ → List ℕ →
    Result ℕ FeedEnd → Type 0
FillsTo plan at told at' told' held block block' result =
    (before : List (List ℕ)) (current : List ℕ) →
    HasRead plan told at before current → MatchResult result
    (λ n. (piece : List ℕ) × (take (held + n) block' ≡ take held block ++ piece)
    × (length piece ≡ n) × HasRead plan told' at' before (current ++ piece))
    (λ end. HasEnded plan told' at before current (length block - held) end)

-- so a block was filled, and the files read on
pub record FillsBehind (plan : Plan) (at : Place) (told : Told) (at' : Place) (told' : Told)
    (held : ℕ) (block block' : List ℕ) (result : Result ℕ FeedEnd) : Type 0 where
  pub filled : FillsTo plan at told at' told' held block block' result
  pub reads_on : ReadsOn plan at told at' told' result

-- the numbers of a place are those of the data that were read
pub record IsCountOf (at : Place) (before : List (List ℕ)) (current : List ℕ) : Type 0 where
  pub transfers : length before ≡ at.transfer
  pub since : length current ≡ at.since
  pub total : length (joined_data before) + length current ≡ at.total

-- all data of the transfer were read
pub record IsOver (plan : Plan) (at : Place) : Type 0 where
  pub shut : at.is_open ≡ false
  pub last : at.file ≡ begin_at plan.starts (length plan.names) (at.transfer + 1)

-- why a block of some size that holds so many bytes is sealed next, or isn't yet
abbrev pub DueIs : Plan → Told → Place → List (List ℕ) → List ℕ → ℕ → ℕ → Option Due → Type 0
DueIs plan told at before current size held None =
    HasRead plan told at before current × (held < size)
DueIs plan told at before current size held (Some Full) =
    HasRead plan told at before current × (held ≡ size)
DueIs plan told at before current size held (Some Last) =
    HasRead plan told at before current × (held < size) × IsOver plan at
DueIs plan told at before current size held (Some (Stopped end)) =
    IsCountOf at before current × (held < size)
    × HasEnded plan told at before current (size - held) end × ComesEarly plan at end

-- Blocks were sealed of the data that were read: those of the transfers before, and full ones of this transfer. The
-- block that is filled holds the rest.
pub record IsFilled (plan : Plan) (told : Told) (at : Place) (block : List ℕ) (held : ℕ)
    (due : Option Due) (blocks : List Entry) : Type 0 where
  pub before : List (List ℕ)
  pub current : List ℕ
  pub fulls : ℕ
  pub sealed : blocks
      ≡ whole_stream (length block) before ++ full_entries (length block) current fulls
  pub count : fulls * length block + held ≡ length current
  pub kept : take held block ≡ drop (fulls * length block) current
  pub next : DueIs plan told at before current (length block) held due

-- since the inputs had counted k faults they failed only where the count rose, and where they didn't it stands still
pub record IsSince (k faults : ℕ) (due : Option Due) (end : Option FeedEnd) : Type 0 where
  pub count : k ≤ faults
  pub due_failed : due ≡ Some (Stopped ReadFault) → Rose k faults
  pub end_failed : end ≡ Some ReadFault → Rose k faults
  pub due_quiet : end ≡ None → due ≢ Some (Stopped ReadFault) → faults ≡ k
  pub end_quiet : (stop : FeedEnd) → end ≡ Some stop → stop ≢ ReadFault → faults ≡ k

-- the inputs hold a file under each name
abbrev pub HoldsAll : Told → List (List ℕ) → Type 0
HoldsAll told names = (k : ℕ) → k < length names →
    IsSome (told.bytes_under (slice_index_or names k []))

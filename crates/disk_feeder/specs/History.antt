-- What a feeder opened and read of its files, one after another, since its inputs told something.
-- Source: this project's profile.
use Rattle.std.specs.Prelude.{◌≡◌, ℕ, zero, suc, ◌+◌, ◌-◌, ◌<◌, ◌≤◌, ◌==◌, Bool, true, false, if◌then◌else◌, ⊤, Option, Some, None, List, [], length, slice_index_or, Result, Ok, MatchResult}
use mathlib.Core.List.{IsPrefix}
use Rattle.dada_model.specs.Fields.{HeaderText, header_of}
use Rattle.psr_base.specs.Told.{Told, Reading, history, opened, moved_by, at_end}
use Rattle.stream_model.specs.Walk.{FileStream, file_at, begin_of, data_between}
use Rattle.disk_feeder.specs.declared.answers.FeedEnd.{FeedEnd}
use Rattle.disk_feeder.specs.declared.answers.FeedEnd.TheVariants.{Whole, ReadFault, BadHeader, Gap, TooLong}
use Rattle.disk_feeder.specs.declared.due.Due.{Due}
use Rattle.disk_feeder.specs.declared.due.Due.TheVariants.{Full, Last, Stopped}
use Rattle.disk_feeder.specs.declared.place.Place.{Place}
use Rattle.disk_feeder.specs.Front.{front_of, BreaksAt}
use Rattle.disk_feeder.specs.Plan.{Plan, stream_of, AreToldWithFirsts, opened_at}

-- ---- what was read

-- the first headers of so many transfers were read, one after another, and no more of their files than these. `name_of`
-- and `file_of` give the name of a transfer's first file, and its bytes
unfoldable pub firsts_read : (ℕ → List ℕ) → (ℕ → List ℕ) → ℕ → Told → Told
firsts_read name_of file_of zero told = told
firsts_read name_of file_of (suc k) told =
    moved_by (front_of (file_of k)) (opened (name_of k) (firsts_read name_of file_of k told))

-- so many files were read to their ends, one after another
unfoldable pub files_read : (ℕ → List ℕ) → (ℕ → List ℕ) → ℕ → Told → Told
files_read name_of file_of zero told = told
files_read name_of file_of (suc k) told =
    at_end (moved_by (length (file_of k)) (opened (name_of k) (files_read name_of file_of k told)))

-- the name of file k, and of the first file of a transfer
abbrev pub file_name : List (List ℕ) → ℕ → List ℕ
file_name names k = slice_index_or names k []

abbrev pub name_of_first : List (List ℕ) → FileStream → ℕ → List ℕ
name_of_first names s transfer = file_name names (begin_of s transfer)

abbrev pub first_of : FileStream → ℕ → List ℕ
first_of s transfer = file_at s (begin_of s transfer)

-- before the data of the first file all first headers were read; those of one transfer alone are read on, so there
-- nothing was
abbrev pub before_data : List (List ℕ) → FileStream → Told → Told
before_data names s told =
    if length s.starts == 1 then told
    else firsts_read (name_of_first names s) (first_of s) (length s.starts) told

-- and then all files before file k
abbrev pub read_before : List (List ℕ) → FileStream → ℕ → Told → Told
read_before names s k told =
    files_read (file_name names) (file_at s) k (before_data names s told)

-- how many data bytes the files of a transfer have before file k
abbrev pub data_so_far : FileStream → ℕ → ℕ → ℕ
data_so_far s transfer k = length (data_between s.files (begin_of s transfer) k)

-- ---- at file k of a transfer, of whose data so many bytes were read; `before` is what was told before the first open

-- no file is open: all before this one were read. One transfer alone is read on from its first header, so its first
-- file is open, or past.
pub record IsShut (names : List (List ℕ)) (s : FileStream) (before told : Told)
    (transfer k count : ℕ) : Type 0 where
  pub begun : length s.starts ≡ 1 → 0 < k
  pub told_is : told ≡ read_before names s k before
  pub count_is : count ≡ data_so_far s transfer k

-- the file is open, it has a header, and its bytes were read up to a place past that
pub record IsReadUpTo (names : List (List ℕ)) (s : FileStream) (before told : Told)
    (transfer k count : ℕ) : Type 0 where
  pub header : (h : HeaderText) × (header_of (file_at s k) ≡ Ok h)
  pub place : ℕ
  pub past : front_of (file_at s k) ≤ place
  pub within : place ≤ length (file_at s k)
  pub told_is : told ≡ moved_by place (opened (file_name names k) (read_before names s k before))
  pub count_is : count ≡ data_so_far s transfer k + (place - front_of (file_at s k))

-- a fault came before the header of the file was judged, which is no first file of one transfer alone
pub record IsBreaking (names : List (List ℕ)) (s : FileStream) (before told : Told)
    (transfer k count : ℕ) : Type 0 where
  pub begun : length s.starts ≡ 1 → 0 < k
  pub broke : BreaksAt (file_name names k) (file_at s k) (read_before names s k before) told
  pub count_is : count ≡ data_so_far s transfer k

-- ---- at a place

abbrev pub StandsIf : Bool → List (List ℕ) → FileStream → Told → Told → Place → Type 0
StandsIf false names s before told at = IsShut names s before told at.transfer at.file at.since
StandsIf true names s before told at = IsReadUpTo names s before told at.transfer at.file at.since

-- the same where a fault came: before the header of the file was judged, or past it
abbrev pub BreaksIf : Bool → List (List ℕ) → FileStream → Told → Told → Place → Type 0
BreaksIf false names s before told at =
    IsBreaking names s before told at.transfer at.file at.since
BreaksIf true names s before told at =
    IsReadUpTo names s before told at.transfer at.file at.since

-- what was read before the file that is open, or all that was where none is
abbrev pub read_first : Bool → Told → List Reading
read_first false told = history told
read_first true told = told.earlier

-- up to a file, whether or not it is told: where the files before some file k up to there are told, and the first one
-- of each transfer, they were read to their ends, in order, before anything else
abbrev pub ReadsThrough : Plan → Told → Told → ℕ → List Reading → Type 0
ReadsThrough plan before told file readings = (k : ℕ) → k ≤ file → (files : List (List ℕ)) →
    AreToldWithFirsts k told plan files →
    IsPrefix (history (read_before plan.names (stream_of plan files) k before)) readings

-- Where the files that were opened are told, and the first one of each transfer, they were read up to the place. Those
-- before the place were read through, whether or not the file there is told.
pub record ReadsUpTo (plan : Plan) (before told : Told) (at : Place) : Type 0 where
  pub known : (files : List (List ℕ)) → AreToldWithFirsts (opened_at at) told plan files →
      StandsIf at.is_open plan.names (stream_of plan files) before told at
  pub through : ReadsThrough plan before told at.file (read_first at.is_open told)

-- no file is open there: where those before it are told, and the first one of each transfer, these were read to the end
abbrev pub ReadsBefore : Plan → Told → Told → Place → Type 0
ReadsBefore plan before told at = (files : List (List ℕ)) →
    AreToldWithFirsts at.file told plan files →
    IsShut plan.names (stream_of plan files) before told at.transfer at.file at.since

-- A fault came there, as is said where the file at the place is told too. Those before it were read through, whether or
-- not it is told.
pub record BreaksOffAt (plan : Plan) (before told : Told) (at : Place) : Type 0 where
  pub known : (files : List (List ℕ)) → AreToldWithFirsts (at.file + 1) told plan files →
      BreaksIf at.is_open plan.names (stream_of plan files) before told at
  pub through : ReadsThrough plan before told at.file (history told)

-- a call read on, or a fault came; of another end nothing is said here
abbrev pub ReadsOn : {T : Type 0} → Plan → Place → Told → Place → Told → Result T FeedEnd → Type 0
ReadsOn plan at told at' told' result = (before : Told) → ReadsUpTo plan before told at →
    MatchResult result (λ _. ReadsUpTo plan before told' at')
    (λ end. end ≡ ReadFault → BreaksOffAt plan before told' at')

-- ---- of a stream

-- what comes of a stream: it goes on; a fault of the inputs ends it; or another end does
pub data Fate : Type 0 where
  Running : Fate
  Broken : Fate
  Over : Fate

abbrev pub fate_of : FeedEnd → Fate
fate_of ReadFault = Broken
fate_of (Whole bytes) = Over
fate_of (BadHeader file cause) = Over
fate_of (Gap file expected found) = Over
fate_of (TooLong limit) = Over

-- by what is due, and by its end
abbrev pub fate : Option Due → Option FeedEnd → Fate
fate due (Some end) = fate_of end
fate None None = Running
fate (Some Full) None = Running
fate (Some Last) None = Running
fate (Some (Stopped end)) None = fate_of end

abbrev pub IsFated : Fate → Plan → Told → Told → Place → Type 0
IsFated Running plan before told at = ReadsUpTo plan before told at
IsFated Broken plan before told at = BreaksOffAt plan before told at
IsFated Over plan before told at = ⊤

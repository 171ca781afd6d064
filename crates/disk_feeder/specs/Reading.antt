-- The data that a feeder has read of its files, and what is still to come.
-- Source: this project's profile.
use Rattle.std.specs.Prelude.{◌≡◌, ℕ, ◌+◌, ◌*◌, ◌<◌, ◌≤◌, true, false, Some, None, List, [], ◌∷◌, ◌++◌, length, take, Result, MatchResult}
use mathlib.Core.List.{IsPrefix}
use Rattle.psr_base.specs.Told.{Told, left_to_read}
use Rattle.stream_model.specs.Blocks.{full_entries, whole_stream, joined_data, abandoned_stream}
use Rattle.stream_model.specs.Walk as walk
use Rattle.stream_model.specs.Walk.{FileStream, WalkStop, begin_of, data_between, transfer_data, walk_data, header_stop, stop_at, walk_stop, walk_stream}
use Rattle.stream_model.specs.WalkLaws.{IsIn}
use Rattle.disk_feeder.specs.declared.answers.FeedEnd.{FeedEnd}
use Rattle.disk_feeder.specs.declared.answers.FeedEnd.TheVariants.{Whole, ReadFault}
use Rattle.disk_feeder.specs.declared.place.Place.{Place}
use Rattle.disk_feeder.specs.Ends.{end_of}
use Rattle.disk_feeder.specs.Plan.{Plan, stream_of, begin_at, AreToldTo, opened_at, IsAtFile, AreAccepted, HeadersAreTold}

-- The walk of these files came to this place: `before` are the data of the transfers before, `current` those that were
-- read of the transfer, and what is left of the open file and the files after it are still to come.
pub record IsAt (s : FileStream) (told : Told) (at : Place) (before : List (List ℕ))
    (current : List ℕ) : Type 0 where
  pub earlier : before ≡ take at.transfer (walk_data s)
  pub passed : (j : ℕ) → j < at.file → stop_at s j ≡ None
  pub judged : at.is_open ≡ true → header_stop s at.file ≡ None
  pub shut : at.is_open ≡ false → current ≡ data_between s.files (begin_of s at.transfer) at.file
  pub rest : at.is_open ≡ true → (left : List ℕ) × (left_to_read told ≡ Some left)
      × (data_between s.files (begin_of s at.transfer) (at.file + 1) ≡ current ++ left)

-- none of the files before this one stops the walk, each by the files up to it
abbrev pub NoStopBefore : Plan → Told → ℕ → Type 0
NoStopBefore plan told file = (k : ℕ) → k < file → (files : List (List ℕ)) →
    AreToldTo (k + 1) told plan files → stop_at (stream_of plan files) k ≡ None

-- the data that were read of the transfer of a place begin with those of its files before file k, and are these alone
-- where that is the file of the place and isn't open
pub record BeginsWith (s : FileStream) (at : Place) (k : ℕ) (before : List (List ℕ))
    (current : List ℕ) : Type 0 where
  pub earlier : before ≡ take at.transfer (walk_data s)
  pub more : List ℕ
  pub front : current ≡ data_between s.files (begin_of s at.transfer) k ++ more
  pub all : k ≡ at.file → at.is_open ≡ false → more ≡ []

-- the data of an earlier transfer begin with those of its files before file k
pub record PassesWith (s : FileStream) (transfer k : ℕ) (before : List (List ℕ)) : Type 0 where
  pub more : List ℕ
  pub later : List (List ℕ)
  pub is : before
      ≡ take transfer (walk_data s) ++ (data_between s.files (begin_of s transfer) k ++ more) ∷ later

-- Whether or not the file at a place is told, the data that were read begin with those of the files before it, as far
-- as these are told: in the transfer of the place, and in each earlier one, with those of its files before file k,
-- where all files before file k are told
pub record DataBegin (plan : Plan) (told : Told) (at : Place) (before : List (List ℕ))
    (current : List ℕ) : Type 0 where
  pub here : (k : ℕ) → begin_at plan.starts (length plan.names) at.transfer ≤ k → k ≤ at.file →
      (files : List (List ℕ)) → AreToldTo k told plan files →
      BeginsWith (stream_of plan files) at k before current
  pub past : (transfer k : ℕ) → transfer < at.transfer →
      begin_at plan.starts (length plan.names) transfer ≤ k →
      k ≤ begin_at plan.starts (length plan.names) (transfer + 1) →
      (files : List (List ℕ)) → AreToldTo k told plan files →
      PassesWith (stream_of plan files) transfer k before

-- A feeder at a place has read these data, where the files that were opened are told. Each first header is that of its
-- file.
pub record HasRead (plan : Plan) (told : Told) (at : Place) (before : List (List ℕ))
    (current : List ℕ) : Type 0 where
  pub accepted : AreAccepted plan
  pub headers : HeadersAreTold plan told
  pub transfers : length before ≡ at.transfer
  pub since : length current ≡ at.since
  pub total : length (joined_data before) + length current ≡ at.total
  pub passed : NoStopBefore plan told at.file
  pub known : (files : List (List ℕ)) → AreToldTo (opened_at at) told plan files →
      IsAt (stream_of plan files) told at before current
  pub begin : DataBegin plan told at before current

-- Where reading ended by the inputs' fault, the data read are a front of those of the files, and their full blocks
-- begin the walk's stream. Nothing that was read stops the walk.
pub record IsFront (s : FileStream) (at : Place) (before : List (List ℕ)) (current : List ℕ) :
    Type 0 where
  pub there : at.transfer < length s.starts
  pub inside : IsIn s at.transfer at.file
  pub passed : (j : ℕ) → j < at.file → stop_at s j ≡ None
  pub judged : at.is_open ≡ true → header_stop s at.file ≡ None
  pub earlier : before ≡ take at.transfer (walk_data s)
  pub more : List ℕ
  pub front : transfer_data s at.transfer ≡ current ++ more
  pub begins : (size n : ℕ) → 0 < size → n * size ≤ length current →
      IsPrefix (whole_stream size before ++ full_entries size current n) (walk_stream size s)

-- the walk stops at this file
abbrev pub StopsAtFile : WalkStop → ℕ → Type 0
StopsAtFile walk.Whole file = ⊥
StopsAtFile (walk.BadText k refusal) file = k ≡ file
StopsAtFile (walk.BadFields k fault) file = k ≡ file
StopsAtFile (walk.Gap k expected found) file = k ≡ file
StopsAtFile (walk.TooLong k) file = k ≡ file

-- Elsewhere the end is that of the walk, which stops at the file of the place. Its blocks are those of the data read,
-- for every size at which the block that was being filled has no more room than was asked for.
pub record IsEnd (s : FileStream) (at : Place) (before : List (List ℕ)) (current : List ℕ)
    (room : ℕ) (end : FeedEnd) : Type 0 where
  pub stops : StopsAtFile (walk_stop s) at.file
  pub is : end ≡ end_of (length (joined_data (walk_data s))) s.max_bytes (walk_stop s)
  pub blocks : (size fulls held : ℕ) → fulls * size + held ≡ length current →
      held + room ≡ size → 0 < room →
      walk_stream size s ≡ abandoned_stream size s.max_bytes before current

-- what an end that came while data were read says of the files
abbrev pub EndsReading : FileStream → Place → List (List ℕ) → List ℕ → ℕ → FeedEnd → Type 0
EndsReading s at before current room ReadFault = IsFront s at before current
EndsReading s at before current room (Whole bytes) = ⊥
EndsReading s at before current room end = IsEnd s at before current room end

-- how many files judge an end that came at a place: those that were opened, and at a stop of the walk the one there
abbrev pub judged_at : FeedEnd → Place → ℕ
judged_at ReadFault at = opened_at at
judged_at end at = at.file + 1

-- the same where these are told; the place is at a file of its transfer, and no file before that stops the walk
pub record HasEnded (plan : Plan) (told : Told) (at : Place) (before : List (List ℕ))
    (current : List ℕ) (room : ℕ) (end : FeedEnd) : Type 0 where
  pub passed : NoStopBefore plan told at.file
  pub ends : (files : List (List ℕ)) → AreToldTo (judged_at end at) told plan files →
      EndsReading (stream_of plan files) at before current room end
  pub inside : IsAtFile plan at
  pub begin : DataBegin plan told at before current

-- a file was opened at a place: the data read stay, or reading ended there
abbrev pub OpensTo : Plan → Place → Told → Told → Result (Unit {0}) FeedEnd → Type 0
OpensTo plan at told told' result = (before : List (List ℕ)) (current : List ℕ) →
    HasRead plan told at before current → MatchResult result
    (λ _. HasRead plan told' (record at { is_open = true }) before current)
    (λ end. (room : ℕ) → HasEnded plan told' at before current room end)

-- a piece of data was read at a place, or reading ended there
abbrev pub ReadsTo : Plan → Place → Told → Place → Told → List ℕ → Result ℕ FeedEnd → Type 0
ReadsTo plan at told at' told' buffer result = (before : List (List ℕ)) (current : List ℕ) →
    HasRead plan told at before current → MatchResult result
    (λ n. HasRead plan told' at' before (current ++ take n buffer))
    (λ end. HasEnded plan told' at before current (length buffer) end)

-- all data of a transfer were read: they are those of its files, and the next one begins
abbrev pub EndsTransfer : Plan → Place → Place → Type 0
EndsTransfer plan at at' = (told : Told) (before : List (List ℕ)) (current : List ℕ) →
    HasRead plan told at before current → HasRead plan told at' (before ++ current ∷ []) []

-- Where the walk of the files came to, and that what was read so far begins its stream.
-- Source: this project's profile.
use Rattle.std.specs.Prelude.{◌≡◌, ℕ, ◌+◌, ◌*◌, ◌<◌, ◌≤◌, ◌⊎◌, None, List, ◌++◌, length, take}
use mathlib.Core.List.{IsPrefix}
use Rattle.stream_model.specs.Blocks.{full_entries, whole_stream, joined_data}
use Rattle.stream_model.specs.Walk.{FileStream, begin_of, data_between, walk_data, header_stop, stop_at, walk_stream}
use Rattle.stream_model.specs.WalkLaws.{AreStarts}

-- The walk came to file k in transfer t: `current` are the first data of the transfer's files before number `to`, which
-- is k, or the file past it where its header goes on.
pub record CameTo (s : FileStream) (t k : ℕ) (before : List (List ℕ)) (current : List ℕ) :
    Type 0 where
  pub there : t < length s.starts
  pub starts : AreStarts s.starts (length s.files)
  pub earlier : before ≡ take t (walk_data s)
  pub passed : (j : ℕ) → j < k → stop_at s j ≡ None
  pub from : begin_of s t ≤ k
  pub to : ℕ
  pub upto : to ≤ begin_of s (t + 1)
  pub most : to ≤ length s.files
  pub next : (to ≡ k) ⊎ ((to ≡ k + 1) × (header_stop s k ≡ None))
  pub left : List ℕ
  pub data_is : data_between s.files (begin_of s t) to ≡ current ++ left
  pub few : length (joined_data before) + length current ≤ s.max_bytes

-- however the walk goes on, the blocks of what was read begin its stream
abbrev pub WalkGoesOn : Type 0
WalkGoesOn = (s : FileStream) (t k : ℕ) (before : List (List ℕ)) (current : List ℕ) →
    CameTo s t k before current →
    (size n : ℕ) → 0 < size → n * size ≤ length current →
    IsPrefix (whole_stream size before ++ full_entries size current n) (walk_stream size s)

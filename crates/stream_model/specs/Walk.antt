-- The walk of the files: the data that they give, transfer by transfer, or why it stops. It is stated over the bytes of
-- the files alone, and not over how they are read. A transfer is what one header describes; its later files have the
-- same header but for OBS_OFFSET, the number of bytes that came before a file's (PSRDADA manual: transfers, OBS_OFFSET;
-- that a later file continues the first one without a gap is this project's profile).
use Rattle.std.specs.Prelude.{ℕ, ◌+◌, ◌-◌, nat_le, nat_lt, ◌==◌, if◌then◌else◌, List, [], ◌∷◌, length, take, drop, slice_index_or, map, filter_map, Option, Some, None, Result, Ok, Err}
use Rattle.std.specs.List.{flat_map, prefix_len, range_with_len}
use Rattle.dada_model.specs.Fields.{Field, fields_of, HeaderText, HeaderRefusal, header_of}
use Rattle.dada_model.specs.Observation.{Observation, observation_in}
use Rattle.obs_plan.specs.Later.{profile_of, later_offset_of}
use Rattle.obs_plan.specs.declared.fault.ObsFault.{ObsFault}
use Rattle.obs_plan.specs.declared.profile.Profile.{Profile}
use Rattle.ring_blocks.specs.declared.Entry.{Entry}
use Rattle.stream_model.specs.Blocks.{whole_stream, abandoned_stream}

-- the bytes of the files in their order, the numbers of the files with which a transfer begins, and the most data bytes
-- that all files may have together. Files and transfers count from 0
pub record FileStream : Type 0 where
  pub files : List (List ℕ)
  pub starts : List ℕ
  pub max_bytes : ℕ

-- How a walk ends: whole, or at the file with this number (the first of each), and why. Its header is refused; or has
-- other values than the transfer's first, or no OBS_OFFSET in range; or its OBS_OFFSET is not the one that was expected
-- (second) but another (third); or with its data there are too many
pub data WalkStop : Type 0 where
  Whole : WalkStop
  BadText : ℕ → HeaderRefusal → WalkStop
  BadFields : ℕ → ObsFault → WalkStop
  Gap : ℕ → ℕ → ℕ → WalkStop
  TooLong : ℕ → WalkStop

-- ---- data

abbrev pub data_past : List ℕ → Result HeaderText HeaderRefusal → List ℕ
data_past file (Ok header) = drop header.size file
data_past file (Err refusal) = []

-- the data of a file: its bytes past its header
unfoldable pub data_of : List ℕ → List ℕ
data_of file = data_past file (header_of file)

-- the data of the files from number `from` to before number `to`, joined
unfoldable pub data_between : List (List ℕ) → ℕ → ℕ → List ℕ
data_between files from to = flat_map data_of (drop from (take to files))

-- the bytes of file k
abbrev pub file_at : FileStream → ℕ → List ℕ
file_at s k = slice_index_or s.files k []

-- ---- transfers

-- the file with which a transfer begins; the one past the last begins past all files
abbrev pub begin_of : FileStream → ℕ → ℕ
begin_of s transfer = slice_index_or s.starts transfer (length s.files)

-- the transfer of file k: the last one that begins at k or before
unfoldable pub transfer_of : List ℕ → ℕ → ℕ
transfer_of starts k = prefix_len (λ start. nat_le start k) starts - 1

-- the data of a transfer, and of each transfer in order
abbrev pub transfer_data : FileStream → ℕ → List ℕ
transfer_data s transfer = data_between s.files (begin_of s transfer) (begin_of s (transfer + 1))

unfoldable pub walk_data : FileStream → List (List ℕ)
walk_data s = map (transfer_data s) (range_with_len 0 (length s.starts))

-- ---- what stops a walk

abbrev pub fields_past : Result HeaderText HeaderRefusal → List Field
fields_past (Ok header) = fields_of header.text
fields_past (Err refusal) = []

-- the observation of a file's header, where that is accepted
unfoldable pub observation_at : List ℕ → Observation
observation_at file = observation_in (fields_past (header_of file))

abbrev pub offset_stop : ℕ → ℕ → Result ℕ ObsFault → Option WalkStop
offset_stop k expected (Err fault) = Some (BadFields k fault)
offset_stop k expected (Ok found) = if found == expected then None else Some (Gap k expected found)

-- what is wrong with a header of an observation with this profile, where its OBS_OFFSET is expected to be this one
abbrev pub later_stop : ℕ → Profile → ℕ → Result HeaderText HeaderRefusal → Option WalkStop
later_stop k profile expected (Err refusal) = Some (BadText k refusal)
later_stop k profile expected (Ok header) =
    offset_stop k expected (later_offset_of profile (fields_of header.text))

-- why the header of file k stops the walk: it is judged as that of a later file of its transfer, after the data of the
-- transfer's files before it. That an accepted first file of a transfer never stops it is the law `FirstFilesContinue`
unfoldable pub header_stop : FileStream → ℕ → Option WalkStop
header_stop s k =
    let begin = begin_of s (transfer_of s.starts k) in
    let first = observation_at (file_at s begin) in
    later_stop k (profile_of first) (first.obs_offset + length (data_between s.files begin k))
    (header_of (file_at s k))

-- why the data of file k do: with those of all files before it they are more than the limit
unfoldable pub length_stop : FileStream → ℕ → Option WalkStop
length_stop s k =
    if nat_lt s.max_bytes (length (data_between s.files 0 (k + 1))) then Some (TooLong k) else None

abbrev pub first_of_two : Option WalkStop → Option WalkStop → Option WalkStop
first_of_two (Some stop) other = Some stop
first_of_two None other = other

-- a file's header comes before its data
unfoldable pub stop_at : FileStream → ℕ → Option WalkStop
stop_at s k = first_of_two (header_stop s k) (length_stop s k)

abbrev pub first_or_whole : List WalkStop → WalkStop
first_or_whole [] = Whole
first_or_whole (first ∷ more) = first

-- the walk's stop is the first one in the order of the files
unfoldable pub walk_stop : FileStream → WalkStop
walk_stop s = first_or_whole (filter_map (stop_at s) (range_with_len 0 (length s.files)))

-- ---- the blocks of a walk

-- an abandoned stream of the data of the files before number `to`, where the walk stops in the transfer of file k
abbrev pub stream_before : ℕ → FileStream → ℕ → ℕ → List Entry
stream_before size s k to =
    let transfer = transfer_of s.starts k in
    abandoned_stream size s.max_bytes (take transfer (walk_data s))
    (data_between s.files (begin_of s transfer) to)

-- the block stream of a walk with this stop: whole, or abandoned after what was read before the stop
abbrev pub stream_to : ℕ → FileStream → WalkStop → List Entry
stream_to size s Whole = whole_stream size (walk_data s)
stream_to size s (BadText k refusal) = stream_before size s k k
stream_to size s (BadFields k fault) = stream_before size s k k
stream_to size s (Gap k expected found) = stream_before size s k k
stream_to size s (TooLong k) = stream_before size s k (k + 1)

-- the block stream of the files
unfoldable pub walk_stream : ℕ → FileStream → List Entry
walk_stream size s = stream_to size s (walk_stop s)

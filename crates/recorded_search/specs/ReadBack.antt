-- What was recorded is read again: the files of a recording as files that are searched.
-- Source: PSRDADA manual (OBS_OFFSET: recorded files go on where those before them ended); the laws are this project's
-- choice.
use Rattle.std.specs.Prelude.{◌≡◌, ◌+◌, ◌^◌, ◌<◌, ◌≤◌, ℕ, true, false, List, length, map}
use Rattle.search_model.specs.declared.search.Search.{Search}
use Rattle.search_words.specs.Settings.{SettingsSeen, RunSeen, RunInRange}
use Rattle.stream_model.specs.Walk as walk
use Rattle.stream_model.specs.Walk.{FileStream, transfer_data, walk_stop, walk_data}
use Rattle.stream_model.specs.RecordedLaws.{stream_of_recorded}
use Rattle.transfer_text.specs.Searched.{searched_text, candidate_total}
use Rattle.run_outcome.specs.Runs.{Searching, stream_for, first_observation, observed_transfers, CanBegin, CanSearchFirst}
use Rattle.run_outcome.specs.Outcomes.{recorded_transfers, files_of_data}
use Rattle.psr_record.specs.Outcome.{IsRecordable}

-- the files of a recording of all data, in the order in which they were created, as the files of a stream
abbrev pub recorded_stream : RunSeen → FileStream → FileStream
recorded_stream s w = stream_of_recorded w.max_bytes
    (recorded_transfers w s.file_size (length w.starts) (transfer_data w))

-- no data byte of a transfer lies past the last offset that a header can have
abbrev pub HasOffsets : FileStream → Type 0
HasOffsets w = (k : ℕ) → k < length w.starts →
    (first_observation w k).obs_offset + length (transfer_data w k) ≤ 10 ^ 15

-- fed in order, the files of a recording of all data are a whole stream with the same data
abbrev pub RecordedIsReadBack : Type 0
RecordedIsReadBack = (s : RunSeen) (w : FileStream) → RunInRange s → s.recording ≡ true →
    IsRecordable s w → HasOffsets w →
    ((recorded_stream s w).files ≡ map (λ file. file.bytes) (files_of_data w s.file_size))
    × (walk_stop (recorded_stream s w) ≡ walk.Whole)
    × (walk_data (recorded_stream s w) ≡ walk_data w)

-- and their transfers, as they are searched, are those of the data that were recorded
abbrev pub RecordedIsObservedAlike : Type 0
RecordedIsObservedAlike = (s : RunSeen) (w : FileStream) → RunInRange s → s.recording ≡ true →
    IsRecordable s w → HasOffsets w →
    observed_transfers (recorded_stream s w) ≡ observed_transfers w

-- settings name the files of a recording in the order in which they were created, and part them into the transfers that
-- were recorded; these are the bytes of the files
pub record NamesRecorded (s : RunSeen) (w : FileStream) (again : SettingsSeen)
    (files : List (List ℕ)) : Type 0 where
  pub bytes : files ≡ (recorded_stream s w).files
  pub transfers : again.starts ≡ (recorded_stream s w).starts

-- so every search of the recorded files has the text and the candidates of that search of all data
abbrev pub RecordedIsSearchedAlike : Type 0
RecordedIsSearchedAlike = (s : RunSeen) (w : FileStream) → RunInRange s → s.recording ≡ true →
    IsRecordable s w → HasOffsets w → (again : SettingsSeen) (files : List (List ℕ)) →
    NamesRecorded s w again files → (search : Search) →
    let observed = observed_transfers (stream_for again files) in
    (searched_text search observed ≡ searched_text search (observed_transfers w))
    × (candidate_total search observed ≡ candidate_total search (observed_transfers w))

-- and nothing stands against a search of the recorded files, which records none itself, where nothing stands against
-- that search of all data
abbrev pub RecordedCanBeSearched : Type 0
RecordedCanBeSearched = (s : RunSeen) (w : FileStream) → RunInRange s → s.recording ≡ true →
    IsRecordable s w → HasOffsets w → (again : SettingsSeen) (files : List (List ℕ)) →
    NamesRecorded s w again files → w.max_bytes ≤ again.max_bytes → again.recording ≡ false →
    CanSearchFirst again.search w (length w.starts) →
    CanBegin Searching again (stream_for again files)
    × (walk_stop (stream_for again files) ≡ walk.Whole)

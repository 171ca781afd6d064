-- The sample of two observations, computed.
use Rattle.std.proofs.Common.{◌≡◌, ◌⊎◌, ◌<◌, ◌≤◌, ◌+◌, ℕ, List, [], ◌∷◌, Ok, Some, true, false, refl, ap, subst, ◌∙◌, inl, inr, sym, arith, zero, suc, slice_index_or}
use Rattle.std.specs.Prelude.{Bool, codes}
use Rattle.std.specs.Fmt.{digits}
use Rattle.psr_base.specs.Told.{Told}
use Rattle.psr_base.specs.Written.{WroteAll}
use Rattle.dada_model.specs.Number.{number_value}
use Rattle.dada_model.specs.Fields.{is_white, without_comment, words_of, fields_of, value_of, header_size, header_of, header_bytes}
use Rattle.dada_model.specs.Change.{word_start, word_end, value_start, value_end, has_key, with_value, blanked_line, overwritten, blanked, line_end, is_overwritten, changed}
use Rattle.dada_model.specs.Observation.{number_of, observation_in, signed_edge, edge, edges, refusal_at, refusals, observation_of, dispersion_span, dm}
use Rattle.dada_model.specs.Worked.{two_channels}
use Rattle.search_model.specs.declared.search.Search.{Search}
use Rattle.search_model.specs.Paths.{entry, path}
use Rattle.clap.proofs.OnLiterals.{clap_on_literals}
use Rattle.search_words.specs.Settings.{SettingsSeen, SaySearch}
use Rattle.search_words.specs.Defaults.{default_settings, sample_search}
use Rattle.obs_plan.specs.Later.{later_offset_of}
use Rattle.stream_model.specs.Walk.{FileStream, Whole, data_of, data_between, transfer_of, observation_at, header_stop, length_stop, stop_at, walk_stop, file_at, begin_of}
use Rattle.stream_model.specs.WalkLaws.{AreStarts, IsAccepted, AreWalked}
use Rattle.stream_model.specs.Recorded.{is_time, file_header, file_name, file_data, file_count, recorded_file, recorded_files, record_refusal}
use Rattle.stream_model.specs.RecordedLaws.{recorded_of_transfers}
use Rattle.transfer_text.specs.Text.{transfer_line}
use Rattle.transfer_text.specs.Searched.{ObservedTransfer, searched_text, candidate_total}
use Rattle.disk_feeder.specs.Plan.{AreTold}
use Rattle.run_outcome.specs.Runs.{CanSearchFirst, CanRecordFirst, HasCandidates, stream_for, observed_transfers}
use Rattle.run_outcome.specs.Outcomes.{MadeAll, files_of_data}
use Rattle.psr_search.specs.Outcome.{IsSearched, AcceptedIsSearched}
use Rattle.psr_search.specs.Causes.{CausesAreAnswered}
use Rattle.psr_search.specs.RecordedSample.{recording_words, limited_words, first_header, next_header, first_file, next_file, text_of_two, made_files, IsFoundAndMade, BothAreRecorded, BothAreTooMany}

-- ---- the words

search : ℕ → Search
search most = record sample_search { max_candidates = most }

-- the settings with a limit of candidates, and whether the files are recorded
settings : ℕ → Bool → ℕ → ℕ → SettingsSeen
settings most recording file_size max_bytes =
    record (default_settings (search most) (codes "first.dada" ∷ codes "next.dada" ∷ [])) {
      recording = recording;
      file_size = file_size;
      max_bytes = max_bytes;
      starts = 0 ∷ 1 ∷ [];
    }

abbrev recording_settings : SettingsSeen
recording_settings = settings 65536 true 4 1000

abbrev limited_settings : SettingsSeen
limited_settings = settings 0 false 1073741824 1099511627776

say_recording : SaySearch recording_words recording_settings
unfolding settings search sample_search number_value clap_on_literals
say_recording = record { taken = refl; in_range = refl; values = refl }

say_limit : SaySearch limited_words limited_settings
unfolding settings search sample_search number_value clap_on_literals
say_limit = record { taken = refl; in_range = refl; values = refl }

-- ---- the files

files : List (List ℕ)
files = first_file ∷ next_file ∷ []

-- a front of both, with a limit of their bytes
stream : ℕ → FileStream
stream max_bytes = record { files = files; starts = 0 ∷ 1 ∷ []; max_bytes = max_bytes }

first_is : header_of first_file ≡ Ok (record { size = 4096; text = first_header })
unfolding header_of header_size fields_of value_of words_of without_comment is_white number_value
first_is = refl

next_is : header_of next_file ≡ Ok (record { size = 4096; text = next_header })
unfolding header_of header_size fields_of value_of words_of without_comment is_white number_value
next_is = refl

first_observed : observation_of (fields_of first_header) ≡ Ok two_channels
unfolding fields_of value_of words_of without_comment is_white number_value number_of observation_in signed_edge edge
    refusal_at refusals observation_of
first_observed = refl

next_observed : observation_of (fields_of next_header) ≡ Ok two_channels
unfolding fields_of value_of words_of without_comment is_white number_value number_of observation_in signed_edge edge
    refusal_at refusals observation_of
next_observed = refl

transfers : List ObservedTransfer
transfers = record { observation = two_channels; bytes = 10 ∷ 0 ∷ 0 ∷ 20 ∷ 0 ∷ 0 ∷ [] }
    ∷ record { observation = two_channels; bytes = 0 ∷ 0 ∷ [] } ∷ []

transfers_are : (max_bytes : ℕ) → observed_transfers (stream max_bytes) ≡ transfers
unfolding stream files transfers observation_at data_between data_of header_of header_size fields_of value_of words_of
    without_comment is_white number_value number_of observation_in
transfers_are max_bytes = refl

text_is : searched_text (search 65536) transfers ≡ text_of_two
unfolding transfer_line transfers search sample_search edges edge signed_edge path entry dm dispersion_span digits
text_is = refl

one_candidate : (most : ℕ) → candidate_total (search most) transfers ≡ 1
unfolding transfers search sample_search edges edge signed_edge path entry dm dispersion_span
one_candidate most = refl

files_are : files_of_data (stream 1000) 4 ≡ made_files
unfolding stream files observation_at data_between data_of header_of header_size header_bytes fields_of value_of
    words_of without_comment is_white number_value number_of observation_in digits changed is_overwritten overwritten
    blanked line_end has_key with_value blanked_line word_start word_end value_start value_end file_header file_name
    file_data file_count recorded_file recorded_files recorded_of_transfers
files_are = refl

-- ---- nothing stands against it

whole : walk_stop (stream 1000) ≡ Whole
unfolding stream files walk_stop stop_at header_stop length_stop observation_at observation_in data_of data_between
    transfer_of header_of header_size fields_of words_of without_comment is_white value_of number_value number_of
    later_offset_of
whole = refl

limited_whole : walk_stop (stream 1099511627776) ≡ Whole
unfolding stream files walk_stop stop_at header_stop length_stop observation_at observation_in data_of data_between
    transfer_of header_of header_size fields_of words_of without_comment is_white value_of number_value number_of
    later_offset_of
limited_whole = refl

starts : AreStarts (0 ∷ 1 ∷ []) 2
starts = record { some = omega arith; first = refl; rise = rise; within = within }
  where
    rise : (i : ℕ) → i + 1 < 2 → slice_index_or (0 ∷ 1 ∷ []) i 2 < slice_index_or (0 ∷ 1 ∷ []) (i + 1) 2
    rise zero below = omega arith
    rise (suc i) below = absurd (omega (arith, below))

    within : (i : ℕ) → i < 2 → slice_index_or (0 ∷ 1 ∷ []) i 2 < 2
    within zero below = omega arith
    within (suc zero) below = omega arith
    within (suc (suc i)) below = absurd (omega (arith, below))

walked : (max_bytes : ℕ) → AreWalked (stream max_bytes)
unfolding stream files
walked max_bytes = record { starts = starts; accepted = accepted }
  where
    accepted : (k : ℕ) → k < 2 → IsAccepted (file_at (stream max_bytes) (begin_of (stream max_bytes) k))
    accepted zero below = record {
      header = record { size = 4096; text = first_header };
      observation = two_channels;
      is_header = first_is;
      is_observation = first_observed;
    }
    accepted (suc zero) below = record {
      header = record { size = 4096; text = next_header };
      observation = two_channels;
      is_header = next_is;
      is_observation = next_observed;
    }
    accepted (suc (suc k)) below = absurd (omega (arith, below))

searched_first : (most max_bytes : ℕ) → CanSearchFirst (search most) (stream max_bytes) 2
unfolding stream files search sample_search observation_at header_of header_size fields_of value_of words_of
    without_comment is_white number_value number_of observation_in
searched_first most max_bytes zero below = refl
searched_first most max_bytes (suc zero) below = refl
searched_first most max_bytes (suc (suc k)) below = absurd (omega (arith, below))

recorded_first : CanRecordFirst 4 (stream 1000) 2
unfolding stream files observation_at header_of header_size fields_of value_of words_of without_comment is_white
    number_value number_of observation_in record_refusal is_time digits changed is_overwritten overwritten blanked
    line_end has_key with_value blanked_line word_start word_end value_start value_end
recorded_first zero below = refl
recorded_first (suc zero) below = refl
recorded_first (suc (suc k)) below = absurd (omega (arith, below))

-- ---- what is told

are_told : (told : Told) (most : ℕ) (recording : Bool) (file_size max_bytes : ℕ) →
    told.bytes_under (codes "first.dada") ≡ Some first_file →
    told.bytes_under (codes "next.dada") ≡ Some next_file →
    AreTold told (settings most recording file_size max_bytes).names files
unfolding settings files
are_told told most recording file_size max_bytes first next = record { count = refl; each = each }
  where
    each : (k : ℕ) → k < 2 →
        told.bytes_under (slice_index_or (codes "first.dada" ∷ codes "next.dada" ∷ []) k [])
        ≡ Some (slice_index_or (first_file ∷ next_file ∷ []) k [])
    each zero below = first
    each (suc k) below = let last : k ≡ 0 = omega arith in rw last next

-- ---- the outcome

searched : IsSearched recording_settings (stream_for recording_settings files)
unfolding settings search sample_search stream files
searched = record {
  begins = record {
    accepted = walked 1000;
    searched = searched_first 65536 1000;
    recorded = λ _. recorded_first;
  };
  whole = whole;
  total = subst (λ (n : ℕ). n ≤ 65536)
      (sym (ap (candidate_total (search 65536)) (transfers_are 1000) ∙ one_candidate 65536)) (omega arith);
}

text_of_files : searched_text recording_settings.search (observed_transfers (stream_for recording_settings files))
    ≡ text_of_two
unfolding settings stream
text_of_files = ap (searched_text (search 65536)) (transfers_are 1000) ∙ text_is

made_of_files : files_of_data (stream_for recording_settings files) recording_settings.file_size ≡ made_files
unfolding settings stream
made_of_files = files_are

no_two : false ≡ true → ⊥
no_two e = cc

crowded : HasCandidates limited_settings (stream_for limited_settings files)
    (λ total. limited_settings.search.max_candidates < total)
unfolding settings search sample_search stream files
crowded = record {
  begins = record {
    accepted = walked 1099511627776;
    searched = searched_first 0 1099511627776;
    recorded = λ records. absurd (no_two records);
  };
  whole = limited_whole;
  total = subst (λ (n : ℕ). 0 < n)
      (sym (ap (candidate_total (search 0)) (transfers_are 1099511627776) ∙ one_candidate 0)) (omega arith);
}

it_records : recording_settings.recording ≡ true
unfolding settings
it_records = refl

pub both_are_recorded : (is_calm : Type 0) → AcceptedIsSearched is_calm → BothAreRecorded is_calm
both_are_recorded is_calm law inputs files_before files_after out_before out_after notes_before notes_after ran first
    next outcome calm out_quiet files_quiet =
    by_status
    (law recording_words _ outcome recording_settings files say_recording told searched calm out_quiet files_quiet)
  where
    told : AreTold inputs.told recording_settings.names files
    told = are_told inputs.told 65536 true 4 1000 first next

    text_at : ran.status ≡ 0 → WroteAll text_of_two out_before out_after
    text_at e = rw text_of_files at (outcome.written.text e recording_settings files say_recording told).1

    files_at : ran.status ≡ 0 → MadeAll made_files files_before files_after
    files_at e = rw made_of_files at (outcome.recorded.all e recording_settings files say_recording told it_records).1

    by_status : (ran.status ≡ 0) ⊎ (ran.status ≡ 5) →
        ((ran.status ≡ 0) × IsFoundAndMade files_before files_after out_before out_after) ⊎ (ran.status ≡ 5)
    by_status (inl e) = inl (e, record { text = (text_at e).written; files = files_at e })
    by_status (inr e) = inr e

pub both_are_too_many : (is_calm : Type 0) → CausesAreAnswered is_calm → BothAreTooMany is_calm
both_are_too_many is_calm law inputs files_before files_after out_before out_after notes_before notes_after ran first
    next outcome calm out_quiet files_quiet =
    (law limited_words _ outcome limited_settings files say_limit
    (are_told inputs.told 0 false 1073741824 1099511627776 first next) calm).too_many crowded

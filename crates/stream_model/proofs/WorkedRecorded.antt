-- Worked values of recorded files, computed.
use Rattle.std.proofs.Common.{◌≡◌, ℕ, List, [], ◌∷◌, ◌++◌, None, Some, refl, arith}
use Rattle.std.specs.Prelude.{codes}
use Rattle.std.specs.Fmt.{digits}
use Rattle.dada_model.specs.Number.{number_value}
use Rattle.dada_model.specs.Observation.{signed_edge, number_of, observation_in, refusal_at, refusals, observation_of}
use Rattle.dada_model.specs.Fields.{header_size, header_of, header_bytes, is_white, without_comment, words_of, fields_of, value_of}
use Rattle.dada_model.specs.Change.{word_start, word_end, value_start, value_end, has_key, with_value, blanked_line, overwritten, blanked, line_end, is_overwritten, changed}
use Rattle.stream_model.specs.RecordedLaws.{RecordedTransfer, CanBeRecorded}
use Rattle.stream_model.specs.Recorded.{is_time, Recording, file_header, file_name, file_data, file_count, record_refusal, NoTime, BadTime, NoRoom, TooManyFiles}

abbrev lines : List (List ℕ) → List ℕ
lines [] = []
lines (line ∷ more) = line ++ (10 ∷ lines more)

sample : Recording
sample = record {
  header = record {
    size = 4096;
    text = lines (codes "NBIT 8" ∷ codes "UTC_START 2024-01-02-03:04:05" ∷ codes "OBS_OFFSET 0" ∷ []);
  };
  offset = 0;
  file_size = 4;
}

first_name : file_name sample 0 ≡ codes "2024-01-02-03:04:05_0000000000000000.000000.dada"
unfolding sample file_name digits fields_of words_of without_comment is_white value_of
first_name = refl

second_name : file_name sample 1 ≡ codes "2024-01-02-03:04:05_0000000000000004.000001.dada"
unfolding sample file_name digits fields_of words_of without_comment is_white value_of
second_name = refl

-- OBS_OFFSET is too short for its new value, so that its line becomes blank
second_header : (file_header sample 1).text
    ≡ lines (codes "NBIT 8" ∷ codes "UTC_START 2024-01-02-03:04:05" ∷ codes "            "
    ∷ codes "OBS_OFFSET 0000000000000004" ∷ codes "FILE_NUMBER 000001" ∷ codes "FILE_SIZE 0000000000000004" ∷ [])
unfolding sample file_header digits changed is_overwritten overwritten blanked line_end has_key with_value
    blanked_line fields_of words_of without_comment is_white word_start word_end value_start value_end value_of
second_header = refl

-- six bytes in files of four
six_bytes : List ℕ
six_bytes = 10 ∷ 0 ∷ 0 ∷ 20 ∷ 0 ∷ 0 ∷ []

first_four : file_data 4 six_bytes 0 ≡ 10 ∷ 0 ∷ 0 ∷ 20 ∷ []
unfolding six_bytes file_data
first_four = refl

last_two : file_data 4 six_bytes 1 ≡ 0 ∷ 0 ∷ []
unfolding six_bytes file_data
last_two = refl

two_files : file_count 4 six_bytes ≡ 2
unfolding six_bytes file_count
two_files = refl

no_empty_file : file_count 3 six_bytes ≡ 2
unfolding six_bytes file_count
no_empty_file = refl

one_file_without_data : file_count 4 [] ≡ 1
unfolding file_count
one_file_without_data = refl

-- ---- refusals

sample_fits : record_refusal sample 4000000 ≡ None
unfolding sample record_refusal is_time digits changed is_overwritten overwritten blanked line_end has_key
    with_value blanked_line fields_of words_of without_comment is_white word_start word_end value_start value_end
    value_of
sample_fits = refl

too_many : record_refusal sample 4000001 ≡ Some TooManyFiles
unfolding sample record_refusal is_time digits changed is_overwritten overwritten blanked line_end has_key
    with_value blanked_line fields_of words_of without_comment is_white word_start word_end value_start value_end
    value_of
too_many = refl

-- a header of 120 bytes, with the text of a time and of a comment
abbrev small : List ℕ → List ℕ → Recording
small time comment = record {
  header = record { size = 120; text = lines ((codes "UTC_START " ++ time) ∷ comment ∷ []) };
  offset = 0;
  file_size = 4;
}

-- the three lines have 74 bytes
just_fits : record_refusal (small (codes "2024-01-02-03:04:05") (codes "#aaaaaaaaaaaaa")) 4 ≡ None
unfolding record_refusal is_time digits changed is_overwritten overwritten blanked line_end has_key with_value
    blanked_line fields_of words_of without_comment is_white word_start word_end value_start value_end value_of
just_fits = refl

one_too_long : record_refusal (small (codes "2024-01-02-03:04:05") (codes "#aaaaaaaaaaaaaa")) 4 ≡ Some (NoRoom 120 120)
unfolding record_refusal is_time digits changed is_overwritten overwritten blanked line_end has_key with_value
    blanked_line fields_of words_of without_comment is_white word_start word_end value_start value_end value_of
one_too_long = refl

no_seconds : record_refusal (small (codes "2024-01-02-03:04") (codes "#")) 4 ≡ Some BadTime
unfolding record_refusal is_time digits changed is_overwritten overwritten blanked line_end has_key with_value
    blanked_line fields_of words_of without_comment is_white word_start word_end value_start value_end value_of
no_seconds = refl

no_time : record_refusal (small (codes "#") (codes "#")) 4 ≡ Some NoTime
unfolding record_refusal is_time digits changed is_overwritten overwritten blanked line_end has_key with_value
    blanked_line fields_of words_of without_comment is_white word_start word_end value_start value_end value_of
no_time = refl

-- ---- what the laws ask of a transfer

-- six bytes of two channels, in files of four
observed_transfer : RecordedTransfer
observed_transfer = record {
  recording = record {
    header = record {
      size = 4096;
      text = codes "NCHAN 2\nNBIT 8\nTSAMP 64\nFREQ 1400\nBW -200\nUTC_START 2024-01-02-03:04:05\n";
    };
    offset = 0;
    file_size = 4;
  };
  bytes = 10 ∷ 0 ∷ 0 ∷ 20 ∷ 0 ∷ 0 ∷ [];
}

can_be_recorded : CanBeRecorded observed_transfer
unfolding observed_transfer header_of header_size header_bytes record_refusal is_time digits changed
    is_overwritten overwritten blanked line_end has_key with_value blanked_line fields_of words_of without_comment
    is_white word_start word_end value_start value_end value_of observation_of refusals refusal_at number_of
    number_value observation_in signed_edge
can_be_recorded = record {
  is_header = refl;
  observation = observation_in (fields_of observed_transfer.recording.header.text);
  is_observation = refl;
  some = omega arith;
  size = omega arith;
  limit = 6;
  none_refused = refl;
  few = omega arith;
  offsets = omega arith;
}

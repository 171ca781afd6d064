-- Worked values of the walk of the files, computed.
use Rattle.std.specs.Prelude.{◌≡◌, ℕ, ◌-◌, List, [], ◌∷◌, ◌++◌, length, replicate, map, codes, refl}
use Rattle.dada_model.specs.declared.key.Key.TheVariants.{Nchan}
use Rattle.dada_model.specs.Number.{number_value}
use Rattle.dada_model.specs.Fields.{ShortHeader, is_white, without_comment, words_of, fields_of, value_of, header_size, header_of}
use Rattle.dada_model.specs.Observation.{number_of, observation_in}
use Rattle.obs_plan.specs.Later.{later_offset_of}
use Rattle.obs_plan.specs.declared.fault.ObsFault.TheVariants.{Differs}
use Rattle.ring_blocks.specs.declared.Entry.{Entry}
use Rattle.ring_blocks.specs.declared.Mark.{Mark}
use Rattle.ring_blocks.specs.declared.Mark.TheVariants.{More, End, Cut}
use Rattle.stream_model.specs.Blocks.{full_entries, transfer_entries, whole_stream, abandoned_stream, joined_data}
use Rattle.stream_model.specs.Walk.{FileStream, WalkStop, Whole, BadText, BadFields, Gap, TooLong, data_of, data_between, transfer_of, walk_data, observation_at, header_stop, length_stop, stop_at, walk_stop, walk_stream}

-- a file with these lines in a header of 4096 bytes, and these data
abbrev file : List ℕ → List ℕ → List ℕ
file text contents = text ++ replicate (4096 - length text) 0 ++ contents

abbrev two_channels : List ℕ
two_channels = codes "NCHAN 2\nNBIT 8\nTSAMP 64\nFREQ 1400\nBW -200\n"

abbrev first_file : List ℕ
first_file = file two_channels (10 ∷ 0 ∷ 0 ∷ 20 ∷ [])

-- the first file, and then another one
abbrev after_first : List ℕ → ℕ → FileStream
after_first later max_bytes = record { files = first_file ∷ later ∷ []; starts = 0 ∷ []; max_bytes = max_bytes }

abbrev at_four : List ℕ
at_four = file (two_channels ++ codes "OBS_OFFSET 4\n") (0 ∷ 7 ∷ [])

abbrev stops : List WalkStop
stops = map walk_stop
    (after_first at_four 6 ∷ after_first at_four 5 ∷ after_first at_four 3 ∷ after_first
    (file (two_channels ++ codes "OBS_OFFSET 12\n") (0 ∷ 0 ∷ [])) 6
    ∷ after_first (replicate 100 0) 6
    ∷ after_first (file (codes "NCHAN 4\nNBIT 8\nTSAMP 64\nFREQ 1400\nBW -200\n") []) 6 ∷ [])

stops_are : stops ≡ Whole ∷ TooLong 1 ∷ TooLong 0 ∷ Gap 1 4 12 ∷ BadText 1 (ShortHeader 100) ∷ BadFields 1
    (Differs Nchan)
    ∷ []
unfolding walk_stop stop_at header_stop length_stop observation_at observation_in data_of data_between transfer_of
    header_of header_size fields_of
    words_of without_comment is_white value_of number_value number_of later_offset_of
stops_are = refl

-- two transfers: the second begins with file 1, at its own offset
abbrev two_transfers : FileStream
two_transfers = record { files = first_file ∷ at_four ∷ []; starts = 0 ∷ 1 ∷ []; max_bytes = 6 }

data_are : walk_data two_transfers ≡ (10 ∷ 0 ∷ 0 ∷ 20 ∷ []) ∷ (0 ∷ 7 ∷ []) ∷ []
unfolding walk_data data_of data_between header_of header_size fields_of words_of without_comment is_white value_of
    number_value
data_are = refl

abbrev block : Mark → List ℕ → Entry
block mark bytes = record { mark = mark; bytes = bytes }

blocks_are : map (walk_stream 3) (two_transfers ∷ after_first at_four 6 ∷ after_first at_four 5 ∷ [])
    ≡ (block More (10 ∷ 0 ∷ 0 ∷ []) ∷ block End (20 ∷ []) ∷ block End (0 ∷ 7 ∷ []) ∷ [])
    ∷ (block More (10 ∷ 0 ∷ 0 ∷ []) ∷ block More (20 ∷ 0 ∷ 7 ∷ []) ∷ block End [] ∷ [])
    ∷ (block More (10 ∷ 0 ∷ 0 ∷ []) ∷ block Cut [] ∷ [])
    ∷ []
unfolding walk_stream walk_data walk_stop stop_at header_stop length_stop observation_at observation_in data_of
    data_between transfer_of header_of header_size
    fields_of words_of without_comment is_white value_of number_value number_of later_offset_of full_entries
    transfer_entries whole_stream abandoned_stream joined_data
blocks_are = refl

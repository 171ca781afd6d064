-- Worked values of the definitions: two channels, FREQ 1400, BW -200, TSAMP 64, and the data bytes 10 0 0 20 0 0.
use Rattle.std.proofs.Common.{◌≡◌, ℕ, ◌+◌, ◌*◌, List, [], ◌∷◌, ◌++◌, refl, true, false, map, slice_index, codes, Some, None, nat_lt}
use Rattle.std.specs.Fmt.{digits}
use Rattle.dada_model.specs.Observation.{Observation, edges, dm, dispersion_span, edge, signed_edge}
use Rattle.dada_model.specs.Worked.{two_channels}
use Rattle.search_model.specs.declared.candidate.Candidate.TheVariants.{Pulse}
use Rattle.search_model.specs.declared.search.Search.{Search}
use Rattle.search_model.specs.Samples.{Filterbank, samples_of, filterbank}
use Rattle.search_model.specs.Paths.{split_at, entry, path}
use Rattle.search_model.specs.Sums.{path_cells, path_sum, box_sum}
use Rattle.search_model.specs.Subbands.{node_sum}
use Rattle.search_model.specs.Folds.{shift, fold_sum}
use Rattle.search_model.specs.Detection.{is_detected}
use Rattle.search_model.specs.Candidates.{plain_cells, candidates}
use Rattle.search_model.specs.Search.{shard_start}
use Rattle.search_model.specs.Plan.{SumBound, FoldTooLarge, TooManyFolds, TooManyShards, plan_refusal}
use Rattle.search_model.specs.Observed.{filterbank_of, candidates_of, labels_of, search_text}
use Rattle.search_model.specs.DelayRanges.{range_lists}
use Rattle.search_model.specs.Masks.{kept_cells, masked_text}
use Rattle.search_model.specs.Parts.{within_part, part_text, first_needed, without_first, later}

-- ---- paths

three_edges : List ℕ
three_edges = 1500000 ∷ 1400000 ∷ 1300000 ∷ []

-- the delays 0 to 4 are shared as 0, 0, 1, 1, 2
splits : map (λ d. split_at three_edges 0 2 d) (0 ∷ 1 ∷ 2 ∷ 3 ∷ 4 ∷ []) ≡ 0 ∷ 0 ∷ 1 ∷ 1 ∷ 2 ∷ []
unfolding three_edges
splits = refl

paths : map (λ d. path three_edges 2 d) (0 ∷ 1 ∷ 2 ∷ 3 ∷ 4 ∷ [])
    ≡ (0 ∷ 0 ∷ 0 ∷ []) ∷ (0 ∷ 0 ∷ 1 ∷ []) ∷ (0 ∷ 1 ∷ 2 ∷ []) ∷ (0 ∷ 1 ∷ 3 ∷ []) ∷ (0 ∷ 2 ∷ 4 ∷ []) ∷ []
unfolding three_edges path entry
paths = refl

-- the cells of the path of delay 4 that ends at spectrum 4: spectra 0 to 2 of channel 0, and 2 to 4 of channel 1, where
-- spectrum t of channel c holds 10 c + t
cells_of_4 : path_cells (record { channels = 2; spectra = 5; value = λ c t. 10 * c + t }) (path three_edges 2 4) 4 4 0
    ≡ 0 ∷ 1 ∷ 2 ∷ 12 ∷ 13 ∷ 14 ∷ []
unfolding three_edges path entry
cells_of_4 = refl

-- ---- sums

-- channel 0 is 10 0 0, and channel 1 is 0 20 0
abbrev sample : Filterbank
sample = filterbank 2 true (10 ∷ 0 ∷ 0 ∷ 20 ∷ 0 ∷ 0 ∷ [])

-- by delay, the path sums that end at spectra 0, 1 and 2
sums : map (λ d. map (λ u. path_sum sample three_edges u d) (0 ∷ 1 ∷ 2 ∷ [])) (0 ∷ 1 ∷ 2 ∷ [])
    ≡ (10 ∷ 20 ∷ 0 ∷ []) ∷ (0 ∷ 30 ∷ 20 ∷ []) ∷ (0 ∷ 30 ∷ 30 ∷ []) ∷ []
unfolding three_edges path entry
sums = refl

-- the same of the lower channel alone: by delay, the sums that end at spectra 0, 1 and 2
lower_sums : map (λ d. map (λ u. node_sum sample three_edges 1 2 d u 0) (0 ∷ 1 ∷ 2 ∷ [])) (0 ∷ 1 ∷ [])
    ≡ (0 ∷ 20 ∷ 0 ∷ []) ∷ (0 ∷ 20 ∷ 20 ∷ []) ∷ []
unfolding three_edges entry
lower_sums = refl

-- boxes that begin before the data have nothing there: width 2 and width 4 of delay 0
early_boxes : map (λ u. box_sum sample three_edges u 0 2) (0 ∷ 1 ∷ 2 ∷ []) ++ map (λ u.
    box_sum sample three_edges u 0 4) (0 ∷ 1 ∷ 2 ∷ [])
    ≡ 10 ∷ 30 ∷ 20 ∷ 10 ∷ 30 ∷ 30 ∷ []
unfolding three_edges path entry
early_boxes = refl

-- the box of two that ends at spectrum 2 with delay 1
box_2 : box_sum sample three_edges 2 1 2 ≡ 50
unfolding three_edges path entry
box_2 = refl

-- a rising band holds the same pulse with its channels the other way round
rising : path_sum (filterbank 2 false (0 ∷ 10 ∷ 20 ∷ 0 ∷ 0 ∷ 0 ∷ [])) three_edges 1 1 ≡ 30
unfolding three_edges path entry
rising = refl

-- ---- samples of 16 bits, and of two polarisations; the last byte is part of a sample

wide_samples : samples_of 16 1 (10 ∷ 0 ∷ 1 ∷ 2 ∷ 0 ∷ 0 ∷ 20 ∷ []) ≡ 10 ∷ 513 ∷ 0 ∷ []
wide_samples = refl

added_samples : samples_of 8 2 (4 ∷ 6 ∷ 0 ∷ 0 ∷ 20 ∷ 0 ∷ 7 ∷ []) ≡ 10 ∷ 0 ∷ 20 ∷ []
added_samples = refl

wide_added_samples : samples_of 16 2 (1 ∷ 1 ∷ 2 ∷ 0 ∷ 255 ∷ 255 ∷ 255 ∷ 255 ∷ []) ≡ 259 ∷ 131070 ∷ []
wide_added_samples = refl

-- ---- folds

-- four rows are shifted by 0, 0, 1, 1 in trial 1, and by 0, 1, 2, 3 in trial 3
shifts : map (λ j. map (λ i. shift 2 j i) (0 ∷ 1 ∷ 2 ∷ 3 ∷ [])) (1 ∷ 3 ∷ [])
    ≡ (0 ∷ 0 ∷ 1 ∷ 1 ∷ []) ∷ (0 ∷ 1 ∷ 2 ∷ 3 ∷ []) ∷ []
shifts = refl

-- 1 2 3 4 at period 2: trial 0 gives 4 6, trial 1 gives 5 5
folded : map (λ j. map (λ phase. fold_sum (1 ∷ 2 ∷ 3 ∷ 4 ∷ []) 2 1 j phase) (0 ∷ 1 ∷ [])) (0 ∷ 1 ∷ [])
    ≡ (4 ∷ 6 ∷ []) ∷ (5 ∷ 5 ∷ []) ∷ []
folded = refl

-- ---- detection

-- mean 0, deviation 1, snr 2, four cells: a sum of 4 is equality, and 3 is below
equality : map (λ sum. is_detected 0 1000 200 sum 4) (3 ∷ 4 ∷ []) ≡ false ∷ true ∷ []
equality = refl

-- ---- texts

abbrev plain_search : Search
plain_search = record {
  min_delay = 0;
  max_delay = 1;
  widest = 1;
  fold_min = 2;
  fold_max = 0;
  fold_rows = 6;
  fold_step = 64;
  chunk = 1024;
  shards = 1;
  max_candidates = 65536;
  mean = 1000;
  sd = 2000;
  snr = 700;
}

one_pulse : search_text two_channels plain_search (10 ∷ 0 ∷ 0 ∷ 20 ∷ 0 ∷ 0 ∷ [])
    ≡ codes "PULSE 1 1 0.104 1 30 3\nEND 1 0 3\n"
unfolding digits edges edge signed_edge dm dispersion_span path entry
one_pulse = refl

nothing : search_text two_channels plain_search [] ≡ codes "END 0 0 0\n"
unfolding digits edges edge signed_edge dm dispersion_span path entry
nothing = refl

-- the same pulse in a rising band, in samples of 16 bits, and in two polarisations
rising_pulse : search_text (record two_channels { is_falling = false }) plain_search (0 ∷ 10 ∷ 20 ∷ 0 ∷ 0 ∷ 0 ∷ [])
    ≡ codes "PULSE 1 1 0.104 1 30 3\nEND 1 0 3\n"
unfolding digits edges edge signed_edge dm dispersion_span path entry
rising_pulse = refl

wide_pulse : search_text (record two_channels { nbit = 16 }) plain_search
    (10 ∷ 0 ∷ 0 ∷ 0 ∷ 0 ∷ 0 ∷ 20 ∷ 0 ∷ 0 ∷ 0 ∷ 0 ∷ 0 ∷ [])
    ≡ codes "PULSE 1 1 0.104 1 30 3\nEND 1 0 3\n"
unfolding digits edges edge signed_edge dm dispersion_span path entry
wide_pulse = refl

added_pulse : search_text (record two_channels { npol = 2 }) plain_search
    (4 ∷ 6 ∷ 0 ∷ 0 ∷ 0 ∷ 0 ∷ 20 ∷ 0 ∷ 0 ∷ 0 ∷ 0 ∷ 0 ∷ [])
    ≡ codes "PULSE 1 1 0.104 1 30 3\nEND 1 0 3\n"
unfolding digits edges edge signed_edge dm dispersion_span path entry
added_pulse = refl

-- the box of two spectra is judged where it begins at its delay
two_widths : search_text two_channels (record plain_search { widest = 2 }) (10 ∷ 0 ∷ 0 ∷ 20 ∷ 0 ∷ 0 ∷ [])
    ≡ codes "PULSE 1 1 0.104 1 30 3\nPULSE 2 1 0.104 2 50 6\nEND 2 0 3\n"
unfolding digits edges edge signed_edge dm dispersion_span path entry
two_widths = refl

abbrev fold_search : Search
fold_search = record plain_search { max_delay = 0; fold_max = 2; fold_rows = 1; mean = 0; sd = 1000; snr = 200 }

-- two rows of two spectra are folded at both trials
folds_and_pulses : search_text two_channels fold_search (1 ∷ 0 ∷ 2 ∷ 0 ∷ 3 ∷ 0 ∷ 4 ∷ 0 ∷ [])
    ≡ codes "PULSE 2 0 0.000 1 3 2\nPULSE 3 0 0.000 1 4 2\nFOLD 0 0.000 2 2 0 0 4 4\nFOLD 0 0.000 2 2 0 1 6 4\n"
    ++ codes "FOLD 0 0.000 2 2 1 0 5 4\nFOLD 0 0.000 2 2 1 1 5 4\nEND 2 4 4\n"
unfolding digits edges edge signed_edge dm dispersion_span path entry
folds_and_pulses = refl

-- with three spectra there is no room for two rows
no_room : search_text two_channels fold_search (1 ∷ 0 ∷ 2 ∷ 0 ∷ 3 ∷ 0 ∷ []) ≡ codes "PULSE 2 0 0.000 1 3 2\nEND 1 0 3\n"
unfolding digits edges edge signed_edge dm dispersion_span path entry
no_room = refl

-- ---- plans

plans : map (λ s. plan_refusal two_channels s)
    (plain_search ∷ record plain_search { shards = 3 } ∷ record plain_search { fold_max = 1048576; fold_rows = 3 }
    ∷ record plain_search { max_delay = 64; fold_max = 2; fold_step = 1 } ∷ [])
    ≡ None ∷ Some (TooManyShards 3 2) ∷ Some (FoldTooLarge 1048576 3) ∷ Some (TooManyFolds 65) ∷ []
plans = refl

-- 16 bits and two polarisations in 1024 channels, and 8 bits in 4096
wide_plans : map (λ w.
    plan_refusal (record two_channels { channels = 1024; nbit = 16; npol = 2 })
    (record plain_search { max_delay = 512; widest = w }))
    (16 ∷ 32 ∷ [])
    ≡ None ∷ Some (SumBound 131070 1536 32) ∷ []
wide_plans = refl

long_folds : plan_refusal (record two_channels { channels = 4096 })
    (record plain_search { max_delay = 8192; fold_max = 2; fold_rows = 12; fold_step = 8192 })
    ≡ Some (SumBound 255 12288 4096)
long_folds = refl

-- seven delays in three shards
starts : map (shard_start (record plain_search { min_delay = 5; max_delay = 11; shards = 3 })) (0 ∷ 1 ∷ 2 ∷ 3 ∷ [])
    ≡ 5 ∷ 7 ∷ 9 ∷ 12 ∷ []
starts = refl

-- ---- many channels

abbrev wide_band : ℕ → Observation
wide_band n = record two_channels { channels = n; centre_hz = 1382000000; width_hz = 400000000 }

path_of_64 : map (λ k. slice_index (path (edges (wide_band 64)) 64 64) k) (1 ∷ 8 ∷ 16 ∷ 32 ∷ 48 ∷ 63 ∷ 64 ∷ [])
    ≡ 0 ∷ 5 ∷ 11 ∷ 25 ∷ 42 ∷ 62 ∷ 64 ∷ []
unfolding edges edge signed_edge path entry
path_of_64 = refl

path_of_1024 : map (λ k. slice_index (path (edges (wide_band 1024)) 1024 512) k) (1 ∷ 512 ∷ 1023 ∷ [])
    ≡ 0 ∷ 201 ∷ 511 ∷ []
unfolding edges edge signed_edge path entry
path_of_1024 = refl

-- ---- masked channels

-- of the delays 0 to 4, how many cells lie in the lower of two channels
lower_cells : map (λ d. kept_cells (λ c. nat_lt 0 c) three_edges 2 d) (0 ∷ 1 ∷ 2 ∷ 3 ∷ 4 ∷ [])
    ≡ 1 ∷ 2 ∷ 2 ∷ 3 ∷ 3 ∷ []
unfolding three_edges path entry
lower_cells = refl

-- without the upper channel a path sum of delay 0 has one cell
lower_pulse : masked_text two_channels plain_search (λ c. nat_lt 0 c) (10 ∷ 0 ∷ 0 ∷ 20 ∷ 0 ∷ 0 ∷ [])
    ≡ codes "PULSE 1 0 0.000 1 20 1\nEND 1 0 3\n"
unfolding digits edges edge signed_edge dm dispersion_span path entry
lower_pulse = refl

upper_alone : masked_text two_channels plain_search (λ c. nat_lt c 1) (10 ∷ 0 ∷ 0 ∷ 20 ∷ 0 ∷ 0 ∷ [])
    ≡ codes "END 0 0 3\n"
unfolding digits edges edge signed_edge dm dispersion_span path entry
upper_alone = refl

-- ---- parts

abbrev part_of : Search → List ℕ → ℕ → ℕ → ℕ → List ℕ
part_of s bytes place until before =
    part_text (labels_of two_channels) (filterbank_of two_channels bytes).spectra place until before
    (candidates_of two_channels s bytes)

-- up to spectrum 2, and from there on
two_parts : part_of plain_search (10 ∷ 0 ∷ 0 ∷ 20 ∷ 0 ∷ 0 ∷ []) 0 2 0
    ++ part_of plain_search (10 ∷ 0 ∷ 0 ∷ 20 ∷ 0 ∷ 0 ∷ []) 2 9 1
    ≡ codes "PULSE 1 1 0.104 1 30 3\nCHECK 2 1\nEND 1 0 3\n"
unfolding digits edges edge signed_edge dm dispersion_span path entry
two_parts = refl

-- the same pulse four spectra later, in the part from spectrum 5 on
abbrev later_bytes : List ℕ
later_bytes = 0 ∷ 0 ∷ 0 ∷ 0 ∷ 0 ∷ 0 ∷ 0 ∷ 0 ∷ 10 ∷ 0 ∷ 0 ∷ 20 ∷ 0 ∷ 0 ∷ []

later_parts : part_of plain_search later_bytes 0 5 0 ++ part_of plain_search later_bytes 5 9 0
    ≡ codes "CHECK 5 0\nPULSE 5 1 0.104 1 30 3\nEND 1 0 7\n"
unfolding digits edges edge signed_edge dm dispersion_span path entry
later_parts = refl

-- a box of two that ends at spectrum 6 is found in the spectra from 3 on, where it ends at 3
abbrev wide_search : Search
wide_search = record plain_search { widest = 2 }

wide_part : part_of wide_search later_bytes 6 9 1 ≡ codes "PULSE 6 1 0.104 2 50 6\nEND 2 0 7\n"
unfolding digits edges edge signed_edge dm dispersion_span path entry
wide_part = refl

needed : first_needed wide_search 6 ≡ 3
needed = refl

rest_part : map (later 3)
    (within_part 3 6
    (candidates (without_first 3 (filterbank_of two_channels later_bytes)) (edges two_channels) (plain_cells 2)
    wide_search))
    ≡ Pulse 6 1 2 50 ∷ []
unfolding edges edge signed_edge path entry
rest_part = refl

-- ---- ranges of delays

-- delays 0 and 1, each searched by itself
two_ranges : range_lists sample three_edges (plain_cells 2) plain_search 2 (λ k. k) ≡ [] ∷ (Pulse 1 1 1 30 ∷ []) ∷ []
unfolding three_edges path entry
two_ranges = refl

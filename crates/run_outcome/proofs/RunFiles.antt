-- What runs record.
use Rattle.std.proofs.Common.{◌≡◌, ℕ, zero, suc, ◌+◌, ◌<◌, min, List, [], ◌∷◌, ◌++◌, Option, Some, length, map, take, refl, sym, ap, ◌∙◌, arith}
use Rattle.std.specs.Prelude.{slice_get}
use Rattle.std.specs.Option.{option_map}
use Rattle.std.specs.List.{range_with_len}
use Rattle.std.proofs.lemmas.List.{length-take, length-map}
use Rattle.std.proofs.lemmas.List.FromFn.{map-range_with_len_more, length-map-range_with_len, get_or-map-range_with_len}
use Rattle.std.proofs.lemmas.Option.{slice_get-map, slice_get-get_or}
use Rattle.dada_model.specs.Fields.{HeaderText, header_of}
use Rattle.dada_hdu.specs.Answers.{header_entry}
use Rattle.ring_blocks.specs.declared.Entry.{Entry}
use Rattle.stream_model.specs.Blocks.{ended_transfers, transfer_bytes, whole_stream}
use Rattle.stream_model.specs.BlockLaws.{EndsAreCounted, StreamsHaveTransfers}
use Rattle.stream_model.specs.Walk.{FileStream, Whole, transfer_data, walk_data, walk_stop, walk_stream, stream_to}
use Rattle.stream_model.specs.Recorded.{Recording}
use Rattle.stream_model.specs.RecordedLaws.{RecordedTransfer, recorded_of_transfers}
use Rattle.disk_feeder.specs.Feeding.{header_entries}
use Rattle.dada_recorder.specs.Blocks.{RecordPlan, header_or_none, header_in_block, under_header, transfer_at, files_of_blocks}
use Rattle.dada_recorder.specs.Changes.{recording}
use Rattle.run_outcome.specs.Firsts.{first_file}
use Rattle.run_outcome.specs.Runs.{first_recording}
use Rattle.run_outcome.specs.Laws.{RecordsFirsts, RunsRecordBlocks, WholeRunsRecordData}

-- ---- lists

get_in_take : {X : Type 0} (n k : ℕ) (xs : List X) → k < n → slice_get (take n xs) k ≡ slice_get xs k
get_in_take zero k xs below = absurd (omega (arith, below))
get_in_take (suc n) k [] below = refl
get_in_take (suc n) zero (x ∷ xs) below = refl
get_in_take (suc n) (suc k) (x ∷ xs) below = get_in_take n k xs (omega (arith, below))

same_transfers : (f g : ℕ → RecordedTransfer) (n : ℕ) → ((k : ℕ) → k < n → f k ≡ g k) →
    map f (range_with_len 0 n) ≡ map g (range_with_len 0 n)
same_transfers f g zero same = refl
same_transfers f g (suc n) same =
    let one : suc n ≡ n + 1 = omega arith in
    ap (λ m. map f (range_with_len 0 m)) one ∙ map-range_with_len_more f 0 n n (omega arith)
    ∙ ap (λ (ts : List RecordedTransfer). ts ++ f n ∷ [])
    (same_transfers f g n (λ k below. same k (omega (arith, below))))
    ∙ ap (λ (t : RecordedTransfer). map g (range_with_len 0 n) ++ t ∷ []) (same n (omega arith))
    ∙ sym (map-range_with_len_more g 0 n n (omega arith)) ∙ ap (λ m. map g (range_with_len 0 m)) (sym one)

-- ---- headers

-- there is a header for each transfer
header_there : {X : Type 0} (xs : List X) (k : ℕ) → k < length xs → (x : X) × (slice_get xs k ≡ Some x)
header_there [] k below = absurd (omega (arith, below))
header_there (x ∷ xs) zero below = (x, refl)
header_there (x ∷ xs) (suc k) below = header_there xs k (omega (arith, below))

block_of_header : (headers : List HeaderText) (n k : ℕ) (header : HeaderText) → k < n →
    slice_get headers k ≡ Some header →
    slice_get (header_entries (take n headers)) k ≡ Some (header_entry header)
block_of_header headers n k header below there =
    slice_get-map header_entry (take n headers) k
    ∙ ap (option_map header_entry) (get_in_take n k headers below ∙ there)

recorded_under : (plan : RecordPlan) (w : FileStream) (headers : List HeaderText) (n k : ℕ) →
    RecordsFirsts plan w headers → k < n → k < length headers →
    under_header plan k (header_in_block (slice_get (header_entries (take n headers)) k))
    ≡ first_recording w plan.file_size k
recorded_under plan w headers n k firsts below within =
    let there = header_there headers k within in
    let header = there.0 in
    let offset = firsts.offsets k (omega (arith, within, firsts.count)) in
    ap (λ (b : Option Entry). under_header plan k (header_in_block b))
    (block_of_header headers n k header below there.1)
    ∙ ap (λ r. under_header plan k (header_or_none r)) (firsts.read_back k header there.1
    ∙ sym (firsts.read k header there.1))
    ∙ ap (λ (o : ℕ). recording (header_or_none (header_of (first_file w k))) o plan.file_size) offset

-- a transfer as it is recorded with these data
abbrev under_first : FileStream → ℕ → (ℕ → List ℕ) → ℕ → RecordedTransfer
under_first w file_size bytes_of k = record { recording = first_recording w file_size k; bytes = bytes_of k }

pub runs_record : RunsRecordBlocks
unfolding files_of_blocks
runs_record plan w headers blocks firsts =
    let n = ended_transfers blocks + 1 in
    let hs = header_entries (take n headers) in
    let count : length hs ≡ min n (length headers) =
    length-map (take n headers) header_entry ∙ length-take n headers in
    let begun : length hs ≡ min n (length w.starts) = count ∙ ap (min n) firsts.count in
    let f = transfer_at plan hs blocks in
    let g = under_first w plan.file_size (λ k. transfer_bytes k blocks) in
    ap recorded_of_transfers
    (same_transfers f g (length hs) (λ k below.
    ap (λ (r : Recording). record { recording = r; bytes = transfer_bytes k blocks })
    (recorded_under plan w headers n k firsts (omega (arith, below, count)) (omega (arith, below, count))))
    ∙ ap (λ m. map g (range_with_len 0 m)) begun)

-- ---- whole runs

whole_blocks : (size : ℕ) (w : FileStream) → walk_stop w ≡ Whole → walk_stream size w ≡ whole_stream size (walk_data w)
unfolding walk_stream
whole_blocks size w whole = ap (stream_to size w) whole

data_there : (w : FileStream) (k : ℕ) → k < length w.starts → slice_get (walk_data w) k ≡ Some (transfer_data w k)
unfolding walk_data
data_there w k below =
    let count = length-map-range_with_len (transfer_data w) 0 (length w.starts) in
    slice_get-get_or (walk_data w) k [] (omega (arith, count, below))
    ∙ ap (λ (bytes : List ℕ). Some bytes) (get_or-map-range_with_len (transfer_data w) 0 (length w.starts) k k [] below
    (omega arith))

data_count : (w : FileStream) → length (walk_data w) ≡ length w.starts
unfolding walk_data
data_count w = length-map-range_with_len (transfer_data w) 0 (length w.starts)

pub whole_runs : EndsAreCounted → StreamsHaveTransfers → WholeRunsRecordData
whole_runs counts have size file_size w whole =
    let blocks = walk_stream size w in
    let is = whole_blocks size w whole in
    let ended : ended_transfers blocks ≡ length w.starts =
    ap ended_transfers is ∙ counts.whole size (walk_data w) ∙ data_count w in
    let begun : min (ended_transfers blocks + 1) (length w.starts) ≡ length w.starts = omega (arith, ended) in
    let f = under_first w file_size (λ k. transfer_bytes k blocks) in
    let g = under_first w file_size (transfer_data w) in
    ap recorded_of_transfers
    (ap (λ m. map f (range_with_len 0 m)) begun
    ∙ same_transfers f g (length w.starts) (λ k below.
    ap (λ (bytes : List ℕ). record { recording = first_recording w file_size k; bytes = bytes })
    (ap (transfer_bytes k) is ∙ have.whole size (walk_data w) k (transfer_data w k) (data_there w k below))))

-- What was sealed of both rings by a feeder that ended.
use Rattle.std.proofs.Common.{◌≡◌, ℕ, ◌+◌, ◌*◌, ◌<◌, ◌≤◌, List, [], length, length-append, take, get_or, Some, slice_get, refl, sym, ap, ◌∙◌, arith}
use Rattle.std.specs.Prelude.{map}
use Rattle.std.specs.List.{sum_by, sum, range_with_len}
use Rattle.std.proofs.lemmas.List.{take_all, length-take, length-take-le, length-map, same_lists}
use Rattle.std.proofs.lemmas.List.Concat.{length-flat_map}
use Rattle.std.proofs.lemmas.List.FromFn.{get_or-map-range_with_len, length-map-range_with_len}
use Rattle.std.proofs.lemmas.List.Sums.{sum-map}
use Rattle.std.proofs.lemmas.Simd.{map-map}
use Rattle.std.proofs.lemmas.Option.{slice_get-get_or}
use Rattle.dada_model.specs.Fields.{HeaderText}
use Rattle.ring_blocks.specs.declared.Entry.{Entry}
use Rattle.dada_hdu.specs.Answers.{header_entry}
use Rattle.stream_model.specs.Blocks.{whole_stream, abandoned_stream, blocks_before_stop, joined_data, joined_bytes, ended_transfers, transfer_bytes}
use Rattle.stream_model.specs.BlockLaws.{BytesAreJoined, EndsAreCounted, StreamsHaveTransfers}
use Rattle.stream_model.specs.Walk as walk
use Rattle.stream_model.specs.Walk.{FileStream, WalkStop, walk_data, walk_stop, walk_stream, stream_to, transfer_data}
use Rattle.disk_feeder.specs.declared.answers.FeedEnd.{FeedEnd}
use Rattle.disk_feeder.specs.declared.answers.FeedEnd.TheVariants.{Whole, Gap, TooLong}
use Rattle.disk_feeder.specs.Ends.{end_of}
use Rattle.disk_feeder.specs.Plan.{Plan}
use Rattle.disk_feeder.specs.Feeding.{header_entries, HeadersKeepUp, SealedAs, IsWalkEnd}

-- ---- headers

-- all headers are no more than one past the transfers that ended
few_headers : (headers : List HeaderText) (sealed blocks : List Entry) → HeadersKeepUp headers sealed blocks →
    sealed ≡ header_entries headers → length headers ≤ ended_transfers blocks + 1
few_headers headers sealed blocks up all =
    let one = length-map headers header_entry in
    let other = length-map (take up.count headers) header_entry in
    let most = length-take-le up.count headers up.there in
    let same = ap (λ (l : List Entry). length l) (sym all ∙ up.are) in
    let next = up.next in
    omega arith

of_cut : EndsAreCounted → (size max_bytes : ℕ) (before : List (List ℕ)) (current : List ℕ) (headers : List HeaderText)
    (sealed blocks : List Entry) → blocks ≡ abandoned_stream size max_bytes before current →
    sealed ≡ header_entries (take (length before + 1) headers) →
    sealed ≡ header_entries (take (ended_transfers blocks + 1) headers)
of_cut ends size max_bytes before current headers sealed blocks is are =
    rw (is, ends.abandoned size max_bytes before current) are

pub headers_are : EndsAreCounted → (plan : Plan) (size : ℕ) (before : List (List ℕ)) (current : List ℕ)
    (sealed blocks : List Entry) (end : FeedEnd) → SealedAs plan size before current sealed blocks end →
    HeadersKeepUp plan.headers sealed blocks → sealed ≡ header_entries (take (ended_transfers blocks + 1) plan.headers)
headers_are ends plan size before current sealed blocks (Whole bytes) s up =
    s.2 ∙ ap header_entries (sym (take_all (ended_transfers blocks + 1) plan.headers
    (few_headers plan.headers sealed blocks up s.2)))
headers_are ends plan size before current sealed blocks end s up =
    of_cut ends size plan.max_bytes before current plan.headers sealed blocks s.0 s.2

-- ---- the limit

cut_few : BytesAreJoined → (size max_bytes limit : ℕ) (before : List (List ℕ)) (current : List ℕ)
    (blocks : List Entry) → blocks ≡ abandoned_stream size max_bytes before current →
    length (joined_data before) + length current ≤ limit → length (joined_bytes blocks) ≤ limit
cut_few joined size max_bytes limit before current blocks is few =
    let n = blocks_before_stop size max_bytes before current * size in
    let same : length (joined_bytes blocks) ≡ length (joined_data before) + length (take n current) =
    rw (is, joined.abandoned size max_bytes before current, length-append) refl in
    let part = length-take n current in
    omega arith

pub sealed_few : BytesAreJoined → (plan : Plan) (size : ℕ) (before : List (List ℕ)) (current : List ℕ)
    (sealed blocks : List Entry) (end : FeedEnd) → SealedAs plan size before current sealed blocks end →
    length (joined_data before) + length current ≤ plan.max_bytes → length (joined_bytes blocks) ≤ plan.max_bytes
sealed_few joined plan size before current sealed blocks (Whole bytes) s few =
    let same : length (joined_bytes blocks) ≡ length (joined_data before) = rw (s.0, joined.whole size before) refl in
    omega arith
sealed_few joined plan size before current sealed blocks end s few =
    cut_few joined size plan.max_bytes plan.max_bytes before current blocks s.0 few

-- ---- the data of whole transfers

module _ (have : StreamsHaveTransfers) (size : ℕ) (parts : List (List ℕ)) (blocks : List Entry)
    (is : blocks ≡ whole_stream size parts) where
  pub data_at : (k : ℕ) (bytes : List ℕ) → slice_get parts k ≡ Some bytes → transfer_bytes k blocks ≡ bytes
  data_at k bytes at = rw is (have.whole size parts k bytes at)

  all_data : (n : ℕ) → length parts ≡ n → map (λ k. transfer_bytes k blocks) (range_with_len 0 n) ≡ parts
  all_data n long =
      let f : ℕ → List ℕ = λ k. transfer_bytes k blocks in
      let count = length-map-range_with_len f 0 n in
      same_lists (map f (range_with_len 0 n)) parts (count ∙ sym long) (λ k d near.
      let less : k < length parts = omega arith in
      get_or-map-range_with_len f 0 n k k d (omega arith) (omega arith)
      ∙ data_at k (get_or parts k d) (slice_get-get_or parts k d less))

  pub parts_are : (n : ℕ) → length parts ≡ n →
      sum_by (λ k. length (transfer_bytes k blocks)) (range_with_len 0 n) ≡ length (joined_data parts)
  unfolding joined_data
  parts_are n long =
      let f : ℕ → List ℕ = λ k. transfer_bytes k blocks in
      let len : List ℕ → ℕ = λ l. length l in
      sym (sum-map (λ k. len (f k)) (range_with_len 0 n))
      ∙ ap sum (sym (map-map len f (range_with_len 0 n)))
      ∙ sum-map len (map f (range_with_len 0 n))
      ∙ ap (sum_by len) (all_data n long)
      ∙ sym (length-flat_map (λ (l : List ℕ). l) parts)

-- ---- the data of a whole walk

is_whole : (bytes count limit : ℕ) (stop : WalkStop) → Whole bytes ≡ end_of count limit stop → stop ≡ walk.Whole
is_whole bytes count limit walk.Whole e = refl
is_whole bytes count limit (walk.BadText file refusal) e = absurd cc
is_whole bytes count limit (walk.BadFields file fault) e = absurd cc
is_whole bytes count limit (walk.Gap file expected found) e = absurd cc
is_whole bytes count limit (walk.TooLong file) e = absurd cc

walk_at : (s : FileStream) (k : ℕ) → k < length s.starts → slice_get (walk_data s) k ≡ Some (transfer_data s k)
unfolding walk_data
walk_at s k near =
    let n = length s.starts in
    let count = length-map-range_with_len (transfer_data s) 0 n in
    slice_get-get_or (map (transfer_data s) (range_with_len 0 n)) k [] (omega arith)
    ∙ ap (λ (l : List ℕ). Some l) (get_or-map-range_with_len (transfer_data s) 0 n k k [] near (omega arith))

pub walked_data : StreamsHaveTransfers → (s : FileStream) (size : ℕ) (blocks : List Entry) (bytes k : ℕ) →
    IsWalkEnd s size blocks (Whole bytes) → k < length s.starts → transfer_bytes k blocks ≡ transfer_data s k
unfolding walk_stream
walked_data have s size blocks bytes k end near =
    let stop = is_whole bytes (length (joined_data (walk_data s))) s.max_bytes (walk_stop s) end.is in
    data_at have size (walk_data s) blocks (end.stream ∙ ap (stream_to size s) stop) k (transfer_data s k)
    (walk_at s k near)

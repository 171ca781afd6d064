-- The files of blocks, as blocks come.
use Rattle.std.proofs.Common.{◌≡◌, ℕ, zero, suc, ◌+◌, ◌<◌, ◌≤◌, List, [], ◌∷◌, ◌++◌, Some, length, map, refl, ap, ◌∙◌, append-nil, length-append, arith}
use Rattle.std.specs.Prelude.{slice_get}
use Rattle.std.specs.List.{range_with_len}
use Rattle.std.proofs.lemmas.Grind.{flat_map-append}
use Rattle.std.proofs.lemmas.List.FromFn.{map-range_with_len_more}
use Rattle.psr_base.specs.Made.{NamedBytes}
use Rattle.ring_blocks.specs.declared.Entry.{Entry}
use Rattle.stream_model.specs.Blocks.{ended_transfers, transfer_bytes}
use Rattle.stream_model.specs.BlockLaws.{EntriesAreOfTransfers}
use Rattle.stream_model.specs.Recorded.{Recording, recorded_files}
use Rattle.stream_model.specs.RecordedLaws.{RecordedTransfer, recorded_of_transfers}
use Rattle.dada_recorder.specs.Blocks.{RecordPlan, header_in_block, under_header, transfer_at, files_of_blocks}
use Rattle.dada_recorder.specs.Transfers.{files_of_first}

-- ---- lists

pub get_in_front : {X : Type 0} (xs ys : List X) (i : ℕ) → i < length xs → slice_get (xs ++ ys) i ≡ slice_get xs i
get_in_front [] ys i within = absurd (omega arith)
get_in_front (x ∷ xs) ys zero within = refl
get_in_front (x ∷ xs) ys (suc i) within = get_in_front xs ys i (omega arith)

pub get_at_seam : {X : Type 0} (xs : List X) (x : X) (ys : List X) → slice_get (xs ++ x ∷ ys) (length xs) ≡ Some x
get_at_seam [] x ys = refl
get_at_seam (y ∷ xs) x ys = get_at_seam xs x ys

pub same_transfers : (f g : ℕ → RecordedTransfer) (a n : ℕ) → ((k : ℕ) → a ≤ k → k < a + n → f k ≡ g k) →
    map f (range_with_len a n) ≡ map g (range_with_len a n)
same_transfers f g a zero same = refl
same_transfers f g a (suc n) same =
    let rest = same_transfers f g (a + 1) n (λ k from below. same k (omega arith) (omega arith)) in
    rw (same a (omega arith) (omega arith), rest) refl

-- ---- one transfer more

-- the files of one transfer more come behind
pub first_and_next : (plan : RecordPlan) (headers blocks : List Entry) (n : ℕ) →
    files_of_first plan headers blocks (n + 1)
    ≡ files_of_first plan headers blocks n
    ++ recorded_files (transfer_at plan headers blocks n).recording (transfer_bytes n blocks)
unfolding files_of_first recorded_of_transfers
first_and_next plan headers blocks n =
    let f = transfer_at plan headers blocks in
    let files : RecordedTransfer → List NamedBytes = λ t. recorded_files t.recording t.bytes in
    rw (
      map-range_with_len_more f 0 n n (omega arith),
      flat_map-append files (map f (range_with_len 0 n)) (f n ∷ []),
      append-nil (files (f n)),
    ) refl

pub all_are_first : (plan : RecordPlan) (headers blocks : List Entry) →
    files_of_blocks plan headers blocks ≡ files_of_first plan headers blocks (length headers)
unfolding files_of_blocks files_of_first
all_are_first plan headers blocks = refl

-- the files of transfers are those that their header blocks and data give
pub first_same : (plan : RecordPlan) (headers headers' blocks blocks' : List Entry) (n : ℕ) →
    ((k : ℕ) → k < n → slice_get headers k ≡ slice_get headers' k) →
    ((k : ℕ) → k < n → transfer_bytes k blocks ≡ transfer_bytes k blocks') →
    files_of_first plan headers blocks n ≡ files_of_first plan headers' blocks' n
unfolding files_of_first
first_same plan headers headers' blocks blocks' n same_headers same_bytes =
    ap recorded_of_transfers (same_transfers (transfer_at plan headers blocks) (transfer_at plan headers' blocks') 0 n
    (λ k from below. rw (same_headers k (omega arith), same_bytes k (omega arith)) refl))

-- a header block more: the files before stay
pub first_under_more : (plan : RecordPlan) (headers blocks : List Entry) (block : Entry) (n : ℕ) →
    n ≤ length headers → files_of_first plan (headers ++ block ∷ []) blocks n ≡ files_of_first plan headers blocks n
first_under_more plan headers blocks block n within =
    first_same plan (headers ++ block ∷ []) headers blocks blocks n
    (λ k below. get_in_front headers (block ∷ []) k (omega (arith, below, within))) (λ k below. refl)

-- the header block of the next transfer, which has no data
pub header_added : (plan : RecordPlan) (headers blocks : List Entry) (block : Entry) (r : Recording) →
    transfer_bytes (length headers) blocks ≡ [] →
    r ≡ under_header plan (length headers) (header_in_block (Some block)) →
    files_of_blocks plan (headers ++ block ∷ []) blocks ≡ files_of_blocks plan headers blocks ++ recorded_files r []
header_added plan headers blocks block r none is =
    let n = length headers in
    let both : length (headers ++ block ∷ []) ≡ n + 1 = length-append headers (block ∷ []) in
    all_are_first plan (headers ++ block ∷ []) blocks ∙ rw (
      both,
      first_and_next plan (headers ++ block ∷ []) blocks n,
      first_under_more plan headers blocks block n (omega arith),
      ← all_are_first plan headers blocks,
      get_at_seam headers block [],
      ← is,
      none,
    ) refl

-- the files of the transfer that goes on come last
pub last_transfer : (plan : RecordPlan) (headers blocks : List Entry) (n : ℕ) (r : Recording) →
    length headers ≡ n + 1 → r ≡ under_header plan n (header_in_block (slice_get headers n)) →
    files_of_blocks plan headers blocks
    ≡ files_of_first plan headers blocks n ++ recorded_files r (transfer_bytes n blocks)
last_transfer plan headers blocks n r count is =
    rw (all_are_first plan headers blocks, count, first_and_next plan headers blocks n, ← is) refl

-- a data block more: the files of the transfers before stay
pub first_with_more : EntriesAreOfTransfers → (plan : RecordPlan) (headers blocks : List Entry) (block : Entry)
    (n : ℕ) → ended_transfers blocks ≡ n →
    files_of_first plan headers (blocks ++ block ∷ []) n ≡ files_of_first plan headers blocks n
first_with_more law plan headers blocks block n ended =
    first_same plan headers headers (blocks ++ block ∷ []) blocks n (λ k below. refl)
    (λ k below. law.done k blocks (block ∷ []) (omega (arith, ended, below)))

-- and the bytes come to those of the transfer that goes on
pub block_added : EntriesAreOfTransfers → (plan : RecordPlan) (headers blocks : List Entry) (block : Entry) (n : ℕ)
    (r : Recording) → ended_transfers blocks ≡ n → length headers ≡ n + 1 →
    r ≡ under_header plan n (header_in_block (slice_get headers n)) →
    files_of_blocks plan headers (blocks ++ block ∷ [])
    ≡ files_of_first plan headers blocks n ++ recorded_files r (transfer_bytes n blocks ++ block.bytes)
block_added law plan headers blocks block n r ended count is =
    rw (
      last_transfer plan headers (blocks ++ block ∷ []) n r count is,
      first_with_more law plan headers blocks block n ended,
      law.next n blocks block ended,
    ) refl

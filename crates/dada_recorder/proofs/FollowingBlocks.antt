-- The files of blocks are a front of those of more blocks.
use mathlib.Core.List.{IsPrefix}
use Rattle.std.proofs.Common.{◌≡◌, ℕ, zero, suc, ◌+◌, ◌-◌, ◌*◌, ◌/◌, ◌<◌, ◌≤◌, List, [], ◌++◌, length, map, refl, sym, ◌∙◌, append_assoc, append-nil, length-append, arith, inl, inr}
use Rattle.std.specs.Prelude.{slice_get}
use Rattle.std.specs.List.{flat_map, range_with_len}
use Rattle.std.proofs.lemmas.Bool.{cases_lt}
use Rattle.std.proofs.lemmas.Nat.{le-div}
use Rattle.std.proofs.Math.Nat.{div-mul-le_self, lt-div-mul-add}
use Rattle.psr_base.specs.Made.{NamedBytes}
use Rattle.ring_blocks.specs.declared.Entry.{Entry}
use Rattle.stream_model.specs.Blocks.{ended_transfers, transfer_bytes}
use Rattle.stream_model.specs.BlockLaws.{EntriesAreOfTransfers}
use Rattle.stream_model.specs.Recorded.{Recording, file_count, recorded_files}
use Rattle.stream_model.specs.RecordedLaws.{RecordedTransfer, recorded_of_transfers}
use Rattle.dada_recorder.specs.Making.{IsFileFront}
use Rattle.dada_recorder.specs.Blocks.{RecordPlan, header_in_block, under_header, transfer_at, files_of_blocks}
use Rattle.dada_recorder.proofs.Fronts.{front_then, front_behind, front_follows}
use Rattle.dada_recorder.specs.TransferFiles.{first_files}
use Rattle.dada_recorder.proofs.BlockFiles.{get_in_front, same_transfers}
use Rattle.dada_recorder.proofs.Cutting.{first_are_front}

-- ---- one transfer

-- the files of some data are a front of those of more
pub data_front : (r : Recording) (xs ys : List ℕ) → 0 < r.file_size →
    IsFileFront (recorded_files r xs) (recorded_files r (xs ++ ys))
unfolding recorded_files first_files file_count
data_front r xs ys some =
    let z = r.file_size in
    let n = (length xs - 1) / z in
    let begun = div-mul-le_self (length xs - 1) z in
    let within : length xs - 1 < n * z + z = lt-div-mul-add some in
    let both = length-append xs ys in
    let few : n ≤ (length (xs ++ ys) - 1) / z = le-div n (length (xs ++ ys) - 1) z some (omega (arith, begun, both)) in
    first_are_front r xs ys n (omega (arith, begun)) (omega (arith, within)) (omega (arith, few))

front_longer : (a b c : List NamedBytes) → IsFileFront a b → IsFileFront a (b ++ c)
front_longer a b c is = front_follows a b (b ++ c) is (front_then b c)

-- ---- transfers by their number

-- the files of transfers from one of them on
abbrev files_from : (ℕ → RecordedTransfer) → ℕ → ℕ → List NamedBytes
files_from f a n = flat_map (λ (t : RecordedTransfer). recorded_files t.recording t.bytes) (map f (range_with_len a n))

split_from : (f : ℕ → RecordedTransfer) (a m n j : ℕ) → a + m ≡ j →
    files_from f a (m + n) ≡ files_from f a m ++ files_from f j n
split_from f a zero n j is =
    let none : zero + n ≡ n = omega arith in
    let here : a ≡ j = omega (arith, is) in
    rw (none, here) refl
split_from f a (suc m) n j is =
    let next : suc m + n ≡ suc (m + n) = omega arith in
    rw (next, split_from f (a + 1) m n j (omega (arith, is)), append_assoc) refl

-- of two sequences of transfers the first m are the same, and the next one has more data in the second
from_front : (f g : ℕ → RecordedTransfer) (m n : ℕ) (more : List ℕ) → ((k : ℕ) → k < m → f k ≡ g k) →
    (f m).recording ≡ (g m).recording → (g m).bytes ≡ (f m).bytes ++ more → 0 < (f m).recording.file_size →
    IsFileFront (files_from f 0 (m + 1)) (files_from g 0 (m + suc n))
from_front f g m n more same header longer some =
    let before = files_from f 0 m in
    let all : files_from g 0 (m + suc n) ≡ before
    ++ (recorded_files (f m).recording ((f m).bytes ++ more) ++ files_from g (m + 1) n) =
    rw (
      split_from g 0 m (suc n) m (omega arith),
      same_transfers f g 0 m (λ k from below. same k (omega arith)),
      ← header,
      longer,
    ) refl in
    let some_of : files_from f 0 (m + 1) ≡ before ++ recorded_files (f m).recording (f m).bytes =
    rw (split_from f 0 m 1 m (omega arith), append-nil) refl in
    rw (some_of, all) (front_behind before (recorded_files (f m).recording (f m).bytes)
    (recorded_files (f m).recording ((f m).bytes ++ more) ++ files_from g (m + 1) n)
    (front_longer (recorded_files (f m).recording (f m).bytes) (recorded_files (f m).recording ((f m).bytes ++ more))
    (files_from g (m + 1) n) (data_front (f m).recording (f m).bytes more some)))

-- ---- blocks

same_header : (plan : RecordPlan) (headers more : List Entry) (k : ℕ) → k < length headers →
    under_header plan k (header_in_block (slice_get headers k))
    ≡ under_header plan k (header_in_block (slice_get (headers ++ more) k))
same_header plan headers more k below =
    rw (get_in_front headers more k below) refl

-- a transfer that has ended gets no more bytes
same_transfer : EntriesAreOfTransfers →
    (plan : RecordPlan) (headers more_headers blocks more_blocks : List Entry) (k : ℕ) →
    k < length headers → k < ended_transfers blocks →
    transfer_at plan headers blocks k ≡ transfer_at plan (headers ++ more_headers) (blocks ++ more_blocks) k
same_transfer law plan headers more_headers blocks more_blocks k below ended =
    rw (get_in_front headers more_headers k below, law.done k blocks more_blocks ended) refl

-- the next one may
longer_transfer : EntriesAreOfTransfers → (k : ℕ) (blocks more : List Entry) →
    (bytes : List ℕ) × (transfer_bytes k (blocks ++ more) ≡ transfer_bytes k blocks ++ bytes)
longer_transfer law k blocks more = elim (cases_lt k (ended_transfers blocks)) [
  | inl ended ↦ ([], law.done k blocks more ended ∙ sym (append-nil (transfer_bytes k blocks)))
  | inr running ↦ (transfer_bytes (k - ended_transfers blocks) more, law.open_still k blocks more running)
]

some_follow : EntriesAreOfTransfers →
    (plan : RecordPlan) (headers more_headers blocks more_blocks : List Entry) (m : ℕ) →
    0 < plan.file_size → length headers ≡ m + 1 → m ≤ ended_transfers blocks →
    IsFileFront (files_of_blocks plan headers blocks)
    (files_of_blocks plan (headers ++ more_headers) (blocks ++ more_blocks))
unfolding files_of_blocks recorded_of_transfers
some_follow law plan headers more_headers blocks more_blocks m some count ended =
    let f = transfer_at plan headers blocks in
    let g = transfer_at plan (headers ++ more_headers) (blocks ++ more_blocks) in
    let longer = longer_transfer law m blocks more_blocks in
    let n = length more_headers in
    let all : length (headers ++ more_headers) ≡ m + suc n = omega (arith, count, length-append headers more_headers) in
    rw (count, all) (from_front f g m n longer.0 (λ k below. same_transfer law plan headers more_headers blocks
    more_blocks k (omega (arith, count)) (omega (arith, ended)))
    (same_header plan headers more_headers m (omega (arith, count))) longer.1 some)

blocks_follow_on : EntriesAreOfTransfers → (plan : RecordPlan) (headers more_headers blocks more_blocks : List Entry)
    (n : ℕ) → 0 < plan.file_size → length headers ≡ n → n ≤ ended_transfers blocks + 1 →
    IsFileFront (files_of_blocks plan headers blocks)
    (files_of_blocks plan (headers ++ more_headers) (blocks ++ more_blocks))
unfolding files_of_blocks recorded_of_transfers
blocks_follow_on law plan headers more_headers blocks more_blocks zero some count few =
    rw count tt
blocks_follow_on law plan headers more_headers blocks more_blocks (suc m) some count few =
    some_follow law plan headers more_headers blocks more_blocks m some (count ∙ omega arith) (omega (arith, few))

-- the files of the blocks so far are a front of those of all blocks
pub blocks_follow : EntriesAreOfTransfers → (plan : RecordPlan) (headers all_headers blocks all_blocks : List Entry) →
    0 < plan.file_size → IsPrefix headers all_headers → IsPrefix blocks all_blocks →
    length headers ≤ ended_transfers blocks + 1 →
    IsFileFront (files_of_blocks plan headers blocks) (files_of_blocks plan all_headers all_blocks)
blocks_follow law plan headers all_headers blocks all_blocks some first second few =
    rw (first.1, second.1) at (blocks_follow_on law plan headers first.0 blocks second.0 (length headers) some refl few)

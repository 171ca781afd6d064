-- The bytes of recorded files: their headers, and their data joined.
use Rattle.std.proofs.Common.{◌≡◌, ℕ, ◌+◌, ◌-◌, ◌*◌, ◌/◌, ◌<◌, ◌≤◌, Bool, true, false, ltb, List, ◌++◌, length, take, replicate, refl, sym, ap, ◌∙◌, arith, Some, None, Ok}
use Rattle.std.specs.Prelude.{if◌then◌else◌}
use Rattle.std.proofs.lemmas.Bool.{ltb-false}
use Rattle.std.proofs.lemmas.List.{length-append, length-replicate, drop_at, take-append-le}
use Rattle.std.proofs.Math.Nat.{div-lt_iff_lt-mul, div-mul-le_self, lt-div-mul-add, mul-le-mul_right}
use Rattle.std.proofs.Math.Seq.{take-add}
use Rattle.dada_model.specs.Fields.{HeaderText, header_of, header_bytes}
use Rattle.dada_model.specs.ChangeLaws.{HeadersByFront, IsReadBack, HeadersAreText}
use Rattle.stream_model.specs.Recorded.{file_data, file_count, TooManyFiles, number_refusal}
use Rattle.stream_model.specs.RecordedLaws.{HasNumbers, RecordedTransfer, CanBeRecorded}
use Rattle.stream_model.specs.Walk.{data_of, data_past}
use Rattle.stream_model.proofs.Rooms.{recordable}

-- ---- data

-- the files have all data
pub enough : (z : ℕ) (bytes : List ℕ) → 0 < z → length bytes ≤ file_count z bytes * z
unfolding file_count
enough z bytes some =
    let below : length bytes - 1 < (length bytes - 1) / z * z + z = lt-div-mul-add some in
    let whole : ((length bytes - 1) / z + 1) * z ≡ (length bytes - 1) / z * z + z = omega arith in
    omega (arith, below, whole)

-- the data up to a file, and those of the file
pub piece_more : (z : ℕ) (bytes : List ℕ) (m : ℕ) → take (m * z) bytes ++ file_data z bytes m ≡ take ((m + 1) * z) bytes
unfolding file_data
piece_more z bytes m =
    let place : m * z + z ≡ (m + 1) * z = omega arith in
    sym (take-add (m * z) z bytes) ∙ ap (λ (n : ℕ). take n bytes) place

-- where a file begins
pub begins_within : (z : ℕ) (bytes : List ℕ) (m : ℕ) → m < file_count z bytes → m * z ≤ length bytes
unfolding file_count
begins_within z bytes m below =
    let low : m ≤ (length bytes - 1) / z = omega (arith, below) in
    omega (arith, mul-le-mul_right z low, div-mul-le_self (length bytes - 1) z)

-- ---- headers

header_length : HeadersAreText → (header : HeaderText) → IsReadBack header → length (header_bytes header) ≡ header.size
unfolding header_bytes
header_length law header is =
    omega (
      arith,
      length-append header.text (replicate (header.size - length header.text) 0),
      length-replicate {A = ℕ} (header.size - length header.text) 0,
      (law header is).fits,
    )

pub header_found : HeadersByFront → HeadersAreText → (header : HeaderText) (rest : List ℕ) → IsReadBack header →
    header_of (header_bytes header ++ rest) ≡ Ok header
header_found front law header rest is =
    let count = header_length law header is in
    front (header_bytes header) (header_bytes header ++ rest) header is
    (take-append-le header.size (header_bytes header) rest (omega (arith, count)))

pub data_found : HeadersByFront → HeadersAreText → (header : HeaderText) (rest : List ℕ) → IsReadBack header →
    data_of (header_bytes header ++ rest) ≡ rest
unfolding data_of
data_found front law header rest is =
    ap (data_past (header_bytes header ++ rest)) (header_found front law header rest is)
    ∙ drop_at (header_bytes header) rest header.size (header_length law header is)

-- ---- numbers

few_numbers : (z limit : ℕ) → number_refusal z limit ≡ None → limit ≤ z * 1000000
few_numbers z limit none = by_test (ltb (z * 1000000) limit) refl none
  where
    by_test : (b : Bool) → ltb (z * 1000000) limit ≡ b → (if b then Some TooManyFiles else None) ≡ None →
        limit ≤ z * 1000000
    by_test true tested e = absurd cc
    by_test false tested e = ltb-false (z * 1000000) limit tested

few_files : (z limit : ℕ) (bytes : List ℕ) → 0 < z → limit ≤ z * 1000000 → length bytes ≤ limit →
    file_count z bytes ≤ 1000000
unfolding file_count
few_files z limit bytes some most few =
    let below : length bytes - 1 < 1000000 * z = omega (arith, some, most, few) in
    omega (arith, (div-lt_iff_lt-mul {k = z} {x = length bytes - 1} {y = 1000000} some).1 below)

-- each file has its number and its offset
pub numbers_of : (t : RecordedTransfer) (m : ℕ) → CanBeRecorded t →
    m < file_count t.recording.file_size t.bytes → HasNumbers t.recording m
numbers_of t m can below =
    let begins = begins_within t.recording.file_size t.bytes m below in
    let all = recordable t.recording can.limit can.none_refused in
    let few = few_files t.recording.file_size can.limit t.bytes can.some (few_numbers t.recording.file_size can.limit
    all.files) can.few in
    record {
      offset = omega (arith, begins, can.offsets);
      number = omega (arith, few, below);
      size = can.size;
    }

-- Where the files of recorded transfers stand.
use Rattle.std.proofs.Common.{◌≡◌, ℕ, zero, suc, ◌+◌, ◌-◌, ◌<◌, ◌≤◌, List, [], ◌∷◌, ◌++◌, length, get_or, take, refl, sym, ap, ◌∙◌, arith, inl, inr}
use Rattle.std.specs.List.{flat_map}
use Rattle.std.proofs.lemmas.Bool.{cases_lt}
use Rattle.std.proofs.lemmas.Grind.{flat_map-append}
use Rattle.std.proofs.lemmas.List.{append-nil, length-append, take_all, take_more, get_or_past, get_or-map, length-map}
use Rattle.std.proofs.lemmas.List.Concat.{get_or-flat_map}
use Rattle.std.proofs.lemmas.List.Folds.{length-flat_map-take}
use Rattle.std.proofs.lemmas.List.FromFn.{length-map-range_with_len, get_or-map-range_with_len}
use Rattle.psr_base.specs.Made.{NamedBytes}
use Rattle.stream_model.specs.Recorded.{file_count, recorded_file, recorded_files}
use Rattle.stream_model.specs.RecordedLaws.{RecordedTransfer, recorded_of_transfers, recorded_starts, stream_of_recorded}
use Rattle.stream_model.specs.Walk.{file_at, begin_of}
use Rattle.stream_model.specs.WalkLaws.{AreStarts}

-- ---- transfers by their number

-- a transfer of no data, for places past the last one
abbrev pub no_transfer : RecordedTransfer
no_transfer = record {
  recording = record { header = record { size = 0; text = [] }; offset = 0; file_size = 1 };
  bytes = [];
}

abbrev pub transfer_at : List RecordedTransfer → ℕ → RecordedTransfer
transfer_at ts k = get_or ts k no_transfer

abbrev pub files_of : RecordedTransfer → List NamedBytes
files_of t = recorded_files t.recording t.bytes

abbrev pub count_of : RecordedTransfer → ℕ
count_of t = file_count t.recording.file_size t.bytes

-- the number of the file with which a transfer begins
abbrev pub begin_at : List RecordedTransfer → ℕ → ℕ
begin_at ts k = length (flat_map files_of (take k ts))

length_files : (t : RecordedTransfer) → length (files_of t) ≡ count_of t
unfolding recorded_files
length_files t = length-map-range_with_len (recorded_file t.recording t.bytes) 0 (count_of t)

pub some_files : (t : RecordedTransfer) → 0 < count_of t
unfolding file_count
some_files t = omega arith

pub begin_next : (ts : List RecordedTransfer) (k : ℕ) → k < length ts →
    begin_at ts (k + 1) ≡ begin_at ts k + count_of (transfer_at ts k)
begin_next ts k below =
    let t = transfer_at ts k in
    ap (λ (xs : List RecordedTransfer). length (flat_map files_of xs)) (take_more ts k no_transfer below)
    ∙ ap (length {A = NamedBytes}) (flat_map-append files_of (take k ts) (t ∷ [])
    ∙ ap (λ (xs : List NamedBytes). flat_map files_of (take k ts) ++ xs) (append-nil (files_of t)))
    ∙ length-append (flat_map files_of (take k ts)) (files_of t)
    ∙ ap (λ (n : ℕ). begin_at ts k + n) (length_files t)

pub begin_last : (ts : List RecordedTransfer) → begin_at ts (length ts) ≡ length (flat_map files_of ts)
begin_last ts = ap (λ (xs : List RecordedTransfer). length (flat_map files_of xs)) (take_all (length ts) ts (omega
    arith))

-- ---- a file by its number

-- file m of transfer k
pub file_of : (ts : List RecordedTransfer) (k m : ℕ) (d : NamedBytes) → k < length ts →
    m < count_of (transfer_at ts k) → get_or (flat_map files_of ts) (begin_at ts k + m) d
    ≡ recorded_file (transfer_at ts k).recording (transfer_at ts k).bytes m
unfolding recorded_files
file_of ts k m d below within =
    let t = transfer_at ts k in
    get_or-flat_map files_of ts k m no_transfer d below (omega (arith, length_files t))
    ∙ get_or-map-range_with_len (recorded_file t.recording t.bytes) 0 (count_of t) m m d within (omega arith)

pub record IsPlaced (ts : List RecordedTransfer) (j : ℕ) : Type 0 where
  pub transfer : ℕ
  pub place : ℕ
  pub there : transfer < length ts
  pub within : place < count_of (transfer_at ts transfer)
  pub is : j ≡ begin_at ts transfer + place

-- each file is one of a transfer
placed_before : (ts : List RecordedTransfer) (n j : ℕ) → n ≤ length ts → j < begin_at ts n → IsPlaced ts j
placed_before ts zero j few below = absurd (omega arith)
placed_before ts (suc n) j few below = elim (cases_lt j (begin_at ts n)) [
  | inl before ↦ placed_before ts n j (omega arith) before
  | inr from ↦
      let e : suc n ≡ n + 1 = omega arith in
      let next = begin_next ts n (omega arith) in
      let below_next : j < begin_at ts (n + 1) = rw (sym e) below in
      record {
        transfer = n;
        place = j - begin_at ts n;
        there = omega arith;
        within = omega (arith, next, below_next, from);
        is = omega (arith, from);
      }
]

pub placed : (ts : List RecordedTransfer) (j : ℕ) → j < length (flat_map files_of ts) → IsPlaced ts j
placed ts j below = placed_before ts (length ts) j (omega arith) (omega (arith, begin_last ts, below))

-- ---- the stream of the files

pub length_starts : (b : ℕ) (ts : List RecordedTransfer) → length (recorded_starts b ts) ≡ length ts
unfolding recorded_starts
length_starts b [] = refl
length_starts b (t ∷ ts) = ap suc (length_starts (b + count_of t) ts)

start_of : (b : ℕ) (ts : List RecordedTransfer) (k d : ℕ) → k < length ts →
    get_or (recorded_starts b ts) k d ≡ b + begin_at ts k
unfolding recorded_starts
start_of b [] k d below = absurd (omega arith)
start_of b (t ∷ ts) zero d below = omega arith
start_of b (t ∷ ts) (suc k) d below =
    let before = length-append (files_of t) (flat_map files_of (take k ts)) in
    start_of (b + count_of t) ts k d (omega arith) ∙ omega (arith, before, length_files t)

-- each file has its bytes
pub length_stream : (max_bytes : ℕ) (ts : List RecordedTransfer) →
    length (stream_of_recorded max_bytes ts).files ≡ length (flat_map files_of ts)
unfolding recorded_of_transfers
length_stream max_bytes ts = length-map (flat_map files_of ts) (λ (file : NamedBytes). file.bytes)

pub begin_is : (max_bytes : ℕ) (ts : List RecordedTransfer) (k : ℕ) → k ≤ length ts →
    begin_of (stream_of_recorded max_bytes ts) k ≡ begin_at ts k
begin_is max_bytes ts k few =
    let s = stream_of_recorded max_bytes ts in
    elim (cases_lt k (length ts)) [
      | inl below ↦ start_of 0 ts k (length s.files) below ∙ omega arith
      | inr past ↦
          let last : k ≡ length ts = omega arith in
          get_or_past (recorded_starts 0 ts) k (length s.files) (omega (arith, length_starts 0 ts))
          ∙ length_stream max_bytes ts ∙ sym (begin_last ts) ∙ ap (begin_at ts) (sym last)
    ]

pub begin_most : (ts : List RecordedTransfer) (k : ℕ) → k < length ts →
    begin_at ts k + count_of (transfer_at ts k) ≤ length (flat_map files_of ts)
begin_most ts k below =
    omega (arith, length-flat_map-take files_of ts k no_transfer below, length_files (transfer_at ts k))

pub are_starts : (max_bytes : ℕ) (ts : List RecordedTransfer) → 0 < length ts →
    let s = stream_of_recorded max_bytes ts in AreStarts s.starts (length s.files)
are_starts max_bytes ts some =
    let s = stream_of_recorded max_bytes ts in
    let count = length_starts 0 ts in
    record {
      some = omega (arith, count);
      first = begin_is max_bytes ts 0 (omega arith);
      rise = λ i below.
          omega (
            arith,
            begin_is max_bytes ts i (omega (arith, count)),
            begin_is max_bytes ts (i + 1) (omega (arith, count)),
            begin_next ts i (omega (arith, count)),
            some_files (transfer_at ts i),
          );
      within = λ i below.
          omega (
            arith,
            begin_is max_bytes ts i (omega (arith, count)),
            begin_most ts i (omega (arith, count)),
            some_files (transfer_at ts i),
            length_stream max_bytes ts,
          );
    }

pub file_is : (max_bytes : ℕ) (ts : List RecordedTransfer) (k m : ℕ) → k < length ts → m < count_of (transfer_at ts k) →
    file_at (stream_of_recorded max_bytes ts) (begin_at ts k + m)
    ≡ (recorded_file (transfer_at ts k).recording (transfer_at ts k).bytes m).bytes
unfolding recorded_of_transfers
file_is max_bytes ts k m below within =
    let d : NamedBytes = record { name = []; bytes = [] } in
    let there : begin_at ts k + m < length (flat_map files_of ts) =
    omega (arith, begin_most ts k below) in
    get_or-map (λ (file : NamedBytes). file.bytes) (flat_map files_of ts) (begin_at ts k + m) d [] there
    ∙ ap (λ (file : NamedBytes). file.bytes) (file_of ts k m d below within)

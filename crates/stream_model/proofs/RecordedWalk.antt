-- The walk of the recorded files of transfers.
use Rattle.std.proofs.Common.{◌≡◌, ℕ, zero, suc, ◌+◌, ◌*◌, ◌<◌, ◌≤◌, List, [], ◌∷◌, ◌++◌, length, get_or, take, sym, ap, subst, ◌∙◌, arith, Result, Ok, None}
use Rattle.std.specs.Prelude.{map}
use Rattle.std.proofs.lemmas.List.{append-nil, length-map, length-take-le, take_all, get_or-map}
use Rattle.std.proofs.lemmas.List.Elements.{All-nil, All-cons}
use Rattle.std.proofs.lemmas.List.FromFn.{fill_by_all}
use Rattle.dada_model.specs.Fields.{HeaderText, HeaderRefusal, header_of, fields_of}
use Rattle.dada_model.specs.Observation.{Observation, observation_in, observation_of}
use Rattle.dada_model.specs.ChangeLaws.{HeadersByFront, HeadersAreText}
use Rattle.obs_plan.specs.Later.{profile_of, later_offset_of}
use Rattle.psr_base.specs.Made.{NamedBytes}
use Rattle.stream_model.specs.Blocks.{joined_data}
use Rattle.stream_model.specs.Recorded.{file_offset, file_header, file_data, recorded_file, recorded_files}
use Rattle.stream_model.specs.RecordedLaws.{EachHeaderHasRoom, HeadersKeepValues, HeadersKeepObservation, RecordedTransfer, stream_of_recorded, data_of_transfers, CanBeRecorded, stream_of_files, recorded_starts, recorded_of_transfers, RecordedFilesGiveTheData, RecordedTransfersGiveTheData}
use Rattle.stream_model.specs.Walk.{Whole, data_of, data_between, file_at, begin_of, transfer_data, walk_data, fields_past, observation_at, header_stop, walk_stop}
use Rattle.stream_model.specs.WalkLaws.{AcceptedIsLater, IsIn, Continues, HeadersContinue, NoStopIsWhole, WholeExactly}
use Rattle.stream_model.proofs.FileBytes.{enough, piece_more, begins_within, header_found, data_found, numbers_of}
use Rattle.stream_model.proofs.FileData.{data_more, data_none}
use Rattle.stream_model.proofs.Itself.{accepted_is}
use Rattle.stream_model.proofs.RecordedPlaces.{no_transfer, transfer_at, count_of, begin_at, some_files, begin_next, placed, length_starts, length_stream, begin_is, begin_most, are_starts, file_is}
use Rattle.stream_model.proofs.Transfers.{joined_all}

-- the laws that this stands on
pub record WalkHolds : Type 0 where
  pub by_front : HeadersByFront
  pub are_text : HeadersAreText
  pub room : EachHeaderHasRoom
  pub keep : HeadersKeepValues
  pub observed : HeadersKeepObservation
  pub itself : AcceptedIsLater
  pub go_on : HeadersContinue
  pub whole : WholeExactly
  pub no_stop : NoStopIsWhole

-- ---- one file

-- the header, the data and the observation of file m of a transfer
record IsRead (t : RecordedTransfer) (o : Observation) (m : ℕ) : Type 0 where
  header : header_of (recorded_file t.recording t.bytes m).bytes ≡ Ok (file_header t.recording m)
  past : data_of (recorded_file t.recording t.bytes m).bytes ≡ file_data t.recording.file_size t.bytes m
  observation : observation_of (fields_of (file_header t.recording m).text)
      ≡ Ok (record o { obs_offset = file_offset t.recording m })

is_read : WalkHolds → (t : RecordedTransfer) (m : ℕ) (can : CanBeRecorded t) → m < count_of t →
    IsRead t can.observation m
unfolding recorded_file
is_read laws t m can below =
    let r = t.recording in
    let numbers = numbers_of t m can below in
    let room = laws.room r can.limit m can.none_refused numbers in
    let back = (laws.keep r m numbers room can.is_header).is_read in
    let piece = file_data r.file_size t.bytes m in
    record {
      header = header_found laws.by_front laws.are_text (file_header r m) piece back;
      past = data_found laws.by_front laws.are_text (file_header r m) piece back;
      observation = laws.observed r m can.observation numbers can.is_observation
          (omega (arith, begins_within r.file_size t.bytes m below, can.offsets));
    }

-- the observation of a file that has a header and is accepted
seen : (file : List ℕ) (header : HeaderText) (o : Observation) → header_of file ≡ Ok header →
    observation_of (fields_of header.text) ≡ Ok o → observation_at file ≡ o
unfolding observation_at
seen file header o is accepted =
    ap (λ (r : Result HeaderText HeaderRefusal). observation_in (fields_past r)) is
    ∙ sym (accepted_is (fields_of header.text) o accepted)

-- ---- the files of a stream

-- each transfer can be recorded
abbrev AllCan : List RecordedTransfer → Type 0
AllCan ts = (k : ℕ) → k < length ts → CanBeRecorded (transfer_at ts k)

file_read : WalkHolds → (max_bytes : ℕ) (ts : List RecordedTransfer) (can : AllCan ts)
    (k m : ℕ) (below : k < length ts) →
    m < count_of (transfer_at ts k) → IsRead (transfer_at ts k) (can k below).observation m
file_read laws max_bytes ts can k m below within = is_read laws (transfer_at ts k) m (can k below) within

-- the data of the first files of a transfer
first_data : WalkHolds → (max_bytes : ℕ) (ts : List RecordedTransfer) → AllCan ts → (k m : ℕ) → k < length ts →
    m ≤ count_of (transfer_at ts k) →
    data_between (stream_of_recorded max_bytes ts).files (begin_at ts k) (begin_at ts k + m)
    ≡ take (m * (transfer_at ts k).recording.file_size) (transfer_at ts k).bytes
first_data laws max_bytes ts can k zero below few =
    let files = (stream_of_recorded max_bytes ts).files in
    let t = transfer_at ts k in
    let b = begin_at ts k in
    let here : b + 0 ≡ b = omega arith in
    let nothing : 0 ≡ 0 * t.recording.file_size = omega arith in
    ap (data_between files b) here ∙ data_none files b ∙ ap (λ (n : ℕ). take n t.bytes) nothing
first_data laws max_bytes ts can k (suc m) below few =
    let s = stream_of_recorded max_bytes ts in
    let t = transfer_at ts k in
    let z = t.recording.file_size in
    let b = begin_at ts k in
    let next : b + suc m ≡ b + m + 1 = omega arith in
    let last : (m + 1) * z ≡ suc m * z = omega arith in
    let there : b + m < length s.files =
    omega (arith, begin_next ts k below, begin_most ts k below, length_stream max_bytes ts, few) in
    let file = file_is max_bytes ts k m below (omega arith) in
    ap (data_between s.files b) next
    ∙ data_more s.files b (b + m) (omega arith) there
    ∙ ap (λ (xs : List ℕ). xs ++ data_of (get_or s.files (b + m) [])) (first_data laws max_bytes ts can k m below (omega
    arith))
    ∙ ap (λ (ys : List ℕ). take (m * z) t.bytes ++ data_of ys) file
    ∙ ap (λ (ys : List ℕ). take (m * z) t.bytes ++ ys) (file_read laws max_bytes ts can k m below (omega arith)).past
    ∙ piece_more z t.bytes m
    ∙ ap (λ (n : ℕ). take n t.bytes) last

-- the data of a transfer
whole_data : WalkHolds → (max_bytes : ℕ) (ts : List RecordedTransfer) → AllCan ts → (k : ℕ) → k < length ts →
    transfer_data (stream_of_recorded max_bytes ts) k ≡ (transfer_at ts k).bytes
whole_data laws max_bytes ts can k below =
    let s = stream_of_recorded max_bytes ts in
    let t = transfer_at ts k in
    let z = t.recording.file_size in
    let from = begin_is max_bytes ts k (omega arith) in
    let to = begin_is max_bytes ts (k + 1) (omega arith) ∙ begin_next ts k below in
    ap (λ (n : ℕ). data_between s.files n (begin_of s (k + 1))) from
    ∙ ap (data_between s.files (begin_at ts k)) to
    ∙ first_data laws max_bytes ts can k (count_of t) below (omega arith)
    ∙ take_all (count_of t * z) t.bytes (enough z t.bytes (can k below).some)

all_data : WalkHolds → (max_bytes : ℕ) (ts : List RecordedTransfer) → AllCan ts →
    walk_data (stream_of_recorded max_bytes ts) ≡ data_of_transfers ts
unfolding walk_data
all_data laws max_bytes ts can =
    let s = stream_of_recorded max_bytes ts in
    let count = length_starts 0 ts in
    sym (fill_by_all (transfer_data s) (data_of_transfers ts) (length s.starts) [] (length-map ts (λ (t :
    RecordedTransfer). t.bytes) ∙ sym count)
    (λ k below.
    let there : k < length ts = omega (arith, count, below) in
    get_or-map (λ (t : RecordedTransfer). t.bytes) ts k no_transfer [] there ∙ sym (whole_data laws max_bytes ts can k
    there)))

-- ---- no file stops the walk

continues_at : WalkHolds → (max_bytes : ℕ) (ts : List RecordedTransfer) → AllCan ts → (k m : ℕ) → k < length ts →
    m < count_of (transfer_at ts k) → Continues (stream_of_recorded max_bytes ts) k (begin_at ts k + m)
continues_at laws max_bytes ts can k m below within =
    let s = stream_of_recorded max_bytes ts in
    let t = transfer_at ts k in
    let r = t.recording in
    let o = (can k below).observation in
    let b = begin_at ts k in
    let it = file_read laws max_bytes ts can k m below within in
    let head = file_read laws max_bytes ts can k 0 below (some_files t) in
    let here : b ≡ b + 0 = omega arith in
    let first_file : file_at s (begin_of s k) ≡ (recorded_file r t.bytes 0).bytes =
    ap (file_at s) (begin_is max_bytes ts k (omega arith) ∙ here) ∙ file_is max_bytes ts k 0 below (some_files t) in
    let first : observation_at (file_at s (begin_of s k)) ≡ record o { obs_offset = file_offset r 0 } =
    ap observation_at first_file ∙ seen (recorded_file r t.bytes 0).bytes (file_header r 0) (record o {
      obs_offset =
          file_offset r 0;
    }) head.header head.observation in
    let before : length (data_between s.files (begin_of s k) (b + m)) ≡ m * r.file_size =
    ap (λ (n : ℕ). length (data_between s.files n (b + m))) (begin_is max_bytes ts k (omega arith))
    ∙ ap (length {A = ℕ}) (first_data laws max_bytes ts can k m below (omega arith))
    ∙ length-take-le (m * r.file_size) t.bytes (begins_within r.file_size t.bytes m within) in
    record {
      header = file_header r m;
      is_header = ap header_of (file_is max_bytes ts k m below within) ∙ it.header;
      goes_on =
          ap (λ (p : Observation). later_offset_of (profile_of p) (fields_of (file_header r m).text)) first
          ∙ laws.itself (fields_of (file_header r m).text) (record o { obs_offset = file_offset r m }) it.observation
          ∙ ap Ok (omega (arith, before, ap (λ (p : Observation). p.obs_offset) first));
    }

never_stops : WalkHolds → (max_bytes : ℕ) (ts : List RecordedTransfer) → AllCan ts → (j : ℕ) →
    j < length (stream_of_recorded max_bytes ts).files → header_stop (stream_of_recorded max_bytes ts) j ≡ None
never_stops laws max_bytes ts can j below =
    let s = stream_of_recorded max_bytes ts in
    let at = placed ts j (omega (arith, length_stream max_bytes ts, below)) in
    let k = at.transfer in
    let starts = are_starts max_bytes ts (omega (arith, at.there)) in
    let from = begin_is max_bytes ts k (omega (arith, at.there)) in
    let to = begin_is max_bytes ts (k + 1) (omega (arith, at.there)) in
    let it : IsIn s k j = record {
      there = omega (arith, length_starts 0 ts, at.there);
      from = omega (arith, from, at.is);
      before = omega (arith, to, begin_next ts k at.there, at.is, at.within);
    } in
    (laws.go_on s k j starts it).1 (subst (λ (n : ℕ). Continues s k n) (sym
    at.is) (continues_at laws max_bytes ts can k at.place at.there at.within))

some_whole : WalkHolds → (max_bytes : ℕ) (ts : List RecordedTransfer) → AllCan ts → 0 < length ts →
    length (joined_data (data_of_transfers ts)) ≤ max_bytes → walk_stop (stream_of_recorded max_bytes ts) ≡ Whole
some_whole laws max_bytes ts can some few =
    let s = stream_of_recorded max_bytes ts in
    let all : data_between s.files 0 (length s.files) ≡ joined_data (data_of_transfers ts) =
    sym (joined_all s (are_starts max_bytes ts some)) ∙ ap joined_data (all_data laws max_bytes ts can) in
    (laws.whole s).1 (
      never_stops laws max_bytes ts can,
      omega (arith, ap (length {A = ℕ}) all, few),
    )

none_whole : WalkHolds → (max_bytes : ℕ) → walk_stop (stream_of_recorded max_bytes []) ≡ Whole
none_whole laws max_bytes =
    let s = stream_of_recorded max_bytes [] in
    laws.no_stop s (λ k below. absurd (omega (arith, length_stream max_bytes [], below)))

each_whole : WalkHolds → (max_bytes : ℕ) (ts : List RecordedTransfer) → AllCan ts →
    length (joined_data (data_of_transfers ts)) ≤ max_bytes → walk_stop (stream_of_recorded max_bytes ts) ≡ Whole
each_whole laws max_bytes [] can few = none_whole laws max_bytes
each_whole laws max_bytes (t ∷ ts) can few = some_whole laws max_bytes (t ∷ ts) can (omega arith) few

pub transfers_give : WalkHolds → RecordedTransfersGiveTheData
transfers_give laws max_bytes ts each few =
    let can : AllCan ts = λ k below. each k no_transfer below in
    (each_whole laws max_bytes ts can few, all_data laws max_bytes ts can)

-- ---- one transfer

one_stream : (max_bytes : ℕ) (t : RecordedTransfer) →
    stream_of_recorded max_bytes (t ∷ []) ≡ stream_of_files max_bytes t
unfolding recorded_of_transfers recorded_starts
one_stream max_bytes t =
    ap (λ (files : List NamedBytes). record {
      files = map (λ (file : NamedBytes). file.bytes) files;
      starts = 0 ∷ [];
      max_bytes = max_bytes;
    }) (append-nil (recorded_files t.recording t.bytes))

one_data : (bytes : List ℕ) → joined_data (bytes ∷ []) ≡ bytes
unfolding joined_data
one_data bytes = append-nil bytes

pub files_give : RecordedTransfersGiveTheData → RecordedFilesGiveTheData
files_give law max_bytes t can few =
    let both = law max_bytes (t ∷ []) (All-cons CanBeRecorded t [] can (All-nil CanBeRecorded)) (omega (
      arith,
      ap (length {A = ℕ}) (one_data t.bytes),
      few,
    )) in
    let same = one_stream max_bytes t in
    (ap walk_stop (sym same) ∙ both.0, ap walk_data (sym same) ∙ both.1)

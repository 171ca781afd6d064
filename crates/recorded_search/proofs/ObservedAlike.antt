-- The transfers of recorded files, as they are searched, are those that were recorded.
use Rattle.std.proofs.Common.{◌≡◌, ℕ, zero, suc, ◌+◌, ◌-◌, ◌<◌, ◌≤◌, true, List, [], ◌∷◌, ◌++◌, length, get_or, take, replicate, Result, Ok, refl, sym, ap, subst, ◌∙◌, arith}
use Rattle.std.specs.List.{flat_map}
use Rattle.std.proofs.lemmas.List.{length-append, length-replicate, length-map, get_or-map, take-append-le, take_more}
use Rattle.std.proofs.lemmas.Grind.{flat_map-append}
use Rattle.std.proofs.lemmas.List.Concat.{get_or-flat_map}
use Rattle.std.proofs.lemmas.List.Folds.{length-flat_map-take}
use Rattle.std.proofs.lemmas.List.FromFn.{fill_by_all, get_or-map-range_with_len, length-map-range_with_len}
use Rattle.dada_model.specs.Fields.{HeaderText, HeaderRefusal, header_of, header_bytes, fields_of}
use Rattle.dada_model.specs.ChangeLaws.{IsReadBack, HeadersAreReadBack, HeadersAreText, HeadersByFront}
use Rattle.dada_model.specs.Laws.{AcceptedByRows}
use Rattle.dada_model.specs.Observation.{Observation, observation_in, observation_of}
use Rattle.psr_base.specs.Made.{NamedBytes}
use Rattle.search_words.specs.Settings.{SettingsSeen, RunSeen, RunInRange}
use Rattle.stream_model.specs.Recorded.{file_count, file_data, file_header, file_offset, recorded_file, recorded_files}
use Rattle.stream_model.specs.RecordedLaws.{EachHeaderHasRoom, HasNumbers, HeadersKeepObservation, HeadersKeepValues, RecordedTransfer, CanBeRecorded, recorded_of_transfers, recorded_starts, stream_of_recorded}
use Rattle.stream_model.specs.Walk.{FileStream, fields_past, observation_at, header_stop, transfer_data, walk_stop}
use Rattle.stream_model.specs.Walk as walk
use Rattle.stream_model.specs.WalkLaws.{AreStarts, AreWalked, IsAccepted, WholeExactly, WalkJoinsData}
use Rattle.search_model.specs.declared.search.Search.{Search}
use Rattle.search_model.specs.Plan.{plan_refusal}
use Rattle.transfer_text.specs.Searched.{ObservedTransfer, searched_text, candidate_total}
use Rattle.dada_recorder.specs.Blocks.{header_or_none}
use Rattle.run_outcome.specs.Firsts.{first_file}
use Rattle.run_outcome.specs.Runs.{Searching, CanBegin, CanSearchFirst, first_observation, first_recording, observed_transfers, stream_for}
use Rattle.run_outcome.specs.Outcomes.{recorded_transfers}
use Rattle.psr_record.specs.Outcome.{IsRecordable}
use Rattle.recorded_search.specs.ReadBack.{HasOffsets, RecordedIsReadBack, RecordedIsObservedAlike, RecordedIsSearchedAlike, RecordedCanBeSearched, NamesRecorded, recorded_stream}
use Rattle.recorded_search.proofs.ReadBack.{can, data_is, recorded_at}

-- ---- the first file of a recorded transfer

abbrev files_of : RecordedTransfer → List NamedBytes
files_of t = recorded_files t.recording t.bytes

length_files : (t : RecordedTransfer) → length (files_of t) ≡ file_count t.recording.file_size t.bytes
unfolding recorded_files
length_files t =
    length-map-range_with_len (recorded_file t.recording t.bytes) 0 (file_count t.recording.file_size t.bytes)

some_files : (t : RecordedTransfer) → 0 < length (files_of t)
unfolding file_count
some_files t = omega (arith, length_files t)

first_of : (t : RecordedTransfer) (d : NamedBytes) → get_or (files_of t) 0 d ≡ recorded_file t.recording t.bytes 0
unfolding recorded_files
first_of t d =
    get_or-map-range_with_len (recorded_file t.recording t.bytes) 0 (file_count t.recording.file_size t.bytes) 0 0 d
    (omega (arith, some_files t, length_files t)) refl

length_starts : (b : ℕ) (ts : List RecordedTransfer) → length (recorded_starts b ts) ≡ length ts
unfolding recorded_starts
length_starts b [] = refl
length_starts b (t ∷ ts) = ap suc (length_starts (b + file_count t.recording.file_size t.bytes) ts)

-- a transfer begins after the files of those before it
start_of : (b : ℕ) (ts : List RecordedTransfer) (k d : ℕ) → k < length ts →
    get_or (recorded_starts b ts) k d ≡ b + length (flat_map files_of (take k ts))
unfolding recorded_starts
start_of b [] k d below = absurd (omega arith)
start_of b (t ∷ ts) zero d below = omega arith
start_of b (t ∷ ts) (suc k) d below =
    let before = length-append (files_of t) (flat_map files_of (take k ts)) in
    start_of (b + file_count t.recording.file_size t.bytes) ts k d (omega arith)
    ∙ omega (arith, before, length_files t)

-- each transfer begins after the one before it, and before the end of all files
begin_next : (ts : List RecordedTransfer) (k : ℕ) (e : RecordedTransfer) → k < length ts →
    length (flat_map files_of (take k ts)) < length (flat_map files_of (take (k + 1) ts))
begin_next ts k e below =
    let t = get_or ts k e in
    let more = ap (λ (xs : List RecordedTransfer). length (flat_map files_of xs)) (take_more ts k e below) in
    let parts = ap (length {A = NamedBytes}) (flat_map-append files_of (take k ts) (t ∷ [])) in
    let both = length-append (flat_map files_of (take k ts)) (files_of t ++ []) in
    let nothing : List NamedBytes = [] in
    let last = length-append (files_of t) nothing in
    omega (arith, more, parts, both, last, some_files t)

are_starts : (max_bytes : ℕ) (ts : List RecordedTransfer) (e : RecordedTransfer) → 0 < length ts →
    let s = stream_of_recorded max_bytes ts in AreStarts s.starts (length s.files)
unfolding recorded_of_transfers
are_starts max_bytes ts e some =
    let s = stream_of_recorded max_bytes ts in
    let all = length-map (flat_map files_of ts) (λ (file : NamedBytes). file.bytes) in
    let count = length_starts 0 ts in
    record {
      some = omega (arith, count, some);
      first = start_of 0 ts 0 (length s.files) some;
      rise = λ i below.
          let here = start_of 0 ts i (length s.files) (omega (arith, count, below)) in
          let next = start_of 0 ts (i + 1) (length s.files) (omega (arith, count, below)) in
          omega (arith, here, next, begin_next ts i e (omega (arith, count, below)));
      within = λ i below.
          let here = start_of 0 ts i (length s.files) (omega (arith, count, below)) in
          let most = length-flat_map-take files_of ts i e (omega (arith, count, below)) in
          omega (arith, here, most, some_files (get_or ts i e), all);
    }

first_file_is : (max_bytes : ℕ) (ts : List RecordedTransfer) (k : ℕ) (e : RecordedTransfer) → k < length ts →
    let t = get_or ts k e in
    first_file (stream_of_recorded max_bytes ts) k ≡ (recorded_file t.recording t.bytes 0).bytes
unfolding recorded_of_transfers
first_file_is max_bytes ts k e below =
    let s = stream_of_recorded max_bytes ts in
    let t = get_or ts k e in
    let d : NamedBytes = record { name = []; bytes = [] } in
    let files = flat_map files_of ts in
    let begin = length (flat_map files_of (take k ts)) in
    let most = length-flat_map-take files_of ts k e below in
    let some = some_files t in
    ap (λ (n : ℕ). get_or s.files n []) (start_of 0 ts k (length s.files) below)
    ∙ get_or-map (λ (file : NamedBytes). file.bytes) files (0 + begin) d [] (omega (arith, most, some))
    ∙ ap (λ (n : ℕ). (get_or files n d).bytes) (omega arith)
    ∙ ap (λ (file : NamedBytes). file.bytes) (get_or-flat_map files_of ts k 0 e d below some ∙ first_of t d)

-- ---- its observation

header_found : HeadersByFront → HeadersAreText → (header : HeaderText) (rest : List ℕ) → IsReadBack header →
    header_of (header_bytes header ++ rest) ≡ Ok header
unfolding header_bytes
header_found front are_text header rest is =
    let count = length-append header.text (replicate (header.size - length header.text) 0) in
    let padding = length-replicate {A = ℕ} (header.size - length header.text) 0 in
    let fits = (are_text header is).fits in
    front (header_bytes header) (header_bytes header ++ rest) header is
    (take-append-le header.size (header_bytes header) rest (omega (arith, count, padding, fits)))

seen : AcceptedByRows → (file : List ℕ) (header : HeaderText) (o : Observation) → header_of file ≡ Ok header →
    observation_of (fields_of header.text) ≡ Ok o → observation_at file ≡ o
unfolding observation_at
seen by_rows file header o is accepted =
    ap (λ (r : Result HeaderText HeaderRefusal). observation_in (fields_past r)) is
    ∙ sym ((by_rows (fields_of header.text) o).0 accepted).0

-- the laws that this stands on
pub record Laws : Type 0 where
  pub back : HeadersAreReadBack
  pub by_front : HeadersByFront
  pub are_text : HeadersAreText
  pub by_rows : AcceptedByRows
  pub whole : WholeExactly
  pub joins : WalkJoinsData
  pub room : EachHeaderHasRoom
  pub keep : HeadersKeepValues
  pub observed : HeadersKeepObservation

-- the header of the first file, and its observation: the transfer's, at the recording's first offset
record IsFirstRead (t : RecordedTransfer) (o : Observation) : Type 0 where
  header : header_of (recorded_file t.recording t.bytes 0).bytes ≡ Ok (file_header t.recording 0)
  observation : observation_of (fields_of (file_header t.recording 0).text)
      ≡ Ok (record o { obs_offset = t.recording.offset })

first_read : Laws → (t : RecordedTransfer) (can : CanBeRecorded t) → IsFirstRead t can.observation
unfolding recorded_file
first_read laws t can =
    let r = t.recording in
    let numbers : HasNumbers r 0 = record {
      offset = omega (arith, can.offsets);
      number = omega arith;
      size = can.size;
    } in
    let same : file_offset r 0 ≡ r.offset = omega arith in
    let room = laws.room r can.limit 0 can.none_refused numbers in
    let back = (laws.keep r 0 numbers room can.is_header).is_read in
    record {
      header = header_found laws.by_front laws.are_text (file_header r 0) (file_data r.file_size t.bytes 0) back;
      observation = laws.observed r 0 can.observation numbers can.is_observation (omega (arith, can.offsets))
          ∙ ap (λ (n : ℕ). Ok (record can.observation { obs_offset = n })) same;
    }

-- ---- all transfers

module _ (laws : Laws) (read : RecordedIsReadBack) (s : RunSeen) (w : FileStream) (range : RunInRange s)
    (recording : s.recording ≡ true) (recordable : IsRecordable s w) (offsets : HasOffsets w) where
  abbrev transfers : List RecordedTransfer
  transfers = recorded_transfers w s.file_size (length w.starts) (transfer_data w)

  count : length transfers ≡ length w.starts
  count = length-map-range_with_len (recorded_at s w) 0 (length w.starts)

  same_count : length (recorded_stream s w).starts ≡ length w.starts
  same_count = length_starts 0 transfers ∙ count

  -- each recorded transfer can be read again
  may : (k : ℕ) → k < length w.starts → CanBeRecorded (recorded_at s w k)
  may = can laws.back laws.whole laws.joins s w range recording recordable offsets

  first_file_again : (k : ℕ) → k < length w.starts →
      first_file (recorded_stream s w) k
      ≡ (recorded_file (first_recording w s.file_size k) (transfer_data w k) 0).bytes
  first_file_again k near =
      let t = recorded_at s w k in
      let is : get_or transfers k t ≡ t =
      get_or-map-range_with_len (recorded_at s w) 0 (length w.starts) k k t near (omega arith) in
      first_file_is w.max_bytes transfers k t (omega (arith, count, near))
      ∙ ap (λ (r : RecordedTransfer). (recorded_file r.recording r.bytes 0).bytes) is

  accepted_again : (k : ℕ) → k < length w.starts → IsAccepted (first_file (recorded_stream s w) k)
  accepted_again k near =
      let t = recorded_at s w k in
      let read = first_read laws t (may k near) in
      record {
        header = file_header t.recording 0;
        observation = record (may k near).observation { obs_offset = t.recording.offset };
        is_header = ap header_of (first_file_again k near) ∙ read.header;
        is_observation = read.observation;
      }

  same_observation : (k : ℕ) → k < length w.starts →
      first_observation (recorded_stream s w) k ≡ first_observation w k
  same_observation k near =
      let t = recorded_at s w k in
      let a = recordable.begins.accepted.accepted k near in
      let read = first_read laws t (may k near) in
      let header : header_of (first_file w k) ≡ Ok t.recording.header =
      a.is_header ∙ ap Ok (sym (ap header_or_none a.is_header)) in
      let mine = seen laws.by_rows (first_file w k) t.recording.header (may k near).observation header
      (may k near).is_observation in
      seen laws.by_rows (first_file (recorded_stream s w) k) (file_header t.recording 0)
      (record (may k near).observation { obs_offset = t.recording.offset })
      (ap header_of (first_file_again k near) ∙ read.header) read.observation
      ∙ ap (λ (o : Observation). record (may k near).observation { obs_offset = o.obs_offset }) mine
      ∙ sym mine

  same_data : (k : ℕ) → k < length w.starts → transfer_data (recorded_stream s w) k ≡ transfer_data w k
  same_data k near =
      let again = recorded_stream s w in
      let both = (read s w range recording recordable offsets).2 in
      let there : k < length again.starts = omega (arith, same_count, near) in
      sym (get_or-map-range_with_len (transfer_data again) 0 (length again.starts) k k [] there (omega arith))
      ∙ ap (λ (xs : List (List ℕ)). get_or xs k []) (sym (data_is again) ∙ both ∙ data_is w)
      ∙ get_or-map-range_with_len (transfer_data w) 0 (length w.starts) k k [] near (omega arith)

  abbrev observed_at : FileStream → ℕ → ObservedTransfer
  observed_at v k = record { observation = first_observation v k; bytes = transfer_data v k }

  alike_at : (k : ℕ) → k < length w.starts → observed_at (recorded_stream s w) k ≡ observed_at w k
  alike_at k near =
      let again = recorded_stream s w in
      ap (λ (o : Observation). record { observation = o; bytes = transfer_data again k }) (same_observation k near)
      ∙ ap (λ (bytes : List ℕ). record { observation = first_observation w k; bytes = bytes }) (same_data k near)

  alike : observed_transfers (recorded_stream s w) ≡ observed_transfers w
  alike =
      let again = recorded_stream s w in
      let d = observed_at w 0 in
      sym (fill_by_all (observed_at again) (observed_transfers w) (length again.starts) d
      (length-map-range_with_len (observed_at w) 0 (length w.starts) ∙ sym same_count)
      (λ k below.
      let near : k < length w.starts = omega (arith, same_count, below) in
      get_or-map-range_with_len (observed_at w) 0 (length w.starts) k k d near (omega arith)
      ∙ sym (alike_at k near)))

  -- nothing stands against a search of the recorded files that does not stand against that of all data
  begins_again : (search : Search) → CanSearchFirst search w (length w.starts) →
      let again = recorded_stream s w in AreWalked again × CanSearchFirst search again (length again.starts)
  begins_again search fits =
      let again = recorded_stream s w in
      let some = recordable.begins.accepted.starts.some in (
        record {
          starts = are_starts w.max_bytes transfers (recorded_at s w 0) (omega (arith, count, some));
          accepted = λ k below. accepted_again k (omega (arith, same_count, below));
        },
        λ k below.
            let near : k < length w.starts = omega (arith, same_count, below) in
            ap (λ (o : Observation). plan_refusal o search) (same_observation k near) ∙ fits k near,
      )

pub observed_alike : Laws → RecordedIsReadBack → RecordedIsObservedAlike
observed_alike laws read s w range recording recordable offsets =
    alike laws read s w range recording recordable offsets

abbrev stream_of : List (List ℕ) → List ℕ → ℕ → FileStream
stream_of files starts max_bytes = record { files = files; starts = starts; max_bytes = max_bytes }

-- what is searched has no other part in a stream than its files and where transfers begin
pub searched_alike : RecordedIsObservedAlike → RecordedIsSearchedAlike
searched_alike law s w range recording recordable offsets again files names search =
    let same = ap (λ (bytes : List (List ℕ)). stream_of bytes again.starts w.max_bytes) names.bytes
    ∙ ap (λ (starts : List ℕ). stream_of (recorded_stream s w).files starts w.max_bytes) names.transfers in
    let alike : observed_transfers (stream_for again files) ≡ observed_transfers w =
    ap observed_transfers same ∙ law s w range recording recordable offsets in
    (ap (searched_text search) alike, ap (candidate_total search) alike)

named_stream : (s : RunSeen) (w : FileStream) (again : SettingsSeen) (files : List (List ℕ)) →
    NamesRecorded s w again files →
    stream_for again files ≡ record (recorded_stream s w) { max_bytes = again.max_bytes }
named_stream s w again files names =
    ap (λ (bytes : List (List ℕ)). stream_of bytes again.starts again.max_bytes) names.bytes
    ∙ ap (λ (starts : List ℕ). stream_of (recorded_stream s w).files starts again.max_bytes) names.transfers

-- a walk that is whole is so within a greater limit
whole_within : WholeExactly → (v : FileStream) (limit : ℕ) → v.max_bytes ≤ limit → walk_stop v ≡ walk.Whole →
    walk_stop (record v { max_bytes = limit }) ≡ walk.Whole
unfolding header_stop
whole_within exactly v limit most whole =
    let all = (exactly v).0 whole in
    (exactly (record v { max_bytes = limit })).1 (all.0, omega (arith, all.1, most))

pub can_be_searched : Laws → RecordedIsReadBack → RecordedCanBeSearched
can_be_searched laws read s w range recording recordable offsets again files names most unrecorded fits =
    let both = begins_again laws read s w range recording recordable offsets again.search fits in
    let whole = (read s w range recording recordable offsets).1 in
    let P : FileStream → Type 0 = λ v. CanBegin Searching again v × (walk_stop v ≡ walk.Whole) in
    subst P (sym (named_stream s w again files names)) (
      record {
        accepted = record { starts = both.0.starts; accepted = both.0.accepted };
        searched = both.1;
        recorded = λ records. absurd cc;
      },
      whole_within laws.whole (recorded_stream s w) again.max_bytes most whole,
    )

-- The files of a recording are read back.
use Rattle.std.proofs.Common.{◌≡◌, ℕ, ◌+◌, ◌<◌, ◌≤◌, true, List, [], ◌∷◌, length, map, get_or, Ok, refl, sym, ap, ◌∙◌, subst, arith}
use Rattle.std.specs.Prelude.{All}
use Rattle.std.specs.List.{range_with_len}
use Rattle.std.proofs.lemmas.List.Elements.{All-map}
use Rattle.std.proofs.lemmas.List.Folds.{length-flat_map-take}
use Rattle.std.proofs.lemmas.List.FromFn.{get_or-range_with_len, get_or-map-range_with_len, length-range_with_len, length-map-range_with_len}
use Rattle.dada_model.specs.Fields.{HeaderText, header_of, fields_of}
use Rattle.dada_model.specs.ChangeLaws.{IsReadBack, HeadersAreReadBack}
use Rattle.dada_model.specs.Observation.{observation_of}
use Rattle.search_words.specs.Settings.{RunSeen, RunInRange}
use Rattle.stream_model.specs.Walk.{FileStream, transfer_data, walk_data}
use Rattle.stream_model.specs.WalkLaws.{WholeExactly, WalkJoinsData}
use Rattle.stream_model.specs.Blocks.{joined_data}
use Rattle.stream_model.specs.RecordedLaws.{RecordedTransfer, CanBeRecorded, RecordedTransfersGiveTheData, data_of_transfers}
use Rattle.dada_recorder.specs.Blocks.{header_or_none}
use Rattle.run_outcome.specs.Firsts.{first_file}
use Rattle.run_outcome.specs.Runs.{first_recording}
use Rattle.run_outcome.specs.Outcomes.{recorded_transfers}
use Rattle.psr_record.specs.Outcome.{IsRecordable}
use Rattle.recorded_search.specs.ReadBack.{HasOffsets, RecordedIsReadBack}

-- ---- lists over a range

all_range : (P : ℕ → Type 0) (n : ℕ) → ((k : ℕ) → k < n → P k) → All P (range_with_len 0 n)
all_range P n each = λ k d near.
    let long = length-range_with_len 0 n in
    let below : k < n = omega arith in
    let same : 0 + k ≡ k = omega arith in
    subst P (sym (get_or-range_with_len 0 n k d below ∙ same)) (each k below)

map_twice : {X Y : Type 0} (f : ℕ → X) (g : X → Y) (xs : List ℕ) → map g (map f xs) ≡ map (λ k. g (f k)) xs
map_twice f g [] = refl
map_twice f g (x ∷ xs) = ap (λ ys. g (f x) ∷ ys) (map_twice f g xs)

-- ---- the data

pub data_is : (w : FileStream) → walk_data w ≡ map (transfer_data w) (range_with_len 0 (length w.starts))
unfolding walk_data
data_is w = refl

-- a transfer has no more data than all of them
within : (transfers : List (List ℕ)) (k : ℕ) (d : List ℕ) → k < length transfers →
    length (get_or transfers k d) ≤ length (joined_data transfers)
unfolding joined_data
within transfers k d near =
    let most = length-flat_map-take (λ (bytes : List ℕ). bytes) transfers k d near in
    omega arith

-- a transfer as it is recorded
abbrev pub recorded_at : RunSeen → FileStream → ℕ → RecordedTransfer
recorded_at s w k = record { recording = first_recording w s.file_size k; bytes = transfer_data w k }

module _ (read : HeadersAreReadBack) (exactly : WholeExactly) (joins : WalkJoinsData) (s : RunSeen)
    (w : FileStream) (range : RunInRange s) (recording : s.recording ≡ true) (recordable : IsRecordable s w)
    (offsets : HasOffsets w) where
  total : length (joined_data (walk_data w)) ≤ w.max_bytes
  total =
      let all = (exactly w).0 recordable.whole in
      subst (λ (l : List ℕ). length l ≤ w.max_bytes) (sym (joins w recordable.begins.accepted.starts)) all.1

  fits : (k : ℕ) → k < length w.starts → length (transfer_data w k) ≤ w.max_bytes
  fits k near =
      let xs = map (transfer_data w) (range_with_len 0 (length w.starts)) in
      let long = length-map-range_with_len (transfer_data w) 0 (length w.starts) in
      let most = within xs k [] (omega arith) in
      let here : get_or xs k [] ≡ transfer_data w k =
      get_or-map-range_with_len (transfer_data w) 0 (length w.starts) k k [] near (omega arith) in
      let less = ap (length {A = ℕ}) here in
      let all = subst (λ (l : List (List ℕ)). length (joined_data l) ≤ w.max_bytes) (data_is w) total in
      omega arith

  pub can : (k : ℕ) → k < length w.starts → CanBeRecorded (recorded_at s w k)
  can k near =
      let a = recordable.begins.accepted.accepted k near in
      let is : header_or_none (header_of (first_file w k)) ≡ a.header = ap header_or_none a.is_header in
      let least = range.least_file_size in
      let most = range.most_file_size in
      record {
        is_header = subst IsReadBack (sym is) (read (first_file w k) a.header a.is_header);
        observation = a.observation;
        is_observation = subst (λ (h : HeaderText). observation_of (fields_of h.text) ≡ Ok a.observation) (sym is)
            a.is_observation;
        some = omega arith;
        size = omega arith;
        limit = w.max_bytes;
        none_refused = recordable.begins.recorded recording k near;
        few = fits k near;
        offsets = offsets k near;
      }

  all_can : All CanBeRecorded (recorded_transfers w s.file_size (length w.starts) (transfer_data w))
  all_can = All-map CanBeRecorded (recorded_at s w) (range_with_len 0 (length w.starts))
      (all_range (λ k. CanBeRecorded (recorded_at s w k)) (length w.starts) can)

  data_same : data_of_transfers (recorded_transfers w s.file_size (length w.starts) (transfer_data w)) ≡ walk_data w
  data_same = map_twice (recorded_at s w) (λ (t : RecordedTransfer). t.bytes) (range_with_len 0 (length w.starts))
      ∙ sym (data_is w)

pub read_back : HeadersAreReadBack → WholeExactly → WalkJoinsData → RecordedTransfersGiveTheData → RecordedIsReadBack
read_back read exactly joins law s w range recording recordable offsets =
    let same = data_same read exactly joins s w range recording recordable offsets in
    let few = subst (λ (l : List (List ℕ)). length (joined_data l) ≤ w.max_bytes) (sym same)
    (total read exactly joins s w range recording recordable offsets) in
    let both = law w.max_bytes (recorded_transfers w s.file_size (length w.starts) (transfer_data w))
    (all_can read exactly joins s w range recording recordable offsets) few in
    (refl, both.0, both.1 ∙ same)

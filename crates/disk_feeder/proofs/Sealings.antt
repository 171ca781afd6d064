-- What a feeder stands for once a block is sealed.
use Rattle.std.proofs.Common.{◌≡◌, ℕ, suc, ◌+◌, ◌-◌, ◌*◌, ◌<◌, ◌≤◌, List, [], ◌∷◌, ◌++◌, Some, None, length, take, drop, get_or, map, refl, sym, ap, ◌∙◌, Option, append_assoc, arith}
use Rattle.std.specs.Prelude.{slice_get}
use Rattle.std.proofs.lemmas.List.{append-nil, take_all, take_at, drop_all, take_more, map-append, get_or_past}
use Rattle.std.proofs.lemmas.Option.{get_or_from_slice_get}
use Rattle.std.proofs.lemmas.List.FromFn.{length-map-range_with_len}
use Rattle.psr_base.specs.Told.{Told}
use Rattle.dada_model.specs.Fields.{HeaderText}
use Rattle.ring_blocks.specs.declared.Entry.{Entry}
use Rattle.ring_blocks.specs.declared.Mark.TheVariants.{More, End, Cut}
use Rattle.dada_hdu.specs.Answers.{entry, header_entry}
use Rattle.stream_model.specs.Blocks.{full_entry, last_entry, cut_entry, full_entries, transfer_entries, whole_stream, joined_data, abandoned_stream}
use Rattle.stream_model.specs.BlockLaws.{StreamsGrow}
use Rattle.stream_model.specs.Walk as walk
use Rattle.stream_model.specs.Walk.{FileStream, walk_data, walk_stop, walk_stream, stream_to, transfer_data}
use Rattle.stream_model.specs.WalkLaws.{NoStopIsWhole}
use Rattle.disk_feeder.specs.declared.answers.FeedEnd.{FeedEnd}
use Rattle.disk_feeder.specs.declared.answers.FeedEnd.TheVariants.{Whole, ReadFault}
use Rattle.disk_feeder.specs.declared.due.Due.{Due}
use Rattle.disk_feeder.specs.declared.due.Due.TheVariants.{Full, Last, Stopped}
use Rattle.disk_feeder.specs.declared.place.Place.{Place}
use Rattle.disk_feeder.specs.Ends.{end_of}
use Rattle.disk_feeder.specs.Plan.{Plan, stream_of, AreToldTo, opened_at, begin_at}
use Rattle.disk_feeder.specs.Reading.{HasRead, HasEnded, IsFront, EndsReading}
use Rattle.disk_feeder.specs.Sources.{IsEarly}
use Rattle.disk_feeder.specs.Filling.{IsFilled}
use Rattle.disk_feeder.specs.Feeding.{header_entries, IsWalkEnd, EndIs, StopsWalkAt, SealedAs, IsEnded, IsCutAt, IsCutPast}
use Rattle.disk_feeder.proofs.Needed.{told_opened}
use Rattle.disk_feeder.proofs.Fulls.{quotient_is, within_is}

-- ---- a full block

pub full_sealed : (plan : Plan) (told : Told) (at : Place) (block : List ℕ) (held : ℕ) (blocks blocks' : List Entry) →
    0 < length block → IsFilled plan told at block held (Some Full) blocks →
    blocks' ≡ blocks ++ entry More block ∷ [] → IsFilled plan told at block 0 None blocks'
unfolding full_entries
full_sealed plan told at block held blocks blocks' some f is =
    let size = length block in
    let has = f.next.0 in
    let whole = f.next.1 in
    let count = f.count in
    let rest : drop (f.fulls * size) f.current ≡ block =
    sym f.kept ∙ take_all held block (omega arith) in
    let one : take size (drop (f.fulls * size) f.current) ≡ block = ap (take size) rest ∙ take_all size block (omega
    arith) in
    let next : suc f.fulls * size ≡ f.fulls * size + size = omega arith in
    record {
      before = f.before;
      current = f.current;
      fulls = suc f.fulls;
      sealed = is ∙ ap (λ (es : List Entry). es ++ full_entry block ∷ []) f.sealed
          ∙ append_assoc (whole_stream size f.before) (full_entries size f.current f.fulls) (full_entry block ∷ [])
          ∙ ap (λ (bytes : List ℕ). whole_stream size f.before ++ (full_entries size f.current f.fulls ++ full_entry
          bytes
          ∷ [])) (sym one);
      count = omega arith;
      kept = sym (drop_all (suc f.fulls * size) f.current (omega arith));
      next = (has, some);
    }

-- a block that holds nothing is any of its size
pub emptied : (plan : Plan) (told : Told) (at : Place) (block block' : List ℕ) (due : Option Due)
    (blocks : List Entry) → length block' ≡ length block → IsFilled plan told at block 0 due blocks →
    IsFilled plan told at block' 0 due blocks
emptied plan told at block block' due blocks same f =
    record {
      before = f.before;
      current = f.current;
      fulls = f.fulls;
      sealed = rw same f.sealed;
      count = rw same f.count;
      kept = rw same f.kept;
      next = rw same f.next;
    }

-- ---- the rest of a transfer

-- its entries
last_entries : (size : ℕ) (current : List ℕ) (fulls held : ℕ) → fulls * size + held ≡ length current → held < size →
    transfer_entries size current ≡ full_entries size current fulls ++ last_entry (drop (fulls * size) current) ∷ []
unfolding transfer_entries
last_entries size current fulls held count less =
    ap (λ (k : ℕ). full_entries size current k ++ last_entry (drop (k * size) current) ∷ [])
    (quotient_is (length current) fulls held size count less)

-- the blocks of one transfer more
transfer_sealed : StreamsGrow → (size : ℕ) (before : List (List ℕ)) (current bytes : List ℕ) (fulls held : ℕ)
    (blocks blocks' : List Entry) → fulls * size + held ≡ length current → held < size →
    bytes ≡ drop (fulls * size) current →
    blocks ≡ whole_stream size before ++ full_entries size current fulls →
    blocks' ≡ blocks ++ entry End bytes ∷ [] → blocks' ≡ whole_stream size (before ++ current ∷ [])
transfer_sealed grow size before current bytes fulls held blocks blocks' count less kept sealed is =
    rw (is, sealed, kept, grow.transfer size before current, last_entries size current fulls held count less)
    (append_assoc (whole_stream size before) (full_entries size current fulls)
    (last_entry (drop (fulls * size) current) ∷ []))

-- the next transfer begins
pub next_begun : (plan : Plan) (told : Told) (at : Place) (block : List ℕ) (before : List (List ℕ))
    (blocks : List Entry) → 0 < length block → HasRead plan told at before [] →
    blocks ≡ whole_stream (length block) before → IsFilled plan told at block 0 None blocks
unfolding full_entries
next_begun plan told at block before blocks some has is = record {
  before = before;
  current = [];
  fulls = 0;
  sealed = is ∙ sym (append-nil (whole_stream (length block) before));
  count = omega arith;
  kept = sym (drop_all (0 * length block) [] (omega arith));
  next = (has, some);
}

-- what is read after the last block of a transfer
pub record LastSealed (plan : Plan) (told : Told) (after : Place) (size : ℕ) (blocks : List Entry) : Type 0 where
  pub before : List (List ℕ)
  pub has : HasRead plan told after before []
  pub stream : blocks ≡ whole_stream size before

pub last_sealed : StreamsGrow → (plan : Plan) (told : Told) (at after : Place) (block : List ℕ) (held : ℕ)
    (blocks blocks' : List Entry) → IsFilled plan told at block held (Some Last) blocks →
    ((before : List (List ℕ)) (current : List ℕ) → HasRead plan told at before current →
    HasRead plan told after (before ++ current ∷ []) []) →
    blocks' ≡ blocks ++ entry End (take held block) ∷ [] → LastSealed plan told after (length block) blocks'
last_sealed grow plan told at after block held blocks blocks' f next is = record {
  before = f.before ++ f.current ∷ [];
  has = next f.before f.current f.next.0;
  stream = transfer_sealed grow (length block) f.before f.current (take held block) f.fulls held blocks blocks' f.count
      f.next.1 f.kept f.sealed is;
}

-- ---- the last transfer

bare : (n : ℕ) → n + length {A = ℕ} [] ≡ n
bare n = omega arith

-- all files were passed
whole_at : NoStopIsWhole → (plan : Plan) (told : Told) (after : Place) (before : List (List ℕ)) (size : ℕ)
    (blocks : List Entry) (files : List (List ℕ)) → AreToldTo (opened_at after) told plan files →
    HasRead plan told after before [] →
    length plan.starts ≡ after.transfer → after.file ≡ length plan.names →
    blocks ≡ whole_stream size before → IsWalkEnd (stream_of plan files) size blocks (Whole after.total)
unfolding walk_stream walk_data
whole_at whole plan told after before size blocks files are has all last is =
    let s = stream_of plan files in
    let was = has.known files are in
    let count = are.count in
    let stop : walk_stop s ≡ walk.Whole = whole s (λ k below. was.passed k (omega arith)) in
    let data_is : before ≡ walk_data s =
    was.earlier ∙ ap (λ (n : ℕ). take n (walk_data s)) (sym all) ∙ all_of s in
    let total : after.total ≡ length (joined_data (walk_data s)) =
    sym has.total ∙ bare (length (joined_data before)) ∙ ap (λ (b : List (List ℕ)). length (joined_data b)) data_is in
    record {
      is = ap Whole total
          ∙ ap (end_of (length (joined_data (walk_data s))) plan.max_bytes) (sym stop);
      stream = is ∙ ap (whole_stream size) data_is ∙ ap (stream_to size s) (sym stop);
    }
  where
    all_of : (s : FileStream) → take (length s.starts) (walk_data s) ≡ walk_data s
    all_of s = take_all (length s.starts) (walk_data s)
        (omega (arith, length-map-range_with_len (transfer_data s) 0 (length s.starts)))

pub whole_sealed : NoStopIsWhole → (plan : Plan) (told : Told) (after : Place) (size : ℕ) (headers blocks : List Entry)
    →
    LastSealed plan told after size blocks → length plan.starts ≡ after.transfer →
    length plan.headers ≡ length plan.starts →
    after.file ≡ begin_at plan.starts (length plan.names) after.transfer →
    headers ≡ header_entries (take after.transfer plan.headers) → after.total ≤ plan.max_bytes →
    IsEnded plan told after size headers blocks (Whole after.total)
whole_sealed whole plan told after size headers blocks f all headed at_begin sealed within =
    let has = f.has in
    let total = has.total in
    let past : after.file ≡ length plan.names =
    at_begin ∙ get_or_past plan.starts after.transfer (length plan.names) (omega arith) in
    record {
      before = f.before;
      current = [];
      few = omega arith;
      sealed = (
        f.stream,
        has.transfers ∙ sym all,
        sealed ∙ ap header_entries (take_all after.transfer plan.headers (omega arith)),
        sym total ∙ bare (length (joined_data f.before)),
      );
      passed = has.passed;
      last = λ bytes is. past;
      there = λ other. absurd (other after.total refl);
      names = tt;
      known = λ files are.
          whole_at whole plan told after f.before size blocks files (told_opened after told plan files are) has all past
          f.stream;
      stops = λ files are. tt;
    }

-- ---- a stream that ends early

cut_stream : (size max_bytes : ℕ) (before : List (List ℕ)) (current : List ℕ) (fulls held : ℕ)
    (blocks blocks' : List Entry) → fulls * size + held ≡ length current → held < size →
    length (joined_data before) + length current ≤ max_bytes →
    blocks ≡ whole_stream size before ++ full_entries size current fulls →
    blocks' ≡ blocks ++ entry Cut [] ∷ [] → blocks' ≡ abandoned_stream size max_bytes before current
unfolding abandoned_stream
cut_stream size max_bytes before current fulls held blocks blocks' count less few sealed is =
    is
    ∙ ap (λ (es : List Entry). es ++ cut_entry ∷ []) sealed
    ∙ append_assoc (whole_stream size before) (full_entries size current fulls) (cut_entry ∷ [])
    ∙ ap (λ (k : ℕ). whole_stream size before ++ (full_entries size current k ++ cut_entry ∷ []))
    (sym (within_is size max_bytes fulls held before current count less few))

-- the end of the files where it is that of the walk
ends_known : (s : FileStream) (at : Place) (before : List (List ℕ)) (current : List ℕ) (size fulls held : ℕ)
    (blocks sealed : List Entry) (end : FeedEnd) → EndsReading s at before current (size - held) end →
    fulls * size + held ≡ length current → held < size →
    sealed ≡ whole_stream size before ++ full_entries size current fulls → blocks ≡ sealed ++ cut_entry ∷ [] →
    blocks ≡ abandoned_stream size s.max_bytes before current → EndIs s size blocks end
ends_known s at before current size fulls held blocks sealed (Whole bytes) ends count less are cut is = absurd ends
ends_known s at before current size fulls held blocks sealed ReadFault ends count less are cut is =
    record {
      transfer = at.transfer;
      read = length current;
      there = ends.there;
      front = whole_stream size before ++ full_entries size current fulls;
      cut = cut ∙ ap (λ (es : List Entry). es ++ cut_entry ∷ []) are;
      begins = ends.begins size fulls (omega arith) (omega arith);
      stream = rw (
        ap (take (length current)) ends.front,
        take_at current ends.more (length current) refl,
        ← ends.earlier,
      ) is;
    }
ends_known s at before current size fulls held blocks sealed end ends count less are cut is =
    record { is = ends.is; stream = is ∙ sym (ends.blocks size fulls held count (omega arith) (omega arith)) }

-- and its file is that of the place
ends_there : (s : FileStream) (at : Place) (before : List (List ℕ)) (current : List ℕ) (room : ℕ) (end : FeedEnd) →
    EndsReading s at before current room end → StopsWalkAt end s at.file
ends_there s at before current room (Whole bytes) ends = tt
ends_there s at before current room ReadFault ends = tt
ends_there s at before current room end ends = ends.stops

sealed_early : (plan : Plan) (size : ℕ) (before : List (List ℕ)) (current : List ℕ) (headers blocks : List Entry)
    (end : FeedEnd) → IsEarly plan end → blocks ≡ abandoned_stream size plan.max_bytes before current →
    length before < length plan.starts → headers ≡ header_entries (take (length before + 1) plan.headers) →
    SealedAs plan size before current headers blocks end
sealed_early plan size before current headers blocks (Whole bytes) early is less heads = absurd early
sealed_early plan size before current headers blocks end early is less heads = (is, less, heads, early)

-- an early end is not that of all data
not_early : (plan : Plan) (end : FeedEnd) (bytes : ℕ) → IsEarly plan end → end ≡ Whole bytes → ⊥
not_early plan end bytes early whole = rw whole at early

pub cut_sealed : (plan : Plan) (told : Told) (at : Place) (block : List ℕ) (held : ℕ) (end : FeedEnd)
    (headers blocks blocks' : List Entry) → IsFilled plan told at block held (Some (Stopped end)) blocks →
    at.total ≤ plan.max_bytes → at.transfer < length plan.starts →
    headers ≡ header_entries (take (at.transfer + 1) plan.headers) → blocks' ≡ blocks ++ entry Cut [] ∷ [] →
    IsEnded plan told at (length block) headers blocks' end
cut_sealed plan told at block held end headers blocks blocks' f within there heads is =
    let size = length block in
    let counts = f.next.0 in
    let total = counts.total in
    let transfers = counts.transfers in
    let stream = cut_stream size plan.max_bytes f.before f.current f.fulls held blocks blocks' f.count f.next.1 (omega
    arith) f.sealed is in
    record {
      before = f.before;
      current = f.current;
      few = omega arith;
      sealed = sealed_early plan size f.before f.current headers blocks' end f.next.3.early stream (omega
          arith)
          (heads ∙ ap (λ (n : ℕ). header_entries (take (n + 1) plan.headers)) (sym transfers));
      passed = f.next.2.passed;
      last = λ bytes whole. absurd (not_early plan end bytes f.next.3.early whole);
      there = λ other. f.next.3.there;
      names = f.next.3.names;
      known = λ files are.
          ends_known (stream_of plan files) at f.before f.current size f.fulls held blocks' blocks end
          (f.next.2.ends files are) f.count f.next.1 f.sealed is stream;
      stops = λ files are.
          ends_there (stream_of plan files) at f.before f.current (size - held) end (f.next.2.ends files are);
    }

-- where a fault ended it, its full blocks are those of the data that were read
pub cut_at : (plan : Plan) (told : Told) (at : Place) (block : List ℕ) (held : ℕ) (end : FeedEnd)
    (blocks blocks' : List Entry) → IsFilled plan told at block held (Some (Stopped end)) blocks →
    at.total ≤ plan.max_bytes → blocks' ≡ blocks ++ entry Cut [] ∷ [] → end ≡ ReadFault → (files : List (List ℕ)) →
    AreToldTo (opened_at at) told plan files → IsCutAt (stream_of plan files) at (length block) blocks'
cut_at plan told at block held end blocks blocks' f within is failed files are =
    let size = length block in
    let s = stream_of plan files in
    let counts = f.next.0 in
    let total = counts.total in
    let since = counts.since in
    let ended : HasEnded plan told at f.before f.current (size - held) ReadFault = rw (← failed) f.next.2 in
    let front : IsFront s at f.before f.current = ended.ends files are in
    let stream = cut_stream size plan.max_bytes f.before f.current f.fulls held blocks blocks' f.count f.next.1 (omega
    arith) f.sealed is in
    record {
      inside = front.inside;
      passed = front.passed;
      judged = front.judged;
      few = omega (arith, ap (λ (b : List (List ℕ)). length (joined_data b)) front.earlier);
      stream = stream
          ∙ ap (λ (b : List (List ℕ)). abandoned_stream size plan.max_bytes b f.current) front.earlier
          ∙ ap (abandoned_stream size plan.max_bytes (take at.transfer (walk_data s)))
          (sym (ap (take (length f.current)) front.front ∙ take_at f.current front.more (length f.current) refl))
          ∙ ap (λ (n : ℕ). abandoned_stream size plan.max_bytes (take at.transfer (walk_data s))
          (take n (transfer_data s at.transfer))) since;
    }

-- and these begin with those of the files before, whether or not the file at the place is told
pub cut_past : (plan : Plan) (told : Told) (at : Place) (block : List ℕ) (held : ℕ) (end : FeedEnd)
    (blocks blocks' : List Entry) → IsFilled plan told at block held (Some (Stopped end)) blocks →
    at.total ≤ plan.max_bytes → blocks' ≡ blocks ++ entry Cut [] ∷ [] →
    IsCutPast plan told at (length block) blocks'
cut_past plan told at block held end blocks blocks' f within is =
    let counts = f.next.0 in
    let total = counts.total in
    record {
      inside = f.next.2.inside;
      before = f.before;
      current = f.current;
      transfers = counts.transfers;
      since = counts.since;
      begin = f.next.2.begin;
      few = omega arith;
      stream = cut_stream (length block) plan.max_bytes f.before f.current f.fulls held blocks blocks' f.count f.next.1
          (omega arith) f.sealed is;
    }

-- ---- a header

pub header_sealed : (headers : List HeaderText) (t : ℕ) (header : HeaderText) (sealed sealed' : List Entry) →
    slice_get headers t ≡ Some header → t < length headers → sealed ≡ header_entries (take t headers) →
    sealed' ≡ sealed ++ header_entry header ∷ [] → sealed' ≡ header_entries (take (t + 1) headers)
header_sealed headers t header sealed sealed' at below was is =
    is
    ∙ ap (λ (es : List Entry). es ++ header_entry header ∷ []) was
    ∙ ap (λ (h : HeaderText). map header_entry (take t headers) ++ header_entry h ∷ [])
    (sym (get_or_from_slice_get headers t header header at))
    ∙ sym (map-append header_entry (take t headers) (get_or headers t header ∷ []))
    ∙ ap (map header_entry) (sym (take_more headers t header below))

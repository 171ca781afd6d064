-- Blocks that a feeder handed out.
use Rattle.std.proofs.Common.{◌≡◌, ℕ, ◌+◌, ◌*◌, ◌<◌, ◌≤◌, List, [], ◌∷◌, ◌++◌, Option, Some, None, length, take, refl, sym, ap, ◌∙◌, arith, length-append, append_assoc}
use Rattle.std.proofs.lemmas.List.{append-nil, length-take}
use Rattle.psr_base.specs.Told.{Told}
use Rattle.ring_blocks.specs.declared.Entry.{Entry}
use Rattle.stream_model.specs.Blocks.{joined_bytes, joined_data, full_entries, whole_stream, abandoned_stream, blocks_before_stop, cut_entry}
use Rattle.stream_model.specs.BlockLaws.{BytesAreJoined}
use Rattle.disk_feeder.specs.declared.answers.FeedEnd.{FeedEnd}
use Rattle.disk_feeder.specs.declared.answers.FeedEnd.TheVariants.{ReadFault}
use Rattle.disk_feeder.specs.declared.answers.Handed.{Handed}
use Rattle.disk_feeder.specs.declared.due.Due.{Due}
use Rattle.disk_feeder.specs.declared.due.Due.TheVariants.{Full, Last, Stopped}
use Rattle.disk_feeder.specs.declared.feeder.Feeder.{Feeder}
use Rattle.disk_feeder.specs.declared.place.Place.{Place}
use Rattle.disk_feeder.specs.declared.stream.Stream.{Stream}
use Rattle.disk_feeder.specs.Feeder.{has_end, plan_at}
use Rattle.disk_feeder.specs.Feeding.{FeedsTo}
use Rattle.disk_feeder.specs.Filling.{DueIs, IsFilled}
use Rattle.disk_feeder.specs.Handing.{FeederHands, handed_entry, block_of}
use Rattle.disk_feeder.specs.Plan.{Plan}
use Rattle.disk_feeder.specs.Resting.{FeederKept}
use Rattle.disk_feeder.specs.Sources.{plan_of}
use Rattle.drive_stream.specs.Flows.{KeepsOn}
use Rattle.drive_stream.specs.Streams.{most_streamed}

-- ---- their bytes

pub no_bytes : joined_bytes [] ≡ []
unfolding joined_bytes
no_bytes = refl

one_bytes : (e : Entry) → joined_bytes (e ∷ []) ≡ e.bytes
unfolding joined_bytes
one_bytes e = append-nil e.bytes

-- of one block more
pub block_more : BytesAreJoined → (blocks : List Entry) (handed : Handed) (block : List ℕ) →
    joined_bytes (blocks ++ handed_entry handed block ∷ []) ≡ joined_bytes blocks ++ take handed.used block
block_more join blocks handed block =
    join.append blocks (handed_entry handed block ∷ [])
    ∙ ap (λ (xs : List ℕ). joined_bytes blocks ++ xs) (one_bytes (handed_entry handed block))

-- ---- how many they are, while the feeder runs: no more than may be read

total_is : (plan : Plan) (told : Told) (at : Place) (before : List (List ℕ)) (current : List ℕ) (size held : ℕ)
    (due : Option Due) → DueIs plan told at before current size held due →
    length (joined_data before) + length current ≡ at.total
total_is plan told at before current size held None is = is.0.total
total_is plan told at before current size held (Some Full) is = is.0.total
total_is plan told at before current size held (Some Last) is = is.0.total
total_is plan told at before current size held (Some (Stopped end)) is = is.0.total

filled_few : BytesAreJoined → (s : Stream) (told : Told) (blocks : List Entry) →
    IsFilled (plan_of s.source) told s.source.place s.block.items s.held s.due blocks →
    length (joined_bytes blocks) ≤ s.source.place.total
filled_few join s told blocks f =
    let size = length s.block.items in
    let bytes : joined_bytes blocks ≡ joined_data f.before ++ take (f.fulls * size) f.current =
    ap joined_bytes f.sealed ∙ join.append (whole_stream size f.before) (full_entries size f.current f.fulls)
    ∙ ap (λ (xs : List ℕ). xs ++ joined_bytes (full_entries size f.current f.fulls)) (join.whole size f.before)
    ∙ ap (λ (xs : List ℕ). joined_data f.before ++ xs) (join.full size f.current f.fulls) in
    let count : length (joined_bytes blocks)
    ≡ length (joined_data f.before) + length (take (f.fulls * size) f.current) =
    ap (length {A = ℕ}) bytes ∙ length-append (joined_data f.before) (take (f.fulls * size) f.current) in
    let total = total_is (plan_of s.source) told s.source.place f.before f.current size s.held s.due f.next in
    omega (arith, count, total, length-take (f.fulls * size) f.current)

running_few : BytesAreJoined → (s : Stream) (told : Told) (headers blocks : List Entry) (end : Option FeedEnd) →
    end ≡ None → FeedsTo s told headers blocks end → length (joined_bytes blocks) ≤ s.source.place.total
running_few join s told headers blocks None none running = filled_few join s told blocks running.stream
running_few join s told headers blocks (Some end) none feeds = absurd cc

pub handed_few : BytesAreJoined → {I : Type 0} (f : Feeder I) (told : Told) (blocks : List Entry) →
    has_end f ≡ None → FeederHands told f blocks → length (joined_bytes blocks) ≤ (plan_at f).max_bytes
handed_few join f told blocks running hands =
    let few = running_few join f.stream told hands.0 blocks (has_end f) running hands.1 in
    let most = f.stream.source.placed.total in
    omega (arith, few, most)

-- one block more
pub few_more : (xs block all : List ℕ) (used : ℕ) → all ≡ xs ++ take used block →
    length xs + used ≤ most_streamed → length all ≤ most_streamed
few_more xs block all used is few =
    let count : length all ≡ length xs + length (take used block) =
    ap (length {A = ℕ}) is ∙ length-append xs (take used block) in
    omega (arith, count, few, length-take used block)

-- ---- a block at a fault of the inputs has no bytes

last_same : (xs ys : List Entry) (x y : Entry) → xs ++ x ∷ [] ≡ ys ++ y ∷ [] → x ≡ y
last_same [] [] x y is = cc
last_same [] (b ∷ []) x y is = absurd cc
last_same [] (b ∷ c ∷ ys) x y is = absurd cc
last_same (a ∷ []) [] x y is = absurd cc
last_same (a ∷ c ∷ xs) [] x y is = absurd cc
last_same (a ∷ xs) (b ∷ ys) x y is = let rest : xs ++ x ∷ [] ≡ ys ++ y ∷ [] = cc in last_same xs ys x y rest

cut_last : (size max_bytes : ℕ) (before : List (List ℕ)) (current : List ℕ) (blocks : List Entry) (e : Entry) →
    blocks ++ e ∷ [] ≡ abandoned_stream size max_bytes before current → e ≡ cut_entry
unfolding abandoned_stream
cut_last size max_bytes before current blocks e is =
    let fulls = full_entries size current (blocks_before_stop size max_bytes before current) in
    last_same blocks (whole_stream size before ++ fulls) e cut_entry
    (is ∙ sym (append_assoc (whole_stream size before) fulls (cut_entry ∷ [])))

ended_cut : (s : Stream) (told : Told) (headers blocks : List Entry) (e : Entry) (end : Option FeedEnd) →
    end ≡ Some ReadFault → FeedsTo s told headers (blocks ++ e ∷ []) end → e ≡ cut_entry
ended_cut s told headers blocks e (Some ReadFault) is feeds =
    cut_last (length s.block.items) (plan_of s.source).max_bytes feeds.ended.before feeds.ended.current blocks e
    feeds.ended.sealed.0
ended_cut s told headers blocks e end is feeds = absurd cc

pub never_cut : {I : Type 0} (f : Feeder I) (told : Told) (blocks : List Entry) (handed : Handed) →
    FeederHands told f (blocks ++ handed_entry handed (block_of f) ∷ []) → has_end f ≡ Some ReadFault →
    0 < length (take handed.used (block_of f)) → ⊥
never_cut f told blocks handed hands broken some =
    let is = ended_cut f.stream told hands.0 blocks (handed_entry handed (block_of f)) (has_end f) broken hands.1 in
    let none : length (take handed.used (block_of f)) ≡ 0 = ap (λ (e : Entry). length e.bytes) is in
    omega (arith, none, some)

-- ---- what the feeder keeps

pub keeps_none : {I : Type 0} (told : I → Told) (is_calm : I → Type 0) (faults : I → ℕ) (f : Feeder I) →
    KeepsOn told is_calm faults f f
keeps_none told is_calm faults f = record {
  plan = refl;
  size = refl;
  names = refl;
  count = omega arith;
  since = λ k was. was;
  reads_on = λ before was. was;
  calm = λ calm. calm;
  missing = λ calm was. was;
  unopened = λ calm before read was. was;
}

pub keeps_more : {I : Type 0} (told : I → Told) (is_calm : I → Type 0) (faults : I → ℕ) (f h j : Feeder I) →
    KeepsOn told is_calm faults f h → FeederKept told is_calm faults h j → KeepsOn told is_calm faults f j
keeps_more told is_calm faults f h j so_far kept = record {
  plan = kept.plan ∙ so_far.plan;
  size = kept.size ∙ so_far.size;
  names = kept.names ∙ so_far.names;
  count = omega (arith, so_far.count, kept.count);
  since = λ k was. kept.since k (so_far.since k was);
  reads_on = λ before was. kept.reads_on before (so_far.reads_on before was);
  calm = λ calm. kept.calm (so_far.calm calm);
  missing = λ calm was. kept.missing (so_far.calm calm) (so_far.missing calm was);
  unopened = λ calm before read was. kept.unopened (so_far.calm calm) before (so_far.reads_on before read)
      (so_far.unopened calm before read was);
}

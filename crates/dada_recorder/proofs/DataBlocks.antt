-- Where a recorder is once a data block came.
use Rattle.std.proofs.Common.{◌≡◌, ℕ, zero, suc, ◌+◌, ◌-◌, ◌*◌, ◌^◌, ◌<◌, ◌≤◌, Bool, true, false, List, [], ◌∷◌, ◌++◌, length, refl, sym, ap, ◌∙◌, append-nil, length-append, arith, inl}
use Rattle.std.specs.Prelude.{if◌then◌else◌}
use Rattle.std.specs.List.{flat_map}
use Rattle.std.proofs.lemmas.Bool.{true≢false}
use Rattle.std.proofs.Math.Bool.{or-false}
use Rattle.psr_base.specs.Made.{NamedBytes}
use Rattle.ring_blocks.specs.declared.Entry.{Entry}
use Rattle.ring_blocks.specs.declared.Mark.TheVariants.{More}
use Rattle.dada_hdu.specs.Answers.{entry}
use Rattle.stream_model.specs.Blocks.{joined_bytes, ended_transfers, has_cut, is_end, is_cut, transfer_bytes}
use Rattle.stream_model.specs.BlockLaws.{BytesAreJoined, EndsAreCounted, EntriesAreOfTransfers}
use Rattle.stream_model.specs.Recorded.{Recording, recorded_file, recorded_files}
use Rattle.dada_recorder.specs.Blocks.{record_plan, files_of_blocks}
use Rattle.dada_recorder.specs.Recording.{AreInLimits, GoesOn, IsBrokenOff, IsTooLong}
use Rattle.dada_recorder.specs.declared.transfer_files.TransferFiles.{TransferFiles}
use Rattle.dada_recorder.specs.declared.transfers.Transfers.{Transfers}
use Rattle.dada_recorder.specs.TransferFiles.{recording_in, first_files, data_bytes, IsPlaced, IsWithinLimit}
use Rattle.dada_recorder.specs.Transfers.{plan_in, files_of_first, IsRunning, HasAppended}
use Rattle.dada_recorder.proofs.BlockFiles.{last_transfer, first_with_more, block_added}
use Rattle.dada_recorder.proofs.Cutting.{length-first_files}
use Rattle.dada_recorder.proofs.Limits.{has_numbers}
use Rattle.dada_recorder.proofs.Stepping.{placed_files, behind}

-- ---- lengths

of_transfer : (b : Bool) (bytes rest all : List ℕ) → length rest ≤ length all →
    length (bytes ++ (if b then [] else rest)) ≤ length (bytes ++ all)
of_transfer true bytes rest all less =
    let one = length-append bytes [] in
    let both = length-append bytes all in
    omega (arith, one, both)
of_transfer false bytes rest all less =
    let one = length-append bytes rest in
    let both = length-append bytes all in
    omega (arith, one, both, less)

-- the bytes of a transfer are some of all
pub transfer_within : (k : ℕ) (blocks : List Entry) → length (transfer_bytes k blocks) ≤ length (joined_bytes blocks)
unfolding transfer_bytes joined_bytes
transfer_within k [] = omega arith
transfer_within zero (block ∷ blocks) =
    of_transfer (is_end block.mark) block.bytes (transfer_bytes zero blocks) (flat_map (λ (e : Entry). e.bytes) blocks)
    (transfer_within zero blocks)
transfer_within (suc k) (block ∷ blocks) =
    let rest = transfer_within (if is_end block.mark then k else suc k) blocks in
    let both = length-append block.bytes (flat_map (λ (e : Entry). e.bytes) blocks) in
    omega (arith, rest, both)

pub joined_more : BytesAreJoined → (blocks : List Entry) (block : Entry) →
    length (joined_bytes (blocks ++ block ∷ [])) ≡ length (joined_bytes blocks) + length block.bytes
unfolding joined_bytes
joined_more law blocks block =
    let both = length-append (joined_bytes blocks) (joined_bytes (block ∷ [])) in
    let all = ap length (law.append blocks (block ∷ [])) in
    let one = ap length (append-nil block.bytes) in
    omega (arith, both, all, one)

pub ended_more : EndsAreCounted → (blocks : List Entry) (block : Entry) →
    ended_transfers (blocks ++ block ∷ []) ≡ ended_transfers blocks + (if is_end block.mark then 1 else 0)
unfolding ended_transfers
ended_more law blocks block = law.append blocks (block ∷ []) ∙ omega arith

pub cut_more : EndsAreCounted → (blocks : List Entry) (block : Entry) → has_cut blocks ≡ false →
    has_cut (blocks ++ block ∷ []) ≡ is_cut block.mark
unfolding has_cut
cut_more law blocks block uncut =
    rw (law.cut_append blocks (block ∷ []), uncut, or-false) refl

-- ---- the bytes came

abbrev pub with_data : Transfers → TransferFiles → ℕ → Transfers
with_data t f total = record t { files = f; total = total }

pub has_begun : (t : Transfers) (headers blocks : List Entry) → t.has_header ≡ true → IsRunning t headers blocks →
    GoesOn (plan_in t) true headers blocks
has_begun t headers blocks header run = rw header at run.goes_on

pub within_limit : (t : Transfers) (headers blocks : List Entry) (n : ℕ) → t.has_header ≡ true →
    IsRunning t headers blocks → t.total + n ≤ t.max_bytes →
    IsWithinLimit (recording_in t.files) (data_bytes t.files.place t.files.file_size + n)
within_limit t headers blocks n header run few =
    let within = run.within header in
    let some = transfer_within t.ended blocks in
    let total = run.total in
    let count = within.count in
    record { limit = t.max_bytes; can = within.can; few = omega (arith, few, some, total, count) }

pub plan_kept : (t : Transfers) (f : TransferFiles) (total : ℕ) → recording_in f ≡ recording_in t.files →
    plan_in (with_data t f total) ≡ plan_in t
plan_kept t f total kept = ap (λ (r : Recording). record_plan t.offsets.now r.file_size t.max_bytes) kept

pub data_appended : BytesAreJoined → (t : Transfers) (f : TransferFiles) (headers blocks : List Entry)
    (block : Entry) (bytes : List ℕ) → block.bytes ≡ bytes → t.has_header ≡ true → IsRunning t headers blocks →
    t.total + length bytes ≤ t.max_bytes → recording_in f ≡ recording_in t.files → IsPlaced f.place f.file_size →
    data_bytes f.place f.file_size ≡ data_bytes t.files.place t.files.file_size + length bytes →
    HasAppended (with_data t f (t.total + length bytes)) headers blocks block
data_appended law t f headers blocks block bytes same header run few kept placed count =
    let total = t.total + length bytes in
    let plan = plan_kept t f total kept in
    let within = run.within header in
    let joined = joined_more law blocks block in
    let len = ap length same in
    let old = run.total in
    let both = length-append (transfer_bytes t.ended blocks) block.bytes in
    let was = within.count in
    record {
      plan = rw plan run.plan;
      goes_on = rw plan (has_begun t headers blocks header run);
      has_header = header;
      ended = run.ended;
      total = omega (arith, joined, len, old);
      limit = few;
      finished = rw plan run.finished;
      few = run.few;
      within = record {
        recording = kept ∙ rw (ap (λ (r : Recording). r.file_size) kept) within.recording;
        can = rw kept within.can;
        placed = placed;
        count = omega (arith, both, was, count, len);
      };
    }

pub data_breaks_off : BytesAreJoined → EndsAreCounted → (t : Transfers) (f : TransferFiles)
    (headers blocks : List Entry) (block : Entry) (bytes : List ℕ) → block.bytes ≡ bytes → t.has_header ≡ true →
    IsRunning t headers blocks → t.total + length bytes ≤ t.max_bytes → recording_in f ≡ recording_in t.files →
    IsBrokenOff (plan_in (record t { files = f })) headers (blocks ++ block ∷ [])
data_breaks_off joins counts t f headers blocks block bytes same header run few kept =
    let joined = joined_more joins blocks block in
    let len = ap length same in
    let old = run.total in
    let ended = ended_more counts blocks block in
    let begun = (has_begun t headers blocks header run).begun in
    rw (plan_kept t f t.total kept) (record {
      limits = inl (record {
        accepted = run.goes_on.in_limits.accepted;
        limit = omega (arith, joined, len, old, few);
      });
      begun = omega (arith, begun, ended);
    })

-- the files before the block, and with it
pub files_before : (t : Transfers) (headers blocks : List Entry) → t.has_header ≡ true → IsRunning t headers blocks →
    files_of_blocks (plan_in t) headers blocks
    ≡ files_of_first (plan_in t) headers blocks t.ended
    ++ recorded_files (recording_in t.files) (transfer_bytes t.ended blocks)
files_before t headers blocks header run =
    let begun = (has_begun t headers blocks header run).begun in
    let ended = run.ended in
    last_transfer (plan_in t) headers blocks t.ended (recording_in t.files) (omega (arith, begun, ended))
    (run.within header).recording

pub files_after : EntriesAreOfTransfers → (t : Transfers) (f : TransferFiles) (total : ℕ)
    (headers blocks : List Entry) (block : Entry) (bytes : List ℕ) → block.bytes ≡ bytes → t.has_header ≡ true →
    IsRunning t headers blocks → recording_in f ≡ recording_in t.files →
    files_of_blocks (plan_in (with_data t f total)) headers (blocks ++ block ∷ [])
    ≡ files_of_first (plan_in t) headers blocks t.ended
    ++ recorded_files (recording_in t.files) (transfer_bytes t.ended blocks ++ bytes)
files_after law t f total headers blocks block bytes same header run kept =
    let begun = (has_begun t headers blocks header run).begun in
    let ended = run.ended in
    rw (
      plan_kept t f total kept,
      block_added law (plan_in t) headers blocks block t.ended (recording_in t.files)
          (sym ended) (omega (arith, begun, ended)) (run.within header).recording,
      same,
    ) refl

pub too_long : BytesAreJoined → (t : Transfers) (headers blocks : List Entry) (block : Entry) →
    t.has_header ≡ true → IsRunning t headers blocks → t.max_bytes - t.total < length block.bytes →
    IsTooLong (plan_in t) headers (blocks ++ block ∷ []) t.max_bytes
too_long law t headers blocks block header run many =
    let joined = joined_more law blocks block in
    let old = run.total in
    let limit = run.goes_on.in_limits.limit in
    record {
      accepted = run.goes_on.in_limits.accepted;
      before = blocks;
      last = block;
      blocks_are = refl;
      few = limit;
      many = omega (arith, joined, old, limit, many);
      limit_is = refl;
    }

-- ---- by its mark

pub in_limits_with : (t : Transfers) (headers blocks : List Entry) (block : Entry) →
    HasAppended t headers blocks block → AreInLimits (plan_in t) headers (blocks ++ block ∷ [])
in_limits_with t headers blocks block has =
    let total = has.total in
    let limit = has.limit in
    record { accepted = has.goes_on.in_limits.accepted; limit = omega (arith, total, limit) }

-- bounds of the numbers
pub number_small : BytesAreJoined → (t : Transfers) (headers blocks : List Entry) (block : Entry) →
    HasAppended t headers blocks block → t.files.place.number < 10 ^ 6
number_small law t headers blocks block has = by_used t.files.place.used refl
  where
    by_used : (used : ℕ) → t.files.place.used ≡ used → t.files.place.number < 10 ^ 6
    by_used zero is = let first = has.within.placed.tight is in omega (arith, first)
    by_used (suc k) is =
        let some = transfer_within t.ended blocks in
        let both = length-append (transfer_bytes t.ended blocks) block.bytes in
        let joined = joined_more law blocks block in
        let total = has.total in
        let limit = has.limit in
        let count = has.within.count in
        (has_numbers (recording_in t.files) t.max_bytes t.files.place.number has.within.can
        (omega (arith, some, both, joined, total, limit, count, is))).number

pub few_ended : (t : Transfers) (headers blocks : List Entry) (block : Entry) →
    HasAppended t headers blocks block → (t.ended < 8) × (t.finished ≤ 8 * 10 ^ 6)
few_ended t headers blocks block has =
    let ended = has.ended in
    let more = has.goes_on.more in
    let transfers = has.plan.transfers in
    let few = has.few in
    (omega (arith, ended, more, transfers), omega (arith, ended, more, transfers, few))

-- a block that is marked More
pub more_runs : EntriesAreOfTransfers → EndsAreCounted → (t : Transfers) (headers blocks : List Entry)
    (bytes : List ℕ) → HasAppended t headers blocks (entry More bytes) →
    IsRunning t headers (blocks ++ entry More bytes ∷ [])
more_runs law counts t headers blocks bytes has =
    let block = entry More bytes in
    let ended : ended_transfers (blocks ++ block ∷ []) ≡ ended_transfers blocks =
    ended_more counts blocks block ∙ omega arith in
    let begun = has.goes_on.begun in
    let more = has.goes_on.more in
    record {
      plan = has.plan;
      goes_on = rw has.has_header (record {
        in_limits = in_limits_with t headers blocks block has;
        more = omega (arith, ended, more);
        uncut = cut_more counts blocks block has.goes_on.uncut;
        begun = omega (arith, begun, ended);
        between = λ is. absurd (true≢false is);
      });
      ended = has.ended ∙ sym ended;
      total = has.total;
      finished = rw (first_with_more law (plan_in t) headers blocks block t.ended (sym has.ended)) has.finished;
      few = has.few;
      within = λ is. rw (law.next t.ended blocks block (sym has.ended)) has.within;
      between = λ is. absurd (true≢false (sym has.has_header ∙ is));
    }

-- ---- the end of a transfer

-- all files of the blocks: those before the last file, and that one
pub split_last : EntriesAreOfTransfers → (t : Transfers) (headers blocks : List Entry) (block : Entry) →
    HasAppended t headers blocks block →
    let r = recording_in t.files in
    let xs = transfer_bytes t.ended blocks ++ block.bytes in
    let n = t.files.place.number in
    files_of_blocks (plan_in t) headers (blocks ++ block ∷ [])
    ≡ (files_of_first (plan_in t) headers blocks t.ended ++ first_files r xs n) ++ recorded_file r xs n ∷ []
split_last law t headers blocks block has =
    let begun = has.goes_on.begun in
    let ended = has.ended in
    let r = recording_in t.files in
    let xs = transfer_bytes t.ended blocks ++ block.bytes in
    block_added law (plan_in t) headers blocks block t.ended r (sym ended) (omega (arith, begun, ended))
    has.within.recording
    ∙ rw (placed_files r t.files.place xs has.within.can.some has.within.placed has.within.count)
    (behind (files_of_first (plan_in t) headers blocks t.ended) r xs t.files.place.number)

pub count_all : EntriesAreOfTransfers → (t : Transfers) (headers blocks : List Entry) (block : Entry) →
    HasAppended t headers blocks block →
    t.finished + (t.files.place.number + 1) ≡ length (files_of_blocks (plan_in t) headers (blocks ++ block ∷ []))
count_all law t headers blocks block has =
    let all = simp (length-append, length-first_files) at
    (ap (length {A = NamedBytes}) (split_last law t headers blocks block has)) in
    omega (arith, all, has.finished)

-- Where a recorder is once a header block came.
use Rattle.std.proofs.Common.{◌≡◌, ℕ, ◌<◌, ◌≤◌, Bool, true, false, List, [], ◌∷◌, ◌++◌, Some, Ok, length, refl, sym, ap, ◌∙◌, length-append, arith, inl, inr}
use Rattle.std.specs.Prelude.{slice_get, slice_index_or, ◌⊎◌}
use Rattle.std.proofs.lemmas.Bool.{true≢false}
use Rattle.std.proofs.lemmas.Option.{slice_get_within}
use Rattle.std.proofs.Math.Nat.{eq-or-lt_of_le}
use Rattle.psr_base.specs.Made.{FilesSeen}
use Rattle.dada_model.specs.Fields.{header_of}
use Rattle.ring_blocks.specs.declared.Entry.{Entry}
use Rattle.stream_model.specs.Blocks.{ended_transfers}
use Rattle.stream_model.specs.Recorded.{Recording, recorded_files}
use Rattle.dada_recorder.specs.Making.{Outset, HasMade}
use Rattle.dada_recorder.specs.Blocks.{RecordPlan, record_plan, header_in_block, under_header, files_of_blocks, AcceptsBlock, AcceptsAll}
use Rattle.dada_recorder.specs.Recording.{AreInLimits, IsBrokenOff}
use Rattle.dada_recorder.specs.declared.transfer_files.TransferFiles.{TransferFiles}
use Rattle.dada_recorder.specs.declared.transfers.Transfers.{Transfers}
use Rattle.dada_recorder.specs.TransferFiles.{recording_in, CanRecord, data_bytes, IsPlaced}
use Rattle.dada_recorder.specs.Transfers.{plan_in, IsRunning}
use Rattle.dada_recorder.proofs.BlockFiles.{get_in_front, get_at_seam, first_under_more, header_added}

-- what is known of the transfer's files once its header was read, and it was accepted
pub record HasBegun (t : Transfers) (f : TransferFiles) (bytes : List ℕ) : Type 0 where
  pub size : f.file_size ≡ t.files.file_size
  pub offset : f.offset ≡ slice_index_or t.offsets.now t.ended 0
  pub read : header_of bytes ≡ Ok f.header
  pub accepted : CanRecord (recording_in f) t.max_bytes

-- the recorder with these files
abbrev pub with_files : Transfers → Bool → TransferFiles → Transfers
with_files t has_header f = record t { has_header = has_header; files = f }

accepts_more : (plan : RecordPlan) (headers : List Entry) (block : Entry) → AcceptsAll plan headers →
    AcceptsBlock plan (length headers) block.bytes → AcceptsAll plan (headers ++ block ∷ [])
accepts_more plan headers block all last k e there =
    by_place (eq-or-lt_of_le (within k e there))
  where
    within : (k : ℕ) (e : Entry) → slice_get (headers ++ block ∷ []) k ≡ Some e → k ≤ length headers
    within k e there =
        let both = length-append headers (block ∷ []) in
        let less = slice_get_within (headers ++ block ∷ []) k e there in
        omega (arith, both, less)

    by_place : ((k ≡ length headers) ⊎ (k < length headers)) → AcceptsBlock plan k e.bytes
    by_place (inr below) = all k e (sym (get_in_front headers (block ∷ []) k below) ∙ there)
    by_place (inl at) =
        let here : Some block ≡ Some e = sym (get_at_seam headers block []) ∙ rw at at there in
        let same : block ≡ e = cc in
        rw (at, ← same) last

-- the block has the header of the transfer that is next
pub recording_is : (t : Transfers) (f : TransferFiles) (headers : List Entry) (block : Entry) →
    t.ended ≡ length headers → HasBegun t f block.bytes →
    recording_in f ≡ under_header (plan_in t) (length headers) (header_in_block (Some block))
recording_is t f headers block ended begun =
    rw (begun.offset, begun.size, ended, begun.read) refl

next_is : (t : Transfers) (headers blocks : List Entry) → t.has_header ≡ false → IsRunning t headers blocks →
    length headers ≡ ended_transfers blocks
next_is t headers blocks none run =
    rw none at run.goes_on.begun ∙ omega arith

accepted_with : (t : Transfers) (f : TransferFiles) (headers blocks : List Entry) (block : Entry) →
    t.has_header ≡ false → IsRunning t headers blocks → HasBegun t f block.bytes →
    AreInLimits (plan_in t) (headers ++ block ∷ []) blocks
accepted_with t f headers blocks block none run begun =
    let ended = run.ended ∙ sym (next_is t headers blocks none run) in
    let under : recording_in f ≡ under_header (plan_in t) (length headers) f.header =
    rw begun.read at (recording_is t f headers block ended begun) in
    record {
      accepted = accepts_more (plan_in t) headers block run.goes_on.in_limits.accepted (record {
        header = f.header;
        read = begun.read;
        accepted = rw under at begun.accepted.none_refused;
      });
      limit = run.goes_on.in_limits.limit;
    }

same_plan : (t : Transfers) (f : TransferFiles) (b : Bool) → f.file_size ≡ t.files.file_size →
    plan_in (with_files t b f) ≡ plan_in t
same_plan t f b size = ap (λ (z : ℕ). record_plan t.offsets.now z t.max_bytes) size

-- ---- it goes on

pub header_runs : (t : Transfers) (f f' : TransferFiles) (headers blocks : List Entry) (block : Entry) →
    t.has_header ≡ false → IsRunning t headers blocks → HasBegun t f block.bytes →
    recording_in f' ≡ recording_in f → IsPlaced f'.place f'.file_size → data_bytes f'.place f'.file_size ≡ 0 →
    IsRunning (with_files t true f') (headers ++ block ∷ []) blocks
header_runs t f f' headers blocks block none run begun kept placed count =
    let size : f'.file_size ≡ t.files.file_size = ap (λ (r : Recording). r.file_size) kept ∙ begun.size in
    let plan = same_plan t f' true size in
    let count_of = next_is t headers blocks none run in
    let ended = run.ended ∙ sym count_of in
    let both = length-append headers (block ∷ []) in
    record {
      plan = rw plan run.plan;
      goes_on = rw plan (record {
        in_limits = accepted_with t f headers blocks block none run begun;
        more = run.goes_on.more;
        uncut = run.goes_on.uncut;
        begun = omega (arith, both, count_of);
        between = λ is. absurd (true≢false is);
      });
      ended = run.ended;
      total = run.total;
      finished = rw (plan, first_under_more (plan_in t) headers blocks block t.ended (omega (arith, ended)))
          run.finished;
      few = run.few;
      within = λ is. record {
        recording = kept ∙ rw (size, ended, get_at_seam headers block []) (recording_is t f headers block ended begun);
        can = rw kept begun.accepted;
        placed = placed;
        count = rw (run.ended, run.goes_on.between none) (sym count);
      };
      between = λ is. absurd (true≢false is);
    }

-- ---- its first file fails

pub header_breaks_off : (t : Transfers) (f f' : TransferFiles) (headers blocks : List Entry) (block : Entry) →
    t.has_header ≡ false → IsRunning t headers blocks → HasBegun t f block.bytes →
    recording_in f' ≡ recording_in f →
    IsBrokenOff (plan_in (with_files t t.has_header f')) (headers ++ block ∷ []) blocks
header_breaks_off t f f' headers blocks block none run begun kept =
    let size : f'.file_size ≡ t.files.file_size = ap (λ (r : Recording). r.file_size) kept ∙ begun.size in
    let count_of = next_is t headers blocks none run in
    let both = length-append headers (block ∷ []) in
    rw (same_plan t f' t.has_header size) (record {
      limits = inl (accepted_with t f headers blocks block none run begun);
      begun = omega (arith, both, count_of);
    })

-- ---- its files

pub header_files : (t : Transfers) (f f' : TransferFiles) (b : Bool) (headers blocks : List Entry) (block : Entry) →
    t.has_header ≡ false → IsRunning t headers blocks → HasBegun t f block.bytes →
    recording_in f' ≡ recording_in f →
    files_of_blocks (plan_in t) headers blocks ++ recorded_files (recording_in f) []
    ≡ files_of_blocks (plan_in (with_files t b f')) (headers ++ block ∷ []) blocks
header_files t f f' b headers blocks block none run begun kept =
    let size : f'.file_size ≡ t.files.file_size = ap (λ (r : Recording). r.file_size) kept ∙ begun.size in
    let count_of = next_is t headers blocks none run in
    let ended = run.ended ∙ sym count_of in
    rw (same_plan t f' b size) (sym (header_added (plan_in t) headers blocks block (recording_in f)
    (rw count_of (run.goes_on.between none)) (recording_is t f headers block ended begun)))

pub closed_files : (t : Transfers) (headers blocks : List Entry) (outset : Outset) (seen : FilesSeen) →
    t.has_header ≡ false → IsRunning t headers blocks →
    HasMade outset t.files.place.is_open (files_of_blocks (plan_in t) headers blocks) seen →
    HasMade outset false (files_of_blocks (plan_in t) headers blocks) seen
closed_files t headers blocks outset seen none run has = rw (run.between none) at has

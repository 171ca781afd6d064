-- How a recorder of a complete stream ends.
use mathlib.Core.List.{IsPrefix}
use Rattle.std.proofs.Common.{◌≡◌, ℕ, ◌<◌, ◌≤◌, Bool, true, false, List, [], ◌∷◌, ◌++◌, length, refl, sym, ap, ◌∙◌, append_assoc, append-nil, length-append, arith, Some, Ok, Err}
use Rattle.std.specs.Prelude.{slice_get, slice_index_or}
use Rattle.std.proofs.lemmas.Bool.{le-leb}
use Rattle.std.proofs.lemmas.List.{nil_from_length}
use Rattle.std.proofs.Math.Bool.{or-true}
use Rattle.dada_model.specs.Fields.{HeaderText, HeaderRefusal, header_of}
use Rattle.dada_header.specs.declared.faults.HeaderFault.TheVariants.{Memory}
use Rattle.psr_base.specs.Made.{FilesSeen}
use Rattle.ring_blocks.specs.declared.Entry.{Entry}
use Rattle.stream_model.specs.Blocks.{joined_bytes, ended_transfers, has_cut, is_over}
use Rattle.stream_model.specs.BlockLaws.{BytesAreJoined, EntriesAreOfTransfers}
use Rattle.dada_recorder.specs.declared.answers.RecordEnd.{RecordEnd}
use Rattle.dada_recorder.specs.declared.answers.RecordEnd.TheVariants.{Whole, Cut, FileFault, BadHeader, TooLong}
use Rattle.dada_recorder.specs.declared.answers.RecordFault.{RecordFault}
use Rattle.dada_recorder.specs.declared.answers.RecordFault.TheVariants.{NotHeader}
use Rattle.dada_recorder.specs.Making.{Outset, HasMade}
use Rattle.dada_recorder.specs.Blocks.{RecordPlan, files_of_blocks, RefusesHeader, RefusesBlock, AcceptsBlock}
use Rattle.dada_recorder.specs.Recording.{EndIs, FilesAre, IsWhole, IsGivenUp}
use Rattle.dada_recorder.specs.RecordingLaws.{AreComplete, Cleared, BeginsComplete, AreAllCleared, AreAllRecorded, EndsComplete, HasFilesOfAll, RecordingsEnd}
use Rattle.dada_recorder.proofs.BlockFiles.{get_at_seam}
use Rattle.dada_recorder.proofs.FollowingBlocks.{blocks_follow}

-- ---- all blocks

all_of_them : (front rest all : List Entry) → front ++ rest ≡ all → rest ≡ [] → front ≡ all
all_of_them front rest all whole none = rw (← whole, none, append-nil) refl

as_many : (front all : List Entry) → IsPrefix front all → length all ≤ length front → front ≡ all
as_many front all is few =
    let count = ap (length {A = Entry}) (sym is.1) ∙ length-append front is.0 in
    all_of_them front is.0 all is.1 (nil_from_length is.0 (omega (arith, count, few)))

over : (plan : RecordPlan) (headers blocks front : List Entry) → AreComplete plan headers blocks →
    IsPrefix front blocks → is_over (length plan.offsets) front ≡ true → front ≡ blocks
over plan headers blocks front complete is ends =
    all_of_them front is.0 blocks is.1 (complete.once front is.0 is.1 ends)

over_by_ends : (n : ℕ) (blocks : List Entry) → n ≤ ended_transfers blocks → is_over n blocks ≡ true
over_by_ends n blocks few = rw (le-leb n (ended_transfers blocks) few) refl

over_by_cut : (n : ℕ) (blocks : List Entry) → has_cut blocks ≡ true → is_over n blocks ≡ true
over_by_cut n blocks cut = rw (cut, or-true) refl

-- ---- ends that never come

never_both : (bytes : List ℕ) (header : HeaderText) (refusal : HeaderRefusal) → header_of bytes ≡ Ok header →
    header_of bytes ≡ Err refusal → ⊥
never_both bytes header refusal is not = let e = sym is ∙ not in absurd cc

never_refused : (plan : RecordPlan) (k : ℕ) (bytes : List ℕ) (why : RecordFault) → AcceptsBlock plan k bytes →
    RefusesHeader (slice_index_or plan.offsets k 0) plan.file_size plan.max_bytes bytes why → ⊥
never_refused plan k bytes why accepts refuses =
    let read : Ok accepts.header ≡ Ok refuses.header = sym accepts.read ∙ refuses.read in
    let same : accepts.header ≡ refuses.header = cc in
    let none = sym (rw same at accepts.accepted) ∙ refuses.why.1 in
    absurd cc

never_fault : (plan : RecordPlan) (k : ℕ) (bytes : List ℕ) (why : RecordFault) → AcceptsBlock plan k bytes →
    RefusesBlock plan k bytes why → ⊥
never_fault plan k bytes (NotHeader Memory) accepts refuses = refuses
never_fault plan k bytes (NotHeader fault) accepts refuses = never_both bytes accepts.header _ accepts.read refuses
never_fault plan k bytes why accepts refuses = never_refused plan k bytes why accepts refuses

last_there : (headers all before : List Entry) (last : Entry) → IsPrefix headers all → headers ≡ before ++ last ∷ [] →
    slice_get all (length before) ≡ Some last
last_there headers all before last is ends =
    rw (← is.1, ends, append_assoc) (get_at_seam before last is.0)

never_long : BytesAreJoined → (front all : List Entry) (limit : ℕ) → IsPrefix front all →
    length (joined_bytes all) ≤ limit → limit < length (joined_bytes front) → ⊥
never_long law front all limit is few many =
    let more = rw (← is.1, law.append front is.0, length-append) at few in
    omega (arith, more, many)

-- ---- ends

-- all blocks were recorded in as many files as those that were cleared
recorded : (plan : RecordPlan) (c : Cleared) (cut : Bool) (files : ℕ) → AreAllCleared c → has_cut c.blocks ≡ cut →
    files ≡ length (files_of_blocks plan c.headers c.blocks) → AreAllRecorded plan c cut files
recorded plan c cut files all is count = record {
  cleared = all;
  given_up = rw all.blocks at is;
  count = rw (all.headers, all.blocks) at count;
}

whole_clears : (plan : RecordPlan) (c : Cleared) (files : ℕ) → BeginsComplete plan c →
    IsWhole plan c.headers c.blocks files → AreAllCleared c
whole_clears plan c files begins is = record {
  headers = as_many c.headers c.all_headers begins.headers (omega (arith, begins.complete.few, is.begun));
  blocks = over plan c.all_headers c.all_blocks c.blocks begins.complete begins.blocks
      (over_by_ends (length plan.offsets) c.blocks (omega (arith, is.all)));
}

cut_clears : (plan : RecordPlan) (c : Cleared) (files : ℕ) → BeginsComplete plan c →
    IsGivenUp plan c.headers c.blocks files → AreAllCleared c
cut_clears plan c files begins is =
    let same = over plan c.all_headers c.all_blocks c.blocks begins.complete begins.blocks
    (over_by_cut (length plan.offsets) c.blocks is.cut) in
    let ended : ended_transfers c.blocks ≡ ended_transfers c.all_blocks = ap ended_transfers same in
    record {
      headers = as_many c.headers c.all_headers begins.headers (omega (arith, begins.complete.begun, is.begun, ended));
      blocks = same;
    }

end_is : BytesAreJoined → (plan : RecordPlan) (c : Cleared) (has_header : Bool) (end : RecordEnd) →
    BeginsComplete plan c → EndIs plan has_header c.headers c.blocks (Some end) → EndsComplete plan c end
end_is law plan c has_header (Whole files) begins is =
    recorded plan c false files (whole_clears plan c files begins is) is.uncut is.count
end_is law plan c has_header (Cut files) begins is =
    recorded plan c true files (cut_clears plan c files begins is) is.cut is.count
end_is law plan c has_header FileFault begins is = tt
end_is law plan c has_header (BadHeader fault) begins is =
    never_fault plan (length is.before) is.last.bytes fault
    (begins.complete.in_limits.accepted (length is.before) is.last (last_there c.headers c.all_headers is.before is.last
    begins.headers is.headers_are))
    is.refused
end_is law plan c has_header (TooLong limit) begins is =
    never_long law c.blocks c.all_blocks plan.max_bytes begins.blocks begins.complete.in_limits.limit is.many

-- ---- files

all_files : (plan : RecordPlan) (outset : Outset) (c : Cleared) (seen : FilesSeen) → AreAllCleared c →
    HasMade outset false (files_of_blocks plan c.headers c.blocks) seen →
    HasMade outset false (files_of_blocks plan c.all_headers c.all_blocks) seen
all_files plan outset c seen all has = rw (all.headers, all.blocks) at has

files_are : BytesAreJoined → EntriesAreOfTransfers → (plan : RecordPlan) (c : Cleared) (has_header is_open : Bool)
    (end : RecordEnd) (outset : Outset) (seen : FilesSeen) → 1 ≤ plan.file_size → BeginsComplete plan c →
    EndIs plan has_header c.headers c.blocks (Some end) →
    FilesAre plan outset is_open c.headers c.blocks (Some end) seen → HasFilesOfAll plan outset c end seen
files_are law entries plan c has_header is_open (Whole files) outset seen some begins is has =
    all_files plan outset c seen (whole_clears plan c files begins is) has
files_are law entries plan c has_header is_open (Cut files) outset seen some begins is has =
    all_files plan outset c seen (cut_clears plan c files begins is) has
files_are law entries plan c has_header is_open FileFault outset seen some begins is has =
    has (files_of_blocks plan c.all_headers c.all_blocks)
    (blocks_follow entries plan c.headers c.all_headers c.blocks c.all_blocks (omega (arith, some)) begins.headers
    begins.blocks is.begun)
files_are law entries plan c has_header is_open end outset seen some begins is has =
    end_is law plan c has_header end begins is

pub recordings_end : BytesAreJoined → EntriesAreOfTransfers → RecordingsEnd
recordings_end law entries = record { ends = end_is law; files = files_are law entries }

-- A block with which there are too many bytes: the last file is finished without it.
use Rattle.std.proofs.Common.{◌≡◌, ◌-◌, ◌<◌, true, false, List, [], ◌∷◌, ◌++◌, length, Result, refl, ◌∙◌, append-nil, arith, inr}
use Rattle.psr_base.specs.Made.{NamedBytes, FilesSeen}
use Rattle.ring_blocks.specs.declared.Entry.{Entry}
use Rattle.stream_model.specs.Blocks.{transfer_bytes}
use Rattle.stream_model.specs.BlockLaws.{BytesAreJoined, EndsAreCounted, EntriesAreOfTransfers}
use Rattle.stream_model.specs.Recorded.{recorded_file}
use Rattle.dada_recorder.specs.Making.{Outset, HasMade, Makes, IsFileFront}
use Rattle.dada_recorder.specs.Blocks.{files_of_blocks}
use Rattle.dada_recorder.specs.Recording.{IsTooLong, IsBrokenOff, LacksBlock}
use Rattle.dada_recorder.specs.declared.transfer_files.TransferFiles.{TransferFiles}
use Rattle.dada_recorder.specs.declared.transfers.Transfers.{Transfers}
use Rattle.dada_recorder.specs.TransferFiles.{recording_in, first_files}
use Rattle.dada_recorder.specs.Transfers.{plan_in, files_of_first, IsRunning}
use Rattle.dada_recorder.proofs.DataBlocks.{ended_more, has_begun, plan_kept, files_before, too_long}
use Rattle.dada_recorder.proofs.FollowingBlocks.{blocks_follow}
use Rattle.dada_recorder.proofs.Fronts.{front_follows}
use Rattle.dada_recorder.proofs.Stepping.{placed_files, behind}

module _ (t : Transfers) (f : TransferFiles) (headers blocks : List Entry) (header : t.has_header ≡ true)
    (run : IsRunning t headers blocks) (kept : recording_in f ≡ recording_in t.files) where
  same_plan : plan_in (record t { files = f }) ≡ plan_in t
  same_plan = plan_kept t f t.total kept

  split_last : files_of_blocks (plan_in t) headers blocks
      ≡ (files_of_first (plan_in t) headers blocks t.ended
      ++ first_files (recording_in t.files) (transfer_bytes t.ended blocks) t.files.place.number)
      ++ recorded_file (recording_in t.files) (transfer_bytes t.ended blocks) t.files.place.number ∷ []
  split_last =
      let within = run.within header in
      let xs = transfer_bytes t.ended blocks in
      files_before t headers blocks header run
      ∙ rw (placed_files (recording_in t.files) t.files.place xs within.can.some within.placed within.count)
      (behind (files_of_first (plan_in t) headers blocks t.ended) (recording_in t.files) xs t.files.place.number)

  module _ (block : Entry) where
    pub long_is : BytesAreJoined → t.max_bytes - t.total < length block.bytes →
        IsTooLong (plan_in (record t { files = f })) headers (blocks ++ block ∷ []) t.max_bytes
    long_is law many =
        rw same_plan (too_long law t headers blocks block header run many)

    pub long_breaks_off : BytesAreJoined → EndsAreCounted → t.max_bytes - t.total < length block.bytes →
        IsBrokenOff (plan_in (record t { files = f })) headers (blocks ++ block ∷ [])
    long_breaks_off joins counts many =
        let ended = ended_more counts blocks block in
        let begun = (has_begun t headers blocks header run).begun in
        record { limits = inr (long_is joins many); begun = omega (arith, begun, ended) }

    -- its files, once the last is finished
    pub long_made : (outset : Outset) (seen : FilesSeen) →
        HasMade outset false (files_of_blocks (plan_in t) headers blocks) seen →
        LacksBlock (plan_in (record t { files = f })) outset headers (blocks ++ block ∷ []) seen
    long_made outset seen made = record {
      before = blocks;
      last = block;
      blocks_are = refl;
      made = rw same_plan made;
    }

    -- they are a front of those of the blocks with this one
    pub long_front : EntriesAreOfTransfers → (all : List NamedBytes) →
        IsFileFront (files_of_blocks (plan_in (record t { files = f })) headers (blocks ++ block ∷ [])) all →
        IsFileFront (files_of_blocks (plan_in t) headers blocks) all
    long_front law all front =
        let begun = (has_begun t headers blocks header run).begun in
        let more = files_of_blocks (plan_in t) headers (blocks ++ block ∷ []) in
        front_follows (files_of_blocks (plan_in t) headers blocks) more all
        (blocks_follow law (plan_in t) headers headers blocks (blocks ++ block ∷ []) run.plan.file_size.0
        ([], append-nil headers) (block ∷ [], refl) (omega (arith, begun))) (rw same_plan at front)

  -- the last file of the blocks before is finished
  pub long_makes : {T E : Type 0} {result : Result T E} {old new : FilesSeen} →
      ((before : List NamedBytes) (file : NamedBytes) →
      Makes t.files.place.is_open (before ++ file ∷ []) false (before ++ file ∷ []) old new result) →
      Makes t.files.place.is_open (files_of_blocks (plan_in t) headers blocks) false
      (files_of_blocks (plan_in t) headers blocks) old new result
  long_makes makes = rw split_last (makes _ _)

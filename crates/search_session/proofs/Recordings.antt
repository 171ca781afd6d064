-- The recorder's end.
use Rattle.std.proofs.Common.{◌≡◌, ◌≢◌, ℕ, ◌-◌, ◌≤◌, false, List, [], length, Option, Some, None, refl, sym, ap, ◌∙◌, subst, arith}
use Rattle.std.specs.Prelude.{IsSome, option_map}
use Rattle.std.proofs.lemmas.List.{append-nil}
use Rattle.std.proofs.lemmas.Option.{same_Some}
use Rattle.psr_base.specs.Made.{FilesLeft, FilesSeen}
use Rattle.ring_blocks.specs.declared.Entry.{Entry}
use Rattle.ring_ends.specs.Ended.{sealed_at_end}
use Rattle.dada_hdu.specs.declared.hdu.Hdu.{Hdu}
use Rattle.stream_model.specs.Blocks.{joined_bytes}
use Rattle.stream_model.specs.RecordedLaws.{recorded_of_transfers}
use Rattle.disk_feeder.specs.declared.feeder.Feeder.{Feeder}
use Rattle.disk_feeder.specs.Feeder.{plan_at, headers_of}
use Rattle.disk_feeder.specs.Feeding.{HeadersKeepUp, IsEnding}
use Rattle.dada_recorder.specs.declared.answers.RecordEnd.{RecordEnd}
use Rattle.dada_recorder.specs.declared.answers.RecordEnd.TheVariants.{FileFault}
use Rattle.dada_recorder.specs.declared.recorder.Recorder.{Recorder}
use Rattle.dada_recorder.specs.Making.{Outset, BeginsAt, HasMade, left_after, total_bytes}
use Rattle.dada_recorder.specs.Blocks.{RecordPlan, files_of_blocks}
use Rattle.dada_recorder.specs.Recording.{EndIs, FilesAre}
use Rattle.dada_recorder.specs.Transfers.{IsRunning, StandsAt, EndsClosed}
use Rattle.dada_recorder.specs.Recorder.{plan_of, has_end, has_header, has_open_file, FilesAreOf}
use Rattle.dada_recorder.specs.RecordingLaws.{Cleared, BeginsComplete, EndsComplete, RecordingsEnd}
use Rattle.session_readers.specs.declared.record.RecordActor.{RecordActor}
use Rattle.search_session.specs.declared.ended.SessionEnd.{SessionEnd}
use Rattle.session_readers.specs.Records.{recorded_headers, recorded_blocks, RecordOn, RecordSince, RecordMoved}
use Rattle.search_session.specs.Stages.{IsFreshRecorder, IsRecorderOf}
use Rattle.search_session.specs.Recorded.{SealsRecordable, RecordedBy, headers_through}
use Rattle.search_session.specs.Sessions.{IsEndOfRecorder}
use Rattle.search_session.proofs.RecordEnds.{complete, prefix_of, ends_recording, has_recorded, all_cleared}

-- ---- nothing was recorded

no_files : (plan : RecordPlan) → files_of_blocks plan [] [] ≡ []
unfolding files_of_blocks recorded_of_transfers
no_files plan = refl

nothing_left : (left : Option FilesLeft) → left ≡ option_map (left_after []) left
unfolding total_bytes
nothing_left None = refl
nothing_left (Some left) =
    let files : left.files - 0 ≡ left.files = omega arith in
    let bytes : left.bytes - 0 ≡ left.bytes = omega arith in
    rw (files, bytes) refl

nothing_made : (plan : RecordPlan) (outset : Outset) (seen : FilesSeen) → BeginsAt outset seen →
    HasMade outset false (files_of_blocks plan [] []) seen
nothing_made plan outset seen begins =
    rw (no_files plan) (record {
      made = rw append-nil begins.made;
      left = begins.left ∙ nothing_left outset.left;
    })

pub some_end : (end : Option RecordEnd) → IsSome end → (answer : RecordEnd) × (end ≡ Some answer)
some_end None is = absurd cc
some_end (Some answer) is = (answer, refl)

is_closed : (is_open : Type 0) (answer : RecordEnd) → EndsClosed (Some answer) is_open → answer ≢ FileFault → ¬ is_open
is_closed is_open FileFault closed other = absurd (other refl)
is_closed is_open answer closed other = closed

module _ {F : Type 0} (seen : F → FilesSeen) (files_open : F → Type 0) (hdu : Hdu) (part : Recorder F)
    (fresh : IsFreshRecorder files_open hdu part) where
  has_room : 1 ≤ (plan_of part).file_size
  has_room =
      let running : IsRunning part.space.transfers [] [] = rw fresh.running at fresh.stands in
      running.plan.file_size.0

  nothing_recorded : (outset : Outset) → BeginsAt outset (seen part.files.now) →
      FilesAreOf part outset [] [] (seen part.files.now)
  nothing_recorded outset begins =
      rw (fresh.running, fresh.no_file) (nothing_made (plan_of part) outset (seen part.files.now) begins)

  -- ---- from its start to its end

  module _ (number n : ℕ) (start x : RecordActor F) (is : IsRecorderOf part number start)
      (moved : RecordMoved seen n start x) (on : RecordOn files_open hdu x) where
    same_plan : plan_of x.part ≡ plan_of part
    same_plan = rw is.part_is at moved.plan

    start_files : (outset : Outset) → BeginsAt outset (seen part.files.now) →
        FilesAreOf start.part outset (recorded_headers start) (recorded_blocks start) (seen start.part.files.now)
    start_files outset begins =
        rw (is.no_block, is.no_header, is.part_is) (nothing_recorded outset begins)

    since_start : RecordSince (seen part.files.now).faults (seen x.part.files.now).faults x.end
    since_start =
        let k = (seen part.files.now).faults in
        let same : (seen start.part.files.now).faults ≡ k = rw is.part_is refl in
        moved.files.since k (record {
          count = omega arith;
          failed = λ e. let none = sym is.running ∙ e in absurd cc;
          quiet = λ other. same;
        })

    module _ (answer : RecordEnd) (ended : x.end ≡ Some answer) where
      part_end : has_end x.part ≡ Some answer
      part_end = sym on.end ∙ ended

      pub end_is : EndIs (plan_of part) (has_header x.part) (recorded_headers x) (recorded_blocks x) (Some answer)
      end_is =
          subst (λ (p : RecordPlan). EndIs p (has_header x.part) (recorded_headers x) (recorded_blocks x) (Some answer))
          same_plan
          (subst (λ (e : Option RecordEnd). StandsAt x.part.space.transfers (recorded_headers x) (recorded_blocks x) e)
          part_end on.stands)

      pub files_are : (outset : Outset) → BeginsAt outset (seen part.files.now) →
          FilesAre (plan_of part) outset (has_open_file x.part) (recorded_headers x) (recorded_blocks x) (Some answer)
          (seen x.part.files.now)
      files_are outset begins =
          subst (λ (e : Option RecordEnd). FilesAre (plan_of part) outset (has_open_file x.part) (recorded_headers x)
          (recorded_blocks x) e (seen x.part.files.now)) part_end
          (subst (λ (p : RecordPlan). FilesAre p outset (has_open_file x.part) (recorded_headers x)
          (recorded_blocks x) (has_end x.part) (seen x.part.files.now)) same_plan
          (moved.files.made outset (start_files outset begins)))

    -- ---- at the end of a session

    module _ {I : Type 0} (law : RecordingsEnd) (feeder : Feeder I) (end : SessionEnd I F) (headers : List Entry)
        (headers_are : headers ≡ headers_through feeder end)
        (up : HeadersKeepUp (headers_of feeder) headers (sealed_at_end end.blocks))
        (ending : IsEnding (length (plan_at feeder).starts) (sealed_at_end end.blocks) end.feed)
        (few : length (joined_bytes (sealed_at_end end.blocks)) ≤ (plan_at feeder).max_bytes) (reader : ℕ)
        (is_end : IsEndOfRecorder end reader headers x) (answer : RecordEnd) (is_answer : x.end ≡ Some answer) where
      abbrev all : Cleared
      all = record {
        headers = recorded_headers x;
        blocks = recorded_blocks x;
        all_headers = headers;
        all_blocks = sealed_at_end end.blocks;
      }

      begins_complete : SealsRecordable (plan_of part) (plan_at feeder) → BeginsComplete (plan_of part) all
      begins_complete can = record {
        complete =
            complete (plan_of part) (plan_at feeder) can headers (sealed_at_end end.blocks) end.feed up ending few;
        headers = prefix_of (recorded_headers x) headers is_end.headers_begin;
        blocks = prefix_of (recorded_blocks x) (sealed_at_end end.blocks) is_end.begins;
      }

      ends_complete : SealsRecordable (plan_of part) (plan_at feeder) → EndsComplete (plan_of part) all answer
      ends_complete can =
          law.ends (plan_of part) all (has_header x.part) answer (begins_complete can) (end_is answer is_answer)

      same_seen : seen is_end.files.now ≡ seen x.part.files.now
      same_seen = ap seen is_end.now

      same_start : (seen start.part.files.now).faults ≡ (seen part.files.now).faults
      same_start = rw is.part_is refl

      pub recorded_by : RecordedBy files_open seen feeder part reader end
      recorded_by =
          let faults = ap (λ (s : FilesSeen). s.faults) same_seen in
          let count = moved.files.count in
          let at_start = same_start in
          record {
            answer = answer;
            is = is_end.recorded ∙ is_answer;
            files = is_end.files;
            given = is_end.given;
            same_reference = is_end.same_reference ∙ rw is.part_is at moved.files.same_reference;
            count = omega arith;
            failed = λ failed. rw faults (since_start.failed (rw failed at is_answer));
            quiet = λ other. faults ∙ since_start.quiet (λ e. other (same_Some answer FileFault (sym is_answer ∙ e)));
            closed = λ other. rw is_end.now
                (is_closed (files_open x.part.files.now) answer (rw is_answer at on.closed) other);
            ends = λ can. rw headers_are at (ends_recording (plan_of part) all (length (plan_at feeder).starts) end.feed
                ending answer (ends_complete can));
            made = λ can outset begins.
                rw headers_are at (has_recorded (plan_of part) all (length (plan_at feeder).starts) end.feed ending
                outset
                (seen is_end.files.now) answer
                (law.files (plan_of part) all (has_header x.part) (has_open_file x.part) answer outset
                (seen is_end.files.now) has_room (begins_complete can) (end_is answer is_answer)
                (rw same_seen (files_are answer is_answer outset begins))));
            cleared = λ can other. is_end.cleared
                ∙ all_cleared (plan_of part) all (length (plan_at feeder).starts) end.feed ending answer
                (ends_complete can) other;
          }

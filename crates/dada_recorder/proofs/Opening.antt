-- A recorder to which no block came.
use Rattle.std.proofs.Common.{◌≡◌, ℕ, ◌-◌, ◌<◌, Bool, false, [], Option, Some, None, length, refl, sym, ◌∙◌, append-nil, arith}
use Rattle.std.specs.Option.{option_map}
use Rattle.std.proofs.lemmas.Bool.{false≢true}
use Rattle.std.proofs.lemmas.Option.{slice_get_within}
use Rattle.psr_base.specs.Made.{FilesLeft, FilesSeen}
use Rattle.ring_blocks.specs.declared.Entry.{Entry}
use Rattle.stream_model.specs.Blocks.{joined_bytes, ended_transfers, has_cut, transfer_bytes}
use Rattle.stream_model.specs.RecordedLaws.{recorded_of_transfers}
use Rattle.dada_recorder.specs.declared.answers.RecordEnd.{RecordEnd}
use Rattle.dada_recorder.specs.declared.transfers.Transfers.{Transfers}
use Rattle.dada_recorder.specs.Making.{Outset, BeginsAt, left_after, total_bytes}
use Rattle.dada_recorder.specs.Blocks.{RecordPlan, PlanInRange, files_of_blocks}
use Rattle.dada_recorder.specs.Recording.{GoesOn, FilesAre}
use Rattle.dada_recorder.specs.declared.space.RecorderSpace.{RecorderSpace}
use Rattle.dada_recorder.specs.Transfers.{plan_in, files_of_first, IsRunning, StandsAt}

no_block : (plan : RecordPlan) → PlanInRange plan → GoesOn plan false [] []
unfolding joined_bytes ended_transfers has_cut transfer_bytes
no_block plan range = record {
  in_limits = record {
    accepted = λ k block there. absurd (none_there k block (slice_get_within [] k block there));
    limit = omega arith;
  };
  more = range.some;
  uncut = refl;
  begun = omega arith;
  between = λ is. refl;
}
  where
    none_there : (k : ℕ) (block : Entry) → k < length {A = Entry} [] → ⊥
    none_there k block within = omega (arith, within)

no_files : (plan : RecordPlan) → files_of_first plan [] [] 0 ≡ []
unfolding files_of_first recorded_of_transfers
no_files plan = refl

pub fresh_runs : (t : Transfers) → PlanInRange (plan_in t) → t.ended ≡ 0 → t.finished ≡ 0 → t.total ≡ 0 →
    t.has_header ≡ false → t.files.place.is_open ≡ false → IsRunning t [] []
unfolding joined_bytes ended_transfers
fresh_runs t range ended finished total header closed =
    record {
      plan = range;
      goes_on = rw header (no_block (plan_in t) range);
      ended = ended;
      total = total;
      finished = rw (finished, ended, no_files (plan_in t)) refl;
      few = omega (arith, finished);
      within = λ is. absurd (false≢true (sym header ∙ is));
      between = λ is. closed;
    }

-- ---- its files

nothing_taken : (left : Option FilesLeft) → left ≡ option_map (left_after []) left
unfolding total_bytes
nothing_taken None = refl
nothing_taken (Some left) =
    let files : left.files - 0 ≡ left.files = omega arith in
    let bytes : left.bytes - 0 ≡ left.bytes = omega arith in
    rw (files, bytes) refl

none_of_blocks : (plan : RecordPlan) → files_of_blocks plan [] [] ≡ []
unfolding files_of_blocks recorded_of_transfers
none_of_blocks plan = refl

pub begins_made : (plan : RecordPlan) (outset : Outset) (is_open : Bool) (end : Option RecordEnd) (seen : FilesSeen) →
    BeginsAt outset seen → is_open ≡ false → end ≡ None → FilesAre plan outset is_open [] [] end seen
begins_made plan outset is_open end seen begins closed running =
    rw (running, closed, none_of_blocks plan) (record {
      made = rw (append-nil outset.files) begins.made;
      left = begins.left ∙ nothing_taken outset.left;
    })

pub stands_fresh : (space : RecorderSpace) → space.end ≡ None → IsRunning space.transfers [] [] →
    StandsAt space.transfers [] [] space.end
stands_fresh space running nothing =
    rw running nothing

use Rattle.std.proofs.Common.{◌≡◌, ℕ, ◌+◌, false, List, [], Option, Some, None, Ok, Err, refl, sym, ap, ◌∙◌, subst, length}
use Rattle.std.specs.Prelude.{slice_get, slice_index_or}
use Rattle.dada_model.specs.Fields.{HeaderText, HeaderRefusal, header_of, fields_of, ShortHeader, BadHeaderSize, NotTextAt}
use Rattle.dada_header.specs.Faults.{IsHeaderRefusal}
use Rattle.dada_header.specs.declared.faults.HeaderFault.{HeaderFault}
use Rattle.dada_header.specs.declared.faults.HeaderFault.TheVariants.{Short, NotText, BadSize, Memory}
use Rattle.obs_plan.specs.Later.{profile_of, later_offset_of}
use Rattle.psr_base.specs.Told.{Told, OfFile}
use Rattle.stream_model.specs.Walk as walk
use Rattle.stream_model.specs.Walk.{FileStream, WalkStop, file_at, begin_of, transfer_of, observation_at, data_between, header_stop, later_stop, offset_stop}
use Rattle.stream_model.specs.WalkLaws.{FirstStopCounts, DataJoin, FilesAreInTransfers}
use Rattle.disk_feeder.specs.declared.answers.HeaderCause.TheVariants.{Text, Fields}
use Rattle.disk_feeder.specs.declared.answers.FeedEnd.{FeedEnd}
use Rattle.disk_feeder.specs.declared.answers.FeedEnd.TheVariants.{Whole, ReadFault, BadHeader}
use Rattle.disk_feeder.specs.declared.place.First.{First}
use Rattle.disk_feeder.specs.declared.place.Place.{Place}
use Rattle.disk_feeder.specs.declared.source.Source.{Source}
use Rattle.disk_feeder.specs.Ends.{IsStop, IsOfHeader, fault_of}
use Rattle.disk_feeder.specs.Plan.{Plan, stream_of, IsAmong, AreToldTo, AreToldWithFirsts, opened_at, IsAtFile, AreAccepted}
use Rattle.disk_feeder.specs.History.{StandsIf, ReadsUpTo}
use Rattle.disk_feeder.specs.Reached.{WalkGoesOn}
use Rattle.disk_feeder.specs.Reading.{NoStopBefore, DataBegin, HasRead, HasEnded, EndsReading, judged_at}
use Rattle.disk_feeder.specs.Sources.{plan_of, RefusesText}
use Rattle.disk_feeder.proofs.Histories.{opened_on, broken_on}
use Rattle.disk_feeder.proofs.Behind.{begin_still, begin_opened, through_opened, through_unopened}
use Rattle.disk_feeder.proofs.Readings.{IsHere, at_file, known_at, front_here, stop_is, went_on, stopped_at}
use Rattle.disk_feeder.proofs.Needed.{told_before, told_opened, firsts_opened, firsts_aside, passed_still, headers_still}
use Rattle.disk_feeder.proofs.OfSource.{here}
use Rattle.disk_feeder.proofs.source.Source.open_next.Goals as goal

-- a header that is no header stops the walk
header_stops : (s : FileStream) (k : ℕ) (refusal : HeaderRefusal) → header_of (file_at s k) ≡ Err refusal →
    header_stop s k ≡ Some (walk.BadText k refusal)
unfolding header_stop
header_stops s k refusal is =
    let begin = begin_of s (transfer_of s.starts k) in
    let first = observation_at (file_at s begin) in
    ap (later_stop k (profile_of first) (first.obs_offset + length (data_between s.files begin k))) is

-- what a file's text says of the end
by_text : (plan : Plan) (told told' : Told) (at : Place) (before : List (List ℕ)) (current : List ℕ) →
    IsHere plan told told' at → HasRead plan told at before current → at.is_open ≡ false → FilesAreInTransfers →
    FirstStopCounts → DataJoin → WalkGoesOn → (room : ℕ) (end : FeedEnd) →
    OfFile told (slice_index_or plan.names at.file []) (λ file. RefusesText file at.file end) →
    HasEnded plan told' at before current room end
by_text plan told told' at before current o has shut transfers counts join goes room end refuses = record {
  passed = passed_still plan told told' at.file o.names has.passed;
  ends = by_end end refuses;
  inside = at_file plan told told' at o;
  begin = begin_still plan told at before current has.begin told' o.names;
}
  where
    refused : (end : FeedEnd) →
        OfFile told (slice_index_or plan.names at.file []) (λ file. RefusesText file at.file end) →
        (files : List (List ℕ)) → AreToldTo (at.file + 1) told' plan files →
        RefusesText (file_at (stream_of plan files) at.file) at.file end
    refused end refuses files are =
        refuses (file_at (stream_of plan files) at.file) (known_at plan told told' at o files are)

    stops : (k : ℕ) (files : List (List ℕ)) → AreToldTo (opened_at at) told' plan files → k ≡ at.file →
        (fault : HeaderFault) (refusal : HeaderRefusal) →
        header_of (file_at (stream_of plan files) at.file) ≡ Err refusal → fault ≡ fault_of refusal →
        EndsReading (stream_of plan files) at before current room (BadHeader k (Text fault))
    stops k files are number fault refusal is same =
        stopped_at plan told told' at before current o has files are shut transfers counts
        (walk.BadText at.file refusal) (BadHeader k (Text fault)) room
        (header_stops (stream_of plan files) at.file refusal is)
        (λ bytes limit. ap (λ (n : ℕ). BadHeader n (Text fault)) number ∙ ap (λ (f : HeaderFault). BadHeader at.file
        (Text f)) same) tt

    by_fault : (k : ℕ) (files : List (List ℕ)) → AreToldTo (opened_at at) told' plan files → k ≡ at.file →
        (fault : HeaderFault) → IsHeaderRefusal (file_at (stream_of plan files) at.file) fault →
        EndsReading (stream_of plan files) at before current room (BadHeader k (Text fault))
    by_fault k files are number (Short had) is = stops k files are number (Short had) (ShortHeader had) is refl
    by_fault k files are number (NotText place) is = stops k files are number (NotText place) (NotTextAt place) is refl
    by_fault k files are number BadSize is = stops k files are number BadSize BadHeaderSize is refl
    by_fault k files are number Memory is = absurd is

    by_end : (end : FeedEnd) → OfFile told (slice_index_or plan.names at.file []) (λ file. RefusesText file at.file end)
        → (files : List (List ℕ)) → AreToldTo (judged_at end at) told' plan files →
        EndsReading (stream_of plan files) at before current room end
    by_end ReadFault refuses files are = front_here plan told told' at before current o has files are goes join
    by_end (BadHeader k (Text fault)) refuses files are =
        let r = refused (BadHeader k (Text fault)) refuses files are in
        by_fault k files (told_opened at told' plan files are) r.0 fault r.1
    by_end (BadHeader k (Fields fault)) refuses files are =
        absurd (refused (BadHeader k (Fields fault)) refuses files are)
    by_end end refuses files are = absurd (refused end refuses files are)

pub first-requires-clause-accepted : goal.first-requires-clause-accepted
first-requires-clause-accepted g c =
    let P : Plan → Type 0 = λ plan. AreAccepted plan in
    subst P (sym c.in-Ok.ensures.stays.plan) c.requires.more.accepted

-- a header that was judged
judged_stop : (k : ℕ) (first : First) (since : ℕ) (file : List ℕ) (header : HeaderText) → header_of file ≡ Ok header →
    later_stop k first.profile (first.offset + since) (header_of file)
    ≡ offset_stop k (first.offset + since) (later_offset_of first.profile (fields_of header.text))
judged_stop k first since file header is = ap (later_stop k first.profile (first.offset + since)) is

first_is : (old new : Source) (first : First) → plan_of new ≡ plan_of old → new.place ≡ old.place →
    slice_get new.firsts new.place.transfer ≡ Some (Some first) →
    slice_get old.firsts old.place.transfer ≡ Some (Some first)
first_is old new first plan place is =
    ap (λ (p : Plan). slice_get p.firsts old.place.transfer) (sym plan)
    ∙ ap (λ (pl : Place). slice_get new.firsts pl.transfer) (sym place) ∙ is

-- the stop of a header that was judged
by_judge : (plan : Plan) (told told' : Told) (at : Place) (before : List (List ℕ)) (current : List ℕ) →
    IsHere plan told told' at → HasRead plan told at before current → at.is_open ≡ false → FilesAreInTransfers →
    FirstStopCounts → (room : ℕ) (files : List (List ℕ)) → AreToldTo (opened_at at) told' plan files →
    (end : FeedEnd) (stop : Option WalkStop) →
    header_stop (stream_of plan files) at.file ≡ stop → IsStop stop end → IsOfHeader end →
    EndsReading (stream_of plan files) at before current room end
by_judge plan told told' at before current o has shut transfers counts room files are end None is stops kind =
    absurd stops
by_judge plan told told' at before current o has shut transfers counts room files are end (Some stop) is stops kind =
    stopped_at plan told told' at before current o has files are shut transfers counts stop end room is stops kind

pub returns-in-Ok-judge-clause-read : goal.returns-in-Ok-judge-clause-read
returns-in-Ok-judge-clause-read g c = λ before current has.
    let source = c.args.self.now in
    let new = c.open_file.new.self in
    let plan = plan_of source in
    let at = source.place in
    let told = g.I.Inputs.told c.args.inputs.now in
    let told' = g.I.Inputs.told c.open_file.new.inputs in
    let o = here source told told' c.requires.more.there c.requires.more.more c.open_file.ensures.inputs.names in
    let first = c.first.result in
    let there = first_is source new first c.in-Ok.ensures.stays.plan c.in-Ok.ensures.stays.place c.first.ensures in
    record {
      accepted = has.accepted;
      headers = headers_still plan told told' o.names has.headers;
      transfers = has.transfers;
      since = has.since;
      total = has.total;
      passed = passed_still plan told told' at.file o.names has.passed;
      known = λ files are.
          let file = file_at (stream_of plan files) at.file in
          let known = known_at plan told told' at o files are in
          let fewer = told_opened at told' plan files are in
          went_on plan told told' at before current o has files fewer c.requires.shut c.files_are_in_transfers.ensures
          c.data_grow.ensures
          (stop_is plan told told' at before current o has files fewer c.requires.shut c.files_are_in_transfers.ensures
          are first there source.headed
          ∙ judged_stop at.file first at.since file new.later (c.in-Ok.ensures.header file known)
          ∙ rw (← c.in-Ok.ensures.stays.place) c.in-Ok-judge.ensures.judged)
          (c.in-Ok.ensures.left file known);
      begin = begin_opened plan told' at before current
          (begin_still plan told at before current has.begin told' o.names);
    }

-- an end of a header is judged by its file
ended_by_header : (plan : Plan) (told : Told) (at : Place) (before : List (List ℕ)) (current : List ℕ) (room : ℕ)
    (end : FeedEnd) → IsOfHeader end → NoStopBefore plan told at.file → IsAtFile plan at →
    DataBegin plan told at before current → ((files : List (List ℕ)) → AreToldTo (at.file + 1) told plan files →
    EndsReading (stream_of plan files) at before current room end) → HasEnded plan told at before current room end
ended_by_header plan told at before current room (Whole bytes) kind passed inside begin ends = absurd kind
ended_by_header plan told at before current room ReadFault kind passed inside begin ends = absurd kind
ended_by_header plan told at before current room end kind passed inside begin ends =
    record { passed = passed; ends = ends; inside = inside; begin = begin }

pub returns-in-Err-judge-clause-read : goal.returns-in-Err-judge-clause-read
returns-in-Err-judge-clause-read g c = λ before current has room.
    let source = c.args.self.now in
    let new = c.open_file.new.self in
    let plan = plan_of source in
    let at = source.place in
    let told = g.I.Inputs.told c.args.inputs.now in
    let told' = g.I.Inputs.told c.open_file.new.inputs in
    let o = here source told told' c.requires.more.there c.requires.more.more c.open_file.ensures.inputs.names in
    let first = c.first.result in
    let there = first_is source new first c.in-Ok.ensures.stays.plan c.in-Ok.ensures.stays.place c.first.ensures in
    ended_by_header plan told' at before current room c.in-Err-judge.end c.in-Err-judge.ensures.kind
    (passed_still plan told told' at.file o.names has.passed) (at_file plan told told' at o)
    (begin_still plan told at before current has.begin told' o.names) (λ files are.
    let fewer = told_opened at told' plan files are in
    let file = file_at (stream_of plan files) at.file in
    let known = known_at plan told told' at o files are in
    by_judge plan told told' at before current o has c.requires.shut c.files_are_in_transfers.ensures
    c.first_stop_counts.ensures room files fewer c.in-Err-judge.end
    (offset_stop at.file (first.offset + at.since) (later_offset_of first.profile (fields_of new.later.text)))
    (stop_is plan told told' at before current o has files fewer c.requires.shut c.files_are_in_transfers.ensures are
    first there source.headed
    ∙ judged_stop at.file first at.since file new.later (c.in-Ok.ensures.header file known))
    (rw (← c.in-Ok.ensures.stays.place) c.in-Err-judge.ensures.judged) c.in-Err-judge.ensures.kind)

pub returns-in-Err-clause-read : goal.returns-in-Err-clause-read
returns-in-Err-clause-read g c = λ before current has room.
    let source = c.args.self.now in
    let plan = plan_of source in
    let at = source.place in
    let told = g.I.Inputs.told c.args.inputs.now in
    let told' = g.I.Inputs.told c.open_file.new.inputs in
    let o = here source told told' c.requires.more.there c.requires.more.more c.open_file.ensures.inputs.names in
    by_text plan told told' at before current o has c.requires.shut c.files_are_in_transfers.ensures
    c.first_stop_counts.ensures c.data_join.ensures c.walk_goes_on.ensures room c.in-Err.end c.in-Err.ensures.stopped.1

-- ---- what was read

-- the files before were
read_before : (plan : Plan) (told told' before : Told) (at : Place) (files : List (List ℕ)) →
    IsHere plan told told' at → AreToldWithFirsts (opened_at at) told' plan files → ReadsUpTo plan before told at →
    StandsIf at.is_open plan.names (stream_of plan files) before told at
read_before plan told told' before at files o are reads =
    let Needed : ℕ → Type 0 = IsAmong (opened_at at) plan.starts (length plan.names) in
    reads.known files (told_before Needed told told' plan.names files o.names are)

pub returns-in-Ok-judge-clause-reads_on : goal.returns-in-Ok-judge-clause-reads_on
returns-in-Ok-judge-clause-reads_on g c = λ before reads.
    let source = c.args.self.now in
    let plan = plan_of source in
    let at = source.place in
    let told = g.I.Inputs.told c.args.inputs.now in
    let told' = g.I.Inputs.told c.open_file.new.inputs in
    let o = here source told told' c.requires.more.there c.requires.more.more c.open_file.ensures.inputs.names in
    rw c.in-Ok.ensures.stays.place (record {
      known = λ files are.
          let s = stream_of plan files in
          let known = known_at plan told told' at o files (firsts_aside (at.file + 1) told' plan files are) in
          opened_on plan.names s before told told' at.transfer at.file at.since c.open_file.new.self.later
          (c.in-Ok.ensures.header (file_at s at.file) known)
          (rw c.requires.shut at (read_before plan told told' before at files o (firsts_opened at told' plan files are)
          reads)) (c.in-Ok.ensures.read.known (file_at s at.file) known);
      through = through_opened plan before told told' at o.names reads.through c.requires.shut
          c.in-Ok.ensures.read.earlier;
    })

-- an end that a header gives is no fault
no_fault : (end : FeedEnd) → IsOfHeader end → end ≡ ReadFault → ⊥
no_fault end kind failed = rw failed at kind

pub returns-in-Err-judge-clause-reads_on : goal.returns-in-Err-judge-clause-reads_on
returns-in-Err-judge-clause-reads_on g c = λ before reads failed.
    absurd (no_fault c.in-Err-judge.end c.in-Err-judge.ensures.kind failed)

pub returns-in-Err-clause-reads_on : goal.returns-in-Err-clause-reads_on
returns-in-Err-clause-reads_on g c = λ before reads failed.
    let source = c.args.self.now in
    let plan = plan_of source in
    let at = source.place in
    let told = g.I.Inputs.told c.args.inputs.now in
    let told' = g.I.Inputs.told c.open_file.new.inputs in
    let o = here source told told' c.requires.more.there c.requires.more.more c.open_file.ensures.inputs.names in
    let broke = c.in-Err.ensures.broke (ap Err failed) in
    rw c.in-Err.ensures.stays.place (record {
      known = λ files are.
          let s = stream_of plan files in
          rw c.requires.shut
          (broken_on plan.names s before told told' at.transfer at.file at.since
          (rw c.requires.shut at (read_before plan told told' before at files o (firsts_opened at told' plan files are)
          reads))
          (broke.known (file_at s at.file)
          (known_at plan told told' at o files (firsts_aside (at.file + 1) told' plan files are))));
      through = through_unopened plan before told told' at o.names reads.through c.requires.shut broke.one;
    })

-- A feeder whose first headers were accepted stands for the first header alone.
use Rattle.std.proofs.Common.{◌≡◌, ℕ, ◌+◌, ◌<◌, Bool, true, List, [], ◌++◌, Some, None, Ok, length, take, get_or, refl, sym, ap, ◌∙◌, arith}
use Rattle.std.specs.Prelude.{slice_get, slice_index_or}
use Rattle.std.proofs.lemmas.Option.{slice_get-get_or, slice_get_within}
use Rattle.psr_base.specs.Told.{Told, OfFile, left_to_read}
use Rattle.dada_model.specs.Fields.{HeaderText, header_of, fields_of}
use Rattle.dada_model.specs.Observation.{observation_in}
use Rattle.stream_model.specs.Blocks.{whole_stream, joined_data}
use Rattle.stream_model.specs.Walk.{FileStream, file_at, begin_of, data_of, data_between, header_stop}
use Rattle.stream_model.specs.WalkLaws.{AreStarts, IsAccepted, AreWalked, FirstFilesContinue, DataGrow, DataNone}
use Rattle.disk_feeder.specs.declared.place.Place.{Place}
use Rattle.disk_feeder.specs.declared.source.Source.{Source}
use Rattle.disk_feeder.specs.declared.stream.Stream.{Stream}
use Rattle.disk_feeder.specs.Plan.{Plan, stream_of, begin_at, AreToldTo, AreAccepted, HeadersAreTold}
use Rattle.disk_feeder.specs.Reading.{IsAt, HasRead}
use Rattle.disk_feeder.specs.Sources.{plan_of, first_name}
use Rattle.disk_feeder.specs.Filling.{IsFilled}
use Rattle.disk_feeder.specs.Beginning.{start_place, HeadersRead, IsBegunStream}
use Rattle.disk_feeder.specs.Feeding.{header_entries, IsFeeding}
use Rattle.disk_feeder.proofs.Needed.{told_to_open}
use Rattle.disk_feeder.proofs.Sealings.{next_begun}
use Rattle.disk_feeder.proofs.Behind.{begin_start}
use Rattle.disk_feeder.proofs.Streams.{starts_of, first_header}
use Rattle.disk_feeder.proofs.OfSource.{name_count, plan_starts}
use Rattle.disk_feeder.proofs.Runs.{feeds_running}

-- the files of the only transfer are walked, where its first header was accepted
walked : (plan : Plan) (files : List (List ℕ)) → length files ≡ length plan.names →
    AreStarts plan.starts (length plan.names) → AreAccepted plan → length plan.headers ≡ length plan.starts →
    length plan.starts ≡ 1 → ((header : HeaderText) → slice_get plan.headers 0 ≡ Some header →
    header_of (file_at (stream_of plan files) (begin_of (stream_of plan files) 0)) ≡ Ok header) →
    AreWalked (stream_of plan files)
walked plan files count starts accepted headed one headers = record {
  starts = starts_of plan files count starts;
  accepted = λ transfer there. rw (← the_only transfer there) first;
}
  where
    s : FileStream
    s = stream_of plan files

    the_only : (transfer : ℕ) → transfer < length plan.starts → 0 ≡ transfer
    the_only transfer there = omega arith

    first : IsAccepted (file_at s (begin_of s 0))
    first =
        let none : HeaderText = record { size = 0; text = [] } in
        let header = get_or plan.headers 0 none in
        let at : slice_get plan.headers 0 ≡ Some header = slice_get-get_or plan.headers 0 none (omega arith) in
        let a = accepted 0 header at in
        record {
          header = header;
          observation = observation_in (fields_of header.text);
          is_header = headers header at;
          is_observation = a.2.accepted;
        }

-- at the first file nothing was read
at_start : DataGrow → DataNone → (plan : Plan) (told : Told) (is_open : Bool) (files : List (List ℕ)) →
    AreStarts plan.starts (length files) →
    (is_open ≡ true → header_stop (stream_of plan files) (begin_of (stream_of plan files) 0) ≡ None) →
    (is_open ≡ true → left_to_read told ≡ Some (data_of (file_at (stream_of plan files) 0))) →
    IsAt (stream_of plan files) told (start_place is_open) [] []
at_start grow none plan told is_open files starts goes_on left =
    let s = stream_of plan files in
    let first : begin_of s 0 ≡ 0 = starts.first in
    let there = starts.within 0 starts.some in
    record {
      earlier = refl;
      passed = λ j less. absurd (omega arith);
      judged = λ open_now. ap (header_stop s) (sym first) ∙ goes_on open_now;
      shut = λ shut_now. sym (none files 0) ∙ ap (λ (n : ℕ). data_between files n 0) (sym first);
      rest = λ open_now. (
        data_of (file_at s 0),
        left open_now,
        ap (λ (n : ℕ). data_between files n 1) first
            ∙ grow files 0 0 (omega arith) (omega arith)
            ∙ ap (λ (xs : List ℕ). xs ++ data_of (file_at s 0)) (none files 0),
      );
    }

read_start : FirstFilesContinue → DataGrow → DataNone → (plan : Plan) (told : Told) (is_open : Bool) →
    AreStarts plan.starts (length plan.names) → AreAccepted plan → length plan.headers ≡ length plan.starts →
    HeadersAreTold plan told → (is_open ≡ true → length plan.starts ≡ 1) →
    (is_open ≡ true → (files : List (List ℕ)) → AreToldTo 1 told plan files →
    left_to_read told ≡ Some (data_of (file_at (stream_of plan files) 0))) →
    HasRead plan told (start_place is_open) [] []
unfolding joined_data
read_start continue grow none plan told is_open starts accepted headed headers one left = record {
  accepted = accepted;
  headers = headers;
  transfers = refl;
  since = refl;
  total = refl;
  passed = λ k less. absurd (omega arith);
  known = λ files are.
      at_start grow none plan told is_open files (starts_of plan files are.count starts) (λ open_now.
      let below = starts.within 0 starts.some in
      let first = starts.first in
      continue (stream_of plan files) 0 (walked plan files are.count starts accepted headed (one open_now)
      (first_header 1 plan told files 0 headers (told_to_open (start_place is_open) told plan files open_now are) below
      (omega arith)))
      starts.some)
      (λ open_now. left open_now files (told_to_open (start_place is_open) told plan files open_now are));
  begin = begin_start none plan told is_open starts.first;
}

-- ---- the first files that were read

-- so the first headers are those of the files
headers_known : (source : Source) (told : Told) → HeadersRead told source (length source.starts.now) source →
    HeadersAreTold (plan_of source) told
headers_known source told read = λ k header at file known.
    let headed : length source.headers.items ≡ length source.starts.now = source.headed in
    let there = slice_get_within source.headers.items k header at in
    read k (omega arith) file
    (ap (λ (n : ℕ). told.bytes_under (slice_index_or (plan_of source).names (begin_at source.starts.now n k) []))
    (sym (name_count source)) ∙ known) header at

-- and what is left of the first one are its data
left_known : (source : Source) (told : Told) (is_open : Bool) → (is_open ≡ true →
    OfFile told (first_name source 0) (λ file. left_to_read told ≡ Some (data_of file))) → is_open ≡ true →
    (files : List (List ℕ)) → AreToldTo 1 told (plan_of source) files →
    left_to_read told ≡ Some (data_of (file_at (stream_of (plan_of source) files) 0))
left_known source told is_open left open_now files are =
    let plan = plan_of source in
    let starts = plan_starts source in
    let below = starts.within 0 starts.some in
    let first = starts.first in
    left open_now (slice_index_or files 0 [])
    (ap (λ (k : ℕ). told.bytes_under (slice_index_or plan.names k [])) source.begin.first
    ∙ are.each 0 (omega arith) (omega arith))

filled_start : (plan : Plan) (told : Told) (at : Place) (block : List ℕ) → HasRead plan told at [] [] →
    0 < length block → IsFilled plan told at block 0 None []
unfolding whole_stream
filled_start plan told at block has some = next_begun plan told at block [] [] some has refl

pub begins_feeding : FirstFilesContinue → DataGrow → DataNone → (s : Stream) (told : Told) → IsBegunStream told s →
    AreAccepted (plan_of s.source) → IsFeeding s told (header_entries (take 1 (plan_of s.source).headers)) []
begins_feeding continue grow none s told b accepted =
    let plan = plan_of s.source in
    let headers = plan.headers in
    let some = s.source.begin.some in
    let at = s.source.place in
    let zero_transfer : at.transfer ≡ 0 = ap (λ (p : Place). p.transfer) b.place in
    let has : HasRead plan told at [] [] = rw b.place
    (read_start continue grow none plan told at.is_open (plan_starts s.source) accepted s.source.headed
    (headers_known s.source told b.headers) b.one (left_known s.source told at.is_open b.left)) in
    feeds_running s told (header_entries (take 1 headers)) [] b.end (record {
      there = omega arith;
      accepted = accepted;
      sealed = rw (b.header_due, zero_transfer) refl;
      stream = rw (b.held, b.due) (filled_start plan told at s.block.items has s.some);
    })

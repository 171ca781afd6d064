-- The stop of a header.
use Rattle.std.proofs.Common.{◌≡◌, ℕ, ◌+◌, true, false, Option, Some, None, Result, Ok, Err, length, refl, sym, ap, subst}
use Rattle.std.specs.Prelude.{Bool, if◌then◌else◌, ◌==◌}
use Rattle.dada_model.specs.Fields.{HeaderText, HeaderRefusal, header_of, fields_of}
use Rattle.obs_plan.specs.Later.{profile_of, later_offset_of}
use Rattle.obs_plan.specs.declared.profile.Profile.{Profile}
use Rattle.obs_plan.specs.declared.fault.ObsFault.{ObsFault}
use Rattle.stream_model.specs.Walk as walk
use Rattle.stream_model.specs.Walk.{FileStream, WalkStop, file_at, begin_of, transfer_of, data_between, observation_at, length_stop, header_stop, later_stop, offset_stop, stop_at, first_of_two, stream_to, stream_before}
use Rattle.disk_feeder.specs.Reading.{StopsAtFile}

-- a stop of an offset has the number of its file
offset_number : (k expected : ℕ) (o : Result ℕ ObsFault) (stop : WalkStop) → offset_stop k expected o ≡ Some stop →
    StopsAtFile stop k
offset_number k expected (Err fault) stop is =
    let P : WalkStop → Type 0 = λ w. StopsAtFile w k in
    let same : walk.BadFields k fault ≡ stop = cc in subst P same refl
offset_number k expected (Ok found) stop is = by_test (found == expected) is
  where
    by_test : (b : Bool) → (if b then None else Some (walk.Gap k expected found)) ≡ Some stop → StopsAtFile stop k
    by_test true f = absurd cc
    by_test false f =
        let P : WalkStop → Type 0 = λ w. StopsAtFile w k in
        let same : walk.Gap k expected found ≡ stop = cc in subst P same refl

-- so has a stop of a header
header_number : (k expected : ℕ) (profile : Profile) (r : Result HeaderText HeaderRefusal) (stop : WalkStop) →
    later_stop k profile expected r ≡ Some stop → StopsAtFile stop k
header_number k expected profile (Err refusal) stop is =
    let P : WalkStop → Type 0 = λ w. StopsAtFile w k in
    let same : walk.BadText k refusal ≡ stop = cc in subst P same refl
header_number k expected profile (Ok header) stop is =
    offset_number k expected (later_offset_of profile (fields_of header.text)) stop is

pub stop_number : (s : FileStream) (k : ℕ) (stop : WalkStop) → header_stop s k ≡ Some stop → StopsAtFile stop k
unfolding header_stop
stop_number s k stop is =
    let begin = begin_of s (transfer_of s.starts k) in
    let first = observation_at (file_at s begin) in
    header_number k (first.obs_offset + length (data_between s.files begin k)) (profile_of first)
    (header_of (file_at s k)) stop is

-- a walk that stops at an offset
offset_blocks : (size : ℕ) (s : FileStream) (k expected : ℕ) (o : Result ℕ ObsFault) (stop : WalkStop) →
    offset_stop k expected o ≡ Some stop → stream_to size s stop ≡ stream_before size s k k
offset_blocks size s k expected (Err fault) stop is =
    let same : walk.BadFields k fault ≡ stop = cc in ap (stream_to size s) (sym same)
offset_blocks size s k expected (Ok found) stop is = by_test (found == expected) is
  where
    by_test : (b : Bool) → (if b then None else Some (walk.Gap k expected found)) ≡ Some stop →
        stream_to size s stop ≡ stream_before size s k k
    by_test true f = absurd cc
    by_test false f = let same : walk.Gap k expected found ≡ stop = cc in ap (stream_to size s) (sym same)

-- a walk that stops at the header of file k has the blocks of the data before it
header_blocks : (size : ℕ) (s : FileStream) (k expected : ℕ) (profile : Profile) (r : Result HeaderText HeaderRefusal)
    (stop : WalkStop) → later_stop k profile expected r ≡ Some stop → stream_to size s stop ≡ stream_before size s k k
header_blocks size s k expected profile (Err refusal) stop is =
    let same : walk.BadText k refusal ≡ stop = cc in ap (stream_to size s) (sym same)
header_blocks size s k expected profile (Ok header) stop is =
    offset_blocks size s k expected (later_offset_of profile (fields_of header.text)) stop is

pub stop_blocks : (size : ℕ) (s : FileStream) (k : ℕ) (stop : WalkStop) → header_stop s k ≡ Some stop →
    stream_to size s stop ≡ stream_before size s k k
unfolding header_stop
stop_blocks size s k stop is =
    let begin = begin_of s (transfer_of s.starts k) in
    let first = observation_at (file_at s begin) in
    header_blocks size s k (first.obs_offset + length (data_between s.files begin k)) (profile_of first)
    (header_of (file_at s k)) stop is

pub stop_of_header : (s : FileStream) (k : ℕ) (stop : WalkStop) → header_stop s k ≡ Some stop → stop_at s k ≡ Some stop
unfolding stop_at
stop_of_header s k stop is = ap (λ (o : Option WalkStop). first_of_two o (length_stop s k)) is

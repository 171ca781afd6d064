-- A file that was opened, and data that were read of an open one.
use Rattle.std.proofs.Common.{◌≡◌, ℕ, ◌+◌, ◌<◌, ◌≤◌, true, false, List, [], ◌++◌, Option, Some, None, length, take, drop, refl, sym, ap, ◌∙◌, subst, inl, inr, append_assoc, arith}
use Rattle.std.specs.Prelude.{Bool, if◌then◌else◌, slice_get, slice_index_or}
use Rattle.std.specs.Option.{option_map}
use Rattle.std.proofs.lemmas.Bool.{true≢false, le-ltb, lt-ltb, cases_eq}
use Rattle.std.proofs.lemmas.List.{append-nil, length-append, take-append-drop, drop-drop, length-take-le}
use Rattle.dada_model.specs.Fields.{header_of}
use Rattle.psr_base.specs.Told.{Told, Reading, left_to_read, moved_by, rest_after, GivesNext}
use Rattle.stream_model.specs.Blocks.{joined_data, abandoned_stream}
use Rattle.stream_model.specs.Walk as walk
use Rattle.stream_model.specs.Walk.{FileStream, WalkStop, file_at, begin_of, transfer_of, walk_data, data_of, data_between, header_stop, later_stop, length_stop, stop_at, first_of_two, walk_stream, stream_to}
use Rattle.stream_model.specs.WalkLaws.{AreStarts, IsIn, FilesAreInTransfers, DataGrow, DataJoin, TransfersJoin, FirstStopCounts}
use Rattle.disk_feeder.specs.declared.answers.FeedEnd.{FeedEnd}
use Rattle.disk_feeder.specs.declared.answers.FeedEnd.TheVariants.{Whole, ReadFault, TooLong}
use Rattle.disk_feeder.specs.declared.place.First.{First}
use Rattle.disk_feeder.specs.declared.place.Place.{Place}
use Rattle.disk_feeder.specs.Ends.{end_of, IsOfHeader}
use Rattle.disk_feeder.specs.Plan.{Plan, stream_of, AreToldTo, opened_at, begin_at, IsAtFile}
use Rattle.disk_feeder.specs.Reading.{IsAt, HasRead, IsFront, IsEnd, StopsAtFile, EndsReading}
use Rattle.disk_feeder.specs.Reached.{WalkGoesOn}
use Rattle.disk_feeder.proofs.Reaching.{IsWithin, came_to, goes_on}
use Rattle.disk_feeder.proofs.Headers.{stop_blocks, stop_number, stop_of_header}
use Rattle.disk_feeder.proofs.Streams.{starts_of, begin_most, is_in, first_header, first_of, judged_by}
use Rattle.disk_feeder.proofs.Needed.{told_before, told_fewer, told_opened, passed_still, headers_still}
use Rattle.disk_feeder.proofs.Behind.{begin_still, begin_more, begin_closed}
use Rattle.disk_feeder.proofs.Fulls.{abandoned_past}

-- what is left of what is told after n bytes
left_to_read-moved_by : (n : ℕ) (told : Told) → left_to_read (moved_by n told) ≡ rest_after n (left_to_read told)
left_to_read-moved_by n told = by_file told.reading
  where
    by_bytes : (place : ℕ) (bytes : Option (List ℕ)) →
        option_map (drop (place + n)) bytes ≡ rest_after n (option_map (drop place) bytes)
    by_bytes place None = refl
    by_bytes place (Some bytes) = ap Some (sym (drop-drop n place bytes))

    by_file : (file : Option Reading) → left_to_read (moved_by n (record told { reading = file }))
        ≡ rest_after n (left_to_read (record told { reading = file }))
    by_file None = refl
    by_file (Some r) = by_bytes r.place (told.bytes_under r.name)

-- a file within the limit whose header goes on stops no walk
passes : (s : FileStream) (k : ℕ) → header_stop s k ≡ None → length (data_between s.files 0 (k + 1)) ≤ s.max_bytes →
    stop_at s k ≡ None
unfolding stop_at length_stop
passes s k none few =
    ap (λ (o : Option WalkStop). first_of_two o (length_stop s k)) none
    ∙ ap (λ (b : Bool). if b then Some (walk.TooLong k) else None)
    (le-ltb s.max_bytes (length (data_between s.files 0 (k + 1))) few)

-- one past it does
stops_long : (s : FileStream) (k : ℕ) → header_stop s k ≡ None → s.max_bytes < length (data_between s.files 0 (k + 1)) →
    stop_at s k ≡ Some (walk.TooLong k)
unfolding stop_at length_stop
stops_long s k none many =
    ap (λ (o : Option WalkStop). first_of_two o (length_stop s k)) none
    ∙ ap (λ (b : Bool). if b then Some (walk.TooLong k) else None)
    (lt-ltb s.max_bytes (length (data_between s.files 0 (k + 1))) many)

-- an end of a header is the walk's
ends_by_header : (s : FileStream) (at : Place) (before : List (List ℕ)) (current : List ℕ) (room : ℕ) (end : FeedEnd) →
    IsOfHeader end → IsEnd s at before current room end → EndsReading s at before current room end
ends_by_header s at before current room (Whole bytes) kind is = absurd kind
ends_by_header s at before current room ReadFault kind is = absurd kind
ends_by_header s at before current room end kind is = is

-- the file of a place is there, and what is told under names stays
pub record IsHere (plan : Plan) (told told' : Told) (at : Place) : Type 0 where
  pub place : IsWithin plan at
  pub before : at.file < begin_at plan.starts (length plan.names) (at.transfer + 1)
  pub names : told'.bytes_under ≡ told.bytes_under

module _ (plan : Plan) (told told' : Told) (at : Place) (o : IsHere plan told told' at) where
  pub at_file : IsAtFile plan at
  at_file = record { there = o.place.there; from = o.place.from; before = o.before }

  pub below : (files : List (List ℕ)) → length files ≡ length plan.names → at.file < length files
  below files count =
      let most = begin_most plan.starts (length plan.names) at.transfer o.place.starts o.place.there in
      let before = o.before in
      omega arith

  -- its bytes are told
  pub known_at : (files : List (List ℕ)) → AreToldTo (at.file + 1) told' plan files →
      told.bytes_under (slice_index_or plan.names at.file []) ≡ Some (file_at (stream_of plan files) at.file)
  known_at files are =
      let count = are.count in
      let there = below files count in
      (told_before (λ k. k < at.file + 1) told told' plan.names files o.names are).each at.file (omega arith) (omega
      arith)

module _ (plan : Plan) (told told' : Told) (at : Place) (before : List (List ℕ)) (current : List ℕ)
    (o : IsHere plan told told' at) (has : HasRead plan told at before current)
    (files : List (List ℕ)) (are : AreToldTo (opened_at at) told' plan files) where
  abbrev s : FileStream
  s = stream_of plan files

  abbrev still : AreToldTo (opened_at at) told plan files
  still = told_before (λ k. k < opened_at at) told told' plan.names files o.names are

  pub was : IsAt s told at before current
  was = has.known files still

  starts : AreStarts plan.starts (length files)
  starts = starts_of plan files are.count o.place.starts

  inside : IsIn s at.transfer at.file
  inside = is_in plan files are.count at.transfer at.file o.place.there o.place.from o.before

  there : at.file < length files
  there = below plan told told' at o files are.count

  -- the inputs failed
  pub front_here : WalkGoesOn → DataJoin → IsFront s at before current
  front_here goes join =
      let came = came_to plan told at before current o.place has files still in
      let next = begin_of s (at.transfer + 1) in
      record {
        there = o.place.there;
        inside = inside;
        passed = was.passed;
        judged = was.judged;
        earlier = was.earlier;
        more = came.left ++ data_between files came.to next;
        front = goes_on join s at.transfer at.file before current came next came.upto;
        begins = goes s at.transfer at.file before current came;
      }

  -- ---- its header was read

  module _ (shut : at.is_open ≡ false) (transfers : FilesAreInTransfers) where
    transfer_is : transfer_of plan.starts at.file ≡ at.transfer
    transfer_is = transfers s at.transfer at.file starts inside

    so_far : current ≡ data_between files (begin_of s at.transfer) at.file
    so_far = was.shut shut

    -- what the header is judged by
    pub stop_is : AreToldTo (at.file + 1) told' plan files → (first : First) →
        slice_get plan.firsts at.transfer ≡ Some (Some first) → length plan.headers ≡ length plan.starts →
        header_stop s at.file
        ≡ later_stop at.file first.profile (first.offset + at.since) (header_of (file_at s at.file))
    stop_is full first is headed =
        let within = o.place.there in
        let from = o.place.from in
        let upto = o.before in
        let most = begin_most plan.starts (length plan.names) at.transfer o.place.starts o.place.there in
        let known = told_before (λ k. k < at.file + 1) told told' plan.names files o.names full in
        judged_by s at.transfer at.file at.since first transfer_is
        (first_of plan s at.transfer first has.accepted
        (first_header (at.file + 1) plan told files at.transfer has.headers known (omega arith) (omega arith))
        (omega arith) is)
        (sym has.since ∙ ap (length {A = ℕ}) so_far)

    -- it goes on
    pub went_on : DataGrow → header_stop s at.file ≡ None → left_to_read told' ≡ Some (data_of (file_at s at.file)) →
        IsAt s told' (record at { is_open = true }) before current
    went_on grow none left = record {
      earlier = was.earlier;
      passed = was.passed;
      judged = λ open_now. none;
      shut = λ shut_now. absurd (true≢false shut_now);
      rest = λ open_now. (
        data_of (file_at s at.file),
        left,
        grow files (begin_of s at.transfer) at.file inside.from there
            ∙ ap (λ (xs : List ℕ). xs ++ data_of (file_at s at.file)) (sym so_far),
      );
    }

    -- it is the walk's stop
    pub stopped_at : FirstStopCounts → (stop : WalkStop) (end : FeedEnd) (room : ℕ) →
        header_stop s at.file ≡ Some stop → ((bytes limit : ℕ) → end ≡ end_of bytes limit stop) →
        IsOfHeader end → EndsReading s at before current room end
    unfolding walk_stream
    stopped_at counts stop end room is end_is kind =
        let whole = counts s at.file stop was.passed there (stop_of_header s at.file stop is) in
        let Stops : WalkStop → Type 0 = λ w. StopsAtFile w at.file in
        ends_by_header s at before current room end kind (record {
          stops = subst Stops (sym whole) (stop_number s at.file stop is);
          is = end_is (length (joined_data (walk_data s))) plan.max_bytes
              ∙ ap (end_of (length (joined_data (walk_data s))) plan.max_bytes) (sym whole);
          blocks = λ size fulls held sum fits some.
              ap (stream_to size s) whole
              ∙ stop_blocks size s at.file stop is
              ∙ ap (λ (t : ℕ). abandoned_stream size plan.max_bytes (take t (walk_data s))
              (data_between files (begin_of s t) at.file)) transfer_is
              ∙ ap (λ (b : List (List ℕ)). abandoned_stream size plan.max_bytes b
              (data_between files (begin_of s at.transfer) at.file)) (sym was.earlier)
              ∙ ap (abandoned_stream size plan.max_bytes before) (sym so_far);
        })

  -- ---- its data are read

  module _ (opened : at.is_open ≡ true) where
    -- what is left of the file
    abbrev pub left : List ℕ
    left = (was.rest opened).0

    pub left_is : left_to_read told ≡ Some left
    left_is = (was.rest opened).1

    data_is : data_between files (begin_of s at.transfer) (at.file + 1) ≡ current ++ left
    data_is = (was.rest opened).2

    -- the data of all files up to this one
    all_is : TransfersJoin → joined_data before ++ (current ++ left) ≡ data_between files 0 (at.file + 1)
    all_is joins =
        let from = inside.from in
        let within = o.place.there in
        ap (λ (b : List (List ℕ)). joined_data b ++ (current ++ left)) was.earlier
        ∙ ap (λ (xs : List ℕ). joined_data (take at.transfer (walk_data s)) ++ xs) (sym data_is)
        ∙ joins s at.transfer (at.file + 1) starts (omega arith) (omega arith)

    all_count : TransfersJoin → length (data_between files 0 (at.file + 1)) ≡ at.total + length left
    all_count joins =
        let total = has.total in
        omega (
          arith,
          ap (length {A = ℕ}) (all_is joins),
          length-append (joined_data before) (current ++ left),
          length-append current left,
        )

    -- n bytes more
    pub took : (n : ℕ) (buffer : List ℕ) (since total : ℕ) → GivesNext left n buffer → told' ≡ moved_by n told →
        IsAt s told' (record at { since = since; total = total }) before (current ++ take n buffer)
    took n buffer since total gives moved = record {
      earlier = was.earlier;
      passed = was.passed;
      judged = was.judged;
      shut = λ shut_now. absurd (true≢false (sym opened ∙ shut_now));
      rest = λ open_now. (
        drop n left,
        ap left_to_read moved ∙ left_to_read-moved_by n told ∙ ap (rest_after n) left_is,
        data_is
            ∙ ap (λ (xs : List ℕ). current ++ xs) (sym (take-append-drop n left))
            ∙ ap (λ (xs : List ℕ). current ++ (xs ++ drop n left)) (sym gives.given)
            ∙ sym (append_assoc current (take n buffer) (drop n left)),
      );
    }

    -- none are left
    pub closed : TransfersJoin → (buffer : List ℕ) → GivesNext left 0 buffer →
        IsAt s told' (record at { file = at.file + 1; is_open = false }) before (current ++ take 0 buffer)
    closed joins buffer gives =
        let none : left ≡ [] = gives.ends refl in
        let count = all_count joins in
        let empty : length left ≡ 0 = ap (length {A = ℕ}) none in
        let within = o.place.within in
        record {
          earlier = was.earlier;
          passed = λ j less. elim (cases_eq j at.file) [
            | inl same ↦ ap (stop_at s) same ∙ passes s at.file (was.judged opened) (omega arith)
            | inr other ↦ was.passed j (omega arith)
          ];
          judged = λ open_now. absurd (true≢false (sym open_now));
          shut = λ shut_now. ap (λ (xs : List ℕ). current ++ xs) (sym none) ∙ sym data_is;
          rest = λ open_now. absurd (true≢false (sym open_now));
        }

    -- there are too many
    pub too_long : TransfersJoin → FilesAreInTransfers → FirstStopCounts → (n : ℕ) (buffer : List ℕ) →
        GivesNext left n buffer → n ≤ length buffer → plan.max_bytes < at.total + n →
        IsEnd s at before current (length buffer) (TooLong plan.max_bytes)
    unfolding walk_stream
    too_long joins transfers counts n buffer gives room past =
        let count = all_count joins in
        let within = o.place.within in
        let total = has.total in
        let some = gives.within in
        let whole = counts s at.file (walk.TooLong at.file) was.passed there
        (stops_long s at.file (was.judged opened) (omega arith)) in
        let Stops : WalkStop → Type 0 = λ w. StopsAtFile w at.file in
        record {
          stops = subst Stops (sym whole) refl;
          is = ap (end_of (length (joined_data (walk_data s))) plan.max_bytes) (sym whole);
          blocks = λ size fulls held sum fits positive.
              ap (stream_to size s) whole
              ∙ ap (λ (t : ℕ). abandoned_stream size plan.max_bytes (take t (walk_data s))
              (data_between files (begin_of s t) (at.file + 1))) (transfers s at.transfer at.file starts inside)
              ∙ ap (λ (b : List (List ℕ)). abandoned_stream size plan.max_bytes b
              (data_between files (begin_of s at.transfer) (at.file + 1))) (sym was.earlier)
              ∙ ap (abandoned_stream size plan.max_bytes before) data_is
              ∙ abandoned_past size plan.max_bytes fulls held n before current left sum (omega arith) (omega arith) some
              (omega arith) (omega arith);
        }

-- ---- the same of all that is read

module _ (plan : Plan) (told told' : Told) (at : Place) (before : List (List ℕ)) (current : List ℕ)
    (o : IsHere plan told told' at) (has : HasRead plan told at before current) (opened : at.is_open ≡ true) where
  -- what comes next of the file that is read
  pub given : (n : ℕ) (buffer : List ℕ) →
      ((left : List ℕ) → left_to_read told ≡ Some left → GivesNext left n buffer) → (files : List (List ℕ)) →
      (are : AreToldTo (opened_at at) told' plan files) →
      GivesNext (left plan told told' at before current o has files are opened) n buffer
  given n buffer gives files are =
      gives (left plan told told' at before current o has files are opened)
      (left_is plan told told' at before current o has files are opened)

  pub has_closed : TransfersJoin → (buffer : List ℕ) →
      ((left : List ℕ) → left_to_read told ≡ Some left → GivesNext left 0 buffer) →
      HasRead plan told' (record at { file = at.file + 1; is_open = false }) before (current ++ [])
  has_closed joins buffer gives =
      let same : length (current ++ []) ≡ length current = ap (length {A = ℕ}) (append-nil current) in
      let since = has.since in
      let total = has.total in
      let closed_at : (files : List (List ℕ)) → AreToldTo (at.file + 1) told' plan files →
      IsAt (stream_of plan files) told' (record at { file = at.file + 1; is_open = false }) before (current ++ []) =
      λ files are.
      let fewer = told_opened at told' plan files are in
      closed plan told told' at before current o has files fewer opened joins buffer (given 0 buffer gives files fewer)
      in
      record {
        accepted = has.accepted;
        headers = headers_still plan told told' o.names has.headers;
        transfers = has.transfers;
        since = omega arith;
        total = omega arith;
        passed = λ k less files are. elim (cases_eq k at.file) [
          | inl same ↦
              (closed_at files (told_fewer (at.file + 1) (k + 1) told' plan files (omega arith) are)).passed k less
          | inr other ↦ passed_still plan told told' at.file o.names has.passed k (omega arith) files are
        ];
        known = closed_at;
        begin = begin_closed plan told' at before current
            (begin_still plan told at before current has.begin told' o.names) closed_at;
      }

  pub has_took : (n : ℕ) (buffer : List ℕ) → n ≤ length buffer →
      ((left : List ℕ) → left_to_read told ≡ Some left → GivesNext left n buffer) → told' ≡ moved_by n told →
      HasRead plan told' (record at { since = at.since + n; total = at.total + n }) before (current ++ take n buffer)
  has_took n buffer room gives moved =
      let count : length (take n buffer) ≡ n = length-take-le n buffer room in
      let sum = length-append current (take n buffer) in
      let since = has.since in
      let total = has.total in
      record {
        accepted = has.accepted;
        headers = headers_still plan told told' o.names has.headers;
        transfers = has.transfers;
        since = omega arith;
        total = omega arith;
        passed = passed_still plan told told' at.file o.names has.passed;
        known = λ files are.
            took plan told told' at before current o has files are opened n buffer (at.since + n) (at.total + n)
            (given n buffer gives files are) moved;
        begin = begin_more plan told' at before current
            (begin_still plan told at before current has.begin told' o.names) (take n buffer) (at.since + n)
            (at.total + n) opened;
      }

-- What stands against a run is what it ends at.
use Rattle.std.proofs.Common.{◌≡◌, ◌⊎◌, ℕ, ◌+◌, ◌<◌, ◌≤◌, List, [], ◌∷◌, Option, Some, None, length, inl, inr, refl, sym, ap, ◌∙◌, subst, arith}
use Rattle.std.specs.Prelude.{Bool, true, false, if◌then◌else◌, slice_index_or}
use Rattle.ring_blocks.specs.declared.Entry.{Entry}
use Rattle.std.proofs.lemmas.Bool.{cases_lt}
use Rattle.psr_base.specs.Told.{Told, OfFile}
use Rattle.psr_base.specs.Written.{SinkSeen}
use Rattle.dada_model.specs.Fields.{HeaderText}
use Rattle.dada_model.specs.Observation.{Observation}
use Rattle.dada_header.specs.Faults.{IsHeaderRefusal}
use Rattle.search_words.specs.Settings.{RunSeen}
use Rattle.stream_model.specs.BlockLaws.{BytesAreJoined}
use Rattle.stream_model.specs.Walk as walk
use Rattle.stream_model.specs.Walk.{FileStream, WalkStop, transfer_data, stop_at, walk_stop}
use Rattle.stream_model.specs.WalkLaws.{AreWalked, FirstStopCounts, WalkJoinsData}
use Rattle.disk_feeder.specs.declared.answers.FeedEnd.{FeedEnd}
use Rattle.disk_feeder.specs.declared.answers.FeedEnd.TheVariants.{Whole, ReadFault, BadHeader, Gap, TooLong}
use Rattle.disk_feeder.specs.declared.answers.HeaderCause.{HeaderCause}
use Rattle.disk_feeder.specs.declared.answers.HeaderCause.TheVariants.{Text, Fields}
use Rattle.disk_feeder.specs.Ends.{end_of}
use Rattle.disk_feeder.specs.Feeding.{EndIs}
use Rattle.disk_feeder.specs.declared.place.Place.{Place}
use Rattle.disk_feeder.specs.Plan.{AreTold, AreToldAt, IsFirstFile, opened_at}
use Rattle.disk_feeder.specs.Reading.{judged_at}
use Rattle.run_outcome.specs.declared.stop.Stop.TheVariants as halts
use Rattle.run_outcome.specs.Conversions.{stop_of_feed}
use Rattle.run_outcome.specs.Ends.{AcceptedIsNotRefused}
use Rattle.run_outcome.specs.Runs.{RecordingAlone, RefusesFirstHeader, stop_of_walk, stream_for}
use Rattle.search_opening.specs.Early.{SaysEarly}
use Rattle.drive_stream.specs.declared.stop.StreamStop.{StreamStop}
use Rattle.drive_stream.specs.declared.stop.StreamStop.TheVariants.{Run}
use Rattle.drive_stream.specs.declared.stop.StreamStop.TheVariants as stops
use Rattle.drive_stream.specs.Endings.{Ending, All, Early, Failed, Refused}
use Rattle.drive_stream.specs.Laws.{IsFromOutside, RefusesAtEnd}
use Rattle.drive_stream.specs.Opening.{IsOfOne}
use Rattle.drive_stream.specs.Outcome.{EndsEarly, EndsStream, OfHead, SaysBefore}
use Rattle.drive_stream.specs.Stops.{IsStopOf, as_run}
use Rattle.drive_stream.proofs.Ending.{whole_end}
use Rattle.drive_stream.proofs.Ends.{says_failed}
use Rattle.drive_stream.proofs.Fronts.{one_start}
use Rattle.drive_stream.proofs.Openings.{of_first_head}
use Rattle.drive_stream.proofs.Told.{some_told}

-- ---- the ends of data

pub memory_outside : {F : Type 0} (stop : Option (StreamStop F)) → stop ≡ Some (Run halts.Memory) → IsFromOutside stop
memory_outside stop is = inl is

pub fault_outside : {F : Type 0} (stop : Option (StreamStop F)) → stop ≡ Some (Run halts.ReadFault) →
    IsFromOutside stop
fault_outside stop is = inr (inl is)

pub sink_outside : {F : Type 0} (stop : Option (StreamStop F)) → stop ≡ Some (Run halts.SinkFault) → IsFromOutside stop
sink_outside stop is = inr (inr is)

-- the end of a walk that is whole
whole_is : (bytes limit : ℕ) (at : WalkStop) → at ≡ walk.Whole → end_of bytes limit at ≡ Whole bytes
whole_is bytes limit at is = ap (end_of bytes limit) is

-- the stop at the end that a stop of the walk gives
walk_end : (bytes limit : ℕ) (at : WalkStop) → stop_of_feed (end_of bytes limit at) ≡ stop_of_walk limit at
walk_end bytes limit walk.Whole = refl
walk_end bytes limit at = refl

-- data that all came are taken, or refused
whole_stops : {F : Type 0} (bytes : ℕ) (ending : Ending F) (stop : Option (StreamStop F)) →
    IsStopOf (Whole bytes) ending stop →
    (stop ≡ None) ⊎ ((refusal : F) × (stop ≡ Some (stops.Refused refusal)) × (ending ≡ Refused refusal))
whole_stops bytes All stop is = inl is
whole_stops bytes (Refused refusal) stop is = inr (refusal, is, refl)
whole_stops bytes Early stop is = absurd is
whole_stops bytes (Failed phase) stop is = absurd is

-- others stop the run
early_stops : {F : Type 0} (end : FeedEnd) (ending : Ending F) (stop : Option (StreamStop F)) →
    IsStopOf end ending stop → ((bytes : ℕ) → end ≡ Whole bytes → ⊥) →
    (stop ≡ as_run (stop_of_feed end)) ⊎ IsFromOutside stop
early_stops (Whole bytes) ending stop is early = absurd (early bytes refl)
early_stops ReadFault ending stop is early = inr (fault_outside stop (says_failed ReadFault ending stop is refl))
early_stops (BadHeader file cause) Early stop is early = inl is
early_stops (Gap file expected found) Early stop is early = inl is
early_stops (TooLong limit) Early stop is early = inl is
early_stops end ending stop is early = absurd is

-- where the walk of the files is whole, all data came, or the inputs failed
whole_or_fault : (w : FileStream) (size : ℕ) (blocks : List Entry) (end : FeedEnd) → EndIs w size blocks end →
    walk_stop w ≡ walk.Whole → ((bytes : ℕ) × (end ≡ Whole bytes)) ⊎ (end ≡ ReadFault)
whole_or_fault w size blocks ReadFault at whole = inr refl
whole_or_fault w size blocks (Whole bytes) at whole = inl (bytes, refl)
whole_or_fault w size blocks end at whole = inl (_, at.is ∙ whole_is _ w.max_bytes (walk_stop w) whole)

-- an end that isn't a fault of the inputs is that of the walk
walk_or_fault : (w : FileStream) (size : ℕ) (blocks : List Entry) (end : FeedEnd) → EndIs w size blocks end →
    (stop_of_feed end ≡ stop_of_walk w.max_bytes (walk_stop w)) ⊎ (end ≡ ReadFault)
walk_or_fault w size blocks ReadFault at = inr refl
walk_or_fault w size blocks end at = inl (ap stop_of_feed at.is ∙ walk_end _ w.max_bytes (walk_stop w))

-- how many files judge an end, at most
judged_most : (end : FeedEnd) (at : Place) (file : ℕ) → at.file ≤ file → (k : ℕ) → k < judged_at end at → k < file + 1
judged_most ReadFault at file is k below = opened_most at.is_open refl
  where
    opened_most : (b : Bool) → at.is_open ≡ b → k < file + 1
    opened_most true open_is =
        let here : opened_at at ≡ at.file + 1 = ap (λ (b : Bool). if b then at.file + 1 else at.file) open_is in
        omega (arith, here, below, is)
    opened_most false open_is =
        let here : opened_at at ≡ at.file = ap (λ (b : Bool). if b then at.file + 1 else at.file) open_is in
        omega (arith, here, below, is)
judged_most end at file is k below = omega (arith, is, below)

-- ---- the first file

module _ (s : RunSeen) (one : IsOfOne s) (told : Told) where
  starts_are : s.starts ≡ 0 ∷ []
  starts_are = one_start s.starts (length s.names) one.one one.range.transfers.first

  only : (transfer : ℕ) → transfer < length s.starts → transfer ≡ 0
  only transfer there = let count = one.one in omega (arith, there, count)

  -- a file up to some one is told, so the first one is
  pub first_told : (end : ℕ) (files : List (List ℕ)) → 0 < end → AreToldAt (λ k. k < end) told s.names files →
      AreToldAt (IsFirstFile s.starts (length s.names)) told s.names files
  first_told end files some are = record {
    count = are.count;
    each = λ k below first. are.each k below (let is = first_is first.0 first.1 k first.2 in omega (arith, is, some));
  }
    where
      first_is : (transfer : ℕ) → transfer < length s.starts → (k : ℕ) →
          k ≡ slice_index_or s.starts transfer (length s.names) → k ≡ 0
      first_is transfer there k is =
          is ∙ ap (λ (t : ℕ). slice_index_or s.starts t (length s.names)) (only transfer there)
          ∙ one.range.transfers.first

  -- what is said of the first header is so of the first file
  pub first_refused : (files : List (List ℕ)) → AreToldAt (IsFirstFile s.starts (length s.names)) told s.names files →
      (file : ℕ) (cause : HeaderCause) → SaysEarly RecordingAlone s told (halts.Header file cause) →
      RefusesFirstHeader (stream_for s files) file cause
  first_refused files are file (Fields fault) says = says.1 files are
  first_refused files are file (Text fault) says =
      let begin = slice_index_or s.starts says.transfer in
      let there = one.range.transfers.within says.transfer says.there in
      let name : told.bytes_under (slice_index_or s.names file []) ≡ Some (slice_index_or files file []) =
      are.each file (subst (λ k. k < length s.names) (sym says.is) there) (says.transfer, says.there, says.is) in
      record {
        transfer = says.transfer;
        there = says.there;
        is = says.is ∙ ap begin (sym are.count);
        cause = subst (λ k. IsHeaderRefusal (slice_index_or files k []) fault) (says.is ∙ ap begin (sym are.count))
            (told_file (slice_index_or s.names file []) (slice_index_or files file [])
            (λ bytes. IsHeaderRefusal bytes fault) name says.refused);
        earlier = λ k below. absurd (let none = only says.transfer says.there in omega (arith, below, none));
      }
    where
      told_file : (name bytes : List ℕ) (P : List ℕ → Type 0) → told.bytes_under name ≡ Some bytes →
          OfFile told name P → P bytes
      told_file name bytes P is holds = holds bytes is

-- ---- by the end of a run

module _ {F : Type 0} (block : Observation → ℕ) (takes : Observation → HeaderText → Type 0)
    (refuses : Observation → HeaderText → F → Type 0)
    (leaves : Observation → HeaderText → List ℕ → Ending F → SinkSeen → SinkSeen → Type 0)
    (apart : (o : Observation) (header : HeaderText) (refusal : F) → takes o header → refuses o header refusal → ⊥)
    (accepted : AcceptedIsNotRefused) (s : RunSeen) (one : IsOfOne s) (told : Told) (before after : SinkSeen)
    (stop : Option (StreamStop F)) where
  -- a run whose first header is accepted
  early_walked : (files : List (List ℕ)) → AreToldAt (IsFirstFile s.starts (length s.names)) told s.names files →
      AreWalked (stream_for s files) → (what : StreamStop F) → stop ≡ Some what → SaysBefore refuses s told what →
      ((refusal : F) × (stop ≡ Some (stops.Refused refusal))
      × OfHead (λ o header. refuses o header refusal) (stream_for s files)) ⊎ IsFromOutside stop
  early_walked files are walked (stops.Refused refusal) is says =
      inl (refusal, is, of_first_head s told (λ o header. refuses o header refusal) says files are)
  early_walked files are walked (Run (halts.Header file cause)) is says =
      absurd (accepted.header (stream_for s files) file cause walked
      (first_refused s one told files are file cause says.1))
  early_walked files are walked (Run halts.Memory) is says = inr (memory_outside stop is)
  early_walked files are walked (Run halts.ReadFault) is says = inr (fault_outside stop is)
  early_walked files are walked what is says = absurd says.0

  -- and taken
  early_taken : (files : List (List ℕ)) → AreToldAt (IsFirstFile s.starts (length s.names)) told s.names files →
      AreWalked (stream_for s files) → OfHead takes (stream_for s files) →
      EndsEarly refuses s told before after stop → IsFromOutside stop
  early_taken files are walked taken e = by (early_walked files are walked e.what e.is e.says)
    where
      by : ((refusal : F) × (stop ≡ Some (stops.Refused refusal))
          × OfHead (λ o header. refuses o header refusal) (stream_for s files)) ⊎ IsFromOutside stop →
          IsFromOutside stop
      by (inl refused) = absurd (apart _ _ refused.0 taken refused.2)
      by (inr outside) = outside

  pub header_answered : EndsStream block takes refuses leaves s told before after stop → (files : List (List ℕ)) →
      AreToldAt (IsFirstFile s.starts (length s.names)) told s.names files → (file : ℕ) (cause : HeaderCause) →
      RefusesFirstHeader (stream_for s files) file cause →
      ((k : ℕ) × (other : HeaderCause) × (stop ≡ Some (Run (halts.Header k other)))) ⊎ IsFromOutside stop
  header_answered (inr (inl e)) files are file cause refused =
      absurd (accepted.header (stream_for s files) file cause (e.left files are).0 refused)
  header_answered (inr (inr e)) files are file cause refused =
      absurd (accepted.header (stream_for s files) file cause (e.left files are).0 refused)
  header_answered (inl e) files are file cause refused = by e.what e.is e.says
    where
      by : (what : StreamStop F) → stop ≡ Some what → SaysBefore refuses s told what →
          ((k : ℕ) × (other : HeaderCause) × (stop ≡ Some (Run (halts.Header k other)))) ⊎ IsFromOutside stop
      by (stops.Refused refusal) is says =
          absurd (accepted.header (stream_for s files) file cause (says.first.1 files are).walked refused)
      by (Run (halts.Header k other)) is says = inl (k, other, is)
      by (Run halts.Memory) is says = inr (memory_outside stop is)
      by (Run halts.ReadFault) is says = inr (fault_outside stop is)
      by what is says = absurd says.0

  pub refusal_answered : EndsStream block takes refuses leaves s told before after stop → (files : List (List ℕ)) →
      AreToldAt (IsFirstFile s.starts (length s.names)) told s.names files → AreWalked (stream_for s files) →
      (refusal : F) → OfHead (λ o header. refuses o header refusal) (stream_for s files) →
      ((other : F) × (stop ≡ Some (stops.Refused other))
      × OfHead (λ o header. refuses o header other) (stream_for s files)) ⊎ IsFromOutside stop
  refusal_answered (inl e) files are walked refusal refused = early_walked files are walked e.what e.is e.says
  refusal_answered (inr (inl e)) files are walked refusal refused =
      absurd (apart _ _ refusal (e.left files are).1 refused)
  refusal_answered (inr (inr e)) files are walked refusal refused =
      absurd (apart _ _ refusal (e.left files are).1 refused)

  pub goes_through : BytesAreJoined → WalkJoinsData → EndsStream block takes refuses leaves s told before after stop →
      (files : List (List ℕ)) → AreTold told s.names files → AreWalked (stream_for s files) →
      OfHead takes (stream_for s files) → walk_stop (stream_for s files) ≡ walk.Whole →
      (stop ≡ None) ⊎ (RefusesAtEnd leaves (stream_for s files) before after stop ⊎ IsFromOutside stop)
  goes_through join joins (inl e) files are walked taken whole =
      inr (inr (early_taken files (some_told (IsFirstFile s.starts (length s.names)) told s.names files are) walked
      taken e))
  goes_through join joins (inr (inr e)) files are walked taken whole = inr (inr (sink_outside stop e.is))
  goes_through join joins (inr (inl e)) files are walked taken whole =
      by (whole_or_fault (stream_for s files) e.size e.blocks e.feed
      (e.walked files (some_told (λ k. k < judged_at e.feed e.at) told s.names files are)) whole)
    where
      by_end : (bytes : ℕ) → e.feed ≡ Whole bytes →
          (stop ≡ None) ⊎ ((refusal : F) × (stop ≡ Some (stops.Refused refusal)) × (e.ending ≡ Refused refusal)) →
          (stop ≡ None) ⊎ (RefusesAtEnd leaves (stream_for s files) before after stop ⊎ IsFromOutside stop)
      by_end bytes is (inl none) = inl none
      by_end bytes is (inr refused) =
          let end = whole_end join joins block takes leaves s one told before after files are stop e bytes is in
          let left = e.left files (some_told (IsFirstFile s.starts (length s.names)) told s.names files are) in
          let w = stream_for s files in
          let P : List ℕ → Type 0 = λ xs. OfHead (λ o header. leaves o header xs e.ending before after) w in
          let Q : Ending F → Type 0 = λ ending.
          OfHead (λ o header. leaves o header (transfer_data w 0) ending before after) w in
          inr (inl (refused.0, refused.1, subst Q refused.2 (subst P end.1 left.2)))

      by : ((bytes : ℕ) × (e.feed ≡ Whole bytes)) ⊎ (e.feed ≡ ReadFault) →
          (stop ≡ None) ⊎ (RefusesAtEnd leaves (stream_for s files) before after stop ⊎ IsFromOutside stop)
      by (inr broken) = inr (inr (fault_outside stop (says_failed e.feed e.ending stop e.is broken)))
      by (inl all) =
          let Is : FeedEnd → Type 0 = λ end. IsStopOf end e.ending stop in
          by_end all.0 all.1 (whole_stops all.0 e.ending stop (subst Is all.1 e.is))

  pub stop_answered : FirstStopCounts → EndsStream block takes refuses leaves s told before after stop → (file : ℕ) →
      file < length s.names → (files : List (List ℕ)) → AreToldAt (λ k. k < file + 1) told s.names files →
      AreWalked (stream_for s files) → OfHead takes (stream_for s files) →
      ((k : ℕ) → k < file → stop_at (stream_for s files) k ≡ None) → (at : WalkStop) →
      stop_at (stream_for s files) file ≡ Some at →
      (stop ≡ as_run (stop_of_walk s.max_bytes at)) ⊎ IsFromOutside stop
  stop_answered counts (inl e) file below files are walked taken passed at is =
      inr (early_taken files (first_told s one told (file + 1) files (omega arith) are) walked taken e)
  stop_answered counts (inr (inr e)) file below files are walked taken passed at is = inr (sink_outside stop e.is)
  stop_answered counts (inr (inl e)) file below files are walked taken passed at is =
      by_order (cases_lt file e.at.file)
    where
      some_none : Some at ≡ None → ⊥
      some_none is = absurd cc

      by_order : (file < e.at.file) ⊎ (e.at.file ≤ file) →
          (stop ≡ as_run (stop_of_walk s.max_bytes at)) ⊎ IsFromOutside stop
      by_order (inl past) = absurd (some_none (sym is ∙ e.passed file past files are))
      by_order (inr sooner) =
          let stops_at = counts (stream_for s files) file at passed (subst (λ n. file < n) (sym are.count) below) is in
          let near : AreToldAt (λ k. k < judged_at e.feed e.at) told s.names files = record {
            count = are.count;
            each = λ k inside needed. are.each k inside (judged_most e.feed e.at file sooner k needed);
          } in
          let never : (bytes : ℕ) → e.feed ≡ Whole bytes → ⊥ = λ bytes whole.
          let last = e.last bytes whole in omega (arith, last, sooner, below) in
          by_stop stops_at (walk_or_fault (stream_for s files) e.size e.blocks e.feed (e.walked files near))
          (early_stops e.feed e.ending stop e.is never)
        where
          by_stop : walk_stop (stream_for s files) ≡ at →
              (stop_of_feed e.feed ≡ stop_of_walk s.max_bytes (walk_stop (stream_for s files))) ⊎ (e.feed ≡ ReadFault) →
              (stop ≡ as_run (stop_of_feed e.feed)) ⊎ IsFromOutside stop →
              (stop ≡ as_run (stop_of_walk s.max_bytes at)) ⊎ IsFromOutside stop
          by_stop same known (inr outside) = inr outside
          by_stop same (inr broken) (inl early) =
              inr (fault_outside stop (says_failed e.feed e.ending stop e.is broken))
          by_stop same (inl known) (inl early) =
              inl (early ∙ ap as_run (known ∙ ap (stop_of_walk s.max_bytes) same))

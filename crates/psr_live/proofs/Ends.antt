-- From the end of a stream to its text.
use Rattle.std.proofs.Common.{◌≡◌, ◌≢◌, ℕ, ◌≤◌, ◌<◌, List, [], length, Option, Some, None, Err, refl, sym, ◌∙◌, ap, subst, inl, inr, append-nil, lit<, arith}
use Rattle.std.specs.Prelude.{Contains, IfSome, slice_index_or}
use Rattle.std.specs.Option.{ForSome}
use Rattle.dada_model.specs.Fields.{HeaderText}
use Rattle.dada_model.specs.Observation.{Observation}
use Rattle.psr_base.specs.Told.{Told, InputsSeen}
use Rattle.psr_base.specs.Written.{Noted, SinkSeen, WroteAll}
use Rattle.search_model.specs.Plan.{plan_refusal}
use Rattle.search_words.specs.declared.fault.WordFault.{WordFault}
use Rattle.search_words.specs.declared.fault.WordFault.TheVariants as word
use Rattle.search_words.specs.Settings.{RunSeen, SettingsSeen, with_search}
use Rattle.stream_model.specs.BlockLaws.{BytesAreJoined}
use Rattle.stream_model.specs.Blocks.{joined_bytes, joined_data}
use Rattle.ring_blocks.specs.declared.Entry.{Entry}
use Rattle.stream_model.specs.Walk as walk
use Rattle.stream_model.specs.Walk.{FileStream, WalkStop, stream_to, transfer_data, walk_data, walk_stop, walk_stream}
use Rattle.stream_model.specs.WalkLaws.{AreWalked}
use Rattle.disk_feeder.specs.declared.answers.FeedEnd.{FeedEnd}
use Rattle.disk_feeder.specs.declared.answers.FeedEnd.TheVariants as feed
use Rattle.disk_feeder.specs.Ends.{end_of}
use Rattle.disk_feeder.specs.Feeding.{EndIs, IsWalkEnd}
use Rattle.disk_feeder.specs.Plan.{AreTold, AreToldAt}
use Rattle.warm_restart.specs.declared.checkpoint.Checkpoint.{Checkpoint}
use Rattle.warm_restart.specs.declared.checkpoint.CheckpointFault.{CheckpointFault}
use Rattle.warm_restart.specs.declared.checkpoint.CheckpointFault.TheVariants as check
use Rattle.warm_restart.specs.Checkpoint.{IsJudged}
use Rattle.warm_restart.specs.Counts.{greatest_count}
use Rattle.run_outcome.specs.declared.stop.Stop.{Stop}
use Rattle.run_outcome.specs.declared.stop.Stop.TheVariants.{Words, Header, Plan, Memory, ReadFault, Gap, TooLong}
use Rattle.run_outcome.specs.Conversions.{stop_of_feed, stop_of_words}
use Rattle.run_outcome.specs.Ends.{WordsSayOnce}
use Rattle.run_outcome.specs.Texts.{status_of}
use Rattle.run_outcome.specs.Runs.{Alone, CanSearch, stream_for}
use Rattle.run_outcome.specs.Firsts.{first_file}
use Rattle.search_opening.specs.First.{ComesFirst}
use Rattle.drive_stream.specs.declared.stop.StreamStop.{StreamStop}
use Rattle.drive_stream.specs.declared.stop.StreamStop.TheVariants as streamed
use Rattle.drive_stream.specs.Endings.{Ending, All, Early, Failed, Refused, AtStop}
use Rattle.drive_stream.specs.Outcome.{EndsEarly, EndsFed, EndsStream, OfHead, SaysBefore}
use Rattle.drive_stream.specs.Stops.{IsStopOf, as_run}
use Rattle.psr_part.specs.declared.stop.CheckpointRefusal.{CheckpointRefusal}
use Rattle.psr_part.specs.declared.stop.CheckpointRefusal.TheVariants as check_refusal
use Rattle.psr_part.specs.declared.stop.PartStop.{PartStop}
use Rattle.psr_part.specs.declared.stop.PartStop.TheVariants as part
use Rattle.psr_part.specs.Part.{check_text_of}
use Rattle.psr_part.specs.Texts.{end_status, stop_of_checkpoint}
use Rattle.psr_live.specs.declared.task.LiveRefusal.{LiveRefusal}
use Rattle.psr_live.specs.declared.task.LiveRefusal.TheVariants as refusals
use Rattle.psr_live.specs.Outcome.{EndsLive, EndsStreamed, ForLive, LeavesIn, SayLive, WritesText, spectra_in, text_in}
use Rattle.psr_live.specs.Reads.{IsRefused}
use Rattle.psr_live.specs.Task.{RefusesLive, live_block}
use Rattle.psr_live.specs.Texts.{live_note, live_statuses, part_stop, stop_of_stream}
use Rattle.psr_live.specs.Words.{live_alone}

-- ---- all data of one transfer

whole_stop : (bytes n limit : ℕ) (stop : WalkStop) → feed.Whole n ≡ end_of bytes limit stop → stop ≡ walk.Whole
whole_stop bytes n limit walk.Whole is = refl
whole_stop bytes n limit stop is = absurd cc

one_joined : (w : FileStream) → length w.starts ≡ 1 → joined_data (walk_data w) ≡ transfer_data w 0
unfolding joined_data walk_data
one_joined w one = rw one (append-nil (transfer_data w 0))

whole_data : BytesAreJoined → (w : FileStream) (size n : ℕ) (blocks : List Entry) → length w.starts ≡ 1 →
    IsWalkEnd w size blocks (feed.Whole n) → (walk_stop w ≡ walk.Whole) × (joined_bytes blocks ≡ transfer_data w 0)
unfolding walk_stream
whole_data joined w size n blocks one end =
    let is = whole_stop _ n w.max_bytes (walk_stop w) end.is in (
      is,
      ap joined_bytes (end.stream ∙ ap (stream_to size w) is) ∙ joined.whole size (walk_data w) ∙ one_joined w one,
    )

-- ---- which end it was

-- a stop is the program's own, where there is one
abbrev pub IsOwn : Option (StreamStop LiveRefusal) → Type 0
IsOwn stop = (what : Stop) → stop ≡ Some (streamed.Run what) → ⊥

-- it comes at the end of all data alone
whole_end : (end : FeedEnd) (ending : Ending LiveRefusal) (stop : Option (StreamStop LiveRefusal)) →
    IsStopOf end ending stop → IsOwn stop → (count : ℕ) × (end ≡ feed.Whole count)
whole_end (feed.Whole n) ending stop is own = (n, refl)
whole_end feed.ReadFault Early stop is own = absurd (own _ is)
whole_end feed.ReadFault (Failed AtStop) stop is own = absurd (own _ is)
whole_end (feed.BadHeader file cause) Early stop is own = absurd (own _ is)
whole_end (feed.Gap file expected found) Early stop is own = absurd (own _ is)
whole_end (feed.TooLong limit) Early stop is own = absurd (own _ is)
whole_end end ending stop is own = absurd is

-- the ending of all data is that of the stop
all_is : (n : ℕ) (ending : Ending LiveRefusal) → IsStopOf (feed.Whole n) ending None → ending ≡ All
all_is n All is = refl
all_is n Early is = absurd is
all_is n (Failed phase) is = absurd is
all_is n (Refused refusal) is = absurd cc

refused_is : (n : ℕ) (ending : Ending LiveRefusal) (refusal : LiveRefusal) →
    IsStopOf (feed.Whole n) ending (Some (streamed.Refused refusal)) → ending ≡ Refused refusal
refused_is n All refusal is = absurd cc
refused_is n Early refusal is = absurd is
refused_is n (Failed phase) refusal is = absurd is
refused_is n (Refused other) refusal is = cc

abbrev ending_at : Option (StreamStop LiveRefusal) → Ending LiveRefusal
ending_at None = All
ending_at (Some (streamed.Run what)) = Early
ending_at (Some (streamed.Refused refusal)) = Refused refusal

ending_is : (n : ℕ) (ending : Ending LiveRefusal) (stop : Option (StreamStop LiveRefusal)) →
    IsStopOf (feed.Whole n) ending stop → IsOwn stop → ending ≡ ending_at stop
ending_is n ending None is own = all_is n ending is
ending_is n ending (Some (streamed.Run what)) is own = absurd (own what refl)
ending_is n ending (Some (streamed.Refused refusal)) is own = refused_is n ending refusal is

-- the files that are needed are told, where all are
pub told_at : (Needed : ℕ → Type 0) (told : Told) (names files : List (List ℕ)) → AreTold told names files →
    AreToldAt Needed told names files
told_at Needed told names files are = record { count = are.count; each = λ k below needed. are.each k below }

-- what is left of a stream that came to the end of all data
module _ (joined : BytesAreJoined) (takes : Observation → HeaderText → Type 0)
    (refuses : Observation → HeaderText → LiveRefusal → Type 0)
    (leaves : Observation → HeaderText → List ℕ → Ending LiveRefusal → SinkSeen → SinkSeen → Type 0) (s : RunSeen)
    (told : Told) (before after : SinkSeen) (one : length s.starts ≡ 1) (stop : Option (StreamStop LiveRefusal))
    (own : IsOwn stop) (files : List (List ℕ)) (are : AreTold told s.names files) where
  abbrev w : FileStream
  w = stream_for s files

  abbrev pub CameToEnd : Type 0
  CameToEnd = AreWalked w × OfHead takes w × (walk_stop w ≡ walk.Whole)
      × OfHead (λ o header. leaves o header (transfer_data w 0) (ending_at stop) before after) w

  fed_whole : EndsFed live_block takes leaves s told before after stop → CameToEnd
  fed_whole e =
      let came = whole_end e.feed e.ending stop e.is own in
      let Is : FeedEnd → Type 0 = λ end. IsStopOf end e.ending stop in
      let ending = ending_is came.0 e.ending stop (subst Is came.1 e.is) own in
      let walked = e.walked files (told_at _ told s.names files are) in
      let are_all = whole_data joined w e.size came.0 e.blocks one
      (subst (λ f. EndIs w e.size e.blocks f) came.1 walked) in
      let left = e.left files (told_at _ told s.names files are) in
      let Left : List ℕ → Ending LiveRefusal → Type 0 = λ bytes ending.
      OfHead (λ o header. leaves o header bytes ending before after) w in (
        left.0,
        left.1,
        are_all.0,
        subst (λ bytes. Left bytes (ending_at stop)) are_all.1 (subst (Left (joined_bytes e.blocks)) ending left.2),
      )

  -- where it was opened
  pub came_whole : EndsStream live_block takes refuses leaves s told before after stop →
      (EndsEarly refuses s told before after stop → ⊥) → CameToEnd
  came_whole (inl early) opened = absurd (opened early)
  came_whole (inr (inl fed)) opened = fed_whole fed
  came_whole (inr (inr broken)) opened = absurd (own _ broken.is)

-- ---- status 0

not_stopped : (stop : Stop) → status_of stop ≡ 0 → ⊥
not_stopped Words is = omega (arith, is)
not_stopped stop is = omega (arith, is)

no_stop : (stop : Option PartStop) → end_status stop ≡ 0 → stop ≡ None
no_stop None is = refl
no_stop (Some (part.Run stop)) is = absurd (not_stopped stop is)
no_stop (Some (part.Refused refusal)) is = absurd (omega (arith, is))

no_stream_stop : (stop : Option (StreamStop LiveRefusal)) → stop_of_stream stop ≡ None → stop ≡ None
no_stream_stop None is = refl
no_stream_stop (Some stop) is = absurd cc

module _ (joined : BytesAreJoined) (words : List (List ℕ)) (s : SettingsSeen) (from : Checkpoint) (told : Told)
    (before after : SinkSeen) (one : length s.starts ≡ 1) where
  abbrev pub Streamed : Option (StreamStop LiveRefusal) → Type 0
  Streamed stop = EndsStream live_block (λ o header. plan_refusal o s.search ≡ None)
      (λ o header refusal. RefusesLive s.search o refusal) (LeavesIn words s from) (with_search tt s) told before after
      stop

  -- all data went through
  pub went_through : (stop : Option (StreamStop LiveRefusal)) → stop ≡ None → Streamed stop →
      (files : List (List ℕ)) → AreTold told s.names files → let w = stream_for s files in
      AreWalked w × CanSearch s.search (first_file w 0) × (walk_stop w ≡ walk.Whole) × (from.place ≤ spectra_in w)
      × WroteAll (text_in words s from w) before after
  went_through stop none ends files are =
      let r = came_whole joined (λ o header. plan_refusal o s.search ≡ None)
      (λ o header refusal. RefusesLive s.search o refusal) (LeavesIn words s from) (with_search tt s) told before after
      one None (λ what is. absurd cc) files are (subst Streamed none ends)
      (λ early. let is = early.is in absurd cc) in
      (r.0, r.1, r.2, r.3.0, r.3.1)

  -- they end before the place of the checkpoint
  pub went_short : (stop : Option (StreamStop LiveRefusal)) (place spectra : ℕ) →
      stop ≡ Some (streamed.Refused (refusals.Beyond place spectra)) → Streamed stop →
      (files : List (List ℕ)) → AreTold told s.names files → let w = stream_for s files in
      AreWalked w × CanSearch s.search (first_file w 0) × (walk_stop w ≡ walk.Whole) × (place ≡ from.place)
      × (spectra ≡ spectra_in w) × (spectra < place)
  went_short stop place spectra beyond ends files are =
      let refused = refusals.Beyond place spectra in
      let r = came_whole joined (λ o header. plan_refusal o s.search ≡ None)
      (λ o header refusal. RefusesLive s.search o refusal) (LeavesIn words s from) (with_search tt s) told before after
      one (Some (streamed.Refused refused)) (λ what is. absurd cc) files are (subst Streamed beyond ends) (unopened files are) in
      (r.0, r.1, r.2, r.3.0, r.3.1, r.3.2)
    where
      said : (files : List (List ℕ)) → AreTold told s.names files → (what : StreamStop LiveRefusal) →
          Some (streamed.Refused (refusals.Beyond place spectra)) ≡ Some what →
          SaysBefore (λ o header refusal. RefusesLive s.search o refusal) (with_search tt s) told what → ⊥
      said files are (streamed.Run what) is says = absurd cc
      said files are (streamed.Refused (refusals.Plan cause)) is says = absurd cc
      said files are (streamed.Refused (refusals.Beyond p n)) is says = says.holds

      unopened : (files : List (List ℕ)) → AreTold told s.names files →
          EndsEarly (λ o header refusal. RefusesLive s.search o refusal) (with_search tt s) told before after
          (Some (streamed.Refused (refusals.Beyond place spectra))) → ⊥
      unopened files are early = said files are early.what early.is early.says

-- what is told under names stands
pub still_told : (old new : Told) (names files : List (List ℕ)) → new.bytes_under ≡ old.bytes_under →
    AreTold old names files → AreTold new names files
still_told old new names files same are = record {
  count = are.count;
  each = λ k below.
      ap (λ (under : List ℕ → Option (List ℕ)). under (slice_index_or names k [])) same ∙ are.each k below;
}

module _ (joined : BytesAreJoined) (once : WordsSayOnce) (words : List (List ℕ)) (inputs : InputsSeen)
    (is_calm : Type 0) (before after : SinkSeen) where
  -- of the settings that the words say
  for_words : (P : SettingsSeen → FileStream → Type 0) (t : SettingsSeen) (told : Told) →
      told.bytes_under ≡ inputs.told.bytes_under → SayLive words t →
      ((files : List (List ℕ)) → AreTold told t.names files → P t (stream_for t files)) → ForLive words inputs.told P
  for_words P t told names says holds s files said are =
      let Holds : SettingsSeen → Type 0 = λ x. (fs : List (List ℕ)) → AreTold inputs.told x.names fs → P x (stream_for x fs) in
      subst Holds (once (Alone live_alone) words t s says said)
      (λ fs told_all. holds fs (still_told inputs.told told t.names fs names told_all)) files are

  streamed_text : (e : EndsStreamed words inputs is_calm before after None) → WritesText words inputs.told before after
  streamed_text e = record {
    from = e.from;
    goes_on = e.goes_on;
    text = for_words (λ s w. AreWalked w × CanSearch s.search (first_file w 0) × (walk_stop w ≡ walk.Whole)
        × (e.from.place ≤ spectra_in w) × WroteAll (text_in words s e.from w) before after)
        e.settings e.told e.names e.says
        (went_through joined words e.settings e.from e.told before after e.says.search.one.transfer e.streamed
        (no_stream_stop e.streamed (sym e.is)) e.ends);
  }

  pub text_written : (stop : Option PartStop) → EndsLive words inputs is_calm before after stop →
      end_status stop ≡ 0 → WritesText words inputs.told before after
  text_written stop e zeroth = by_ends stop (no_stop stop zeroth) e
    where
      by_ends : (stop : Option PartStop) → stop ≡ None → EndsLive words inputs is_calm before after stop →
          WritesText words inputs.told before after
      by_ends stop none (inl at) = absurd (let is = at.is in cc)
      by_ends stop none (inr (inl at)) = absurd (let is = at.is in cc)
      by_ends stop none (inr (inr e)) =
          streamed_text (subst (EndsStreamed words inputs is_calm before after) none e)

  -- ---- a checkpoint that is refused

  check_refused : (fault : CheckpointFault) (refusal : CheckpointRefusal) →
      Some (stop_of_checkpoint fault) ≡ Some (part.Refused refusal) →
      (fault ≢ check.Failed → ForSome (check_text_of inputs.told words)
      (λ text. IsJudged text greatest_count (Err fault))) →
      ((place until : ℕ) → fault ≡ check.Place place until → (until ≡ greatest_count) × (until ≤ place)) →
      IsRefused words inputs.told refusal
  check_refused check.Failed refusal same judged late = absurd cc
  check_refused check.Form refusal same judged late =
      let is : refusal ≡ check_refusal.Form = cc in
      subst (IsRefused words inputs.told) (sym is)
      (λ text named. (judged (λ e. absurd cc) text named).form.0 refl)
  check_refused (check.Place place until) refusal same judged late =
      let is : refusal ≡ check_refusal.Place place until = cc in
      let numbers = late place until refl in
      subst (IsRefused words inputs.told) (sym is) (
        numbers.0,
        numbers.1,
        λ text named.
            let r = ((judged (λ e. absurd cc) text named).place place until).0 refl in (r.0, r.1, r.2),
      )

  stream_refused : (stop : Option PartStop) (e : EndsStreamed words inputs is_calm before after stop)
      (refusal : CheckpointRefusal) (end : Option (StreamStop LiveRefusal)) → e.streamed ≡ end →
      stop_of_stream end ≡ Some (part.Refused refusal) → IsRefused words inputs.told refusal
  stream_refused stop e refusal (Some (streamed.Refused (refusals.Beyond place spectra))) at same =
      let is : refusal ≡ check_refusal.Beyond place spectra = cc in
      subst (IsRefused words inputs.told) (sym is) (record {
        from = e.from;
        goes_on = e.goes_on;
        short = for_words (λ s w. AreWalked w × CanSearch s.search (first_file w 0) × (walk_stop w ≡ walk.Whole)
            × (place ≡ e.from.place) × (spectra ≡ spectra_in w) × (spectra < place)) e.settings e.told e.names e.says
            (went_short joined words e.settings e.from e.told before after e.says.search.one.transfer e.streamed place
            spectra at e.ends);
      })
  stream_refused stop e refusal end at same = absurd cc

  pub refusal_said : (stop : Option PartStop) → EndsLive words inputs is_calm before after stop →
      (refusal : CheckpointRefusal) → stop ≡ Some (part.Refused refusal) → IsRefused words inputs.told refusal
  refusal_said stop (inl at) refusal same = absurd (let is = at.is in cc)
  refusal_said stop (inr (inl at)) refusal same = check_refused at.fault refusal (sym at.is ∙ same) at.judged at.late
  refusal_said stop (inr (inr e)) refusal same = stream_refused stop e refusal e.streamed refl (sym e.is ∙ same)

-- ---- all statuses

abbrev IsKnown : PartStop → Type 0
IsKnown stop = Contains live_statuses (end_status (Some stop))

words_known : (fault : WordFault) → IsKnown (part.Run (stop_of_words fault))
words_known word.Refused = (1, lit< tt, refl)
words_known (word.OutOfRange opt) = (1, lit< tt, refl)
words_known word.Memory = (4, lit< tt, refl)

check_known : (fault : CheckpointFault) → IsKnown (stop_of_checkpoint fault)
check_known check.Failed = (5, lit< tt, refl)
check_known check.Form = (9, lit< tt, refl)
check_known (check.Place place until) = (9, lit< tt, refl)

first_known : (stop : Stop) → ComesFirst stop → IsKnown (part.Run stop)
first_known (Header file cause) is = (2, lit< tt, refl)
first_known Memory is = (4, lit< tt, refl)
first_known ReadFault is = (5, lit< tt, refl)
first_known stop is = absurd is

refusal_known : (refusal : LiveRefusal) → IsKnown (part_stop (streamed.Refused refusal))
refusal_known (refusals.Plan cause) = (3, lit< tt, refl)
refusal_known (refusals.Beyond place spectra) = (9, lit< tt, refl)

abbrev IsKnownEnd : Option (StreamStop LiveRefusal) → Type 0
IsKnownEnd stop = Contains live_statuses (end_status (stop_of_stream stop))

-- the stop of the data, where they came to one
feed_known : (end : FeedEnd) → IsKnownEnd (as_run (stop_of_feed end))
feed_known (feed.Whole n) = (0, lit< tt, refl)
feed_known feed.ReadFault = (5, lit< tt, refl)
feed_known (feed.BadHeader file cause) = (2, lit< tt, refl)
feed_known (feed.Gap file expected found) = (6, lit< tt, refl)
feed_known (feed.TooLong limit) = (7, lit< tt, refl)

fed_known : (end : FeedEnd) (ending : Ending LiveRefusal) (stop : Option (StreamStop LiveRefusal)) →
    IsStopOf end ending stop → IsKnownEnd stop
fed_known (feed.Whole n) All stop is = subst IsKnownEnd (sym is) (0, lit< tt, refl)
fed_known (feed.Whole n) (Refused refusal) stop is = subst IsKnownEnd (sym is) (refusal_known refusal)
fed_known feed.ReadFault Early stop is = subst IsKnownEnd (sym is) (feed_known feed.ReadFault)
fed_known feed.ReadFault (Failed AtStop) stop is = subst IsKnownEnd (sym is) (feed_known feed.ReadFault)
fed_known (feed.BadHeader file cause) Early stop is =
    subst IsKnownEnd (sym is) (feed_known (feed.BadHeader file cause))
fed_known (feed.Gap file expected found) Early stop is =
    subst IsKnownEnd (sym is) (feed_known (feed.Gap file expected found))
fed_known (feed.TooLong limit) Early stop is = subst IsKnownEnd (sym is) (feed_known (feed.TooLong limit))
fed_known end ending stop is = absurd is

early_known : (s : RunSeen) (told : Told) (refuses : Observation → HeaderText → LiveRefusal → Type 0)
    (what : StreamStop LiveRefusal) → SaysBefore refuses s told what → IsKnownEnd (Some what)
early_known s told refuses (streamed.Run stop) says = first_known stop says.0
early_known s told refuses (streamed.Refused refusal) says = refusal_known refusal

stream_known : (takes : Observation → HeaderText → Type 0)
    (refuses : Observation → HeaderText → LiveRefusal → Type 0)
    (leaves : Observation → HeaderText → List ℕ → Ending LiveRefusal → SinkSeen → SinkSeen → Type 0) (s : RunSeen)
    (told : Told) (before after : SinkSeen) (stop : Option (StreamStop LiveRefusal)) →
    EndsStream live_block takes refuses leaves s told before after stop → IsKnownEnd stop
stream_known takes refuses leaves s told before after stop (inl e) =
    subst IsKnownEnd (sym e.is) (early_known s told refuses e.what e.says)
stream_known takes refuses leaves s told before after stop (inr (inl e)) = fed_known e.feed e.ending stop e.is
stream_known takes refuses leaves s told before after stop (inr (inr e)) =
    subst IsKnownEnd (sym e.is) (8, lit< tt, refl)

pub status_known : (words : List (List ℕ)) (inputs : InputsSeen) (is_calm : Type 0) (before after : SinkSeen)
    (stop : Option PartStop) → EndsLive words inputs is_calm before after stop →
    Contains live_statuses (end_status stop)
status_known words inputs is_calm before after stop (inl e) =
    subst (λ x. Contains live_statuses (end_status x)) (sym e.is) (words_known e.fault)
status_known words inputs is_calm before after stop (inr (inl e)) =
    subst (λ x. Contains live_statuses (end_status x)) (sym e.is) (check_known e.fault)
status_known words inputs is_calm before after stop (inr (inr e)) =
    subst (λ x. Contains live_statuses (end_status x)) (sym e.is)
    (stream_known _ _ _ (with_search tt e.settings) e.told before after e.streamed e.ends)

-- the line of a stop that came
pub noted_line : (stop : Option PartStop) (old new : SinkSeen) →
    IfSome stop (λ what. Noted (live_note what) old new) → (what : PartStop) → stop ≡ Some what →
    Noted (live_note what) old new
noted_line stop old new line what is = subst (λ o. IfSome o (λ w. Noted (live_note w) old new)) is line

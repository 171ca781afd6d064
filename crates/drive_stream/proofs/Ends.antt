-- How a stream ended, over the files of the settings.
use Rattle.std.proofs.Common.{◌≡◌, ◌≢◌, ℕ, ◌+◌, ◌<◌, List, [], ◌∷◌, Option, Some, None, length, inl, inr, refl, sym, ap, ◌∙◌, subst, arith}
use Rattle.std.specs.Prelude.{◌⊎◌, min, slice_index_or, IsSome}
use mathlib.Core.List.{IsPrefix}
use Rattle.psr_base.specs.Inputs.{HasReadFrom}
use Rattle.psr_base.specs.Told.{Told, history}
use Rattle.psr_base.specs.Written.{SinkSeen}
use Rattle.dada_model.specs.Fields.{HeaderText}
use Rattle.dada_model.specs.Observation.{Observation}
use Rattle.ring_blocks.specs.declared.Entry.{Entry}
use Rattle.search_words.specs.Settings.{RunSeen}
use Rattle.stream_model.specs.Blocks.{joined_bytes}
use Rattle.stream_model.specs.BlockLaws.{BytesAreJoined}
use Rattle.stream_model.specs.Walk as walk
use Rattle.stream_model.specs.Walk.{FileStream, transfer_data, walk_stop, walk_stream}
use Rattle.stream_model.specs.WalkLaws.{AreWalked, WalkJoinsData}
use Rattle.disk_feeder.specs.declared.answers.FeedEnd.{FeedEnd}
use Rattle.disk_feeder.specs.declared.answers.FeedEnd.TheVariants.{Whole, ReadFault, BadHeader, Gap, TooLong}
use Rattle.disk_feeder.specs.declared.due.Due.TheVariants.{Stopped}
use Rattle.disk_feeder.specs.declared.feeder.Feeder.{Feeder}
use Rattle.disk_feeder.specs.declared.stream.Stream.{Stream}
use Rattle.disk_feeder.specs.Ends.{end_of}
use Rattle.disk_feeder.specs.Feeder.{HasPlan, FeederFaultless, FeederMisses, FeederRead, FeederSince, FeederUnopened, has_end, place_at, plan_at, block_size}
use Rattle.disk_feeder.specs.Feeding.{EndIs, FeedsTo, HasEndedAs, IsCutAt, IsCutPast, SealedAs, StopsWalkAt}
use Rattle.disk_feeder.specs.History.{BreaksIf, IsShut, file_name, read_before}
use Rattle.disk_feeder.specs.Filling.{HoldsAll}
use Rattle.disk_feeder.specs.Handing.{FeederHands}
use Rattle.disk_feeder.specs.Laws.{FaultsLeave, FeedersBegin}
use Rattle.disk_feeder.specs.Plan.{Plan, stream_of, AreTold, IsAmong, IsFirstFile, opened_at}
use Rattle.disk_feeder.specs.Reading.{judged_at}
use Rattle.run_outcome.specs.Runs.{plan_for, stream_for}
use Rattle.run_outcome.specs.declared.stop.Stop.TheVariants as halts
use Rattle.search_opening.specs.Ended.{CutsStayTold}
use Rattle.search_opening.specs.Settings.{OfRun, OfRunFirsts}
use Rattle.drive_stream.specs.declared.stop.StreamStop.{StreamStop}
use Rattle.drive_stream.specs.declared.stop.StreamStop.TheVariants.{Run}
use Rattle.drive_stream.specs.declared.stop.StreamStop.TheVariants as stops
use Rattle.drive_stream.specs.Endings.{Ending, All, Early, Failed, Refused, Midway, AtEnd, AtStop}
use Rattle.drive_stream.specs.Flows.{KeepsOn}
use Rattle.drive_stream.specs.Opening.{IsOfOne, IsOpened}
use Rattle.drive_stream.specs.Outcome.{BeginsWith, BreaksData, BreaksFed, OfHead, EndsFed, EndsBroken, EndsStream, ReadsRefused}
use Rattle.drive_stream.specs.Stops.{IsStopOf}
use Rattle.drive_stream.specs.Writings.{LeavesOf, WritesTo, BreaksWriting}
use Rattle.drive_stream.proofs.Fronts.{bytes_front, front_follows, same_front, one_start, one_of, walk_front, walk_whole, broken_front}
use Rattle.drive_stream.proofs.Told.{still_told, some_told, of_head, of_plan, all_of_plan, passes_run}

-- ---- stops

some_same : (a b : FeedEnd) → Some a ≡ Some b → a ≡ b
some_same a b is = cc

-- a run says that the inputs failed exactly where its feeder does
pub failed_reading : {F : Type 0} (end : FeedEnd) (ending : Ending F) (stop : Option (StreamStop F)) →
    IsStopOf end ending stop → stop ≡ Some (Run halts.ReadFault) → end ≡ ReadFault
failed_reading ReadFault ending stop is failed = refl
failed_reading (Whole bytes) All stop is failed = absurd cc
failed_reading (Whole bytes) (Refused refusal) stop is failed = absurd cc
failed_reading (BadHeader file cause) Early stop is failed = absurd cc
failed_reading (Gap file expected found) Early stop is failed = absurd cc
failed_reading (TooLong limit) Early stop is failed = absurd cc
failed_reading end ending stop is failed = absurd is

pub says_failed : {F : Type 0} (end : FeedEnd) (ending : Ending F) (stop : Option (StreamStop F)) →
    IsStopOf end ending stop → end ≡ ReadFault → stop ≡ Some (Run halts.ReadFault)
says_failed ReadFault All stop is failed = absurd is
says_failed ReadFault (Refused refusal) stop is failed = absurd is
says_failed ReadFault Early stop is failed = is
says_failed ReadFault (Failed Midway) stop is failed = absurd is
says_failed ReadFault (Failed AtEnd) stop is failed = absurd is
says_failed ReadFault (Failed AtStop) stop is failed = is
says_failed (Whole bytes) ending stop is failed = absurd cc
says_failed (BadHeader file cause) ending stop is failed = absurd cc
says_failed (Gap file expected found) ending stop is failed = absurd cc
says_failed (TooLong limit) ending stop is failed = absurd cc

-- and it never says that there was no memory
pub no_memory : {F : Type 0} (end : FeedEnd) (ending : Ending F) (stop : Option (StreamStop F)) →
    IsStopOf end ending stop → stop ≡ Some (Run halts.Memory) → ⊥
no_memory ReadFault Early stop is failed = absurd cc
no_memory ReadFault (Failed AtStop) stop is failed = absurd cc
no_memory (Whole bytes) All stop is failed = absurd cc
no_memory (Whole bytes) (Refused refusal) stop is failed = absurd cc
no_memory (BadHeader file cause) Early stop is failed = absurd cc
no_memory (Gap file expected found) Early stop is failed = absurd cc
no_memory (TooLong limit) Early stop is failed = absurd cc
no_memory end ending stop is failed = absurd is

-- the program refuses data at their end alone
refused_at_end : {F : Type 0} (end : FeedEnd) (ending : Ending F) (stop : Option (StreamStop F)) (refusal : F) →
    IsStopOf end ending stop → stop ≡ Some (stops.Refused refusal) → ending ≡ Refused refusal
refused_at_end (Whole bytes) All stop refusal is refused = absurd cc
refused_at_end (Whole bytes) (Refused other) stop refusal is refused = cc
refused_at_end ReadFault Early stop refusal is refused = absurd cc
refused_at_end ReadFault (Failed AtStop) stop refusal is refused = absurd cc
refused_at_end (BadHeader file cause) Early stop refusal is refused = absurd cc
refused_at_end (Gap file expected found) Early stop refusal is refused = absurd cc
refused_at_end (TooLong limit) Early stop refusal is refused = absurd cc
refused_at_end end ending stop refusal is refused = absurd is

-- ---- the end of a feeder

pub ended_as : (s : Stream) (told : Told) (headers blocks : List Entry) (end : FeedEnd) (e : Option FeedEnd) →
    e ≡ Some end → FeedsTo s told headers blocks e → HasEndedAs s told headers blocks end
ended_as s told headers blocks end None is feeds = absurd cc
ended_as s told headers blocks end (Some other) is feeds =
    let P : FeedEnd → Type 0 = λ x. HasEndedAs s told headers blocks x in subst P (some_same other end is) feeds

limit_is : (plan : Plan) (size : ℕ) (before : List (List ℕ)) (current : List ℕ) (headers blocks : List Entry)
    (end : FeedEnd) → SealedAs plan size before current headers blocks end → (limit : ℕ) → end ≡ TooLong limit →
    limit ≡ plan.max_bytes
limit_is plan size before current headers blocks (TooLong other) sealed limit is =
    let same : other ≡ limit = cc in sym same ∙ sealed.3
limit_is plan size before current headers blocks end sealed limit is = absurd cc

pub whole_stop : (bytes : ℕ) (stop : walk.WalkStop) (count most : ℕ) → Whole bytes ≡ end_of count most stop →
    stop ≡ walk.Whole
whole_stop bytes walk.Whole count most is = refl
whole_stop bytes stop count most is = absurd cc

-- ---- one transfer

module _ (join : BytesAreJoined) (walked : WalkJoinsData) (files : List (List ℕ)) (limit size : ℕ)
    (some : 0 < length files) (blocks : List Entry) where
  end_front : (end : FeedEnd) → EndIs (one_of files limit) size blocks end →
      IsPrefix (joined_bytes blocks) (transfer_data (one_of files limit) 0)
  end_front ReadFault broken =
      same_front _ _ _ (ap joined_bytes broken.stream)
      (broken_front join walked files limit size some broken.read broken.transfer broken.there)
  end_front (Whole bytes) end =
      same_front _ _ _ (ap joined_bytes end.stream) (walk_front join walked files limit size some)
  end_front (BadHeader file cause) end =
      same_front _ _ _ (ap joined_bytes end.stream) (walk_front join walked files limit size some)
  end_front (Gap file expected found) end =
      same_front _ _ _ (ap joined_bytes end.stream) (walk_front join walked files limit size some)
  end_front (TooLong most) end =
      same_front _ _ _ (ap joined_bytes end.stream) (walk_front join walked files limit size some)

  begin_front : IsPrefix blocks (walk_stream size (one_of files limit)) →
      IsPrefix (joined_bytes blocks) (transfer_data (one_of files limit) 0)
  begin_front front =
      front_follows _ _ _ (bytes_front join blocks (walk_stream size (one_of files limit)) front)
      (walk_front join walked files limit size some)

  pub end_whole : (bytes : ℕ) → EndIs (one_of files limit) size blocks (Whole bytes) →
      joined_bytes blocks ≡ transfer_data (one_of files limit) 0
  end_whole bytes end =
      ap joined_bytes end.stream ∙ walk_whole join walked files limit size some
      (whole_stop bytes (walk_stop (one_of files limit)) _ _ end.is)

-- ---- a run

module _ {I S F : Type 0} (told : I → Told) (is_open is_calm : I → Type 0) (faults : I → ℕ)
    (block : Observation → ℕ) (takes : Observation → HeaderText → Type 0)
    (opens : Observation → HeaderText → S → Type 0)
    (leaves : Observation → HeaderText → List ℕ → Ending F → SinkSeen → SinkSeen → Type 0) (s : RunSeen)
    (one : IsOfOne s) (f j : Feeder I) (o : Observation) (stream : S)
    (at : IsOpened told is_open block takes opens s f o stream) (kept : KeepsOn told is_calm faults f j) where
  pub now_plan : HasPlan j s.names s.starts at.size s.max_bytes
  now_plan = record {
    files = ap (λ (p : Plan). p.names) kept.plan ∙ at.plan.files;
    transfers = ap (λ (p : Plan). p.starts) kept.plan ∙ at.plan.transfers;
    limit = ap (λ (p : Plan). p.max_bytes) kept.plan ∙ at.plan.limit;
    block = kept.size ∙ at.plan.block;
    headers = ap (λ (p : Plan). length p.headers) kept.plan ∙ at.plan.headers;
  }

  -- ---- the inputs

  started : FeederSince (faults f.inputs.now) (faults f.inputs.now) f
  started = record {
    count = omega arith;
    due_failed = λ is. absurd (at.faultless.0 is);
    end_failed = λ is. absurd (at.faultless.1 is);
    due_quiet = λ running fine. refl;
    end_quiet = λ stop is fine. absurd (never stop (sym at.running ∙ is));
  }
    where
      never : (stop : FeedEnd) → None ≡ Some stop → ⊥
      never stop is = absurd cc

  since : FeederSince (faults f.inputs.now) (faults j.inputs.now) j
  since = kept.since (faults f.inputs.now) started

  ended_reads : (end : FeedEnd) (ending : Ending F) (stop : Option (StreamStop F)) → has_end j ≡ Some end →
      IsStopOf end ending stop →
      HasReadFrom told is_calm faults (stop ≡ Some (Run halts.ReadFault)) f.inputs.now j.inputs.now
  ended_reads end ending stop ended is = record {
    names = kept.names;
    count = kept.count;
    rose = λ failed. since.end_failed (ended ∙ ap Some (failed_reading end ending stop is failed));
    quiet = λ fine. since.end_quiet end ended (λ broken. fine (says_failed end ending stop is broken));
    calm = kept.calm;
  }

  pub fed_reads : (seen after : SinkSeen) (stop : Option (StreamStop F)) →
      WritesTo told is_calm faults (opens o) (leaves o) f j stream seen after stop →
      HasReadFrom told is_calm faults (stop ≡ Some (Run halts.ReadFault)) f.inputs.now j.inputs.now
  fed_reads seen after stop w = ended_reads w.end w.ending stop w.ended w.is

  fine_end : (e : Option FeedEnd) → has_end j ≡ e → has_end j ≢ Some ReadFault →
      (has_end j ≡ None → FeederFaultless j) → faults j.inputs.now ≡ faults f.inputs.now
  fine_end None is fine quiet = since.due_quiet is (quiet is).0
  fine_end (Some end) is fine quiet = since.end_quiet end is (λ broken. fine (is ∙ ap Some broken))

  pub broken_reads : (seen after : SinkSeen) (stop : Option (StreamStop F)) →
      BreaksWriting told is_calm faults (opens o) (leaves o) f j stream seen after stop →
      HasReadFrom told is_calm faults (stop ≡ Some (Run halts.ReadFault)) f.inputs.now j.inputs.now
  broken_reads seen after stop w = record {
    names = kept.names;
    count = kept.count;
    rose = λ failed. absurd (other stop w.is failed);
    quiet = λ fine. fine_end (has_end j) refl w.read w.quiet;
    calm = kept.calm;
  }
    where
      other : (stop : Option (StreamStop F)) → stop ≡ Some (Run halts.SinkFault) →
          stop ≡ Some (Run halts.ReadFault) → ⊥
      other stop is failed = absurd cc

  -- calm inputs that hold all files serve them
  pub serves : is_calm f.inputs.now → HoldsAll (told f.inputs.now) s.names → has_end j ≡ Some ReadFault → ⊥
  serves calm holds broken =
      let misses : FeederMisses (told j.inputs.now) j =
      kept.missing calm (λ due. absurd (never due)) in
      let lacks = misses (inr broken) in
      let k = (place_at j).file in
      let Below : List (List ℕ) → Type 0 = λ names. k < length names in
      let Named : List (List ℕ) → Type 0 = λ names.
      IsSome ((told j.inputs.now).bytes_under (slice_index_or names k [])) in
      let below : k < length s.names = subst Below now_plan.files lacks.there in
      let there : IsSome ((told j.inputs.now).bytes_under (slice_index_or s.names k [])) =
      subst (λ (under : List ℕ → Option (List ℕ)). IsSome (under (slice_index_or s.names k []))) (sym kept.names)
      (holds k below) in
      lacks.untold (subst Named (sym now_plan.files) there)
    where
      never : (f.stream.due ≡ Some (Stopped ReadFault)) ⊎ (has_end f ≡ Some ReadFault) → ⊥
      never (inl due) = at.faultless.0 due
      never (inr end) = at.faultless.1 end

  -- ---- the files, as they were told before

  module _ (before : Told) (same : (told f.inputs.now).bytes_under ≡ before.bytes_under) where
    pub still : (told j.inputs.now).bytes_under ≡ before.bytes_under
    still = kept.names ∙ same

    first_head : OfRunFirsts before s (BeginsWith o at.header)
    first_head files are =
        at.firsts files
        (still_told (IsFirstFile s.starts (length s.names)) before (told f.inputs.now) s.names files same are)

    left_by : (bytes : List ℕ) (ending : Ending F) (seen after : SinkSeen) →
        LeavesOf (opens o) (leaves o) stream bytes ending seen after → OfRunFirsts before s (λ w. AreWalked w
        × OfHead takes w × OfHead (λ p h. leaves p h bytes ending seen after) w)
    left_by bytes ending seen after left files are =
        let w = stream_for s files in
        let is = first_head files are in (
          is.walked,
          of_head o at.header w is takes at.taken,
          of_head o at.header w is (λ p h. leaves p h bytes ending seen after) (left at.header at.opened),
        )

    pub ends_fed : (seen after : SinkSeen) (stop : Option (StreamStop F)) →
        WritesTo told is_calm faults (opens o) (leaves o) f j stream seen after stop →
        EndsFed block takes leaves s before seen after stop
    ends_fed seen after stop w =
        let now = told j.inputs.now in
        let ended = (ended_as j.stream now w.hands.0 w.blocks w.end (has_end j) w.ended w.hands.1).ended in
        let Sized : ℕ → FileStream → Type 0 = λ n g. EndIs g n w.blocks w.end in
        let place = place_at j in
        record {
          feed = w.end;
          ending = w.ending;
          is = w.is;
          size = at.size;
          some = at.fits.some;
          within = at.fits.within;
          cut = λ files are. let is = first_head files are in
              subst (λ (p : Observation). at.size ≡ min (block p) s.size) (sym is.is) at.cut;
          blocks = w.blocks;
          at = place;
          last = λ bytes is. ended.last bytes is ∙ ap length now_plan.files;
          there = λ fine. subst (λ (names : List (List ℕ)). place.file < length names) now_plan.files
              (ended.there fine);
          names = ended.names;
          limit = λ limit is. limit_is (plan_at j) (block_size j) ended.before ended.current w.hands.0 w.blocks w.end
              ended.sealed limit is ∙ now_plan.limit;
          passed = passes_run j s at.size now_plan before now still place.file ended.passed;
          walked = of_plan j s at.size now_plan before now still (λ starts count k. k < judged_at w.end place)
              (λ g. EndIs g at.size w.blocks w.end)
              (λ files are. subst (λ n. Sized n (stream_of (plan_at j) files)) now_plan.block (ended.known files are));
          stops = of_plan j s at.size now_plan before now still (λ starts count k. k < judged_at w.end place)
              (λ g. StopsWalkAt w.end g place.file) ended.stops;
          left = left_by (joined_bytes w.blocks) w.ending seen after w.left;
        }

    -- ---- bytes that were handed out, where all files are told

    module _ (begin : FeedersBegin I) (join : BytesAreJoined) (walked : WalkJoinsData) (blocks : List Entry)
        (hands : FeederHands (told j.inputs.now) j blocks) where
      abbrev now : Told
      now = told j.inputs.now

      plan_starts : (plan_at j).starts ≡ 0 ∷ []
      plan_starts = now_plan.transfers ∙ one_start s.starts (length s.names) one.one one.range.transfers.first

      some_files : (files : List (List ℕ)) → AreTold now (plan_at j).names files → 0 < length files
      some_files files are =
          let within = one.range.transfers.within 0 (omega (arith, one.one)) in
          let count : length files ≡ length s.names = are.count ∙ ap length now_plan.files in
          omega (arith, within, count)

      -- the files as the feeder's plan has them, by its starts
      abbrev with_starts : List (List ℕ) → List ℕ → FileStream
      with_starts files starts = record { files = files; starts = starts; max_bytes = (plan_at j).max_bytes }

      to_one : (files : List (List ℕ)) (P : FileStream → Type 0) → P (stream_of (plan_at j) files) →
          P (one_of files (plan_at j).max_bytes)
      to_one files P holds = subst (λ (starts : List ℕ). P (with_starts files starts)) plan_starts holds

      from_one : (files : List (List ℕ)) (P : FileStream → Type 0) → P (one_of files (plan_at j).max_bytes) →
          P (stream_of (plan_at j) files)
      from_one files P holds = subst (λ (starts : List ℕ). P (with_starts files starts)) (sym plan_starts) holds

      front_by : (e : Option FeedEnd) → has_end j ≡ e → (files : List (List ℕ)) → AreTold now (plan_at j).names files →
          IsPrefix (joined_bytes blocks) (transfer_data (one_of files (plan_at j).max_bytes) 0)
      front_by None running files are =
          begin_front join walked files (plan_at j).max_bytes (block_size j) (some_files files are) blocks
          (to_one files (λ g. IsPrefix blocks (walk_stream (block_size j) g))
          ((begin j now hands.0 blocks hands.1 running).begins files are))
      front_by (Some end) ended files are =
          let known = (ended_as j.stream now hands.0 blocks end (has_end j) ended hands.1).ended.known files
          (some_told (λ k. k < judged_at end (place_at j)) now (plan_at j).names files are) in
          end_front join walked files (plan_at j).max_bytes (block_size j) (some_files files are) blocks end
          (to_one files (λ g. EndIs g (block_size j) blocks end) known)

      pub data_front : OfRun before s (λ g. IsPrefix (joined_bytes blocks) (transfer_data g 0))
      data_front =
          let Front : FileStream → Type 0 = λ g. IsPrefix (joined_bytes blocks) (transfer_data g 0) in
          all_of_plan j s at.size now_plan before now still Front
          (λ files are. from_one files Front (front_by (has_end j) refl files are))

      pub data_whole : (bytes : ℕ) → has_end j ≡ Some (Whole bytes) →
          OfRun before s (λ g. joined_bytes blocks ≡ transfer_data g 0)
      data_whole bytes ended =
          let All_of : FileStream → Type 0 = λ g. joined_bytes blocks ≡ transfer_data g 0 in
          all_of_plan j s at.size now_plan before now still All_of (λ files are.
          let known = (ended_as j.stream now hands.0 blocks (Whole bytes) (has_end j) ended hands.1).ended.known files
          (some_told (λ k. k < judged_at (Whole bytes) (place_at j)) now (plan_at j).names files are) in
          from_one files All_of
          (end_whole join walked files (plan_at j).max_bytes (block_size j) (some_files files are) blocks bytes
          (to_one files (λ g. EndIs g (block_size j) blocks (Whole bytes)) known)))

    pub ends_broken : FeedersBegin I → BytesAreJoined → WalkJoinsData → (seen after : SinkSeen)
        (stop : Option (StreamStop F)) →
        BreaksWriting told is_calm faults (opens o) (leaves o) f j stream seen after stop →
        EndsBroken takes leaves s before seen after stop
    ends_broken begin join walked seen after stop w = record {
      is = w.is;
      phase = w.phase;
      bytes = joined_bytes w.blocks;
      front = data_front begin join walked w.blocks w.hands;
      all = λ is. let whole = w.all is in data_whole begin join walked w.blocks w.hands whole.0 whole.1;
      left = left_by (joined_bytes w.blocks) (Failed w.phase) seen after w.left;
    }

    -- what a fault of the inputs left
    pub breaks_data : FaultsLeave I → CutsStayTold → FeederRead before (told f.inputs.now) f → (blocks : List Entry) →
        FeederHands (told j.inputs.now) j blocks → has_end j ≡ Some ReadFault →
        BreaksData s (is_calm f.inputs.now) before (told j.inputs.now) (place_at j) at.size blocks
    breaks_data leave cuts read blocks hands broken =
        let now = told j.inputs.now in
        let place = place_at j in
        let left = leave j before now hands.0 blocks hands.1 broken (kept.reads_on before read) in
        let ended = (ended_as j.stream now hands.0 blocks ReadFault (has_end j) broken hands.1).ended in
        let Cut : ℕ → FileStream → Type 0 = λ n g. IsCutAt g place n blocks in
        let Stood : List (List ℕ) → FileStream → Type 0 = λ names g. BreaksIf place.is_open names g before now place in
        let Shut : List (List ℕ) → FileStream → Type 0 = λ names g.
        IsShut names g before now place.transfer place.file place.since in
        let Through : List (List ℕ) → ℕ → FileStream → Type 0 = λ names k g.
        IsPrefix (history (read_before names g k before)) (history now) in
        let shut : is_calm f.inputs.now → FeederUnopened before now j =
        λ calm. kept.unopened calm before read (λ due. absurd (fine due)) in
        record {
          there = subst (λ (names : List (List ℕ)). place.file < length names) now_plan.files
              (ended.there (λ bytes is. absurd (other bytes is)));
          passed = passes_run j s at.size now_plan before now still place.file left.passed;
          cut = of_plan j s at.size now_plan before now still (λ starts count k. k < opened_at place) (Cut at.size)
              (λ files are. subst (λ n. Cut n (stream_of (plan_at j) files)) now_plan.block (left.cut files are));
          stood = of_plan j s at.size now_plan before now still
              (λ starts count k. IsAmong (place.file + 1) starts count k) (Stood s.names)
              (λ files are. subst (λ names. Stood names (stream_of (plan_at j) files)) now_plan.files
              (left.stood files are));
          past = subst (λ n. IsCutPast (plan_for s) before place n blocks) now_plan.block
              (cuts (plan_at j) (plan_for s) before now place (block_size j) blocks now_plan.files now_plan.transfers
              now_plan.limit still left.past);
          through = λ k below. of_plan j s at.size now_plan before now still
              (λ starts count i. IsAmong k starts count i) (Through s.names k)
              (λ files are. subst (λ names. Through names k (stream_of (plan_at j) files)) now_plan.files
              (left.through k below files are));
          missing = λ calm some. missed calm broken some;
          shut = λ calm. left.shut (shut calm);
          unopened = λ calm. of_plan j s at.size now_plan before now still
              (λ starts count k. IsAmong place.file starts count k) (Shut s.names)
              (λ files are. subst (λ names. Shut names (stream_of (plan_at j) files)) now_plan.files
              (left.unopened (shut calm) files are));
        }
      where
        other : (bytes : ℕ) → ReadFault ≡ Whole bytes → ⊥
        other bytes is = absurd cc

        fine : (f.stream.due ≡ Some (Stopped ReadFault)) ⊎ (has_end f ≡ Some ReadFault) → ⊥
        fine (inl due) = at.faultless.0 due
        fine (inr end) = at.faultless.1 end

        missed : is_calm f.inputs.now → has_end j ≡ Some ReadFault →
            IsSome (before.bytes_under (file_name s.names (place_at j).file)) → ⊥
        missed calm broken some =
            let misses : FeederMisses (told j.inputs.now) j = kept.missing calm (λ due. absurd (fine due)) in
            let lacks = misses (inr broken) in
            let k = (place_at j).file in
            let Named : List (List ℕ) → Type 0 = λ names.
            IsSome ((told j.inputs.now).bytes_under (slice_index_or names k [])) in
            lacks.untold (subst Named (sym now_plan.files)
            (subst (λ (under : List ℕ → Option (List ℕ)). IsSome (under (slice_index_or s.names k []))) (sym still)
            some))

-- ---- however it was written

module _ {I S F : Type 0} {told : I → Told} {is_open is_calm : I → Type 0} {faults : I → ℕ}
    {block : Observation → ℕ} {takes : Observation → HeaderText → Type 0}
    {opens : Observation → HeaderText → S → Type 0}
    (leaves : Observation → HeaderText → List ℕ → Ending F → SinkSeen → SinkSeen → Type 0) {s : RunSeen}
    (one : IsOfOne s) {f j : Feeder I} {o : Observation} {stream : S}
    (at : IsOpened told is_open block takes opens s f o stream) {seen after : SinkSeen}
    {stop : Option (StreamStop F)} where
  pub all_reads : WritesTo told is_calm faults (opens o) (leaves o) f j stream seen after stop
      ⊎ BreaksWriting told is_calm faults (opens o) (leaves o) f j stream seen after stop →
      HasReadFrom told is_calm faults (stop ≡ Some (Run halts.ReadFault)) f.inputs.now j.inputs.now
  all_reads (inl w) =
      fed_reads told is_open is_calm faults block takes opens leaves s one f j o stream at w.kept seen after stop w
  all_reads (inr w) =
      broken_reads told is_open is_calm faults block takes opens leaves s one f j o stream at w.kept seen after stop w

  pub all_serves : WritesTo told is_calm faults (opens o) (leaves o) f j stream seen after stop
      ⊎ BreaksWriting told is_calm faults (opens o) (leaves o) f j stream seen after stop →
      is_calm f.inputs.now → HoldsAll (told f.inputs.now) s.names → stop ≡ Some (Run halts.ReadFault) → ⊥
  all_serves (inl w) calm holds failed =
      serves told is_open is_calm faults block takes opens leaves s one f j o stream at w.kept calm holds
      (w.ended ∙ ap Some (failed_reading w.end w.ending stop w.is failed))
  all_serves (inr w) calm holds failed = absurd (other stop w.is failed)
    where
      other : (stop : Option (StreamStop F)) → stop ≡ Some (Run halts.SinkFault) →
          stop ≡ Some (Run halts.ReadFault) → ⊥
      other stop is failed = absurd cc

  pub all_memory : WritesTo told is_calm faults (opens o) (leaves o) f j stream seen after stop
      ⊎ BreaksWriting told is_calm faults (opens o) (leaves o) f j stream seen after stop →
      stop ≡ Some (Run halts.Memory) → ⊥
  all_memory (inl w) failed = no_memory w.end w.ending stop w.is failed
  all_memory (inr w) failed = absurd (other stop w.is failed)
    where
      other : (stop : Option (StreamStop F)) → stop ≡ Some (Run halts.SinkFault) →
          stop ≡ Some (Run halts.Memory) → ⊥
      other stop is failed = absurd cc

  pub all_ends : FeedersBegin I → BytesAreJoined → WalkJoinsData →
      (refuses : Observation → HeaderText → F → Type 0) →
      WritesTo told is_calm faults (opens o) (leaves o) f j stream seen after stop
      ⊎ BreaksWriting told is_calm faults (opens o) (leaves o) f j stream seen after stop →
      (before : Told) → (told f.inputs.now).bytes_under ≡ before.bytes_under →
      EndsStream block takes refuses leaves s before seen after stop
  all_ends begin join walked refuses (inl w) before same =
      inr (inl (ends_fed told is_open is_calm faults block takes opens leaves s one f j o stream at w.kept before same
      seen after stop w))
  all_ends begin join walked refuses (inr w) before same =
      inr (inr (ends_broken told is_open is_calm faults block takes opens leaves s one f j o stream at w.kept before
      same begin join walked seen after stop w))

  pub all_breaks : FaultsLeave I → CutsStayTold →
      WritesTo told is_calm faults (opens o) (leaves o) f j stream seen after stop
      ⊎ BreaksWriting told is_calm faults (opens o) (leaves o) f j stream seen after stop →
      stop ≡ Some (Run halts.ReadFault) → (before : Told) → (told f.inputs.now).bytes_under ≡ before.bytes_under →
      FeederRead before (told f.inputs.now) f →
      BreaksFed block takes leaves s (is_calm f.inputs.now) before (told j.inputs.now) seen after
  unfolding ends_fed
  all_breaks leave cuts (inl w) failed before same read =
      let fed = ends_fed told is_open is_calm faults block takes opens leaves s one f j o stream at w.kept before same
      seen after stop w in
      let left = breaks_data told is_open is_calm faults block takes opens leaves s one f j o stream at w.kept before
      same leave cuts read w.blocks w.hands (w.ended ∙ ap Some (failed_reading w.end w.ending stop w.is failed)) in
      let Both : Option (StreamStop F) → Type 0 = λ x. (e : EndsFed block takes leaves s before seen after x)
      × BreaksData s (is_calm f.inputs.now) before (told j.inputs.now) e.at e.size e.blocks in
      let both = subst Both failed (fed, left) in
      record { fed = both.0; read = both.1 }
  all_breaks leave cuts (inr w) failed before same read = absurd (other stop w.is failed)
    where
      other : (stop : Option (StreamStop F)) → stop ≡ Some (Run halts.SinkFault) →
          stop ≡ Some (Run halts.ReadFault) → ⊥
      other stop is failed = absurd cc

  pub all_refused : WritesTo told is_calm faults (opens o) (leaves o) f j stream seen after stop
      ⊎ BreaksWriting told is_calm faults (opens o) (leaves o) f j stream seen after stop →
      (before : Told) → (told f.inputs.now).bytes_under ≡ before.bytes_under →
      ReadsRefused leaves s before (told j.inputs.now) seen after stop
  all_refused (inl w) before same refusal is files are =
      let bytes = joined_bytes w.blocks in
      let left = left_by told is_open is_calm faults block takes opens leaves s one f j o stream at w.kept before same
      bytes w.ending seen after w.left files are in
      let Left : Ending F → Type 0 = λ ending.
      OfHead (λ p h. leaves p h bytes ending seen after) (stream_for s files) in
      inr (bytes, subst Left (refused_at_end w.end w.ending stop refusal w.is is) left.2)
  all_refused (inr w) before same refusal is files are = absurd (other stop w.is is)
    where
      other : (stop : Option (StreamStop F)) → stop ≡ Some (Run halts.SinkFault) →
          stop ≡ Some (stops.Refused refusal) → ⊥
      other stop is failed = absurd cc

-- From what stands against a search to its status and its line.
use Rattle.std.proofs.Common.{◌≡◌, ◌≢◌, ◌⊎◌, ℕ, zero, suc, ◌+◌, ◌<◌, ◌≤◌, Bool, true, false, List, [], ◌∷◌, length, Option, Some, None, Err, refl, sym, ◌∙◌, ap, subst, inl, inr, arith}
use Rattle.std.specs.Prelude.{IsSome, slice_index_or, if◌then◌else◌, option_map}
use Rattle.std.specs.Option.{ForSome}
use Rattle.std.specs.Str.{bytes_eq}
use Rattle.std.proofs.lemmas.List.Elements.{All-nil}
use Rattle.dada_model.specs.Observation.{Observation}
use Rattle.psr_base.specs.Count.{Rose}
use Rattle.psr_base.specs.Made.{FilesSeen}
use Rattle.psr_base.specs.Told.{Told}
use Rattle.psr_base.specs.Written.{SinkSeen}
use Rattle.search_model.specs.Parts.{check_line}
use Rattle.search_model.specs.Plan as model
use Rattle.search_model.specs.Plan.{PlanRefusal, plan_refusal}
use Rattle.search_words.specs.declared.fault.WordFault.{WordFault}
use Rattle.search_words.specs.declared.fault.WordFault.TheVariants as word
use Rattle.search_words.specs.Settings.{SettingsSeen, with_search}
use Rattle.stream_model.specs.BlockLaws.{BytesAreJoined}
use Rattle.stream_model.specs.Walk as walk
use Rattle.stream_model.specs.Walk.{FileStream, WalkStop, transfer_data, stop_at, walk_stop}
use Rattle.stream_model.specs.WalkLaws.{AreStarts, AreWalked}
use Rattle.disk_feeder.specs.declared.answers.FeedEnd.{FeedEnd}
use Rattle.disk_feeder.specs.declared.answers.FeedEnd.TheVariants as feed
use Rattle.disk_feeder.specs.declared.answers.HeaderCause.{HeaderCause}
use Rattle.disk_feeder.specs.Filling.{HoldsAll}
use Rattle.disk_feeder.specs.Plan.{AreTold, AreToldAt, IsFirstFile}
use Rattle.warm_restart.specs.declared.checkpoint.Checkpoint.{Checkpoint}
use Rattle.warm_restart.specs.declared.checkpoint.CheckpointFault.{CheckpointFault}
use Rattle.warm_restart.specs.declared.checkpoint.CheckpointFault.TheVariants as check
use Rattle.warm_restart.specs.Checkpoint.{IsCheckpointText, IsJudged, IsNoCheckpointText}
use Rattle.warm_restart.specs.Counts.{greatest_count}
use Rattle.warm_restart.specs.Laws.{TextsSayOne}
use Rattle.warm_restart.specs.Named.{new_word}
use Rattle.run_outcome.specs.declared.causes.PlanCause.{PlanCause}
use Rattle.run_outcome.specs.declared.causes.PlanCause.TheVariants.{SumBound, FoldTooLarge, TooManyFolds, TooManyShards}
use Rattle.run_outcome.specs.declared.stop.Stop.{Stop}
use Rattle.run_outcome.specs.declared.stop.Stop.TheVariants as halts
use Rattle.run_outcome.specs.Conversions.{stop_of_words}
use Rattle.run_outcome.specs.Ends.{AcceptedIsNotRefused, CountsFaults, EndAtWords, WordsSayOnce}
use Rattle.run_outcome.specs.Firsts.{first_file}
use Rattle.run_outcome.specs.Lone.{ExplainsAlone}
use Rattle.run_outcome.specs.Runs.{Alone, CanSearch, IsPlanCause, RefusesFirstHeader, RefusesSearch, first_observation, stop_of_walk, stream_for}
use Rattle.drive_stream.specs.declared.stop.StreamStop.{StreamStop}
use Rattle.drive_stream.specs.declared.stop.StreamStop.TheVariants as streamed
use Rattle.drive_stream.specs.Endings.{Ending, Phase, All, Early, Failed, Refused, Midway, AtEnd, AtStop}
use Rattle.drive_stream.specs.Laws.{IsFromOutside, RefusesAtEnd}
use Rattle.drive_stream.specs.Outcome.{EndsStream, SaysBefore}
use Rattle.drive_stream.specs.Stops.{IsStopOf, as_run}
use Rattle.psr_part.specs.declared.stop.CheckpointRefusal.TheVariants as check_refusal
use Rattle.psr_part.specs.declared.stop.PartStop.{PartStop}
use Rattle.psr_part.specs.declared.stop.PartStop.TheVariants as part
use Rattle.psr_part.specs.Part.{check_names, check_text_of, check_word}
use Rattle.psr_part.specs.Texts.{end_status, stop_of_checkpoint}
use Rattle.live_search.specs.Live.{Task}
use Rattle.psr_live.specs.declared.task.LiveRefusal.{LiveRefusal}
use Rattle.psr_live.specs.declared.task.LiveRefusal.TheVariants as refusals
use Rattle.psr_live.specs.Causes.{CausesAreAnswered, EachIsAnswered, Fails, FailsBefore, FailsReading, IsAnswered, IsOutcome, LiveSeen}
use Rattle.psr_live.specs.Outcome.{AnswersCauses, EndsAtCheck, EndsAtWords, EndsLive, EndsStreamed, LeavesIn, SayLive, spectra_in, task_in}
use Rattle.psr_live.specs.Task.{LeavesLive, RefusesLive, live_block}
use Rattle.psr_live.specs.Texts.{stop_of_stream}
use Rattle.psr_live.specs.Words.{live_alone}
use Rattle.psr_live.proofs.Ends.{still_told, told_at, went_through}

-- a text says one checkpoint
pub one_said : TextsSayOne → (text : List ℕ) (c d : Checkpoint) → IsCheckpointText text c →
    IsCheckpointText text d → c ≡ d
one_said law text c d is is' = let e = sym ((law.computed text c).0 is) ∙ (law.computed text d).0 is' in cc

-- CHECK is there, where its text is told
holds_named : (is_new : Bool) (name bytes : List ℕ) (told : Told) →
    (if is_new then Some (check_line 0 0) else told.bytes_under name) ≡ Some bytes →
    HoldsAll told (if is_new then [] else name ∷ [])
holds_named true name bytes told e k below = absurd (omega (arith, below))
holds_named false name bytes told e zero below = subst IsSome (sym e) refl
holds_named false name bytes told e (suc k) below = absurd (omega (arith, below))

-- a search is refused for one cause
abbrev cause_of : PlanRefusal → PlanCause
cause_of (model.SumBound most cells factor) = SumBound most cells factor
cause_of (model.FoldTooLarge longest halvings) = FoldTooLarge longest halvings
cause_of (model.TooManyFolds count) = TooManyFolds count
cause_of (model.TooManyShards shards delays) = TooManyShards shards delays

caused : (first : Option PlanRefusal) (cause : PlanCause) → IsPlanCause first cause →
    option_map cause_of first ≡ Some cause
caused first (SumBound most cells factor) is = ap (option_map cause_of) is
caused first cause is = ap (option_map cause_of) is

one_cause : (first : Option PlanRefusal) (a b : PlanCause) → IsPlanCause first a → IsPlanCause first b → a ≡ b
one_cause first a b is is' = let same : Some a ≡ Some b = sym (caused first a is) ∙ caused first b is' in cc

no_cause : (first : Option PlanRefusal) (cause : PlanCause) → first ≡ None → IsPlanCause first cause → ⊥
no_cause first cause none is =
    let same : None ≡ Some cause = ap (option_map cause_of) (sym none) ∙ caused first cause is in absurd cc

-- no end of data is a fault of the output
never_sink : (end : FeedEnd) (ending : Ending LiveRefusal) →
    IsStopOf end ending (Some (streamed.Run halts.SinkFault)) → ⊥
never_sink (feed.Whole n) All is = absurd cc
never_sink (feed.Whole n) (Refused refusal) is = absurd cc
never_sink feed.ReadFault Early is = absurd cc
never_sink feed.ReadFault (Failed AtStop) is = absurd cc
never_sink (feed.BadHeader file cause) Early is = absurd cc
never_sink (feed.Gap file expected found) Early is = absurd cc
never_sink (feed.TooLong limit) Early is = absurd cc
never_sink end ending is = is

-- a fault of the output is counted
sink_rose : (o : Observation) (t : Task) (bytes : List ℕ) (phase : Phase) (before after : SinkSeen) →
    LeavesLive o t bytes (Failed phase) before after → Rose before.faults after.faults
sink_rose o t bytes Midway before after left = (left [] (All-nil (λ byte. byte < 256))).rose
sink_rose o t bytes AtEnd before after left = left.1.rose
sink_rose o t bytes AtStop before after left = left.rose

-- ---- files that are told

still_at : {Needed : ℕ → Type 0} (old new : Told) (names files : List (List ℕ)) →
    new.bytes_under ≡ old.bytes_under → AreToldAt Needed old names files → AreToldAt Needed new names files
still_at old new names files same are = record {
  count = are.count;
  each = λ k below needed.
      ap (λ (under : List ℕ → Option (List ℕ)). under (slice_index_or names k [])) same ∙ are.each k below needed;
}

-- the first file is among those up to some one
firsts_of : (s : SettingsSeen) (told : Told) (file : ℕ) (files : List (List ℕ)) → length s.starts ≡ 1 →
    AreStarts s.starts (length files) → AreToldAt (λ k. k < file + 1) told s.names files →
    AreToldAt (IsFirstFile s.starts (length s.names)) told s.names files
firsts_of s told file files one starts are = record {
  count = are.count;
  each = λ k below first. are.each k below
      (let is = zeroth first.0 first.1 k first.2 in omega (arith, is));
}
  where
    zeroth : (transfer : ℕ) → transfer < length s.starts → (k : ℕ) →
        k ≡ slice_index_or s.starts transfer (length s.names) → k ≡ 0
    zeroth transfer there k is =
        let none : transfer ≡ 0 = omega (arith, there, one) in
        is ∙ ap (λ (t : ℕ). slice_index_or s.starts t (length s.names)) none
        ∙ ap (λ (n : ℕ). slice_index_or s.starts 0 n) (sym are.count) ∙ starts.first

-- ---- an outcome

module _ (words : List (List ℕ)) (is_calm : Type 0) (seen : LiveSeen) (o : IsOutcome words is_calm seen) where
  answered : (stop : PartStop) → o.stop ≡ Some stop → IsAnswered seen stop
  answered stop is = record { status = o.answered ∙ ap end_status is; line = o.noted stop is }

  pub words_refused : ((s : SettingsSeen) → ¬ SayLive words s) →
      (seen.status ≡ 2) ⊎ IsAnswered seen (part.Run halts.Memory)
  words_refused none = by o.ends
    where
      by_fault : (fault : WordFault) → o.stop ≡ Some (part.Run (stop_of_words fault)) →
          (seen.status ≡ 2) ⊎ IsAnswered seen (part.Run halts.Memory)
      by_fault word.Refused is = inl (o.answered ∙ ap end_status is)
      by_fault (word.OutOfRange opt) is = inl (o.answered ∙ ap end_status is)
      by_fault word.Memory is = inr (answered (part.Run halts.Memory) is)

      by : EndsLive words seen.inputs is_calm seen.out_before seen.out_after o.stop →
          (seen.status ≡ 2) ⊎ IsAnswered seen (part.Run halts.Memory)
      by (inl at) = by_fault at.fault at.is
      by (inr (inl at)) = absurd (none at.settings at.says)
      by (inr (inr e)) = absurd (none e.settings e.says)

  -- words that say settings, and a text of CHECK that is told
  module _ (law : EndAtWords is_calm) (one : TextsSayOne) (s : SettingsSeen) (says : SayLive words s)
      (bytes : List ℕ) (named : check_text_of seen.inputs.told words ≡ Some bytes) where
    holds : HoldsAll seen.inputs.told (check_names words)
    holds = holds_named (bytes_eq (check_word words) new_word) (check_word words) bytes seen.inputs.told named

    at_words : EndsAtWords words seen.inputs seen.out_before seen.out_after o.stop →
        IsAnswered seen (part.Run halts.Memory)
    at_words e = by e.fault e.explains e.is
      where
        no_files : FilesSeen
        no_files = record { made = None; left = None; faults = 0 }

        by : (fault : WordFault) → ExplainsAlone live_alone words fault →
            o.stop ≡ Some (part.Run (stop_of_words fault)) → IsAnswered seen (part.Run halts.Memory)
        by word.Memory because is = answered (part.Run halts.Memory) is
        by word.Refused because is = absurd ((law (Alone live_alone) words seen.inputs no_files word.Refused halts.Words
            because refl e.unread).run.judged.refused refl s says)
        by (word.OutOfRange opt) because is = absurd ((law (Alone live_alone) words seen.inputs no_files
            (word.OutOfRange opt) (halts.Value opt) because refl e.unread).run.judged.refused refl s says)

    -- why its text is refused
    abbrev IsRefusedText : Type 0
    IsRefusedText = (IsNoCheckpointText bytes × IsAnswered seen (part.Refused check_refusal.Form))
        ⊎ ((c : Checkpoint) × IsCheckpointText bytes c × (greatest_count ≤ c.place)
        × IsAnswered seen (part.Refused (check_refusal.Place c.place greatest_count)))

    by_check : (fault : CheckpointFault) → o.stop ≡ Some (stop_of_checkpoint fault) →
        (fault ≢ check.Failed → ForSome (check_text_of seen.inputs.told words)
        (λ text. IsJudged text greatest_count (Err fault))) →
        CountsFaults seen.inputs is_calm (check_names words) (fault ≡ check.Failed) →
        FailsReading is_calm seen ⊎ IsRefusedText
    by_check check.Failed is judged read = inl (record {
      answered = answered (part.Run halts.ReadFault) is;
      rose = read.rose refl;
      calm = λ c. read.serves c holds refl;
    })
    by_check check.Form is judged read =
        inr (inl ((judged (λ e. absurd cc) bytes named).form.0 refl, answered (part.Refused check_refusal.Form) is))
    by_check (check.Place place until) is judged read =
        let r = ((judged (λ e. absurd cc) bytes named).place place until).0 refl in
        let At : ℕ → ℕ → Type 0 = λ p u. IsAnswered seen (part.Refused (check_refusal.Place p u)) in
        let told : At place until = answered (part.Refused (check_refusal.Place place until)) is in
        let c : Checkpoint = r.0 in
        let place_is : c.place ≡ place = r.2 in
        let until_is : greatest_count ≡ until = r.3 in
        let late : greatest_count ≤ place = r.4 in
        inr (inr (
          c,
          r.1,
          omega (arith, late, place_is),
          subst (λ p. At p greatest_count) (sym place_is) (subst (At place) (sym until_is) told),
        ))

    at_check : EndsAtCheck words seen.inputs is_calm seen.out_before seen.out_after o.stop →
        FailsReading is_calm seen ⊎ IsRefusedText
    at_check e = by_check e.fault e.is e.judged e.read

    pub form_refused : IsNoCheckpointText bytes →
        IsAnswered seen (part.Refused check_refusal.Form) ⊎ FailsBefore is_calm seen
    form_refused none = by o.ends
      where
        by_text : FailsReading is_calm seen ⊎ IsRefusedText →
            IsAnswered seen (part.Refused check_refusal.Form) ⊎ FailsBefore is_calm seen
        by_text (inl fails) = inr (inr fails)
        by_text (inr (inl is)) = inl is.1
        by_text (inr (inr late)) = absurd (none late.0 late.1)

        by : EndsLive words seen.inputs is_calm seen.out_before seen.out_after o.stop →
            IsAnswered seen (part.Refused check_refusal.Form) ⊎ FailsBefore is_calm seen
        by (inl at) = inr (inl (at_words at))
        by (inr (inl at)) = by_text (at_check at)
        by (inr (inr e)) = absurd (none e.from (e.goes_on.text bytes named))

    abbrev LateAt : Checkpoint → Type 0
    LateAt d = IsAnswered seen (part.Refused (check_refusal.Place d.place greatest_count))

    pub place_refused : (c : Checkpoint) → IsCheckpointText bytes c → greatest_count ≤ c.place →
        IsAnswered seen (part.Refused (check_refusal.Place c.place greatest_count)) ⊎ FailsBefore is_calm seen
    place_refused c is late = by o.ends
      where
        by_text : FailsReading is_calm seen ⊎ IsRefusedText → LateAt c ⊎ FailsBefore is_calm seen
        by_text (inl fails) = inr (inr fails)
        by_text (inr (inl none)) = absurd (none.0 c is)
        by_text (inr (inr said)) = inl (subst LateAt (one_said one bytes said.0 c said.1 is) said.3)

        by : EndsLive words seen.inputs is_calm seen.out_before seen.out_after o.stop →
            LateAt c ⊎ FailsBefore is_calm seen
        by (inl at) = inr (inl (at_words at))
        by (inr (inl at)) = by_text (at_check at)
        by (inr (inr e)) =
            let same = ap (λ (d : Checkpoint). d.place) (one_said one bytes e.from c (e.goes_on.text bytes named) is) in
            let before = e.goes_on.before in
            absurd (omega (arith, same, before, late))

    -- ---- from an accepted checkpoint

    abbrev Calm : Type 0
    Calm = is_calm × HoldsAll seen.inputs.told s.names

    -- where it ended before its data
    each_failed : (from : Checkpoint) → FailsBefore is_calm seen → EachIsAnswered Calm from s seen
    each_failed from fails =
        let before : FailsBefore Calm seen = by fails in
        record {
          accepted = λ files are walked can whole reach. inr (inl before);
          beyond = λ files are walked can whole short. inr (inl before);
          header = λ files are file cause refused. inr before;
          plan = λ files are cause refused. inr before;
          walk = λ file below files are walked can passed at stop is same. inr (inl before);
        }
      where
        by : FailsBefore is_calm seen → FailsBefore Calm seen
        by (inl memory) = inl memory
        by (inr reading) = inr (record {
          answered = reading.answered;
          rose = reading.rose;
          calm = λ c. reading.calm c.0;
        })

    -- where its data streamed through it
    module _ (joined : BytesAreJoined) (accepted : AcceptedIsNotRefused) (from : Checkpoint) (told : Told)
        (names : told.bytes_under ≡ seen.inputs.told.bytes_under) (end : Option (StreamStop LiveRefusal))
        (is : o.stop ≡ stop_of_stream end)
        (ends : EndsStream live_block (λ p header. plan_refusal p s.search ≡ None)
        (λ p header refusal. RefusesLive s.search p refusal) (LeavesIn words s from) (with_search tt s) told
        seen.out_before seen.out_after end)
        (causes : AnswersCauses s (LeavesIn words s from) told seen.out_before seen.out_after end)
        (read : CountsFaults seen.inputs (is_calm × HoldsAll seen.inputs.told (check_names words)) s.names
        (o.stop ≡ Some (part.Run halts.ReadFault))) where
      abbrev Firsts : List (List ℕ) → Type 0
      Firsts files = AreToldAt (IsFirstFile s.starts (length s.names)) told s.names files

      -- what a fault of the output says of the first file
      abbrev HasSunk : List (List ℕ) → Type 0
      HasSunk files = let w = stream_for s files in AreWalked w × CanSearch s.search (first_file w 0)
          × Rose seen.out_before.faults seen.out_after.faults

      sunk : end ≡ Some (streamed.Run halts.SinkFault) → (files : List (List ℕ)) → Firsts files → HasSunk files
      sunk sink files are = by (subst (EndsStream live_block (λ p header. plan_refusal p s.search ≡ None)
          (λ p header refusal. RefusesLive s.search p refusal) (LeavesIn words s from) (with_search tt s) told
          seen.out_before seen.out_after) sink ends)
        where
          early : (what : StreamStop LiveRefusal) → Some (streamed.Run halts.SinkFault) ≡ Some what →
              SaysBefore (λ p header refusal. RefusesLive s.search p refusal) (with_search tt s) told what → ⊥
          early (streamed.Refused refusal) same says = absurd cc
          early (streamed.Run stop) same says =
              let e : halts.SinkFault ≡ stop = cc in
              let Says : Stop → Type 0 = λ x.
              SaysBefore (λ p header refusal. RefusesLive s.search p refusal) (with_search tt s) told (streamed.Run x) in
              (subst Says (sym e) says).0

          by : EndsStream live_block (λ p header. plan_refusal p s.search ≡ None)
              (λ p header refusal. RefusesLive s.search p refusal) (LeavesIn words s from) (with_search tt s) told
              seen.out_before seen.out_after (Some (streamed.Run halts.SinkFault)) → HasSunk files
          by (inl e) = absurd (early e.what e.is e.says)
          by (inr (inl e)) = absurd (never_sink e.feed e.ending e.is)
          by (inr (inr e)) =
              let left = e.left files are in
              (left.0, left.1, sink_rose (first_observation (stream_for s files) 0) (task_in words s from) e.bytes e.phase seen.out_before seen.out_after left.2)

      fails_before : (end ≡ Some (streamed.Run halts.SinkFault) → ⊥) → IsFromOutside end → FailsBefore Calm seen
      fails_before never (inl memory) = inl (answered (part.Run halts.Memory) (is ∙ ap stop_of_stream memory))
      fails_before never (inr (inl fault)) =
          let at = is ∙ ap stop_of_stream fault in
          inr (record {
            answered = answered (part.Run halts.ReadFault) at;
            rose = read.rose at;
            calm = λ c. read.serves (c.0, holds) c.1 at;
          })
      fails_before never (inr (inr sink)) = absurd (never sink)

      fails : (files : List (List ℕ)) → Firsts files → IsFromOutside end → Fails Calm seen
      fails files are (inl memory) = inl (inl (answered (part.Run halts.Memory) (is ∙ ap stop_of_stream memory)))
      fails files are (inr (inl fault)) =
          let at = is ∙ ap stop_of_stream fault in
          inl (inr (record {
            answered = answered (part.Run halts.ReadFault) at;
            rose = read.rose at;
            calm = λ c. read.serves (c.0, holds) c.1 at;
          }))
      fails files are (inr (inr sink)) = inr (record {
        answered = answered (part.Run halts.SinkFault) (is ∙ ap stop_of_stream sink);
        rose = (sunk sink files are).2;
      })

      -- data that were refused at their end
      at_end : (w : FileStream) (refusal : LiveRefusal) →
          LeavesLive (first_observation w 0) (task_in words s from) (transfer_data w 0) (Refused refusal)
          seen.out_before seen.out_after →
          (spectra_in w < from.place) × (refusal ≡ refusals.Beyond from.place (spectra_in w))
      at_end w (refusals.Plan cause) left = absurd left
      at_end w (refusals.Beyond place spectra) left =
          let place_is : place ≡ from.place = left.0 in
          let count : spectra ≡ spectra_in w = left.1 in
          let less : spectra < place = left.2 in (
            omega (arith, place_is, count, less),
            ap (λ p. refusals.Beyond p spectra) place_is ∙ ap (λ n. refusals.Beyond from.place n) count,
          )

      all_accepted : (files : List (List ℕ)) → AreTold seen.inputs.told s.names files →
          let w = stream_for s files in AreWalked w → CanSearch s.search (first_file w 0) →
          walk_stop w ≡ walk.Whole → from.place ≤ spectra_in w → (seen.status ≡ 0) ⊎ Fails Calm seen
      all_accepted files are walked can whole reach =
          let still = still_told seen.inputs.told told s.names files names are in
          by (causes.accepted files still walked can whole)
        where
          by : (end ≡ None) ⊎ (RefusesAtEnd (LeavesIn words s from) (stream_for s files) seen.out_before seen.out_after end
              ⊎ IsFromOutside end) → (seen.status ≡ 0) ⊎ Fails Calm seen
          by (inl none) = inl (o.answered ∙ ap end_status (is ∙ ap stop_of_stream none))
          by (inr (inl r)) =
              let short = (at_end (stream_for s files) r.0 r.2).0 in absurd (omega (arith, short, reach))
          by (inr (inr out)) =
              inr (fails files (told_at _ told s.names files (still_told seen.inputs.told told s.names files names are)) out)

      all_short : (files : List (List ℕ)) → AreTold seen.inputs.told s.names files →
          let w = stream_for s files in AreWalked w → CanSearch s.search (first_file w 0) →
          walk_stop w ≡ walk.Whole → spectra_in w < from.place →
          IsAnswered seen (part.Refused (check_refusal.Beyond from.place (spectra_in w))) ⊎ Fails Calm seen
      all_short files are walked can whole short =
          let still = still_told seen.inputs.told told s.names files names are in
          by (causes.accepted files still walked can whole)
        where
          by : (end ≡ None) ⊎ (RefusesAtEnd (LeavesIn words s from) (stream_for s files) seen.out_before seen.out_after end
              ⊎ IsFromOutside end) →
              IsAnswered seen (part.Refused (check_refusal.Beyond from.place (spectra_in (stream_for s files))))
              ⊎ Fails Calm seen
          by (inl none) =
              let reach = (went_through joined words s from told seen.out_before seen.out_after
              says.search.one.transfer end none ends files
              (still_told seen.inputs.told told s.names files names are)).3 in
              absurd (omega (arith, reach, short))
          by (inr (inl r)) =
              let same = (at_end (stream_for s files) r.0 r.2).1 in
              inl (answered (part.Refused (check_refusal.Beyond from.place (spectra_in (stream_for s files))))
              (is ∙ ap stop_of_stream (r.1 ∙ ap (λ x. Some (streamed.Refused x)) same)))
          by (inr (inr out)) =
              inr (fails files (told_at _ told s.names files (still_told seen.inputs.told told s.names files names are)) out)

      header_refused : (files : List (List ℕ)) →
          AreToldAt (IsFirstFile s.starts (length s.names)) seen.inputs.told s.names files → (file : ℕ)
          (cause : HeaderCause) → RefusesFirstHeader (stream_for s files) file cause →
          ((k : ℕ) × (other : HeaderCause) × IsAnswered seen (part.Run (halts.Header k other)))
          ⊎ FailsBefore Calm seen
      header_refused files are file cause refused =
          let still : Firsts files = still_at seen.inputs.told told s.names files names are in
          by (causes.headers files still file cause refused)
        where
          by : ((k : ℕ) × (other : HeaderCause) × (end ≡ Some (streamed.Run (halts.Header k other))))
              ⊎ IsFromOutside end →
              ((k : ℕ) × (other : HeaderCause) × IsAnswered seen (part.Run (halts.Header k other)))
              ⊎ FailsBefore Calm seen
          by (inl r) =
              inl (r.0, r.1, answered (part.Run (halts.Header r.0 r.1)) (is ∙ ap stop_of_stream r.2))
          by (inr out) = inr (fails_before (λ sink.
              let walked = (sunk sink files (still_at seen.inputs.told told s.names files names are)).0 in
              accepted.header (stream_for s files) file cause walked refused) out)

      plan_refused : (files : List (List ℕ)) →
          AreToldAt (IsFirstFile s.starts (length s.names)) seen.inputs.told s.names files → (cause : PlanCause) →
          RefusesSearch s.search (stream_for s files) cause →
          IsAnswered seen (part.Run (halts.Plan cause)) ⊎ FailsBefore Calm seen
      plan_refused files are cause refused =
          let still : Firsts files = still_at seen.inputs.told told s.names files names are in
          let count = says.search.one.transfer in
          let there = refused.there in
          let none : refused.transfer ≡ 0 = omega (arith, count, there) in
          let first : IsPlanCause (plan_refusal (first_observation (stream_for s files) 0) s.search) cause =
          subst (λ k. IsPlanCause (plan_refusal (first_observation (stream_for s files) k) s.search) cause) none
          refused.refused in
          by first (causes.refusals files still refused.accepted (refusals.Plan cause) first)
        where
          by_refusal : (other : LiveRefusal) → end ≡ Some (streamed.Refused other) →
              RefusesLive s.search (first_observation (stream_for s files) 0) other →
              IsPlanCause (plan_refusal (first_observation (stream_for s files) 0) s.search) cause →
              IsAnswered seen (part.Run (halts.Plan cause))
          by_refusal (refusals.Beyond place spectra) at why first = absurd why
          by_refusal (refusals.Plan other) at why first =
              let same = one_cause _ other cause why first in
              answered (part.Run (halts.Plan cause))
              (is ∙ ap stop_of_stream (at ∙ ap (λ x. Some (streamed.Refused (refusals.Plan x))) same))

          by : IsPlanCause (plan_refusal (first_observation (stream_for s files) 0) s.search) cause →
              ((other : LiveRefusal) × (end ≡ Some (streamed.Refused other))
              × RefusesLive s.search (first_observation (stream_for s files) 0) other) ⊎ IsFromOutside end →
              IsAnswered seen (part.Run (halts.Plan cause)) ⊎ FailsBefore Calm seen
          by first (inl r) = inl (by_refusal r.0 r.1 r.2 first)
          by first (inr out) = inr (fails_before (λ sink.
              let can = (sunk sink files (still_at seen.inputs.told told s.names files names are)).1 in
              no_cause _ cause can first) out)

      walk_stopped : (file : ℕ) → file < length s.names → (files : List (List ℕ)) →
          AreToldAt (λ k. k < file + 1) seen.inputs.told s.names files → let w = stream_for s files in AreWalked w →
          CanSearch s.search (first_file w 0) → ((k : ℕ) → k < file → stop_at w k ≡ None) → (at : WalkStop)
          (stop : Stop) → stop_at w file ≡ Some at → stop_of_walk s.max_bytes at ≡ Some stop →
          IsAnswered seen (part.Run stop) ⊎ Fails Calm seen
      walk_stopped file below files are walked can passed at stop stops same =
          let still = still_at seen.inputs.told told s.names files names are in
          let firsts = firsts_of s told file files says.search.one.transfer walked.starts still in
          by firsts (causes.stops file below files still walked can passed at stops)
        where
          by : Firsts files → (end ≡ as_run (stop_of_walk s.max_bytes at)) ⊎ IsFromOutside end →
              IsAnswered seen (part.Run stop) ⊎ Fails Calm seen
          by firsts (inl r) =
              inl (answered (part.Run stop) (is ∙ ap stop_of_stream (r ∙ ap as_run same)))
          by firsts (inr out) = inr (fails files firsts out)

      each_streamed : EachIsAnswered Calm from s seen
      each_streamed = record {
        accepted = all_accepted;
        beyond = all_short;
        header = header_refused;
        plan = plan_refused;
        walk = walk_stopped;
      }

    pub each : BytesAreJoined → AcceptedIsNotRefused → WordsSayOnce → (from : Checkpoint) →
        IsCheckpointText bytes from → from.place < greatest_count → EachIsAnswered Calm from s seen
    each joined accepted once from text before = by o.ends
      where
        by_text : FailsReading is_calm seen ⊎ IsRefusedText → EachIsAnswered Calm from s seen
        by_text (inl fails) = each_failed from (inr fails)
        by_text (inr (inl none)) = absurd (none.0 from text)
        by_text (inr (inr said)) =
            let same = ap (λ (d : Checkpoint). d.place) (one_said one bytes said.0 from said.1 text) in
            let late = said.2 in
            absurd (omega (arith, same, late, before))

        by_stream : EndsStreamed words seen.inputs is_calm seen.out_before seen.out_after o.stop →
            EachIsAnswered Calm from s seen
        by_stream e =
            let Ends : SettingsSeen → Checkpoint → Type 0 = λ t c.
            EndsStream live_block (λ p header. plan_refusal p t.search ≡ None)
            (λ p header refusal. RefusesLive t.search p refusal) (LeavesIn words t c) (with_search tt t) e.told
            seen.out_before seen.out_after e.streamed in
            let Causes : SettingsSeen → Checkpoint → Type 0 = λ t c.
            AnswersCauses t (LeavesIn words t c) e.told seen.out_before seen.out_after e.streamed in
            let Read : SettingsSeen → Type 0 = λ t. CountsFaults seen.inputs
            (is_calm × HoldsAll seen.inputs.told (check_names words)) t.names
            (o.stop ≡ Some (part.Run halts.ReadFault)) in
            let settings = once (Alone live_alone) words e.settings s e.says says in
            let place = one_said one bytes e.from from (e.goes_on.text bytes named) text in
            each_streamed joined accepted from e.told e.names e.streamed e.is
            (subst (Ends s) place (subst (λ t. Ends t e.from) settings e.ends))
            (subst (Causes s) place (subst (λ t. Causes t e.from) settings e.causes)) (subst Read settings e.read)

        by : EndsLive words seen.inputs is_calm seen.out_before seen.out_after o.stop → EachIsAnswered Calm from s seen
        by (inl at) = each_failed from (inl (at_words at))
        by (inr (inl at)) = by_text (at_check at)
        by (inr (inr e)) = by_stream e

-- ---- the law

pub causes_are_answered : AcceptedIsNotRefused → BytesAreJoined → (is_calm : Type 0) → EndAtWords is_calm →
    TextsSayOne → WordsSayOnce → CausesAreAnswered is_calm
causes_are_answered accepted joined is_calm law one once = record {
  words = λ words seen o none. words_refused words is_calm seen o none;
  checkpoint = λ words seen o s says. record {
    form = λ bytes named none. form_refused words is_calm seen o law one s says bytes named none;
    place = λ bytes c named is late. place_refused words is_calm seen o law one s says bytes named c is late;
  };
  files = λ words seen o s says from said.
      each words is_calm seen o law one s says said.bytes said.named joined accepted once from said.text said.before;
}

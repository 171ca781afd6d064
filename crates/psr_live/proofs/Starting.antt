-- How a search ends before its data, or once they streamed through it.
use Rattle.std.proofs.Common.{◌≡◌, ◌≢◌, ℕ, ◌<◌, ◌≤◌, Bool, true, false, List, [], ◌∷◌, length, Option, Some, None, Ok, Err, Result, refl, sym, ◌∙◌, ap, subst, inl, inr, arith}
use Rattle.std.specs.Prelude.{IsSome, slice_index_or, if◌then◌else◌}
use Rattle.std.specs.Option.{ForSome}
use Rattle.std.specs.Str.{bytes_eq}
use Rattle.dada_model.specs.Fields.{HeaderText}
use Rattle.dada_model.specs.Observation.{Observation}
use Rattle.psr_base.specs.Count.{Rose}
use Rattle.psr_base.specs.Inputs.{HasReadFrom}
use Rattle.psr_base.specs.Told.{Told, InputsSeen}
use Rattle.psr_base.specs.Written.{SinkSeen}
use Rattle.search_model.specs.Parts.{check_line}
use Rattle.search_model.specs.Plan.{plan_refusal}
use Rattle.search_words.specs.Settings.{RunInRange, SettingsSeen, with_search}
use Rattle.disk_feeder.specs.Filling.{HoldsAll}
use Rattle.warm_restart.specs.declared.checkpoint.Checkpoint.{Checkpoint}
use Rattle.warm_restart.specs.declared.checkpoint.CheckpointFault.{CheckpointFault}
use Rattle.warm_restart.specs.declared.checkpoint.CheckpointFault.TheVariants as check
use Rattle.warm_restart.specs.Checkpoint.{IsJudged}
use Rattle.warm_restart.specs.Counts.{greatest_count}
use Rattle.warm_restart.specs.Named.{named_text, new_word}
use Rattle.run_outcome.specs.declared.stop.Stop.TheVariants.{ReadFault}
use Rattle.drive_stream.specs.declared.stop.StreamStop.{StreamStop}
use Rattle.drive_stream.specs.declared.stop.StreamStop.TheVariants as streamed
use Rattle.drive_stream.specs.Endings.{Ending}
use Rattle.drive_stream.specs.Laws.{AcceptedGoesThrough, HeadersAreAnswered, RefusalsAreAnswered, StopsAreAnswered}
use Rattle.drive_stream.specs.Opening.{IsOfOne}
use Rattle.drive_stream.specs.Outcome.{EndsStream}
use Rattle.psr_part.specs.declared.stop.PartStop.{PartStop}
use Rattle.psr_part.specs.declared.stop.PartStop.TheVariants.{Run}
use Rattle.psr_part.specs.Part.{check_names, check_text_of, check_word}
use Rattle.psr_part.specs.Texts.{stop_of_checkpoint}
use Rattle.psr_live.specs.declared.task.LiveRefusal.{LiveRefusal}
use Rattle.psr_live.specs.declared.task.LiveRefusal.TheVariants as refusal
use Rattle.psr_live.specs.Outcome.{AnswersCauses, EndsLive, GoesOnFrom, SayLive}
use Rattle.psr_live.specs.Task.{LeavesLive, RefusesLive, live_block}
use Rattle.psr_live.specs.Texts.{stop_of_stream}
use Rattle.psr_live.specs.Words.{every_in}

-- inputs, by what they tell and how many calls have failed
abbrev pub seen_of : {I : Type 0} → (I → Told) → (I → ℕ) → I → I → InputsSeen
seen_of told faults old new = record {
  told = told old;
  faults_before = faults old;
  faults_after = faults new;
}

-- ---- CHECK

holds_word : (is_new : Bool) (text word : List ℕ) (told : Told) → HoldsAll told (if is_new then [] else word ∷ []) →
    IsSome (if is_new then Some text else told.bytes_under word)
holds_word true text word told holds = refl
holds_word false text word told holds = holds 0 (let some : 0 < 1 = omega arith in some)

-- the text of CHECK is there, where inputs hold it
pub check_there : (told : Told) (words : List (List ℕ)) → HoldsAll told (check_names words) →
    IsSome (check_text_of told words)
check_there told words holds =
    holds_word (bytes_eq (check_word words) new_word) (check_line 0 0) (check_word words) told holds

-- what CHECK is read as
abbrev pub refused : CheckpointFault → Result Checkpoint CheckpointFault
refused fault = Err fault

abbrev pub accepted : Checkpoint → Result Checkpoint CheckpointFault
accepted from = Ok from

module _ {I : Type 0} (told : I → Told) (is_calm : I → Type 0) (faults : I → ℕ) (words : List (List ℕ))
    (s : SettingsSeen) (says : SayLive words s) (word : List ℕ) (same : word ≡ check_word words) (old mid : I)
    (before : SinkSeen) where
  -- it is refused, or could not be read
  pub at_check : (fault : CheckpointFault) (stop : PartStop) → stop ≡ stop_of_checkpoint fault →
      (refused fault ≢ refused check.Failed → ForSome (named_text (told old) word)
      (λ text. IsJudged text greatest_count (Err fault))) →
      ((place limit : ℕ) → refused fault ≡ refused (check.Place place limit) →
      (greatest_count ≡ limit) × (greatest_count ≤ place)) →
      HasReadFrom told is_calm faults (refused fault ≡ refused check.Failed) old mid →
      (is_calm old → IsSome (named_text (told old) word) → refused fault ≢ refused check.Failed) →
      EndsLive words (seen_of told faults old mid) (is_calm old) before before (Some stop)
  at_check fault stop is judged late read serves =
      let failed : refused fault ≡ refused check.Failed → fault ≡ check.Failed = λ e. cc in
      inr (inl (record {
        settings = s;
        says = says;
        fault = fault;
        is = ap Some is;
        judged = λ other.
            subst (λ w. ForSome (named_text (told old) w) (λ text. IsJudged text greatest_count (Err fault))) same
            (judged (λ e. other (failed e)));
        late = λ place until e.
            let numbers = late place until (ap refused e) in
            (sym numbers.0, subst (λ n. n ≤ place) numbers.0 numbers.1);
        untouched = refl;
        read = record {
          rose = λ e. read.rose (ap refused e);
          quiet = λ no. read.quiet (λ e. no (failed e));
          count = read.count;
          serves = λ calm holds e.
              serves calm (subst (λ w. IsSome (named_text (told old) w)) (sym same) (check_there (told old) words holds))
              (ap refused e);
        };
      }))

  -- it says a checkpoint
  pub goes_on_from : (from : Checkpoint) → from.place < greatest_count →
      (accepted from ≢ refused check.Failed → ForSome (named_text (told old) word)
      (λ text. IsJudged text greatest_count (Ok from))) → GoesOnFrom (told old) words from
  goes_on_from from before_end judged = record {
    text = λ text named.
        ((((judged (λ e. absurd cc)) text
        (subst (λ w. named_text (told old) w ≡ Some text) (sym same) named)).accepted from).0 refl).0;
    before = before_end;
  }

-- ---- the stop of a stream

pub to_stream : (stop : Option (StreamStop LiveRefusal)) → stop_of_stream stop ≡ Some (Run ReadFault) →
    stop ≡ Some (streamed.Run ReadFault)
to_stream (Some (streamed.Run stop)) is = cc
to_stream (Some (streamed.Refused (refusal.Plan cause))) is = absurd cc
to_stream stop is = absurd cc

-- the laws of a run, of this one
module _ (s : SettingsSeen) (range : RunInRange (with_search tt s)) (one : length s.starts ≡ 1)
    (leaves : Observation → HeaderText → List ℕ → Ending LiveRefusal → SinkSeen → SinkSeen → Type 0)
    (accepts : AcceptedGoesThrough live_block (λ o header. plan_refusal o s.search ≡ None)
    (λ o header refusal. RefusesLive s.search o refusal) leaves)
    (heads : HeadersAreAnswered live_block (λ o header. plan_refusal o s.search ≡ None)
    (λ o header refusal. RefusesLive s.search o refusal) leaves)
    (refuses : RefusalsAreAnswered live_block (λ o header. plan_refusal o s.search ≡ None)
    (λ o header refusal. RefusesLive s.search o refusal) leaves)
    (walks : StopsAreAnswered live_block (λ o header. plan_refusal o s.search ≡ None)
    (λ o header refusal. RefusesLive s.search o refusal) leaves) where
  pub answered : (told : Told) (before after : SinkSeen) (stop : Option (StreamStop LiveRefusal)) →
      EndsStream live_block (λ o header. plan_refusal o s.search ≡ None)
      (λ o header refusal. RefusesLive s.search o refusal) leaves (with_search tt s) told before after stop →
      AnswersCauses s leaves told before after stop
  answered told before after stop ends =
      let run : IsOfOne (with_search tt s) = record { range = range; one = one } in
      record {
        accepted = λ files are. accepts (with_search tt s) told before after stop run ends files are;
        headers = λ files are. heads (with_search tt s) told before after stop run ends files are;
        refusals = λ files are. refuses (with_search tt s) told before after stop run ends files are;
        stops = λ file below files are. walks (with_search tt s) told before after stop run ends file below files are;
      }

module _ {I : Type 0} (told : I → Told) (is_calm : I → Type 0) (faults : I → ℕ) (words : List (List ℕ))
    (s : SettingsSeen) (says : SayLive words s) (old mid new : I) (before after : SinkSeen) where
  pub streamed_to : (from : Checkpoint) → GoesOnFrom (told old) words from → (every : ℕ) → every_in words ≡ every →
      (stop : Option (StreamStop LiveRefusal)) (result : Option PartStop) → result ≡ stop_of_stream stop →
      HasReadFrom told is_calm faults (accepted from ≡ refused check.Failed) old mid →
      HasReadFrom told is_calm faults (stop ≡ Some (streamed.Run ReadFault)) mid new →
      (is_calm mid → HoldsAll (told mid) s.names → stop ≢ Some (streamed.Run ReadFault)) →
      EndsStream live_block (λ o header. plan_refusal o s.search ≡ None)
      (λ o header refusal. RefusesLive s.search o refusal)
      (λ o header bytes ending start now.
      LeavesLive o (record { search = s.search; every = every; from = from }) bytes ending start now)
      (with_search tt s) (told mid) before after stop →
      AnswersCauses s (λ o header bytes ending start now.
      LeavesLive o (record { search = s.search; every = every; from = from }) bytes ending start now) (told mid) before
      after stop →
      EndsLive words (seen_of told faults old new) (is_calm old) before after result
  streamed_to from goes every every_is stop result is checked read serves ends causes =
      let Ends : ℕ → Type 0 = λ n.
      EndsStream live_block (λ o header. plan_refusal o s.search ≡ None)
      (λ o header refusal. RefusesLive s.search o refusal)
      (λ o header bytes ending start now.
      LeavesLive o (record { search = s.search; every = n; from = from }) bytes ending start now)
      (with_search tt s) (told mid) before after stop in
      let Causes : ℕ → Type 0 = λ n. AnswersCauses s (λ o header bytes ending start now.
      LeavesLive o (record { search = s.search; every = n; from = from }) bytes ending start now) (told mid) before
      after stop in
      let same : faults mid ≡ faults old = checked.quiet (λ e. absurd cc) in
      let count = checked.count in
      let later = read.count in
      let to : result ≡ Some (Run ReadFault) → stop ≡ Some (streamed.Run ReadFault) =
      λ e. to_stream stop (sym is ∙ e) in
      inr (inr (record {
        settings = s;
        says = says;
        from = from;
        goes_on = goes;
        told = told mid;
        names = checked.names;
        streamed = stop;
        is = is;
        ends = subst Ends (sym every_is) ends;
        causes = subst Causes (sym every_is) causes;
        read = record {
          rose = λ e. subst (λ n. Rose n (faults new)) same (read.rose (to e));
          quiet = λ no. read.quiet (λ e. no (is ∙ ap stop_of_stream e)) ∙ same;
          count = omega (arith, count, later);
          serves = λ calm holds e.
              serves (checked.calm calm.0) (λ k below.
              subst (λ (under : List ℕ → Option (List ℕ)). IsSome (under (slice_index_or s.names k [])))
              (sym checked.names) (holds k below)) (to e);
        };
      }))

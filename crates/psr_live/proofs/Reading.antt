-- What was read at want of memory and at a refusal, and what a fault of the inputs leaves.
use Rattle.std.proofs.Common.{◌≡◌, ◌≢◌, ℕ, Bool, true, false, List, Option, Some, None, refl, sym, ◌∙◌, ap, subst, inl, inr}
use Rattle.std.specs.Prelude.{IsSome, if◌then◌else◌}
use Rattle.std.specs.Str.{bytes_eq}
use Rattle.psr_base.specs.Told.{Told, OfFile, BreaksOff}
use Rattle.psr_base.specs.Written.{SinkSeen}
use Rattle.dada_model.specs.Fields.{HeaderText}
use Rattle.dada_model.specs.Observation.{Observation}
use Rattle.search_model.specs.Parts.{check_line}
use Rattle.search_model.specs.Plan.{plan_refusal}
use Rattle.search_words.specs.declared.fault.WordFault.{WordFault}
use Rattle.search_words.specs.declared.fault.WordFault.TheVariants as word
use Rattle.search_words.specs.Settings.{SettingsSeen, with_search}
use Rattle.warm_restart.specs.declared.checkpoint.Checkpoint.{Checkpoint}
use Rattle.warm_restart.specs.declared.checkpoint.CheckpointFault.{CheckpointFault}
use Rattle.warm_restart.specs.declared.checkpoint.CheckpointFault.TheVariants as check
use Rattle.warm_restart.specs.Named.{most_read, named_text, new_word, ReadsFront}
use Rattle.run_outcome.specs.declared.stop.Stop.{Stop}
use Rattle.run_outcome.specs.declared.stop.Stop.TheVariants.{Memory, ReadFault}
use Rattle.run_outcome.specs.Conversions.{stop_of_words}
use Rattle.run_outcome.specs.Firsts.{BreaksFirstAt}
use Rattle.drive_stream.specs.declared.stop.StreamStop.{StreamStop}
use Rattle.drive_stream.specs.declared.stop.StreamStop.TheVariants as streamed
use Rattle.drive_stream.specs.Endings.{Ending}
use Rattle.drive_stream.specs.Outcome.{BreaksFed, BreaksStream, LeavesInputs}
use Rattle.psr_part.specs.declared.stop.CheckpointRefusal.{CheckpointRefusal}
use Rattle.psr_part.specs.declared.stop.CheckpointRefusal.TheVariants as check_refusal
use Rattle.psr_part.specs.declared.stop.PartStop.{PartStop}
use Rattle.psr_part.specs.declared.stop.PartStop.TheVariants.{Run, Refused}
use Rattle.psr_part.specs.Part.{check_word}
use Rattle.psr_part.specs.Outcome.{BreaksAtCheck, ReadsCheck}
use Rattle.psr_part.specs.Texts.{stop_of_checkpoint}
use Rattle.psr_live.specs.declared.task.LiveRefusal.{LiveRefusal}
use Rattle.psr_live.specs.declared.task.LiveRefusal.TheVariants as refusals
use Rattle.psr_live.specs.Outcome.{GoesOnFrom, SayLive}
use Rattle.psr_live.specs.Reads.{LeavesAtFault, LeavesFiles, ReadsNoData, ReadsRefused}
use Rattle.psr_live.specs.Task.{LeavesLive, live_block}
use Rattle.psr_live.specs.Texts.{stop_of_stream}
use Rattle.psr_live.specs.Words.{every_in}
use Rattle.psr_live.proofs.Starting.{refused, to_stream}

-- ---- before CHECK was accepted

not_words : (f : WordFault) → Some (Run (stop_of_words f)) ≡ Some (Run ReadFault) → ⊥
not_words word.Refused same = absurd cc
not_words (word.OutOfRange opt) same = absurd cc
not_words word.Memory same = absurd cc

not_memory : (f : CheckpointFault) → Some (stop_of_checkpoint f) ≡ Some (Run Memory) → ⊥
not_memory check.Failed same = absurd cc
not_memory check.Form same = absurd cc
not_memory (check.Place place until) same = absurd cc

failed_is : (f : CheckpointFault) → Some (stop_of_checkpoint f) ≡ Some (Run ReadFault) → f ≡ check.Failed
failed_is check.Failed same = refl
failed_is check.Form same = absurd cc
failed_is (check.Place place until) same = absurd cc

-- a file that is told tells the text that its name stands for
named_there : (is_new : Bool) (word : List ℕ) (told : Told) → IsSome (told.bytes_under word) →
    IsSome (if is_new then Some (check_line 0 0) else told.bytes_under word)
named_there true word told there = refl
named_there false word told there = there

breaks_at_check : (words : List (List ℕ)) (is_calm : Type 0) (word : List ℕ) (old new : Told) (f : CheckpointFault) →
    word ≡ check_word words → (word ≡ new_word → refused f ≢ refused check.Failed) →
    (refused f ≡ refused check.Failed → OfFile old word (λ _. BreaksOff most_read word old new)) →
    (is_calm → IsSome (named_text old word) → refused f ≢ refused check.Failed) →
    Some (stop_of_checkpoint f) ≡ Some (Run ReadFault) → BreaksAtCheck words is_calm old new
breaks_at_check words is_calm word old new f is not_new broke serves same =
    let failed : refused f ≡ refused check.Failed = ap refused (failed_is f same) in
    let At : List ℕ → Type 0 = λ x. OfFile old x (λ _. BreaksOff most_read x old new) in
    record {
      other = λ e. not_new (is ∙ e) failed;
      broke = subst At is (broke failed);
      missing = λ calm there.
          let told = subst (λ (x : List ℕ). IsSome (old.bytes_under x)) (sym is) there in
          serves calm (named_there (bytes_eq word new_word) word old told) failed;
    }

-- ---- CHECK was read

pub reads_check : {I : Type 0} (told : I → Told) (words : List (List ℕ)) (word : List ℕ) (old new : I) →
    word ≡ check_word words → (word ≡ new_word → new ≡ old) →
    (word ≢ new_word → OfFile (told old) word (λ file. ReadsFront most_read word file (told old) (told new))) →
    (told new).bytes_under ≡ (told old).bytes_under → ReadsCheck words (told old) (told new)
reads_check told words word old new is none front names = record {
  new = λ e. ap told (none (is ∙ e));
  named = λ other.
      subst (λ (x : List ℕ). OfFile (told old) x (λ file. ReadsFront most_read x file (told old) (told new))) is
      (front (λ e. other (sym is ∙ e)));
  names = names;
}

-- a refusal is no fault of the inputs
refusal_read : (f : CheckpointFault) (refusal : CheckpointRefusal) →
    Some (stop_of_checkpoint f) ≡ Some (Refused refusal) → refused f ≢ refused check.Failed
refusal_read check.Failed refusal same e = absurd cc
refusal_read check.Form refusal same e = absurd cc
refusal_read (check.Place place until) refusal same e = absurd cc

at_refusal : (words : List (List ℕ)) (old new : Told) (refusal : CheckpointRefusal) → ReadsCheck words old new →
    ReadsRefused words old new refusal
at_refusal words old new check_refusal.Form read = read
at_refusal words old new (check_refusal.Place place until) read = read
at_refusal words old new (check_refusal.Beyond place spectra) read = tt

-- where words say no settings, or CHECK no checkpoint
pub leaves_at_words : (words : List (List ℕ)) (is_calm : Type 0) (told : Told) (seen : SinkSeen) (fault : WordFault)
    (stop : Stop) → stop ≡ stop_of_words fault → LeavesFiles words is_calm told told seen seen (Some (Run stop))
leaves_at_words words is_calm told seen fault stop is = record {
  early = λ _. inl refl;
  broken = λ same. absurd (not_words fault (sym (ap (λ s. Some (Run s)) is) ∙ same));
  refused = λ refusal same. absurd cc;
}

pub leaves_at_check : {I : Type 0} (told : I → Told) (words : List (List ℕ)) (is_calm : Type 0) (word : List ℕ)
    (old new : I) (seen : SinkSeen) (f : CheckpointFault) (stop : PartStop) →
    stop ≡ stop_of_checkpoint f → word ≡ check_word words →
    (word ≡ new_word → (new ≡ old) × (refused f ≢ refused check.Failed)) →
    (word ≢ new_word → refused f ≢ refused check.Failed →
    OfFile (told old) word (λ file. ReadsFront most_read word file (told old) (told new))) →
    (refused f ≡ refused check.Failed →
    OfFile (told old) word (λ _. BreaksOff most_read word (told old) (told new))) →
    (is_calm → IsSome (named_text (told old) word) → refused f ≢ refused check.Failed) →
    (told new).bytes_under ≡ (told old).bytes_under →
    LeavesFiles words is_calm (told old) (told new) seen seen (Some stop)
leaves_at_check told words is_calm word old new seen f stop is same none front broke serves names = record {
  early = λ e. absurd (not_memory f (sym (ap Some is) ∙ e));
  broken = λ e.
      inl (
        breaks_at_check words is_calm word (told old) (told new) f same (λ e. (none e).1) broke serves
            (sym (ap Some is) ∙ e),
        refl,
      );
  refused = λ refusal e.
      let read = refusal_read f refusal (sym (ap Some is) ∙ e) in
      at_refusal words (told old) (told new) refusal
      (reads_check told words word old new same (λ e. (none e).0) (λ other. front other read) names);
}

-- ---- from then on

to_memory : (stop : Option (StreamStop LiveRefusal)) → stop_of_stream stop ≡ Some (Run Memory) →
    stop ≡ Some (streamed.Run Memory)
to_memory (Some (streamed.Run stop)) is = cc
to_memory (Some (streamed.Refused (refusals.Plan cause))) is = absurd cc
to_memory stop is = absurd cc

module _ (s : SettingsSeen) (calm calm' : Type 0) (stays : calm → calm') (before after : Told) where
  first_stays : BreaksFirstAt s.names s.starts calm' before after → BreaksFirstAt s.names s.starts calm before after
  first_stays b = record {
    transfer = b.transfer;
    there = b.there;
    earlier = b.earlier;
    broke = b.broke;
    through = b.through;
    missing = λ c. b.missing (stays c);
    unopened = λ c. b.unopened (stays c);
  }

  fed_stays : (takes : Observation → HeaderText → Type 0)
      (leaves : Observation → HeaderText → List ℕ → Ending LiveRefusal → SinkSeen → SinkSeen → Type 0)
      (out_before out_after : SinkSeen) →
      BreaksFed live_block takes leaves (with_search tt s) calm' before after out_before out_after →
      BreaksFed live_block takes leaves (with_search tt s) calm before after out_before out_after
  fed_stays takes leaves out_before out_after b = record {
    fed = b.fed;
    read = record {
      there = b.read.there;
      passed = b.read.passed;
      cut = b.read.cut;
      stood = b.read.stood;
      past = b.read.past;
      through = b.read.through;
      missing = λ c. b.read.missing (stays c);
      shut = λ c. b.read.shut (stays c);
      unopened = λ c. b.read.unopened (stays c);
    };
  }

module _ (words : List (List ℕ)) (s : SettingsSeen) (says : SayLive words s) (from : Checkpoint)
    (calm calm' : Type 0) (stays : calm → calm') (old mid new : Told) (goes : GoesOnFrom old words from)
    (read : ReadsCheck words old mid) (every : ℕ) (every_is : every_in words ≡ every) (before after : SinkSeen)
    (stop : Option (StreamStop LiveRefusal))
    (leaves : LeavesInputs live_block (λ o header. plan_refusal o s.search ≡ None) (λ o header bytes ending start now.
    LeavesLive o (record { search = s.search; every = every; from = from }) bytes ending start now) (with_search tt s)
    calm' mid new before after stop) where
  no_data : stop_of_stream stop ≡ Some (Run Memory) → ReadsNoData words old new
  no_data is = inr (record {
    settings = s;
    says = says;
    from = from;
    accepted = goes;
    told = mid;
    read = read;
    holds = leaves.unread (to_memory stop is);
  })

  abbrev Takes : Observation → HeaderText → Type 0
  Takes o header = plan_refusal o s.search ≡ None

  abbrev Leaves : ℕ → Observation → HeaderText → List ℕ → Ending LiveRefusal → SinkSeen → SinkSeen → Type 0
  Leaves n o header bytes ending start now =
      LeavesLive o (record { search = s.search; every = n; from = from }) bytes ending start now

  abbrev Left : ℕ → Type 0
  Left n = BreaksStream live_block Takes (Leaves n) (with_search tt s) calm mid new before after

  at_fault : stop_of_stream stop ≡ Some (Run ReadFault) → LeavesAtFault words calm old new before after
  at_fault is = inr (record {
    settings = s;
    says = says;
    from = from;
    accepted = goes;
    told = mid;
    read = read;
    holds = subst Left (sym every_is) (by (leaves.broken (to_stream stop is)));
  })
    where
      by : BreaksStream live_block Takes (Leaves every) (with_search tt s) calm' mid new before after → Left every
      by (inl first) = inl (first_stays s calm calm' stays mid new first.0, first.1)
      by (inr later) = inr (fed_stays s calm calm' stays mid new Takes (Leaves every) before after later)

  at_end : (refusal : CheckpointRefusal) → (end : Option (StreamStop LiveRefusal)) →
      stop_of_stream end ≡ Some (Refused refusal) → ReadsRefused words old new refusal
  at_end refusal (Some (streamed.Refused (refusals.Beyond place spectra))) is =
      let e : refusal ≡ check_refusal.Beyond place spectra = cc in subst (ReadsRefused words old new) (sym e) tt
  at_end refusal end is = absurd cc

  pub leaves_streamed : (result : Option PartStop) → result ≡ stop_of_stream stop →
      LeavesFiles words calm old new before after result
  leaves_streamed result is = record {
    early = λ e. no_data (sym is ∙ e);
    broken = λ e. at_fault (sym is ∙ e);
    refused = λ refusal e. at_end refusal stop (sym is ∙ e);
  }

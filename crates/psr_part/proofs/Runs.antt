-- A run of the search of a part: CHECK is read, and then the search is driven.
use Rattle.std.proofs.Common.{◌≡◌, ◌≢◌, ℕ, ◌<◌, ◌≤◌, List, Option, Some, None, Result, Ok, Err, refl, sym, ap, ◌∙◌}
use Rattle.std.specs.Prelude.{IsSome, IfSome}
use Rattle.std.specs.Option.{ForSome}
use Rattle.dada_model.specs.Observation.{Observation}
use Rattle.psr_base.specs.Inputs.{HasReadFrom}
use Rattle.psr_base.specs.Told.{Told, InputsSeen, OfFile}
use Rattle.psr_base.specs.Written.{SinkSeen}
use Rattle.search_words.specs.Settings.{SettingsSeen, AllInRange}
use Rattle.stream_model.specs.Walk.{transfer_data}
use Rattle.disk_feeder.specs.declared.answers.FeedEnd.TheVariants as feed
use Rattle.disk_feeder.specs.Filling.{HoldsAll}
use Rattle.search_engine.specs.Scope.{Scope}
use Rattle.search_engine.specs.Engine.{EngineState}
use Rattle.warm_restart.specs.declared.checkpoint.Checkpoint.{Checkpoint}
use Rattle.warm_restart.specs.declared.checkpoint.CheckpointFault.{CheckpointFault}
use Rattle.warm_restart.specs.declared.checkpoint.CheckpointFault.TheVariants as check
use Rattle.warm_restart.specs.Checkpoint.{IsJudged, CanBeSaid}
use Rattle.warm_restart.specs.Counts.{greatest_count}
use Rattle.warm_restart.specs.Named.{most_read, named_text, new_word, ReadsFront}
use Rattle.search_model.specs.declared.search.Search.{Search}
use Rattle.warm_restart.specs.declared.warm.Warm.{Warm}
use Rattle.warm_restart.specs.Warm.{IsPart, IsWarmOf, SearchedPart, part_scope}
use Rattle.run_outcome.specs.declared.stop.Stop.{Stop}
use Rattle.run_outcome.specs.declared.stop.Stop.TheVariants.{Memory, ReadFault}
use Rattle.run_outcome.specs.Conversions.{stop_of_feed}
use Rattle.run_outcome.specs.Lone.{SayAlone}
use Rattle.run_outcome.specs.Runs.{first_observation}
use Rattle.run_outcome.specs.Ends.{StopsBefore, WordsSayOnce, IsRunFed}
use Rattle.run_outcome.specs.Outcomes.{AllCleared}
use Rattle.search_opening.specs.Settings.{OfRun, OfRunFirsts}
use Rattle.drive_lone.specs.declared.found.LoneFound.{LoneFound}
use Rattle.drive_lone.specs.declared.stop.LoneStop.{LoneStop}
use Rattle.drive_lone.specs.declared.stop.LoneStop.TheVariants as lone
use Rattle.drive_lone.specs.Stops.{FailsReading, StopsAlone}
use Rattle.drive_lone.specs.Found.{HasFoundAll, IsFoundAlone}
use Rattle.drive_lone.specs.EndLaws.{AloneBeforeSession, AloneAtOwnStop, AloneAtFeedStop, AloneAfterWhole}
use Rattle.psr_part.specs.declared.stop.PartStop.{PartStop}
use Rattle.psr_part.specs.declared.stop.CheckpointRefusal.{CheckpointRefusal}
use Rattle.psr_part.specs.declared.stop.PartStop.TheVariants.{Run, Refused}
use Rattle.psr_part.specs.Texts.{stop_of_checkpoint}
use Rattle.psr_part.specs.Part.{until_in, check_word, check_names, GoesOnFrom, part_search, searching}
use Rattle.psr_part.specs.Outcome.{ReadsCheck, AfterCheck}
use Rattle.psr_part.specs.Ends.{EndsFed, Ends}
use Rattle.psr_part.proofs.Moved.{needed_told, of_run, of_run_firsts, stops_before, is_run_fed, counts_through, counts_failed, counts_none, check_held}
use Rattle.psr_part.proofs.Faults.{as_result}
use Rattle.psr_part.proofs.Endings.{at_stop, at_checkpoint, after_session}

abbrev fails_so : {F : Type 0} → LoneStop F → Result LoneFound (LoneStop F)
fails_so stop = Err stop

-- a checkpoint that was read is no fault
pub never : (from : Checkpoint) → Ok from ≡ as_result check.Failed → ⊥
never from e = cc

-- an accepted checkpoint is the one that CHECK says
pub goes_on : (told : Told) (words : List (List ℕ)) (word : List ℕ) (until : ℕ) (from : Checkpoint) →
    word ≡ check_word words → until ≡ until_in words → from.place < until →
    (Ok from ≢ Err check.Failed → ForSome (named_text told word) (λ text. IsJudged text until (Ok from))) →
    GoesOnFrom told words from
goes_on told words word until from is same before judged = record {
  text = λ text named.
      (((judged (λ e. absurd cc) text (rw is named)).accepted from).0 refl).0;
  before = rw same at before;
}

-- CHECK was read
reads_check : {I : Type 0} (told : I → Told) (words : List (List ℕ)) (word : List ℕ) (old new : I) →
    word ≡ check_word words → (word ≡ new_word → new ≡ old) →
    (word ≢ new_word → OfFile (told old) word (λ file. ReadsFront most_read word file (told old) (told new))) →
    (told new).bytes_under ≡ (told old).bytes_under → ReadsCheck words (told old) (told new)
reads_check told words word old new is none front names =
    record {
      new = λ e. ap told (none (is ∙ e));
      named = λ other. rw is at (front (λ e. other (sym is ∙ e)));
      names = names;
    }

-- and accepted, which says more of what follows
pub after_check : {I : Type 0} (told : I → Told) (words : List (List ℕ)) (word : List ℕ) (from : Checkpoint)
    (old new : I) → word ≡ check_word words → GoesOnFrom (told old) words from → (word ≡ new_word → new ≡ old) →
    (word ≢ new_word → Ok from ≢ Err check.Failed →
    OfFile (told old) word (λ file. ReadsFront most_read word file (told old) (told new))) →
    (told new).bytes_under ≡ (told old).bytes_under → (P : Checkpoint → Told → Type 0) → P from (told new) →
    AfterCheck words (told old) P
after_check told words word from old new is goes none front names P holds = record {
  from = from;
  accepted = goes;
  told = told new;
  read = reads_check told words word old new is none (λ other. front other (λ e. absurd cc)) names;
  holds = holds;
}

-- the scope of a part
pub scope_is : (o : Observation) (s : Search) (scope : Scope) (p u place until : ℕ) → scope ≡ part_scope o s p u →
    p ≡ place → u ≡ until → scope ≡ part_scope o s place until
scope_is o s scope p u place until is a b =
    is ∙ rw (a, b)

-- the engine has searched the part
pub searched_part : (s : SettingsSeen) (told : Told) (found : LoneFound) (scope : Scope) (from : Checkpoint)
    (until : ℕ) → AllInRange s → s.search.fold_max < s.search.fold_min → IsPart from until →
    scope ≡ part_scope found.observation s.search from.place until → (all : HasFoundAll s told scope found) →
    SearchedPart found.observation s.search from until all.bytes found.engine
searched_part s told found scope from until range unfolded part is all = record {
  range = range.search;
  unfolded = unfolded;
  part = part;
  search = all.search_is;
  shard = all.shard_is;
  scope = all.scope_is ∙ is;
  found = rw is at all.searched;
}

-- what was searched, and that it is the part in all data of the files
pub part_found : (s : SettingsSeen) (told : Told) (found : LoneFound) (from : Checkpoint) (until p u : ℕ) →
    CanBeSaid from × (from.place < until) → until ≤ greatest_count → s.search.fold_max < s.search.fold_min →
    AllInRange s → p ≡ from.place → u ≡ until →
    IsFoundAlone (λ o x scope. scope ≡ part_scope o x p u) s told found → (count : ℕ) →
    found.feed ≡ feed.Whole count →
    (bytes : List ℕ) × OfRun told s (λ w. bytes ≡ transfer_data w 0)
    × SearchedPart found.observation s.search from until bytes found.engine
part_found s told found from until p u within bound unfolded range a b is count whole =
    let held = is.held count whole in (
      held.bytes,
      held.known,
      searched_part s told found is.scope from until range unfolded
          (record { before = within.1; until_bound = bound; pulses_bound = within.0.pulses })
          (scope_is found.observation s.search is.scope p u from.place until is.scoped a b) held,
    )

-- want of memory before the session
pub is_memory : {F : Type 0} (x : LoneStop F) (stop : Stop) → x ≡ lone.Run stop →
    Some (Run stop) ≡ Some (Run Memory) → x ≡ lone.Run Memory
is_memory x stop is same = let e : stop ≡ Memory = cc in is ∙ ap lone.Run e

-- CHECK was read where its checkpoint is refused
pub check_read : {I : Type 0} (told : I → Told) (words : List (List ℕ)) (word : List ℕ) (old new : I)
    (fault : CheckpointFault) (stop : PartStop) (refusal : CheckpointRefusal) → word ≡ check_word words →
    (word ≡ new_word → new ≡ old) →
    (word ≢ new_word → as_result fault ≢ as_result check.Failed →
    OfFile (told old) word (λ file. ReadsFront most_read word file (told old) (told new))) →
    (told new).bytes_under ≡ (told old).bytes_under → stop ≡ stop_of_checkpoint fault →
    Some stop ≡ Some (Refused refusal) → ReadsCheck words (told old) (told new)
check_read told words word old new fault stop refusal is none front names of same =
    reads_check told words word old new is none (λ other. front other (not_failed fault of)) names
  where
    not_failed : (f : CheckpointFault) → stop ≡ stop_of_checkpoint f → as_result f ≢ as_result check.Failed
    not_failed check.Failed at e = absurd cc
    not_failed other at e = absurd cc

-- an end speaks of the search that the engine was made for
pub ends_for : (fed : Option Stop) (o : Observation) (w : Warm) (s : Search) (from : Checkpoint) (until : ℕ)
    (e : EngineState) (bytes : List ℕ) (before after : SinkSeen) (stop : Option PartStop) → IsWarmOf s from until e w →
    EndsFed fed o w.search w.checkpoint w.until bytes before after stop →
    EndsFed fed o s from until bytes before after stop
ends_for fed o w s from until e bytes before after stop is ended =
    rw (is.search_is, is.checkpoint_is, is.until_is) at ended

module _ {I : Type 0} (told : I → Told) (is_calm : I → Type 0) (faults : I → ℕ) (words : List (List ℕ)) (old : I) where
  abbrev seen : I → InputsSeen
  seen new = record { told = told old; faults_before = faults old; faults_after = faults new }

  abbrev Calm : Type 0
  Calm = is_calm old × HoldsAll (told old) (check_names words)

  -- no checkpoint was read
  pub where_refused : (new : I) (s : SettingsSeen) (word : List ℕ) (until : ℕ) → word ≡ check_word words →
      until ≡ until_in words → ((from : Checkpoint) → SayAlone (part_search words from) words s) →
      (fault : CheckpointFault) →
      (as_result fault ≢ as_result check.Failed →
      ForSome (named_text (told old) word) (λ text. IsJudged text until (as_result fault))) →
      ((place limit : ℕ) → as_result fault ≡ as_result (check.Place place limit) →
      (until ≡ limit) × (until ≤ place)) →
      HasReadFrom told is_calm faults (as_result fault ≡ as_result check.Failed) old new →
      (is_calm old → IsSome (named_text (told old) word) → as_result fault ≢ as_result check.Failed) →
      AloneBeforeSession Calm → AloneAtOwnStop Calm → (stop : PartStop) → stop ≡ stop_of_checkpoint fault →
      (out : SinkSeen) → Ends words (seen new) (is_calm old) out out (Some stop) None
  where_refused new s word until is same says fault judged late read serves before own stop stopped out =
      at_checkpoint words (seen new) (is_calm old) before own s until same says fault
      (λ failed. counts_failed told is_calm faults _ old new s.names Calm read (ap as_result failed)
      (λ calm. serves calm.0 (rw is (check_held (told old) words calm.1)) (ap as_result failed)))
      (λ failed calm held. serves calm (rw is (check_held (told old) words held)) (ap as_result failed))
      (λ not. counts_none told is_calm faults _ old new s.names Calm read (λ e. not (inner fault check.Failed e)))
      (λ not. rw is at (judged (λ e. not (inner fault check.Failed e))))
      (λ place limit e. late place limit (ap as_result e)) stop stopped out
    where
      inner : (a b : CheckpointFault) → as_result a ≡ as_result b → a ≡ b
      inner a b e = cc

  -- one was, without a fault
  module _ (mid new : I) (First : Type 0) (s : SettingsSeen) (from : Checkpoint)
      (goes : GoesOnFrom (told old) words from) (says : SayAlone (part_search words from) words s)
      (first : HasReadFrom told is_calm faults First old mid) (not : First → ⊥) where
    -- and the search was stopped before its session
    pub where_stopped : (stop : Stop) → HasReadFrom told is_calm faults (stop ≡ ReadFault) mid new →
        (is_calm mid → HoldsAll (told mid) s.names → stop ≡ ReadFault → ⊥) →
        StopsBefore (searching words from) words (told mid) stop → AloneBeforeSession Calm → (out : SinkSeen) →
        Ends words (seen new) (is_calm old) out out (Some (Run stop)) None
    where_stopped stop more serves stops law out =
        at_stop words (seen new) (is_calm old) from None stop out out
        (law 13 (part_search words from) words s (seen new) stop says
        (stops_before (part_search words from) words (told old) (told mid) first.names stop stops)
        (counts_through told is_calm faults First (stop ≡ ReadFault) old mid new s.names (check_names words) first not
        more serves)) (λ later. goes) (λ calm check six. goes) refl

    pub where_lone : {F : Type 0} (accepts : Observation → Type 0) (refuses : Observation → F → Type 0)
        (x : LoneStop F) (stop : Stop) → x ≡ lone.Run stop →
        HasReadFrom told is_calm faults (FailsReading (fails_so x)) mid new →
        (is_calm mid → HoldsAll (told mid) s.names → FailsReading (fails_so x) → ⊥) →
        StopsAlone accepts refuses (part_search words from) words (told mid) x → AloneBeforeSession Calm →
        (out : SinkSeen) → Ends words (seen new) (is_calm old) out out (Some (Run stop)) None
    where_lone accepts refuses x stop is more serves stops law out =
        where_stopped stop (rw is at more) (rw is at serves) (rw is at stops).0 law out

    -- or its session went through
    pub where_driven : (found : LoneFound) → HasReadFrom told is_calm faults (found.feed ≡ feed.ReadFault) mid new →
        (is_calm mid → HoldsAll (told mid) s.names → found.feed ≡ feed.ReadFault → ⊥) →
        IsRunFed (searching words from) words (told mid) found.blocks found.feed → AllCleared found.blocks 0 1 →
        OfRunFirsts (told mid) s (λ w. first_observation w 0 ≡ found.observation) → WordsSayOnce →
        AloneAtFeedStop Calm → AloneAfterWhole Calm → (before after : SinkSeen) (stop : Option PartStop) →
        IfSome (stop_of_feed found.feed) (λ fed. (stop ≡ Some (Run fed)) × (after ≡ before)) →
        (until : ℕ) → until ≡ until_in words →
        ((count : ℕ) → found.feed ≡ feed.Whole count → (bytes : List ℕ)
        × OfRun (told mid) s (λ w. bytes ≡ transfer_data w 0)
        × EndsFed (stop_of_feed found.feed) found.observation s.search from until bytes before after stop) →
        Ends words (seen new) (is_calm old) before after stop (Some found.blocks)
    where_driven found more serves fed cleared observed once stops wholes before after stop stopped until same ended =
        after_session words (seen new) (is_calm old) from once s found.blocks found.feed (record {
          says = says;
          fed = is_run_fed (part_search words from) words (told old) (told mid) first.names found.blocks found.feed fed;
          read = counts_through told is_calm faults First (found.feed ≡ feed.ReadFault) old mid new s.names
              (check_names words) first not more serves;
          cleared = cleared;
        }) goes stops wholes before after stop stopped (λ count is. let e = ended count is in record {
          observation = found.observation;
          bytes = e.0;
          known = λ files are. (
            sym (of_run_firsts s (told old) (told mid) (λ w. first_observation w 0 ≡ found.observation) first.names
                observed files (needed_told (told old) s.names files are)),
            of_run s (told old) (told mid) (λ w. e.0 ≡ transfer_data w 0) first.names e.1 files are,
          );
          ended = rw same at e.2;
        }) (stop_of_feed found.feed) refl

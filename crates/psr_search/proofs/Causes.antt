-- From what stands against a search to its status, by the laws of how a run ends.
use Rattle.std.proofs.Common.{◌≡◌, ◌<◌, ◌⊎◌, ℕ, zero, suc, List, inl, inr, sym, refl, Some, arith}
use Rattle.std.specs.Prelude.{Option}
use Rattle.psr_base.specs.Count.{Rose}
use Rattle.psr_base.specs.Told.{Told}
use Rattle.ring_ends.specs.declared.finished.Finished.{Finished}
use Rattle.search_words.specs.Settings.{SettingsSeen, SaySearch}
use Rattle.stream_model.specs.Walk as walk
use Rattle.stream_model.specs.Walk.{FileStream, WalkStop, walk_stop}
use Rattle.disk_feeder.specs.Plan.{AreTold, AreToldAt}
use Rattle.disk_feeder.specs.Reading.{StopsAtFile}
use Rattle.disk_feeder.specs.declared.answers.HeaderCause.{HeaderCause}
use Rattle.disk_feeder.specs.declared.answers.HeaderCause.TheVariants.{Text, Fields}
use Rattle.run_outcome.specs.declared.causes.PlanCause.{PlanCause}
use Rattle.run_outcome.specs.declared.causes.RecordingCause.{RecordingCause}
use Rattle.run_outcome.specs.declared.stop.Stop.{Stop}
use Rattle.run_outcome.specs.declared.stop.Stop.TheVariants.{Header, Plan, Recording}
use Rattle.run_outcome.specs.Texts.{status_of}
use Rattle.run_outcome.specs.Runs.{Task, Searching, stream_for, stop_of_walk, RefusesFirstHeader, RefusesSearch, RefusesToRecord, StopsWalk, HasCandidates}
use Rattle.run_outcome.specs.Ends.{ForRuns, EndsSo, AcceptedGoesOn, TextsAreAnswered, FirstsAreAnswered, StopsAreAnswered}
use Rattle.psr_search.specs.Outcome.{Outcome, SearchSeen, IsSearched}
use Rattle.psr_search.specs.Causes.{Answers, CausesAreAnswered, ToldRoomIsEnough}
use Rattle.psr_search.proofs.Accepted.{left}

-- it is the status of this stop, or there was no memory
answers : (n : ℕ) (stop : Stop) → EndsSo stop n → Answers n (status_of stop)
answers n stop (zero, below, is) = inl (sym is)
answers n stop (suc zero, below, is) = inr (sym is)
answers n stop (suc (suc k), below, is) = absurd (omega (arith, below))

-- a walk that stops does so at some file
stops_at : (limit : ℕ) (at : WalkStop) (stop : Stop) → stop_of_walk limit at ≡ Some stop →
    (file : ℕ) × StopsAtFile at file
stops_at limit walk.Whole stop is = absurd cc
stops_at limit (walk.BadText file refusal) stop is = (file, refl)
stops_at limit (walk.BadFields file fault) stop is = (file, refl)
stops_at limit (walk.Gap file expected found) stop is = (file, refl)
stops_at limit (walk.TooLong file) stop is = (file, refl)

module _ (words : List (List ℕ)) (is_calm : Type 0) (seen : SearchSeen)
    (o : Outcome words seen.inputs is_calm seen.files_before seen.files_after seen.out_before seen.out_after
    seen.notes_before seen.notes_after seen.ran)
    (s : SettingsSeen) (files : List (List ℕ)) (says : SaySearch words s)
    (are : AreTold seen.inputs.told s.names files)
    (calm : is_calm ⊎ (¬ Rose seen.inputs.faults_before seen.inputs.faults_after)) where
  abbrev w : FileStream
  w = stream_for s files

  abbrev n : ℕ
  n = seen.ran.status

  not_six : (is_calm ⊎ (¬ Rose seen.inputs.faults_before seen.inputs.faults_after)) → n ≡ 6 → ⊥
  not_six (inl is) e = o.read.serves is s says (λ k below. rw (are.each k below) refl) e
  not_six (inr still) e = still (o.read.failed e)

  -- those files that a law needs are told, as all are
  needed : {Needed : ℕ → Type 0} → AreToldAt Needed seen.inputs.told s.names files
  needed = record { count = are.count; each = λ k there is. are.each k there }

  -- a law of runs, of this one
  of_run : (Q : Task → List (List ℕ) → Told → Option Finished → ℕ → Type 0) → ForRuns is_calm Q →
      Q Searching words seen.inputs.told seen.ran.blocks n
  of_run Q law = law Searching words seen.inputs seen.inputs.told seen.ran.blocks n o.judged o.read o.stopped o.sealed
      (λ six. absurd (not_six calm six)) calm

  header : TextsAreAnswered is_calm → FirstsAreAnswered is_calm → (file : ℕ) (cause : HeaderCause) →
      RefusesFirstHeader w file cause → Answers n 3
  header texts firsts file (Text fault) refuses =
      answers n (Header file (Text fault)) (of_run _ texts s files file fault says needed refuses)
  header texts firsts file (Fields fault) refuses =
      answers n (Header file (Fields fault))
      (of_run _ firsts s files (Header file (Fields fault)) says needed refuses)

  plan : FirstsAreAnswered is_calm → (cause : PlanCause) → RefusesSearch s.search w cause → Answers n 4
  plan firsts cause refuses =
      answers n (Plan cause) (of_run _ firsts s files (Plan cause) says needed (refl, refuses))

  recording : FirstsAreAnswered is_calm → (cause : RecordingCause) → RefusesToRecord Searching s w cause → Answers n 4
  recording firsts cause refuses =
      answers n (Recording cause) (of_run _ firsts s files (Recording cause) says needed refuses)

  walk_stops : StopsAreAnswered is_calm → (stop : Stop) → StopsWalk Searching s w stop → Answers n (status_of stop)
  walk_stops stops stop at =
      let there = stops_at w.max_bytes (walk_stop w) stop at.stops in
      answers n stop
      (of_run _ stops s files there.0 stop says needed (inr (needed, at.begins)) at.stops there.1)

  too_many : AcceptedGoesOn is_calm → HasCandidates s w (λ total. s.search.max_candidates < total) → Answers n 9
  too_many goes_on many = left (λ k. n ≡ k → Answers n 9) n o.known
      (goes_on Searching words seen.inputs seen.ran.blocks n o.judged o.read o.stopped s files says are many.begins
      many.whole calm)
      (λ e. crowded (o.written.text e s files says are).0) (λ e. inr e) (λ e. inl e)
      (λ e. crowded (o.written.front e s files says are).0) (λ e. crowded (o.written.text_too e s files says are).0)
      refl
    where
      crowded : IsSearched s w → Answers n 9
      crowded searched = let least = many.total in let most = searched.total in absurd (omega (arith, least, most))

pub causes_are_answered : (is_calm : Type 0) → TextsAreAnswered is_calm → FirstsAreAnswered is_calm →
    StopsAreAnswered is_calm → AcceptedGoesOn is_calm → CausesAreAnswered is_calm
causes_are_answered is_calm texts firsts stops goes_on words seen o s files says are calm = record {
  header = header words is_calm seen o s files says are calm texts firsts;
  plan = plan words is_calm seen o s files says are calm firsts;
  recording = recording words is_calm seen o s files says are calm firsts;
  walk = walk_stops words is_calm seen o s files says are calm stops;
  too_many = too_many words is_calm seen o s files says are calm goes_on;
}

-- ---- what has room

pub told_room_is_enough : (is_calm : Type 0) → ToldRoomIsEnough is_calm
told_room_is_enough is_calm words seen o s files says are =
    record {
      output = λ room told enough e.
          let wrote = (o.written.front e s files says are).1 in
          let short = wrote.short room told in
          omega (arith, short, enough);
      recording = λ outset begins enough e. ((o.recorded.front e s files says are).made outset begins).short enough;
    }

-- What the exit status says where a run stops before its session.
use Rattle.std.proofs.Common.{◌≢◌, ◌⊎◌, ℕ, List, [], ◌∷◌, refl, inl, inr, None, Contains, lit<, arith, ◌∙◌, sym}
use Rattle.psr_base.specs.Told.{Told}
use Rattle.psr_base.specs.Made.{FilesSeen}
use Rattle.ring_ends.specs.declared.finished.Finished.{Finished}
use Rattle.std.specs.Prelude.{Option}
use Rattle.disk_feeder.specs.declared.answers.HeaderCause.{HeaderCause}
use Rattle.run_outcome.specs.declared.causes.PlanCause.{PlanCause}
use Rattle.run_outcome.specs.declared.causes.RecordingCause.{RecordingCause}
use Rattle.run_outcome.specs.declared.stop.Stop.{Stop}
use Rattle.run_outcome.specs.declared.stop.Stop.TheVariants.{Header, Plan, Recording, Memory, ReadFault}
use Rattle.run_outcome.specs.Texts.{status_of}
use Rattle.run_outcome.specs.Runs.{Task, Searching, RecordingAlone, Alone, RefusesSearches, RefusesRecordings, SaysOfFiles}
use Rattle.run_outcome.specs.Outcomes.{StopsAtFiles, SealsStream, RecordsFiles}
use Rattle.run_outcome.specs.Ends.{StopsBefore, EndsAt, WordsSayOnce}
use Rattle.run_outcome.proofs.Statuses.{OneOf, one_of, among}

abbrev early : List ℕ
early = 2 ∷ 3 ∷ 4 ∷ 5 ∷ 6 ∷ []

abbrev plain : List ℕ
plain = 2 ∷ 5 ∷ 6 ∷ []

module _ (task : Task) (words : List (List ℕ)) (told : Told) where
  -- a status at which no file stops the run
  pub none_stopped : (blocks : Option Finished) (n : ℕ) → n ≢ 3 → n ≢ 4 → n ≢ 7 → n ≢ 8 →
      StopsAtFiles task words told blocks n
  none_stopped blocks n three four seven eight = record {
    first_header = λ e. absurd (three e);
    later_header = λ e. absurd (three e);
    plan = λ e. absurd (four e);
    gap = λ e. absurd (seven e);
    too_long = λ e. absurd (eight e);
  }

  -- no block was sealed
  none_sealed : (n : ℕ) → Contains early n → SealsStream task words told None n
  none_sealed n known = record {
    none = λ e. known;
    some = λ some. absurd cc;
    begun = λ some. absurd cc;
    passed = λ some. absurd cc;
    sealed = λ b e. absurd cc;
    broken = λ b e. absurd cc;
  }

  -- nothing was recorded
  none_recorded : (n : ℕ) → n ≢ 0 → n ≢ 11 → (seen : FilesSeen) →
      RecordsFiles task words told None None seen seen n
  none_recorded n zeroth last seen = record {
    before_session = λ e. (refl, refl);
    unrecorded = λ s says off. (refl, last, refl);
    ended = λ some. absurd cc;
    shown = λ end e. absurd cc;
    all = λ e. absurd (zeroth e);
    whole = λ count e. absurd cc;
    front = λ e. absurd (last e);
    stream = λ b e. absurd cc;
    failed = λ e. absurd (last e);
    rose = λ e. absurd cc;
    quiet = λ e. refl;
    count = omega arith;
  }

  ends_early : (n : ℕ) → Contains early n → StopsAtFiles task words told None n →
      (seen : FilesSeen) → EndsAt task words told None None seen seen n
  ends_early n known stopped seen = record {
    stopped = stopped;
    sealed = none_sealed n known;
    recorded = none_recorded n (λ e. omega (arith, one_of early n known, e))
        (λ e. omega (arith, one_of early n known, e)) seen;
  }

  -- the first header of a transfer is refused
  header_stopped : (file : ℕ) (cause : HeaderCause) →
      StopsBefore task words told (Header file cause) → StopsAtFiles task words told None 3
  header_stopped file cause b = record {
    first_header = λ e f. (file, cause, b.says);
    later_header = λ e some. absurd cc;
    plan = λ e. absurd (omega (arith, e));
    gap = λ e. absurd (omega (arith, e));
    too_long = λ e. absurd (omega (arith, e));
  }

  -- a search or a recording is
  plan_stopped : ((cause : PlanCause) × RefusesSearches task words told cause)
      ⊎ ((cause : RecordingCause) × RefusesRecordings task words told cause) → StopsAtFiles task words told None 4
  plan_stopped says = record {
    first_header = λ e. absurd (omega (arith, e));
    later_header = λ e. absurd (omega (arith, e));
    plan = λ e. says;
    gap = λ e. absurd (omega (arith, e));
    too_long = λ e. absurd (omega (arith, e));
  }

  -- a status that says nothing of the files
  pub ends_plainly : (n : ℕ) → Contains plain n → (seen : FilesSeen) → EndsAt task words told None None seen seen n
  ends_plainly n known =
      let other : OneOf plain n = one_of plain n known in
      ends_early n (among plain early n known refl) (none_stopped None n (λ e. omega (arith, other, e))
      (λ e. omega (arith, other, e)) (λ e. omega (arith, other, e)) (λ e. omega (arith, other, e)))

  pub at_status : (stop : Stop) → StopsBefore task words told stop → (seen : FilesSeen) →
      EndsAt task words told None None seen seen (status_of stop)
  at_status (Header file cause) b = ends_early 3 (1, lit< tt, refl) (header_stopped file cause b)
  at_status (Plan cause) b = ends_early 4 (2, lit< tt, refl) (plan_stopped (inl (cause, b.says)))
  at_status (Recording cause) b = ends_early 4 (2, lit< tt, refl) (plan_stopped (inr (cause, b.says)))
  at_status Memory b = ends_plainly 5 (1, lit< tt, refl)
  at_status ReadFault b = ends_plainly 6 (2, lit< tt, refl)
  at_status stop b = absurd b.kind

  pub says_of : (stop : Stop) → StopsBefore task words told stop → SaysOfFiles task words told stop
  says_of (Header file cause) b = inl b.says
  says_of (Plan cause) b = b.says
  says_of (Recording cause) b = b.says
  says_of Memory b = tt
  says_of ReadFault b = tt
  says_of stop b = absurd b.kind

pub say_once : WordsSayOnce
say_once Searching words s t a b = a.values ∙ sym b.values
say_once RecordingAlone words s t a b = a.values ∙ sym b.values
say_once (Alone lone) words s t a b = a.search.says.values ∙ sym b.search.says.values

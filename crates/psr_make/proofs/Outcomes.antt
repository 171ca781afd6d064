-- The outcomes, one for each way in which a run ends.
use Rattle.std.proofs.Common.{◌≡◌, ℕ, inl, inr, List, Result, Ok, Err, refl, arith, ap, subst, lit<}
use Rattle.psr_base.specs.Made.{FilesSeen}
use Rattle.psr_base.specs.Written.{SinkSeen, Wrote, Noted}
use Rattle.psr_make.specs.Stop.{status_of, note_of}
use Rattle.psr_make.specs.Outcome.{ForAsked, Outcome, EndsAtWords, EndsMaking, EndsBy}
use Rattle.psr_make.specs.declared.stop.Stop.{Stop}
use Rattle.psr_make.specs.declared.stop.Stop.TheVariants.{Words, Value, Memory, RecordFault}

pub noted : {T E : Type 0} (bytes line : List ℕ) (old new : SinkSeen) (r : Result T E) → bytes ≡ line →
    Wrote bytes old new r → Noted line old new
noted bytes line old new (Ok x) same wrote = subst (λ (t : List ℕ). Noted t old new) same (inl wrote.all)
noted bytes line old new (Err e) same wrote = subst (λ (t : List ℕ). Noted t old new) same (inr wrote.front)

module _ (words : List (List ℕ)) (old new : FilesSeen) (notes_old notes_new : SinkSeen) where
  -- a stop at which the words are refused
  refused : (stop : Stop) → status_of stop ≡ 2 → EndsAtWords words old new stop → ForAsked words (λ s name. ⊥)
      → Noted (note_of stop) notes_old notes_new → Outcome words old new notes_old notes_new 2
  refused stop two ends none line = record {
    known = (1, lit< tt, refl);
    made = λ e. absurd (omega arith);
    asked = λ e f. absurd (e refl);
    words_refused = λ e. none;
    record_fault = λ e. absurd (omega arith);
    front = λ e. absurd (omega arith);
    files_quiet = λ e. ap (λ (seen : FilesSeen). seen.faults) ends.untouched;
    untouched = λ e f. ends.untouched;
    silent = λ e. absurd (omega arith);
    noted = λ e. record { stop = stop; answered = (cc); cause = ends.cause; line = line };
  }

  no_memory : EndsAtWords words old new Memory → Noted (note_of Memory) notes_old notes_new
      → Outcome words old new notes_old notes_new 5
  no_memory ends line = record {
    known = (2, lit< tt, refl);
    made = λ e. absurd (omega arith);
    asked = λ e f. absurd (f refl);
    words_refused = λ e. absurd (omega arith);
    record_fault = λ e. absurd (omega arith);
    front = λ e. absurd (omega arith);
    files_quiet = λ e. ap (λ (seen : FilesSeen). seen.faults) ends.untouched;
    untouched = λ e f. ends.untouched;
    silent = λ e. absurd (omega arith);
    noted = λ e. record { stop = Memory; answered = refl; cause = ends.cause; line = line };
  }

  stopped : EndsMaking words old new → Noted (note_of RecordFault) notes_old notes_new
      → Outcome words old new notes_old notes_new 11
  stopped ends line = record {
    known = (3, lit< tt, refl);
    made = λ e. absurd (omega arith);
    asked = λ e f. ends.asked;
    words_refused = λ e. absurd (omega arith);
    record_fault = λ e. ends.rose;
    front = λ e. ends.stopped;
    files_quiet = λ e. absurd (e refl);
    untouched = λ e f. absurd (f refl);
    silent = λ e. absurd (omega arith);
    noted = λ e. record { stop = RecordFault; answered = refl; cause = tt; line = line };
  }

  pub stop_outcome : (stop : Stop) → EndsBy words old new stop → Noted (note_of stop) notes_old notes_new
      → Outcome words old new notes_old notes_new (status_of stop)
  stop_outcome Words ends line = refused Words refl ends (λ s name asks. ends.cause name asks.read) line
  stop_outcome (Value opt) ends line =
      let first = ends.cause.2 in
      refused (Value opt) refl ends (λ s name asks. let none = asks.in_range in absurd cc) line
  stop_outcome Memory ends line = no_memory ends line
  stop_outcome RecordFault ends line = stopped ends line

-- How a search of beams ends at its words, and what the notes took.
use Rattle.std.proofs.Common.{◌≡◌, ◌≢◌, ◌≤◌, ℕ, List, refl, sym, ap, subst, inl, Some, None, arith}
use Rattle.std.specs.Prelude.{Option, IfSome}
use Rattle.psr_base.specs.Told.{Told, nothing_told, InputsSeen}
use Rattle.psr_base.specs.Made.{FilesSeen}
use Rattle.psr_base.specs.Written.{SinkSeen, Noted}
use Rattle.search_words.specs.declared.fault.WordFault.{WordFault}
use Rattle.search_words.specs.declared.fault.WordFault.TheVariants as fault
use Rattle.run_outcome.specs.declared.stop.Stop.{Stop}
use Rattle.run_outcome.specs.declared.stop.Stop.TheVariants.{Words, Value, Memory}
use Rattle.run_outcome.specs.Conversions.{stop_of_words}
use Rattle.run_outcome.specs.Texts.{status_of, note_of}
use Rattle.run_outcome.specs.Runs.{Explains}
use Rattle.run_outcome.specs.Ends.{end_status, EndAtWords}
use Rattle.psr_beams.specs.Words.{searching_beams}
use Rattle.psr_beams.specs.Seen.{told_in, told_at}
use Rattle.psr_beams.specs.Files.{ForSettings}
use Rattle.psr_beams.specs.Stops.{SaysOfBeams}
use Rattle.psr_beams.specs.Outcome.{Outcome, NotesBeams}
use Rattle.psr_beams.specs.Ends.{Ends, IsSaid, Leaves}
use Rattle.psr_beams.proofs.Counting.{stood, AllRead}
use Rattle.psr_beams.proofs.Builders.{no_stop, ends_at, reads_quietly}

-- ---- at the words

no_files : FilesSeen
no_files = record { made = None; left = None; faults = 0 }

abbrev no_inputs : InputsSeen
no_inputs = record { told = nothing_told; faults_before = 0; faults_after = 0 }

module _ {I : Type 0} (told : I → Told) (is_calm : I → Type 0) (faults : I → ℕ) (words : List (List ℕ))
    (lent : List I) (calm : Type 0) (law : EndAtWords calm) (out : SinkSeen) where
  none_read : AllRead told is_calm faults (λ k. ⊥) lent lent
  none_read = record { lent = refl; each = λ k x. stood told is_calm faults ⊥ _ _ (λ e. e) refl }

  abbrev LeftAt : Stop → Type 0
  LeftAt stop = Leaves told is_calm faults words lent lent out out (Some stop)

  -- by the law of runs, whose inputs are not read
  ends_by : (f : WordFault) → Explains searching_beams words f → (stop : Stop) → stop ≡ stop_of_words f →
      status_of stop ≤ 9 → status_of stop ≢ 6 → status_of stop ≢ 8 → ForSettings words (λ s. SaysOfBeams
      (told_at told lent) s stop) → LeftAt stop
  ends_by f why stop is most six eight says =
      let e = law searching_beams words no_inputs no_files f stop why is refl in
      record {
        ends = ends_at words _ _ out out stop most refl e.run.judged
            (reads_quietly words none_read (status_of stop) six eight (λ k x. x)) e.said.0 says;
        early = λ x k. inl refl;
        order = λ x. absurd (six (ap end_status x));
      }

  pub at_words : (f : WordFault) (stop : Stop) → Explains searching_beams words f → stop ≡ stop_of_words f →
      LeftAt stop
  at_words f stop why is = subst LeftAt (sym is) (by_fault f why)
    where
      by_fault : (g : WordFault) → Explains searching_beams words g → LeftAt (stop_of_words g)
      by_fault fault.Refused w = ends_by fault.Refused w Words refl (omega arith) (λ e. omega (arith, e))
          (λ e. omega (arith, e)) (λ s says. tt)
      by_fault (fault.OutOfRange opt) w = ends_by (fault.OutOfRange opt) w (Value opt) refl (omega arith)
          (λ e. omega (arith, e)) (λ e. omega (arith, e)) (λ s says. tt)
      by_fault fault.Memory w = ends_by fault.Memory w Memory refl (omega arith) (λ e. omega (arith, e))
          (λ e. omega (arith, e)) (λ s says. tt)

-- ---- the notes

module _ (words : List (List ℕ)) (inputs : ℕ → InputsSeen) (is_calm : ℕ → Type 0)
    (out out' notes notes' : SinkSeen) where
  pub outcome : (stop : Option Stop) (status : ℕ) → Ends words inputs is_calm out out' stop →
      status ≡ end_status stop → (stop ≡ None → notes' ≡ notes) → IfSome stop (λ x. Noted (note_of x) notes notes') →
      Outcome words inputs is_calm out out' notes notes' status
  outcome stop status e is silent line = subst (λ n. Outcome words inputs is_calm out out' notes notes' n) (sym is)
      (record {
        known = e.known;
        written = e.written;
        judged = e.judged;
        read = e.read;
        stopped = e.stopped;
        noted = record {
          silent = still stop silent;
          noted = notes_of stop e.said line;
        };
      })
    where
      still : (x : Option Stop) → (x ≡ None → notes' ≡ notes) → end_status x ≡ 0 → notes' ≡ notes
      still None quiet zeroth = quiet refl
      still (Some x) quiet zeroth = absurd (no_stop x zeroth)

      notes_of : (x : Option Stop) → IsSaid words (told_in inputs) x → IfSome x (λ y. Noted (note_of y) notes notes') →
          end_status x ≢ 0 → NotesBeams words (told_in inputs) notes notes' (end_status x)
      notes_of None said noted some = absurd (some refl)
      notes_of (Some x) said noted some = record {
        stop = x;
        answered = refl;
        words_cause = said.0;
        cause = said.1;
        line = noted;
      }

-- From what stands against a search of beams to its status: nothing else stands against it.
use Rattle.std.proofs.Common.{◌≡◌, ◌+◌, ◌<◌, ◌≤◌, ◌⊎◌, ℕ, zero, suc, List, length, inl, inr, sym, ap, subst, ◌∙◌, refl, arith}
use Rattle.std.specs.Prelude.{IsSome}
use Rattle.std.proofs.lemmas.Bool.{cases_lt}
use Rattle.psr_base.specs.Count.{Rose}
use Rattle.search_words.specs.Settings.{SettingsSeen}
use Rattle.psr_base.specs.Written.{Noted}
use Rattle.dada_header.specs.declared.faults.HeaderFault.{HeaderFault}
use Rattle.disk_feeder.specs.declared.answers.HeaderCause.TheVariants.{Text, Fields}
use Rattle.run_outcome.specs.declared.stop.Stop.{Stop}
use Rattle.run_outcome.specs.declared.stop.Stop.TheVariants.{Words, Value, Header, Plan, Recording, Memory, ReadFault, Gap, TooLong, TooMany, SinkFault, FileFault}
use Rattle.run_outcome.specs.Texts.{status_of, note_of}
use Rattle.psr_beams.specs.Words.{SayBeams}
use Rattle.psr_beams.specs.Seen.{told_in}
use Rattle.psr_beams.specs.Files.{AreBeamsTold}
use Rattle.psr_beams.specs.EachBeam.{HaveHeadersAt, AreOfOneAt}
use Rattle.psr_beams.specs.Found.{AreSearched}
use Rattle.psr_beams.specs.Stops.{SaysOfBeams, IsStopOfBeams}
use Rattle.psr_beams.specs.Outcome.{Outcome, BeamsSeen, NoneFails, FailsBeam, AcceptedIsSearched}
use Rattle.psr_beams.specs.Causes.{Answers, CausesAreAnswered, ToldRoomIsEnough, HasNoHeaderAt, IsAnsweredAt, ShortBeamsAreAnswered}
use Rattle.psr_beams.proofs.Driving.{beams_within}
use Rattle.psr_beams.proofs.Refused.{has_header, one_refusal, of_files, one_status, not_searched}
use Rattle.psr_beams.proofs.Together.{stop_of_files}

module _ (is_calm : ℕ → Type 0) (words : List (List ℕ)) (seen : BeamsSeen)
    (o : Outcome words seen.inputs is_calm seen.out_before seen.out_after seen.notes_before seen.notes_after
    seen.status)
    (s : SettingsSeen) (files : List (List ℕ)) (says : SayBeams words s)
    (are : AreBeamsTold (told_in seen.inputs) s.names files) (quiet : NoneFails is_calm seen.inputs s) where
  abbrev n : ℕ
  n = seen.status

  -- the inputs of a beam that fails hold its file
  not_six : n ≡ 6 → ⊥
  not_six e =
      let f = o.read.failed e in
      let there = f.there s says in
      by_cause f there (quiet f.beam there)
    where
      by_cause : (f : FailsBeam words seen.inputs is_calm) → f.beam < length s.names →
          is_calm f.beam ⊎ (¬ Rose (seen.inputs f.beam).faults_before (seen.inputs f.beam).faults_after) → ⊥
      by_cause f there (inl calm) = f.uncalm calm s says (subst IsSome (sym (are.each f.beam there)) refl)
      by_cause f there (inr still) = still f.rose

  searched_at : (n ≡ 0) ⊎ (n ≡ 10) → AreSearched s files
  searched_at (inl e) = (o.written.text e s files says are).0
  searched_at (inr e) = (o.written.front e s files says are).0

  -- Q holds of the status of a search at its words, its inputs and its memory, of one that wrote its text or a front of
  -- it, and of one that stopped at its files
  by_end : (Q : Type 0) → (n ≡ 5 → Q) → ((n ≡ 0) ⊎ (n ≡ 10) → Q) →
      ((stop : Stop) → of_files stop ≡ 1 → n ≡ status_of stop → IsStopOfBeams s files stop → Q) → Q
  by_end Q memory written found = elim (cases_lt 0 n) [
    | inl some ↦
        let note = o.noted.noted (λ e. omega (arith, some, e)) in
        by_stop note.stop note.answered (note.cause s says)
    | inr none ↦ written (inl (omega (arith, none)))
  ]
    where
      least : 0 < length s.names
      least = let many = (beams_within words s says).0 in omega (arith, many)

      by_stop : (stop : Stop) → n ≡ status_of stop → SaysOfBeams (told_in seen.inputs) s stop → Q
      by_stop Words e is = absurd (o.judged.refused e s says)
      by_stop (Value opt) e is = absurd (o.judged.refused e s says)
      by_stop Memory e is = memory e
      by_stop ReadFault e is = absurd (not_six e)
      by_stop SinkFault e is = written (inr e)
      by_stop (Recording cause) e is = absurd is
      by_stop FileFault e is = absurd is
      by_stop stop e is = found stop refl e (stop_of_files (told_in seen.inputs) s files are least stop is)

  answers : (stop : Stop) → of_files stop ≡ 1 → IsStopOfBeams s files stop → Answers n (status_of stop)
  answers stop known is = by_end (Answers n (status_of stop)) (λ e. inr e)
      (λ e. absurd (not_searched files s stop known is (searched_at e)))
      (λ other found e there. inl (e ∙ one_status files s other stop found known there is))

pub causes_are_answered : (is_calm : ℕ → Type 0) → CausesAreAnswered is_calm
causes_are_answered is_calm words seen o s files says are quiet =
    let at = answers is_calm words seen o s files says are quiet in
    record {
      header = λ beam cause is. at (Header beam cause) refl is;
      offset = λ beam expected found is. at (Gap beam expected found) refl is;
      plan = λ cause is. at (Plan cause) refl is;
      too_long = λ limit is. at (TooLong limit) refl is;
      too_many = λ count limit is. at (TooMany count limit) refl is;
    }

pub accepted_is_searched : (is_calm : ℕ → Type 0) → AcceptedIsSearched is_calm
accepted_is_searched is_calm words seen o s files says are all quiet still =
    by_end is_calm words seen o s files says are quiet ((seen.status ≡ 0) ⊎ (seen.status ≡ 5)) (λ e. inr e) written
    (λ stop found e there. absurd (not_searched files s stop found there all))
  where
    written : (seen.status ≡ 0) ⊎ (seen.status ≡ 10) → (seen.status ≡ 0) ⊎ (seen.status ≡ 5)
    written (inl e) = inl e
    written (inr e) = absurd (still (o.written.failed e))

-- the room that was told was enough
pub told_room : (is_calm : ℕ → Type 0) → ToldRoomIsEnough is_calm
told_room is_calm words seen o s files says are room told enough e =
    let wrote = (o.written.front e s files says are).1 in
    let short = wrote.short room told in
    omega (arith, short, enough)

-- ---- a file without a header, whatever is told of the files after it

module _ (is_calm : ℕ → Type 0) (words : List (List ℕ)) (seen : BeamsSeen)
    (o : Outcome words seen.inputs is_calm seen.out_before seen.out_after seen.notes_before seen.notes_after
    seen.status)
    (s : SettingsSeen) (says : SayBeams words s) (beam : ℕ) (fault : HeaderFault)
    (r : HasNoHeaderAt is_calm seen.inputs s beam fault) where
  abbrev m : ℕ
  m = seen.status

  -- it is no beam that has a header
  refused : HaveHeadersAt (told_in seen.inputs) s (beam + 1) → ⊥
  refused all =
      let h = all beam (omega arith) (r.file_of beam) (r.told beam (omega arith)) in
      has_header (r.file_of beam) h.0 fault h.1 r.refused

  all_refused : HaveHeadersAt (told_in seen.inputs) s (length s.names) → ⊥
  all_refused all = refused (λ k less. let there = r.there in all k (omega (arith, less, there)))

  one_refused : (p : _) → AreOfOneAt (told_in seen.inputs) s (length s.names) p → ⊥
  one_refused p one = all_refused (headers_of_one p one)
    where
      headers_of_one : (p : _) → AreOfOneAt (told_in seen.inputs) s (length s.names) p →
          HaveHeadersAt (told_in seen.inputs) s (length s.names)
      headers_of_one p one zero below file at =
          let a = (one.first file at).accepted in (a.header, a.is_header)
      headers_of_one p one (suc k) below file at =
          let a = one.later (suc k) (omega arith) below file at in (a.header, a.has)

  not_failed : m ≡ 6 → ⊥
  not_failed e =
      let f = o.read.failed e in
      elim (cases_lt beam f.beam) [
        | inl less ↦ refused (λ k within. f.texts s says k (omega (arith, less, within)))
        | inr over ↦ by_cause f over (r.serves f.beam over)
      ]
    where
      by_cause : (f : FailsBeam words seen.inputs is_calm) → f.beam ≤ beam →
          is_calm f.beam ⊎ (¬ Rose (seen.inputs f.beam).faults_before (seen.inputs f.beam).faults_after) → ⊥
      by_cause f over (inl calm) = f.uncalm calm s says (subst IsSome (sym (r.told f.beam over)) refl)
      by_cause f over (inr still) = still f.rose

  searched_none : (m ≡ 0) ⊎ (m ≡ 10) → ⊥
  searched_none e = let all = o.stopped.searched e s says in one_refused all.begins.observation all.begins.accepted

  -- its stop is this one, or there was no memory
  names : (stop : Stop) → m ≡ status_of stop → SaysOfBeams (told_in seen.inputs) s stop →
      (stop ≡ Header beam (Text fault)) ⊎ (m ≡ 5)
  names Words e is = absurd (o.judged.refused e s says)
  names (Value opt) e is = absurd (o.judged.refused e s says)
  names Memory e is = inr e
  names ReadFault e is = absurd (not_failed e)
  names (Header k (Text other)) e is = inl (elim (cases_lt beam k) [
    | inl less ↦ absurd (refused (λ j within. is.earlier j (omega (arith, less, within))))
    | inr over ↦ elim (cases_lt k beam) [
      | inl less ↦
          let h = r.earlier k less in
          absurd (has_header (r.file_of k) h.0 other h.1 (is.refused (r.file_of k) (r.told k over)))
      | inr under ↦
          let same : k ≡ beam = omega (arith, over, under) in
          let fault_is : other ≡ fault = one_refusal (r.file_of k) other fault
          (is.refused (r.file_of k) (r.told k over)) (rw same r.refused) in
          rw (same, fault_is) refl
    ]
  ])
  names (Header k (Fields other)) e (inl is) = absurd (all_refused is.1.texts)
  names (Header k (Fields other)) e (inr is) = absurd (all_refused is.texts)
  names (Gap k expected found) e is = absurd (all_refused is.texts)
  names (Plan cause) e is = absurd (one_refused is.observation is.accepted)
  names (TooLong limit) e is = absurd (one_refused is.begins.observation is.begins.accepted)
  names (TooMany count limit) e is = absurd (one_refused is.begins.observation is.begins.accepted)
  names SinkFault e is = absurd (searched_none (inr e))
  names stop e is = absurd is

  short_answered : IsAnsweredAt seen (Header beam (Text fault))
  short_answered = elim (cases_lt 0 m) [
    | inl some ↦
        let note = o.noted.noted (λ e. omega (arith, some, e)) in
        by_name note.stop note.answered note.line (names note.stop note.answered (note.cause s says))
    | inr none ↦ absurd (searched_none (inl (omega (arith, none))))
  ]
    where
      by_name : (stop : Stop) → m ≡ status_of stop → Noted (note_of stop) seen.notes_before seen.notes_after →
          (stop ≡ Header beam (Text fault)) ⊎ (m ≡ 5) → IsAnsweredAt seen (Header beam (Text fault))
      by_name stop status line (inl is) = record {
        status = inl (status ∙ ap status_of is);
        line = λ e. rw is at line;
      }
      by_name stop status line (inr five) =
          record { status = inr five; line = λ e. absurd (omega (arith, five, e)) }

pub short_beams : (is_calm : ℕ → Type 0) → ShortBeamsAreAnswered is_calm
short_beams is_calm words seen o s says beam fault r = short_answered is_calm words seen o s says beam fault r

-- Where the bytes of all files are told, what is said of each is said of all.
use Rattle.std.proofs.Common.{◌≡◌, ℕ, ◌<◌, ◌≤◌, List, length, sym, ap, subst, ◌∙◌, inl, inr, Some, None, arith}
use Rattle.psr_base.specs.Told.{Told}
use Rattle.dada_header.specs.declared.faults.HeaderFault.{HeaderFault}
use Rattle.dada_header.specs.Faults.{IsHeaderRefusal}
use Rattle.dada_model.specs.Observation.{Observation}
use Rattle.obs_plan.specs.declared.fault.ObsFault.{ObsFault}
use Rattle.search_model.specs.Observed.{candidates_of}
use Rattle.search_model.specs.Plan.{plan_refusal}
use Rattle.search_words.specs.Settings.{SettingsSeen}
use Rattle.disk_feeder.specs.declared.answers.HeaderCause.TheVariants.{Text, Fields}
use Rattle.run_outcome.specs.declared.causes.PlanCause.{PlanCause}
use Rattle.run_outcome.specs.declared.stop.Stop.{Stop}
use Rattle.run_outcome.specs.declared.stop.Stop.TheVariants.{Header, Plan, Recording, Gap, TooLong, TooMany, FileFault}
use Rattle.run_outcome.specs.Firsts.{HasHeader, RefusesFields}
use Rattle.run_outcome.specs.Runs.{IsPlanCause}
use Rattle.psr_beams.specs.Files.{AreBeamsTold, OfBeam, beam_file, beam_data, beams_observation}
use Rattle.psr_beams.specs.Refusals.{HaveHeaders, StopsByHeader, StopsLater, RefusesText, RefusesFirst, RefusesLater, AreAccepted, CanSearch, RefusesSearch}
use Rattle.psr_beams.specs.Found.{StopsBeam, AreWhole, HasTooMany, AreSearched}
use Rattle.psr_beams.specs.EachBeam.{HaveHeadersAt, RefusesTextAt, RefusesFirstAt, SaysObservation, AreOfOneAt, RefusesLaterAt, CanSearchAt, RefusesSearchAt, IsWholeFile, AreWholeAt, IsTooLongFile, StopsBeamAt, count_of, HasTooManyAt, AreSearchedAt}
use Rattle.psr_beams.specs.Stops.{SaysOfBeams, IsStopOfBeams}

module _ (told : ℕ → Told) (s : SettingsSeen) (files : List (List ℕ)) (are : AreBeamsTold told s.names files)
    (some : 0 < length s.names) where
  of : (P : List ℕ → Type 0) (k : ℕ) → k < length s.names → OfBeam told s k P → P (beam_file files k)
  of P k below holds = holds (beam_file files k) (are.each k below)

  inside : (k : ℕ) → k < length files → k < length s.names
  inside k below = let count = are.count in omega (arith, below, count)

  -- ---- headers

  headers : (count : ℕ) → count ≤ length s.names → HaveHeadersAt told s count → HaveHeaders files count
  headers count few have k less = of HasHeader k (omega (arith, less, few)) (have k less)

  all_headers : HaveHeadersAt told s (length s.names) → HaveHeaders files (length files)
  all_headers have k below = of HasHeader k (inside k below) (have k (inside k below))

  text : (beam : ℕ) (fault : HeaderFault) → RefusesTextAt told s beam fault → RefusesText files beam fault
  text beam fault r =
      let there = r.there in let count = are.count in
      record {
        there = omega (arith, there, count);
        cause = of (λ file. IsHeaderRefusal file fault) beam r.there r.refused;
        earlier = headers beam (omega (arith, there)) r.earlier;
      }

  first : (fault : ObsFault) → RefusesFirstAt told s fault → RefusesFirst files fault
  first fault r =
      let fields = of (λ file. RefusesFields file fault) 0 some r.refused in
      record { texts = all_headers r.texts; header = fields.header; has = fields.has; cause = fields.cause }

  says : (count : ℕ) (o : Observation) → AreOfOneAt told s count o → SaysObservation o (beam_file files 0)
  says count o a = of (SaysObservation o) 0 some a.first

  stops : (o : Observation) (k : ℕ) → k < length s.names → beams_observation files ≡ o → (stop : _) →
      OfBeam told s k (StopsByHeader o k stop) → StopsLater files k stop
  stops o k below is stop holds = subst (λ p. StopsByHeader p k stop (beam_file files k)) (sym is)
      (of (StopsByHeader o k stop) k below holds)

  later : (beam : ℕ) (stop : Stop) → RefusesLaterAt told s beam stop → RefusesLater files stop
  later beam stop r =
      let said = says beam r.observation r.earlier in
      let there = r.there in let count = are.count in
      record {
        texts = all_headers r.texts;
        first = said.accepted;
        beam = beam;
        later = r.later (beam_file files 0) (are.each 0 some);
        there = omega (arith, there, count);
        refused = stops r.observation beam r.there said.is (Some stop) r.refused;
        earlier = λ k pos less.
            stops r.observation k (omega (arith, less, there)) said.is None (r.earlier.later k pos less);
      }

  -- ---- the search

  accepted : (o : Observation) → AreOfOneAt told s (length s.names) o → AreAccepted files
  accepted o a =
      let said = says (length s.names) o a in
      record {
        first = said.accepted;
        later = λ k pos less. stops o k (inside k less) said.is None (a.later k pos (inside k less));
      }

  can_search : CanSearchAt told s → CanSearch s files
  can_search c =
      let said = says (length s.names) c.observation c.accepted in
      record {
        accepted = accepted c.observation c.accepted;
        fits = ap (λ p. plan_refusal p s.search) said.is ∙ c.fits;
      }

  plan : (cause : PlanCause) → RefusesSearchAt told s cause → RefusesSearch s files cause
  plan cause r =
      let said = says (length s.names) r.observation r.accepted in
      record {
        accepted = accepted r.observation r.accepted;
        refused = subst (λ p. IsPlanCause (plan_refusal p s.search) cause) (sym said.is) r.refused;
      }

  -- ---- data

  too_long : (limit : ℕ) → StopsBeamAt told s limit → StopsBeam s files (TooLong limit)
  too_long limit r =
      let there = r.there in let count = are.count in
      record {
        begins = can_search r.begins;
        beam = r.beam;
        there = omega (arith, there, count);
        stops = of (IsTooLongFile s limit) r.beam r.there r.long;
        earlier = λ k less. of (IsWholeFile s) k (omega (arith, less, there)) (r.earlier k less);
      }

  whole : CanSearchAt told s → AreWholeAt told s (length s.names) → AreWhole s files
  whole begins all = record {
    begins = can_search begins;
    whole = λ k below. of (IsWholeFile s) k (inside k below) (all k (inside k below));
  }

  -- ---- candidates

  observed : (c : CanSearchAt told s) → beams_observation files ≡ c.observation
  observed c = (says (length s.names) c.observation c.accepted).is

  counted : (o : Observation) (k : ℕ) → beams_observation files ≡ o →
      length (candidates_of (beams_observation files) s.search (beam_data files k)) ≡ count_of o s (beam_file files k)
  counted o k is = ap (λ p. length (candidates_of p s.search (beam_data files k))) is

  too_many : (count limit : ℕ) → HasTooManyAt told s count limit → HasTooMany s files count limit
  too_many count limit r =
      let there = r.there in let all = are.count in
      let is = observed r.begins in
      let o = r.begins.observation in
      record {
        read = whole r.begins r.whole;
        beam = r.beam;
        there = omega (arith, there, all);
        counted = counted o r.beam is ∙ of (λ file. count_of o s file ≡ count) r.beam r.there r.counted;
        limit_is = r.limit_is;
        many = r.many;
        earlier = λ k less. subst (λ m. m ≤ s.search.max_candidates) (sym (counted o k is))
            (of (λ file. count_of o s file ≤ s.search.max_candidates) k (omega (arith, less, there))
            (r.earlier k less));
      }

  pub searched : AreSearchedAt told s → AreSearched s files
  searched r =
      let is = observed r.begins in
      let o = r.begins.observation in
      record {
        read = whole r.begins r.whole;
        few = λ k below. subst (λ m. m ≤ s.search.max_candidates) (sym (counted o k is))
            (of (λ file. count_of o s file ≤ s.search.max_candidates) k (inside k below) (r.few k (inside k below)));
      }

  -- ---- a stop

  pub stop_of_files : (stop : Stop) → SaysOfBeams told s stop → IsStopOfBeams s files stop
  stop_of_files (Header beam (Text fault)) r = text beam fault r
  stop_of_files (Header beam (Fields fault)) (inl (zeroth, r)) = inl (zeroth, first fault r)
  stop_of_files (Header beam (Fields fault)) (inr r) = inr (later beam (Header beam (Fields fault)) r)
  stop_of_files (Gap beam expected found) r = later beam (Gap beam expected found) r
  stop_of_files (Plan cause) r = plan cause r
  stop_of_files (TooLong limit) r = too_long limit r
  stop_of_files (TooMany count limit) r = too_many count limit r
  stop_of_files (Recording cause) r = r
  stop_of_files FileFault r = r
  stop_of_files stop r = tt

-- What is accepted of the files of beams is not refused, and what is refused first is refused once.
use Rattle.std.proofs.Common.{◌≡◌, ◌<◌, ◌≤◌, ℕ, zero, suc, List, length, inl, inr, refl, sym, ap, subst, ◌∙◌, Option, Some, None, Ok, arith}
use Rattle.std.proofs.lemmas.Bool.{cases_lt}
use Rattle.dada_header.specs.declared.faults.HeaderFault.{HeaderFault}
use Rattle.dada_header.specs.declared.faults.HeaderFault.TheVariants as header
use Rattle.dada_header.specs.Faults.{IsHeaderRefusal}
use Rattle.dada_model.specs.Fields.{HeaderText, Field, header_of, fields_of}
use Rattle.dada_model.specs.Observation.{Observation, observation_of}
use Rattle.obs_plan.specs.declared.fault.ObsFault.{ObsFault}
use Rattle.obs_plan.specs.declared.fault.ObsFault.TheVariants as obs
use Rattle.obs_plan.specs.Faults.{IsRefusedFirst}
use Rattle.search_model.specs.Plan.{PlanRefusal}
use Rattle.search_words.specs.Settings.{SettingsSeen}
use Rattle.stream_model.specs.Walk as walk
use Rattle.stream_model.specs.Walk.{WalkStop, walk_stop}
use Rattle.stream_model.specs.WalkLaws.{IsAccepted}
use Rattle.disk_feeder.specs.declared.answers.HeaderCause.{HeaderCause}
use Rattle.disk_feeder.specs.declared.answers.HeaderCause.TheVariants.{Text, Fields}
use Rattle.run_outcome.specs.declared.causes.PlanCause.{PlanCause}
use Rattle.run_outcome.specs.declared.causes.PlanCause.TheVariants.{SumBound}
use Rattle.run_outcome.specs.declared.stop.Stop.{Stop}
use Rattle.run_outcome.specs.declared.stop.Stop.TheVariants.{Header, Plan, Gap, TooLong, TooMany, SinkFault}
use Rattle.run_outcome.specs.Texts.{status_of}
use Rattle.run_outcome.specs.Runs.{IsPlanCause, stop_of_walk}
use Rattle.psr_beams.specs.Files.{beam_file, beam_stream, beams_observation}
use Rattle.psr_beams.specs.Refusals.{later_stop, HaveHeaders, RefusesText, RefusesFirst, StopsLater, RefusesLater, AreAccepted, CanSearch, RefusesSearch}
use Rattle.psr_beams.specs.Found.{StopsBeam, AreWhole, HasTooMany, AreSearched}
use Rattle.psr_beams.specs.Stops.{IsStopOfBeams}

-- bytes that have a header are not refused
pub has_header : (file : List ℕ) (h : HeaderText) (fault : HeaderFault) → header_of file ≡ Ok h →
    IsHeaderRefusal file fault → ⊥
has_header file h header.Memory ok refused = refused
has_header file h fault ok refused = cc

-- and are refused by one cause
pub one_refusal : (file : List ℕ) (a b : HeaderFault) → IsHeaderRefusal file a → IsHeaderRefusal file b → a ≡ b
one_refusal file header.Memory b x y = absurd x
one_refusal file a header.Memory x y = absurd y
one_refusal file (header.Short m) (header.Short n) x y = let same : m ≡ n = cc in ap (λ k. header.Short k) same
one_refusal file (header.NotText m) (header.NotText n) x y =
    let same : m ≡ n = cc in ap (λ k. header.NotText k) same
one_refusal file header.BadSize header.BadSize x y = refl
one_refusal file a b x y = absurd cc

-- nor fields that have an observation
has_observation : (fields : List Field) (o : Observation) (fault : ObsFault) → observation_of fields ≡ Ok o →
    IsRefusedFirst fields fault → ⊥
has_observation fields o (obs.Differs key) ok refused = refused
has_observation fields o obs.Memory ok refused = refused
has_observation fields o fault ok refused = cc

pub one_header : (a b : HeaderText) (file : List ℕ) → header_of file ≡ Ok a → header_of file ≡ Ok b → a ≡ b
one_header a b file x y = cc

-- a search that is not refused has no cause
no_plan_cause : (first : Option PlanRefusal) (cause : PlanCause) → first ≡ None → IsPlanCause first cause → ⊥
no_plan_cause first (SumBound max_sample cells factor) none is = cc
no_plan_cause first cause none is = cc

-- a whole walk stops nowhere
no_stop : (limit : ℕ) (at : WalkStop) (stop : Stop) → at ≡ walk.Whole → stop_of_walk limit at ≡ Some stop → ⊥
no_stop limit at stop whole stops = let none : stop_of_walk limit at ≡ None = ap (stop_of_walk limit) whole in cc

-- 1 where a stop is found in files, and 0 elsewhere
abbrev pub of_files : Stop → ℕ
of_files (Header beam cause) = 1
of_files (Plan cause) = 1
of_files (Gap beam expected found) = 1
of_files (TooLong limit) = 1
of_files (TooMany count limit) = 1
of_files _ = 0

module _ (files : List (List ℕ)) where
  -- ---- a later header has one stop

  later_once : (beam : ℕ) (a b : Option Stop) → StopsLater files beam a → StopsLater files beam b → a ≡ b
  later_once beam a b x y =
      let same = one_header x.header y.header (beam_file files beam) x.has y.has in
      sym x.stops ∙ (ap (later_stop beam (beams_observation files)) same ∙ y.stops)

  some_once : (beam : ℕ) (stop : Stop) → StopsLater files beam None → StopsLater files beam (Some stop) → ⊥
  some_once beam stop x y = let same : None ≡ Some stop = later_once beam None (Some stop) x y in cc

  both_once : (beam : ℕ) (a b : Stop) → StopsLater files beam (Some a) → StopsLater files beam (Some b) → a ≡ b
  both_once beam a b x y = let same : Some a ≡ Some b = later_once beam (Some a) (Some b) x y in cc

  -- the first that is refused is refused so
  refused_once : (a b : Stop) → RefusesLater files a → RefusesLater files b → a ≡ b
  refused_once a b x y = elim (cases_lt x.beam y.beam) [
    | inl below ↦ absurd (some_once x.beam a (y.earlier x.beam x.later below) x.refused)
    | inr above ↦ elim (cases_lt y.beam x.beam) [
      | inl below ↦ absurd (some_once y.beam b (x.earlier y.beam y.later below) y.refused)
      | inr equal ↦
          let same : x.beam ≡ y.beam = omega (arith, above, equal) in
          both_once y.beam a b (subst (λ k. StopsLater files k (Some a)) same x.refused) y.refused
    ]
  ]

  -- ---- what is accepted

  have : AreAccepted files → HaveHeaders files (length files)
  have a zero below = (a.first.header, a.first.is_header)
  have a (suc k) below =
      let at = a.later (suc k) (omega arith) below in
      (at.header, at.has)

  no_text : (beam : ℕ) (fault : HeaderFault) → HaveHeaders files (length files) → RefusesText files beam fault → ⊥
  no_text beam fault all r =
      let h = all beam r.there in
      has_header (beam_file files beam) h.0 fault h.1 r.cause

  no_first : (fault : ObsFault) → IsAccepted (beam_file files 0) → RefusesFirst files fault → ⊥
  no_first fault a r =
      let same = one_header a.header r.header (beam_file files 0) a.is_header r.has in
      has_observation (fields_of r.header.text) a.observation fault
      (rw same at a.is_observation) r.cause

  no_later : (stop : Stop) → AreAccepted files → RefusesLater files stop → ⊥
  no_later stop a r = some_once r.beam stop (a.later r.beam r.later r.there) r.refused

  -- no header is refused where all are accepted
  no_header : (s : SettingsSeen) (beam : ℕ) (cause : HeaderCause) → AreAccepted files →
      IsStopOfBeams s files (Header beam cause) → ⊥
  no_header s beam (Text fault) a is = no_text beam fault (have a) is
  no_header s beam (Fields fault) a (inl is) = no_first fault a.first is.1
  no_header s beam (Fields fault) a (inr is) = no_later (Header beam (Fields fault)) a is

  -- nor where another OBS_OFFSET is
  no_header_at_gap : (s : SettingsSeen) (beam : ℕ) (cause : HeaderCause) (at expected found : ℕ) →
      RefusesLater files (Gap at expected found) → IsStopOfBeams s files (Header beam cause) → ⊥
  no_header_at_gap s beam (Text fault) at expected found r is = no_text beam fault r.texts is
  no_header_at_gap s beam (Fields fault) at expected found r (inl is) = no_first fault r.first is.1
  no_header_at_gap s beam (Fields fault) at expected found r (inr is) =
      let same : Header beam (Fields fault) ≡ Gap at expected found = refused_once _ _ is r in cc

  module _ (s : SettingsSeen) where
    no_plan : (cause : PlanCause) → CanSearch s files → RefusesSearch s files cause → ⊥
    no_plan cause can r = no_plan_cause _ cause can.fits r.refused

    no_beam : (stop : Stop) → AreWhole s files → StopsBeam s files stop → ⊥
    no_beam stop all r =
        no_stop s.max_bytes (walk_stop (beam_stream s files r.beam)) stop (all.whole r.beam r.there) r.stops

    no_many : (count limit : ℕ) → AreSearched s files → HasTooMany s files count limit → ⊥
    no_many count limit all r =
        let few = all.few r.beam r.there in let same = r.counted in let most = r.limit_is in let many = r.many in
        omega (arith, few, same, most, many)

    -- ---- one stop at most is found

    at_most : (stop : Stop) → of_files stop ≡ 1 → status_of stop ≤ 9
    at_most SinkFault t = omega (arith, t)
    at_most stop t = omega (arith, t)

    excluded : (a b : Stop) → of_files a ≡ 1 → of_files b ≡ 1 → status_of a < status_of b → IsStopOfBeams s files a →
        IsStopOfBeams s files b → ⊥
    excluded (Header k c) (Plan p) t u less x y = no_header s k c y.accepted x
    excluded (Header k c) (Gap j m n) t u less x y = no_header_at_gap s k c j m n y x
    excluded (Header k c) (TooLong l) t u less x y = no_header s k c y.begins.accepted x
    excluded (Header k c) (TooMany m l) t u less x y = no_header s k c y.read.begins.accepted x
    excluded (Plan p) (Gap j m n) t u less x y = no_later (Gap j m n) x.accepted y
    excluded (Plan p) (TooLong l) t u less x y = no_plan p y.begins x
    excluded (Plan p) (TooMany m l) t u less x y = no_plan p y.read.begins x
    excluded (Gap j m n) (TooLong l) t u less x y = no_later (Gap j m n) y.begins.accepted x
    excluded (Gap j m n) (TooMany k l) t u less x y = no_later (Gap j m n) y.read.begins.accepted x
    excluded (TooLong m) (TooMany k l) t u less x y = no_beam (TooLong m) y.read x
    excluded (TooMany m l) b t u less x y = let most = at_most b u in omega (arith, most, less)
    excluded a b t u less x y = omega (arith, t, u, less)

    pub one_status : (a b : Stop) → of_files a ≡ 1 → of_files b ≡ 1 → IsStopOfBeams s files a →
        IsStopOfBeams s files b → status_of a ≡ status_of b
    one_status a b t u x y = elim (cases_lt (status_of a) (status_of b)) [
      | inl less ↦ absurd (excluded a b t u less x y)
      | inr above ↦ elim (cases_lt (status_of b) (status_of a)) [
        | inl less ↦ absurd (excluded b a u t less y x)
        | inr equal ↦ omega (arith, above, equal)
      ]
    ]

    -- and none where all are searched
    pub not_searched : (stop : Stop) → of_files stop ≡ 1 → IsStopOfBeams s files stop → AreSearched s files → ⊥
    not_searched (Header k c) t x all = no_header s k c all.read.begins.accepted x
    not_searched (Plan p) t x all = no_plan p all.read.begins x
    not_searched (Gap j m n) t x all = no_later (Gap j m n) all.read.begins.accepted x
    not_searched (TooLong l) t x all = no_beam (TooLong l) all.read x
    not_searched (TooMany m l) t x all = no_many m l all x
    not_searched stop t x all = omega (arith, t)

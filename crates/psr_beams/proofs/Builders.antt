-- Parts of how a search of beams ends.
use Rattle.std.proofs.Common.{◌⊎◌, ◌≡◌, ◌≢◌, ℕ, ◌<◌, ◌≤◌, List, [], ◌∷◌, length, get_or, refl, ap, subst, inl, inr, Some, lit<, Contains, arith}
use Rattle.psr_base.specs.Told.{Told, InputsSeen, OfFile, nothing_told}
use Rattle.psr_base.specs.Written.{SinkSeen}
use Rattle.search_words.specs.Settings.{SettingsSeen}
use Rattle.disk_feeder.specs.declared.answers.HeaderCause.{HeaderCause}
use Rattle.run_outcome.specs.declared.causes.PlanCause.{PlanCause}
use Rattle.run_outcome.specs.declared.stop.Stop.{Stop}
use Rattle.run_outcome.specs.declared.stop.Stop.TheVariants.{Words, Value, Header, Plan, Recording, Memory, ReadFault, Gap, TooLong, TooMany}
use Rattle.run_outcome.specs.Texts.{status_of}
use Rattle.run_outcome.specs.Runs.{IsStopOfWords}
use Rattle.run_outcome.specs.Outcomes.{JudgesWords}
use Rattle.run_outcome.specs.Ends.{WordsSayOnce, end_status}
use Rattle.psr_beams.specs.Words.{searching_beams, SayBeams}
use Rattle.psr_beams.specs.Seen.{told_in, told_at, calm_at, seen_at}
use Rattle.psr_beams.specs.Files.{AreBeamsTold, ForSettings, ForBeams, OfBeam, beam_name}
use Rattle.psr_beams.specs.EachBeam.{HaveHeadersAt, RefusesLaterAt, RefusesSearchAt, StopsBeamAt, HasTooManyAt, AreSearchedAt}
use Rattle.psr_beams.specs.Stops.{SaysOfBeams}
use Rattle.psr_beams.specs.Outcome.{HoldsName, ReadsNoData, ReadsHeadersTo, ReadsDataTo, IsTooLong, ReadsBeams, StopsAtBeams}
use Rattle.psr_beams.specs.Ends.{Ends, Leaves}
use Rattle.psr_beams.proofs.Counting.{element, seen_there, AllRead, counts, still, rises}

abbrev pub statuses : List ℕ
statuses = 0 ∷ 2 ∷ 3 ∷ 4 ∷ 5 ∷ 6 ∷ 7 ∷ 8 ∷ 9 ∷ 10 ∷ []

-- a stop before the output has one of these
known_at : (stop : Stop) → status_of stop ≤ 9 → Contains statuses (status_of stop)
known_at Words most = (1, lit< tt, refl)
known_at (Value opt) most = (1, lit< tt, refl)
known_at (Header beam cause) most = (2, lit< tt, refl)
known_at (Plan cause) most = (3, lit< tt, refl)
known_at (Recording cause) most = (3, lit< tt, refl)
known_at Memory most = (4, lit< tt, refl)
known_at ReadFault most = (5, lit< tt, refl)
known_at (Gap beam expected found) most = (6, lit< tt, refl)
known_at (TooLong limit) most = (7, lit< tt, refl)
known_at (TooMany count limit) most = (8, lit< tt, refl)
known_at stop most = absurd (omega (arith, most))

pub no_stop : (stop : Stop) → status_of stop ≢ 0
no_stop Words e = omega (arith, e)
no_stop stop e = omega (arith, e)

-- ---- what a stop says of the files, by its status

module _ (words : List (List ℕ)) (told : ℕ → Told) where
  abbrev Says : Stop → Type 0
  Says stop = ForSettings words (λ s. SaysOfBeams told s stop)

  header_at : (stop : Stop) → Says stop → status_of stop ≡ 3 →
      ForSettings words (λ s. (beam : ℕ) × (cause : HeaderCause) × SaysOfBeams told s (Header beam cause))
  header_at (Header beam cause) is e = λ s says. (beam, cause, is s says)
  header_at stop is e = absurd (omega (arith, e))

  plan_at : (stop : Stop) → Says stop → status_of stop ≡ 4 →
      ForSettings words (λ s. (cause : PlanCause) × RefusesSearchAt told s cause)
  plan_at (Plan cause) is e = λ s says. (cause, is s says)
  plan_at (Recording cause) is e = λ s says. absurd (is s says)
  plan_at stop is e = absurd (omega (arith, e))

  offset_at : (stop : Stop) → Says stop → status_of stop ≡ 7 → ForSettings words (λ s. (beam : ℕ) × (expected : ℕ)
      × (found : ℕ) × RefusesLaterAt told s beam (Gap beam expected found))
  offset_at (Gap beam expected found) is e = λ s says. (beam, expected, found, is s says)
  offset_at stop is e = absurd (omega (arith, e))

  too_long_at : (stop : Stop) → Says stop → status_of stop ≡ 8 → ForSettings words (λ s. StopsBeamAt told s s.max_bytes)
  too_long_at (TooLong limit) is e = λ s says.
      let at = is s says in subst (λ n. StopsBeamAt told s n) at.limit_is at
  too_long_at stop is e = absurd (omega (arith, e))

  too_many_at : (stop : Stop) → Says stop → status_of stop ≡ 9 →
      ForSettings words (λ s. (count : ℕ) × (limit : ℕ) × HasTooManyAt told s count limit)
  too_many_at (TooMany count limit) is e = λ s says. (count, limit, is s says)
  too_many_at stop is e = absurd (omega (arith, e))

  -- the text is written, or its front
  pub searched_at : (n : ℕ) → n ≢ 3 → n ≢ 4 → n ≢ 7 → n ≢ 8 → n ≢ 9 → ForSettings words (λ s. AreSearchedAt told s) →
      StopsAtBeams words told n
  searched_at n three four seven eight nine are = record {
    header = λ e. absurd (three e);
    plan = λ e. absurd (four e);
    offset = λ e. absurd (seven e);
    too_long = λ e. absurd (eight e);
    too_many = λ e. absurd (nine e);
    searched = λ e. are;
  }

  -- ---- a search that stops before its text

  unwritten : (stop : Stop) → status_of stop ≤ 9 → (status_of stop ≡ 0) ⊎ (status_of stop ≡ 10) → ⊥
  unwritten stop most (inl e) = no_stop stop e
  unwritten stop most (inr e) = omega (arith, most, e)

pub ends_at : (words : List (List ℕ)) (inputs : ℕ → InputsSeen) (is_calm : ℕ → Type 0) (out after : SinkSeen)
    (stop : Stop) → status_of stop ≤ 9 → after ≡ out → JudgesWords searching_beams words (status_of stop) →
    ReadsBeams words inputs is_calm (status_of stop) → IsStopOfWords searching_beams words stop →
    Says words (told_in inputs) stop → Ends words inputs is_calm out after (Some stop)
ends_at words inputs is_calm out after stop most same judged read cause is =
    let told = told_in inputs in
    record {
      known = known_at stop most;
      written = record {
        text = λ e. absurd (unwritten words told stop most (inl e));
        front = λ e. absurd (unwritten words told stop most (inr e));
        failed = λ e. absurd (unwritten words told stop most (inr e));
        quiet = λ e. ap (λ (s : SinkSeen). s.faults) same;
        untouched = λ e f. same;
      };
      judged = judged;
      read = read;
      stopped = record {
        header = header_at words told stop is;
        plan = plan_at words told stop is;
        offset = offset_at words told stop is;
        too_long = too_long_at words told stop is;
        too_many = too_many_at words told stop is;
        searched = λ e. absurd (unwritten words told stop most e);
      };
      said = (cause, is);
    }

-- no call of the inputs failed
pub reads_quietly : {I : Type 0} {told : I → Told} {is_calm : I → Type 0} {faults : I → ℕ} {failed : ℕ → Type 0}
    {before after : List I} (words : List (List ℕ)) → AllRead told is_calm faults failed before after → (n : ℕ) →
    n ≢ 6 → n ≢ 8 → ((k : ℕ) → ¬ failed k) → ReadsBeams words (seen_at told faults before after)
    (calm_at is_calm before) n
reads_quietly words all n six eight none = record {
  failed = λ e. absurd (six e);
  quiet = λ e f k. still all k (none k);
  lowest = λ e. absurd (eight e);
  count = counts all;
}

-- ---- words that say settings, over inputs of which there are enough

pub record Over {I : Type 0} (told : I → Told) (is_calm : I → Type 0) (faults : I → ℕ) (words : List (List ℕ))
    (s : SettingsSeen) (before : List I) : Type 0 where
  pub once : WordsSayOnce
  pub says : SayBeams words s
  pub some : 0 < length s.names
  pub enough : length s.names ≤ length before

module _ {I : Type 0} {told : I → Told} {is_calm : I → Type 0} {faults : I → ℕ} {words : List (List ℕ)}
    {s : SettingsSeen} {before : List I} (run : Over told is_calm faults words s before) where
  pub for_said : (P : SettingsSeen → Type 0) → P s → ForSettings words P
  for_said P holds t says = subst P (run.once searching_beams words s t run.says says) holds

  pub for_settings : (P : SettingsSeen → List (List ℕ) → Type 0) →
      ((files : List (List ℕ)) → AreBeamsTold (told_at told before) s.names files → P s files) →
      ForBeams words (told_at told before) P
  for_settings P holds t files says are =
      for_said (λ u. (fs : List (List ℕ)) → AreBeamsTold (told_at told before) u.names fs → P u fs) holds t says files
      are

  pub inside : (k : ℕ) → k < length s.names → k < length before
  inside k below = let enough = run.enough in omega (arith, below, enough)

  pub one_there : (k : ℕ) → k < length s.names → I
  one_there k below = element before k (inside k below)

  -- what is told of the file of a beam is told by the inputs at its place
  pub told_there : (k : ℕ) (x : I) → k < length s.names → (file : List ℕ) →
      (told_at told before k).bytes_under (beam_name s k) ≡ Some file →
      (told (get_or before k x)).bytes_under (beam_name s k) ≡ Some file
  told_there k x below file is = rw (seen_there told nothing_told before k x (inside k below)) at is

  -- and what holds of it there holds of it
  pub of_beam : (k : ℕ) → k < length s.names → (P : List ℕ → Type 0) →
      ((x : I) → OfFile (told (get_or before k x)) (beam_name s k) P) → OfBeam (told_at told before) s k P
  of_beam k below P holds file at =
      let x = one_there k below in
      holds x file (told_there k x below file at)

  pub judged_said : (n : ℕ) → n ≢ 2 → JudgesWords searching_beams words n
  judged_said n not = record { refused = λ e. absurd (not e); said = λ a b. (s, run.says) }

  module _ {after : List I} {failed : ℕ → Type 0} (all : AllRead told is_calm faults failed before after)
      {out out' : SinkSeen} (same : out' ≡ out) where
    abbrev Left : Stop → Type 0
    Left stop = Leaves told is_calm faults words before after out out' (Some stop)

    abbrev seen : ℕ → InputsSeen
    seen = seen_at told faults before after

    not_words : (stop : Stop) → 3 ≤ status_of stop → IsStopOfWords searching_beams words stop
    not_words Words least = absurd (omega (arith, least))
    not_words (Value opt) least = absurd (omega (arith, least))
    not_words stop least = tt

    ended : (stop : Stop) → 3 ≤ status_of stop → status_of stop ≤ 9 →
        ReadsBeams words seen (calm_at is_calm before) (status_of stop) → SaysOfBeams (told_at told before) s stop →
        Ends words seen (calm_at is_calm before) out out' (Some stop)
    ended stop least most read is = ends_at words _ _ out out' stop most same
        (judged_said (status_of stop) (λ e. omega (arith, least, e))) read (not_words stop least)
        (for_said (λ t. SaysOfBeams (told_at told before) t stop) is)

    -- it stops at a header, its plan or its candidates
    pub at_files : (stop : Stop) → 3 ≤ status_of stop → status_of stop ≤ 9 → status_of stop ≢ 5 → status_of stop ≢ 6 →
        status_of stop ≢ 8 → ((k : ℕ) → ¬ failed k) → SaysOfBeams (told_at told before) s stop → Left stop
    at_files stop least most five six eight none is = record {
      ends = ended stop least most (reads_quietly words all (status_of stop) six eight none) is;
      early = λ e. absurd (five (ap end_status e));
      order = λ e. absurd (six (ap end_status e));
    }

    -- there was no memory
    pub at_memory : ((k : ℕ) → ¬ failed k) → ReadsNoData words (told_at told before) (told_at told after) → Left Memory
    at_memory none read = record {
      ends = ended Memory (omega arith) (omega arith)
          (reads_quietly words all 5 (λ e. omega (arith, e)) (λ e. omega (arith, e)) none) tt;
      early = λ e. read;
      order = λ e. absurd cc;
    }

    -- a beam has too many data
    pub at_long : IsTooLong s seen → Left (TooLong s.max_bytes)
    at_long long = record {
      ends = ended (TooLong s.max_bytes) (omega arith) (omega arith) (record {
        failed = λ e. absurd (omega (arith, e));
        quiet = λ e f. absurd (f refl);
        lowest = λ e. for_said (λ t. IsTooLong t seen) long;
        count = counts all;
      }) long.long;
      early = λ e. absurd cc;
      order = λ e. absurd cc;
    }

    -- the inputs of a beam failed, and nothing came before
    pub at_fault : (beam : ℕ) → beam < length s.names → failed beam → ((k : ℕ) → k < beam → ¬ failed k) →
        (calm_at is_calm before beam → ¬ HoldsName (told_at told before beam) s beam) →
        HaveHeadersAt (told_at told before) s beam →
        ReadsHeadersTo s beam (told_at told before) (told_at told after)
        ⊎ ReadsDataTo s beam (told_at told before) (told_at told after) → Left ReadFault
    at_fault beam there did earlier uncalm texts first =
        let rose = rises all beam (inside beam there) did in
        let quiet : (k : ℕ) → k < beam → (seen k).faults_after ≡ (seen k).faults_before =
        λ k less. still all k (earlier k less) in
        record {
          ends = ended ReadFault (omega arith) (omega arith) (record {
            failed = λ e. record {
              beam = beam;
              there = for_said (λ t. beam < length t.names) there;
              rose = rose;
              uncalm = λ calm. for_said (λ t. ¬ HoldsName (told_at told before beam) t beam) (uncalm calm);
              earlier = quiet;
              texts = for_said (λ t. HaveHeadersAt (told_at told before) t beam) texts;
            };
            quiet = λ e. absurd (e refl);
            lowest = λ e. absurd (omega (arith, e));
            count = counts all;
          }) tt;
          early = λ e. absurd cc;
          order = λ e. record {
            beam = beam;
            rose = rose;
            earlier = quiet;
            first = for_said (λ t. ReadsHeadersTo t beam (told_at told before) (told_at told after)
                ⊎ ReadsDataTo t beam (told_at told before) (told_at told after)) first;
          };
        }

-- What stands against a run is what it ends at, whatever comes after it.
use Rattle.std.proofs.Common.{◌≡◌, ◌≢◌, ◌⊎◌, ℕ, zero, suc, ◌+◌, ◌-◌, ◌<◌, ◌≤◌, List, [], ◌∷◌, refl, inl, inr, sym, ap, ◌∙◌, subst, Option, Some, None, Contains, lit<, arith}
use Rattle.std.specs.Prelude.{IsSome, length, drop, slice_index_or}
use Rattle.std.proofs.lemmas.Bool.{cases_lt}
use Rattle.psr_base.specs.Count.{Rose}
use Rattle.psr_base.specs.Told.{Told, InputsSeen, OfFile}
use Rattle.dada_header.specs.declared.faults.HeaderFault.{HeaderFault}
use Rattle.dada_header.specs.Faults.{IsHeaderRefusal}
use Rattle.ring_ends.specs.declared.finished.Finished.{Finished}
use Rattle.search_words.specs.Settings.{SaidIsInRange}
use Rattle.search_words.specs.Transfers.{AreTransferStarts}
use Rattle.stream_model.specs.Walk.{FileStream, walk_stop}
use Rattle.stream_model.specs.WalkLaws.{AreStarts, IsAccepted, AreWalked, FirstStopCounts, NoStopIsWhole}
use Rattle.disk_feeder.specs.declared.answers.HeaderCause.{HeaderCause}
use Rattle.disk_feeder.specs.declared.answers.HeaderCause.TheVariants.{Text, Fields}
use Rattle.disk_feeder.specs.History.{file_name}
use Rattle.disk_feeder.specs.Plan.{AreToldAt, IsFirstFile, IsFirstBefore}
use Rattle.disk_feeder.specs.Reading.{StopsAtFile}
use Rattle.run_outcome.specs.declared.causes.PlanCause.{PlanCause}
use Rattle.run_outcome.specs.declared.causes.RecordingCause.{RecordingCause}
use Rattle.run_outcome.specs.declared.stop.Stop.{Stop}
use Rattle.run_outcome.specs.declared.stop.Stop.TheVariants.{Header, Plan, Recording, Gap, TooLong}
use Rattle.run_outcome.specs.Texts.{status_of}
use Rattle.run_outcome.specs.Firsts.{first_at, HasHeader, EachFirst, HaveHeaders, BreaksFirstAt, RefusesFirstText}
use Rattle.run_outcome.specs.Runs.{Task, Searching, RecordingAlone, Alone, SettingsFor, Says, stream_for, CanBegin, PassesTo, RefusesSearches, RefusesRecordings, IsWalkStop}
use Rattle.run_outcome.specs.Outcomes.{JudgesWords, ReadsInputs, StopsAtFiles, SealsStream, StopsSealed, LeavesAtFault, BreaksFirsts, BreaksWalk}
use Rattle.run_outcome.specs.Ends.{EndsSo, HasBegun, RefusesByFirsts, TextsAreAnswered, FirstsAreAnswered, StopsAreAnswered}
use Rattle.run_outcome.proofs.Needs.{told_less, of_file}
use Rattle.run_outcome.proofs.Accepted.{has_header, first_accepted, firsts_accepted, of_search, can_search, records}
use Rattle.run_outcome.proofs.Passing.{is_first}

one_stop : (a b : Stop) (o : Option Stop) → o ≡ Some a → o ≡ Some b → a ≡ b
one_stop a b o x y = cc

-- words say how files are parted into transfers
transfer_starts : (starts : List ℕ) (count : ℕ) → AreTransferStarts starts count → AreStarts starts count
transfer_starts starts count are = record {
  some = are.some;
  first = are.first;
  rise = are.rise;
  within = are.within;
}

said_starts : SaidIsInRange → (task : Task) (words : List (List ℕ)) (s : SettingsFor task) → Says task words s →
    AreStarts s.starts (length s.names)
said_starts law Searching words s says =
    transfer_starts s.starts (length s.names) (law.search words s says).run.transfers
said_starts law RecordingAlone words s says =
    transfer_starts s.starts (length s.names) (law.recording words s says).transfers
said_starts law (Alone lone) words s says =
    transfer_starts s.starts (length s.names) (law.search (drop lone.before words) s says.search.says).run.transfers

-- transfers begin in order
rises : (xs : List ℕ) (count : ℕ) → AreStarts xs count → (d i j : ℕ) → i + d ≡ j → j < length xs →
    slice_index_or xs i count ≤ slice_index_or xs j count
rises xs count a zero i j e below =
    let same : i ≡ j = omega (arith, e) in
    subst (λ k. slice_index_or xs i count ≤ slice_index_or xs k count) same (omega arith)
rises xs count a (suc d) i j e below =
    let less = rises xs count a d i (i + d) refl (omega (arith, e, below)) in
    let step = a.rise (i + d) (omega (arith, e, below)) in
    let same : i + d + 1 ≡ j = omega (arith, e) in
    subst (λ k. slice_index_or xs i count ≤ slice_index_or xs k count) same (omega (arith, less, step))

module _ (task : Task) (words : List (List ℕ)) (inputs : InputsSeen) (is_calm : Type 0) (after : Told)
    (blocks : Option Finished) (n : ℕ) (judged : JudgesWords task words n)
    (read : ReadsInputs task words inputs is_calm n) (stopped : StopsAtFiles task words inputs.told blocks n)
    (sealed : SealsStream task words inputs.told blocks n)
    (leaves : n ≡ 6 → LeavesAtFault task words is_calm inputs.told after blocks)
    (calm : is_calm ⊎ (¬ Rose inputs.faults_before inputs.faults_after)) (s : SettingsFor task)
    (says : Says task words s) (files : List (List ℕ)) where
  abbrev w : FileStream
  w = stream_for s files

  -- ---- the statuses

  -- before the session
  before_it : (wanted : ℕ) → Contains (2 ∷ 3 ∷ 4 ∷ 5 ∷ 6 ∷ []) n → (n ≡ 3 → n ≡ wanted) → (n ≡ 4 → n ≡ wanted) →
      n ≢ 6 → Contains (wanted ∷ 5 ∷ []) n
  before_it wanted (zero, below, is) three four six = absurd (judged.refused (sym is) s says)
  before_it wanted (suc zero, below, is) three four six = (0, lit< tt, sym (three (sym is)))
  before_it wanted (suc (suc zero), below, is) three four six = (0, lit< tt, sym (four (sym is)))
  before_it wanted (suc (suc (suc zero)), below, is) three four six = (1, lit< tt, is)
  before_it wanted (suc (suc (suc (suc zero))), below, is) three four six = absurd (six (sym is))
  before_it wanted (suc (suc (suc (suc (suc k)))), below, is) three four six = absurd (omega (arith, below))

  -- from the session on
  after_it : (wanted : ℕ) → Contains (0 ∷ 3 ∷ 6 ∷ 7 ∷ 8 ∷ 9 ∷ 10 ∷ 11 ∷ []) n → (n ≡ 3 → n ≡ wanted) → n ≢ 6 →
      (n ≡ 7 → n ≡ wanted) → (n ≡ 8 → n ≡ wanted) → (Contains (0 ∷ 9 ∷ 10 ∷ 11 ∷ []) n → ⊥) →
      Contains (wanted ∷ 5 ∷ []) n
  after_it wanted (zero, below, is) three six seven eight late = absurd (late (0, lit< tt, is))
  after_it wanted (suc zero, below, is) three six seven eight late = (0, lit< tt, sym (three (sym is)))
  after_it wanted (suc (suc zero), below, is) three six seven eight late = absurd (six (sym is))
  after_it wanted (suc (suc (suc zero)), below, is) three six seven eight late = (0, lit< tt, sym (seven (sym is)))
  after_it wanted (suc (suc (suc (suc zero))), below, is) three six seven eight late =
      (0, lit< tt, sym (eight (sym is)))
  after_it wanted (suc (suc (suc (suc (suc zero)))), below, is) three six seven eight late =
      absurd (late (1, lit< tt, is))
  after_it wanted (suc (suc (suc (suc (suc (suc zero))))), below, is) three six seven eight late =
      absurd (late (2, lit< tt, is))
  after_it wanted (suc (suc (suc (suc (suc (suc (suc zero)))))), below, is) three six seven eight late =
      absurd (late (3, lit< tt, is))
  after_it wanted (suc (suc (suc (suc (suc (suc (suc (suc k))))))), below, is) three six seven eight late =
      absurd (omega (arith, below))

  -- the inputs don't fail where nothing can be left by that
  not_six : (is_calm → LeavesAtFault task words is_calm inputs.told after blocks → ⊥) → n ≢ 6
  not_six none e = by_calm calm
    where
      by_calm : is_calm ⊎ (¬ Rose inputs.faults_before inputs.faults_after) → ⊥
      by_calm (inl is) = none is (leaves e)
      by_calm (inr still) = still (read.failed e)

  -- where there was no session
  ends_early : (wanted : ℕ) → blocks ≡ None → (n ≡ 3 → n ≡ wanted) → (n ≡ 4 → n ≡ wanted) →
      (is_calm → BreaksFirsts task words is_calm inputs.told after → ⊥) → Contains (wanted ∷ 5 ∷ []) n
  ends_early wanted is three four breaks = before_it wanted (sealed.none is) three four (not_six (λ still left.
      breaks still
      (subst (λ (b : Option Finished). LeavesAtFault task words is_calm inputs.told after b) is left)))

  -- and there was none where that can't be
  ends_before : (wanted : ℕ) → (IsSome blocks → ⊥) → (blocks ≡ None → n ≡ 3 → n ≡ wanted) → (n ≡ 4 → n ≡ wanted) →
      (is_calm → BreaksFirsts task words is_calm inputs.told after → ⊥) → Contains (wanted ∷ 5 ∷ []) n
  ends_before wanted none three four breaks = by_blocks blocks refl
    where
      by_blocks : (found : Option Finished) → blocks ≡ found → Contains (wanted ∷ 5 ∷ []) n
      by_blocks None is = ends_early wanted is (three is) four breaks
      by_blocks (Some b) is = absurd (none (subst IsSome (sym is) refl))

  -- ---- the text of a first file is refused

  module _ (file : ℕ) (fault : HeaderFault) (starts : AreStarts s.starts (length s.names))
      (are : AreToldAt (IsFirstBefore (file + 1) s.starts (length s.names)) inputs.told s.names files)
      (refused : RefusesFirstText (stream_for s files) file fault) where
    text_is : file ≡ first_at s.names s.starts refused.transfer
    text_is = refused.is ∙ ap (λ count. slice_index_or s.starts refused.transfer count) are.count

    -- so its transfer isn't among those whose first files have headers
    no_header : (count : ℕ) → HaveHeaders inputs.told s.names s.starts count → refused.transfer < count → ⊥
    no_header count have below =
        let within : file < length s.names =
        subst (λ k. k < length s.names) (sym text_is) (starts.within refused.transfer refused.there) in
        let told = are.each file within (omega arith, (refused.transfer, refused.there, text_is)) in
        let said = subst (λ k. OfFile inputs.told (file_name s.names k) HasHeader) (sym text_is)
        (have refused.transfer below) in
        let h = of_file inputs.told s.names files file HasHeader told said in
        has_header (slice_index_or files file []) h.0 fault h.1
        (subst (λ k. IsHeaderRefusal (slice_index_or files k []) fault) (sym refused.is) refused.cause)

    -- nor are all accepted that are told
    not_accepted : EachFirst inputs.told s.names s.starts (length s.starts) IsAccepted → ⊥
    not_accepted accepted = no_header (length s.starts)
        (λ k below bytes is. let a = accepted k below bytes is in (a.header, a.is_header)) refused.there

    no_text_plan : ((cause : PlanCause) × RefusesSearches task words inputs.told cause)
        ⊎ ((cause : RecordingCause) × RefusesRecordings task words inputs.told cause) → ⊥
    no_text_plan (inl r) =
        of_search task s.search r.1.0 (λ search refused. not_accepted refused.accepted) (r.1.1.0 s says)
    no_text_plan (inr r) = not_accepted (r.1.0 s says).accepted

    -- the first files up to it are told
    no_text_fault : is_calm → BreaksFirsts task words is_calm inputs.told after → ⊥
    no_text_fault is breaks = let b = breaks s says in by_order b (cases_lt refused.transfer b.transfer)
      where
        by_order : (b : BreaksFirstAt s.names s.starts is_calm inputs.told after) →
            (refused.transfer < b.transfer) ⊎ (b.transfer ≤ refused.transfer) → ⊥
        by_order b (inl later) = no_header b.transfer b.earlier later
        by_order b (inr sooner) =
            let k = first_at s.names s.starts b.transfer in
            let least = rises s.starts (length s.names) starts (refused.transfer - b.transfer) b.transfer
            refused.transfer (omega (arith, sooner)) refused.there in
            let below : k < file + 1 = omega (arith, least, text_is) in
            b.missing is (subst IsSome (sym (are.each k (starts.within b.transfer b.there)
            (below, (b.transfer, b.there, refl)))) refl)

    pub text_answered : EndsSo (Header file (Text fault)) n
    text_answered = ends_before 3
        (λ some. not_accepted ((sealed.begun some).0 s says).accepted) (λ none e. e)
        (λ e. absurd (no_text_plan (stopped.plan e))) no_text_fault

  -- ---- by all first files

  module _ (within : (k : ℕ) → k < length s.starts → first_at s.names s.starts k < length s.names)
      (are : AreToldAt (IsFirstFile s.starts (length s.names)) inputs.told s.names files) where
    -- they are told
    no_first_fault : is_calm → BreaksFirsts task words is_calm inputs.told after → ⊥
    no_first_fault is breaks =
        let b = breaks s says in
        b.missing is (subst IsSome (sym (are.each (first_at s.names s.starts b.transfer) (within b.transfer b.there)
        (b.transfer, b.there, refl))) refl)

    -- where they are accepted, none is refused
    none_refused : AreWalked w → blocks ≡ None → n ≢ 3
    none_refused walked none e =
        let r = stopped.first_header e none in
        firsts_accepted task words inputs.told s files r.0 r.1 says are walked r.2

    -- what refuses a search or a recording accepts them
    are_walked : ((cause : PlanCause) × RefusesSearches task words inputs.told cause)
        ⊎ ((cause : RecordingCause) × RefusesRecordings task words inputs.told cause) → AreWalked w
    are_walked (inl r) = of_search task s.search r.1.0 (λ search refused. refused.accepted) (r.1.1.1 s files says are)
    are_walked (inr r) = (r.1.1 s files says are).accepted

    -- where a run can begin, no search and no recording is refused
    no_plan : CanBegin task s w → ((cause : PlanCause) × RefusesSearches task words inputs.told cause)
        ⊎ ((cause : RecordingCause) × RefusesRecordings task words inputs.told cause) → ⊥
    no_plan begins (inl r) = can_search task s.search r.1.0 w r.0 begins.searched (r.1.1.1 s files says are)
    no_plan begins (inr r) = records task s w r.0 begins.recorded (r.1.1 s files says are)

    -- it can't where one of them is refused
    cannot_begin : (stop : Stop) → RefusesByFirsts task s w stop → CanBegin task s w → ⊥
    cannot_begin (Header file (Fields fault)) r begins = first_accepted w file (Fields fault) begins.accepted r
    cannot_begin (Plan cause) r begins = can_search task s.search r.0 w cause begins.searched r.1
    cannot_begin (Recording cause) r begins = records task s w cause begins.recorded r
    cannot_begin stop r begins = r

    at_three : (stop : Stop) → RefusesByFirsts task s w stop → blocks ≡ None → n ≡ 3 → n ≡ status_of stop
    at_three (Header file (Fields fault)) r none e = e
    at_three (Plan cause) r none e =
        absurd (none_refused (of_search task s.search r.0 (λ search refused. refused.accepted) r.1) none e)
    at_three (Recording cause) r none e = absurd (none_refused r.accepted none e)
    at_three stop r none e = absurd r

    at_four : (stop : Stop) → RefusesByFirsts task s w stop → n ≡ 4 → n ≡ status_of stop
    at_four (Header file (Fields fault)) r e =
        absurd (first_accepted w file (Fields fault) (are_walked (stopped.plan e)) r)
    at_four (Plan cause) r e = e
    at_four (Recording cause) r e = e
    at_four stop r e = absurd r

    pub first_answered : (stop : Stop) → RefusesByFirsts task s w stop → EndsSo stop n
    first_answered stop r = ends_before (status_of stop)
        (λ some. cannot_begin stop r ((sealed.begun some).1 s files says are)) (at_three stop r) (at_four stop r)
        no_first_fault

  -- ---- at a stop of the walk

  module _ (counts : FirstStopCounts) (no_stop : NoStopIsWhole) (file : ℕ) (stop : Stop)
      (are : AreToldAt (λ k. k < file + 1) inputs.told s.names files)
      (begun : HasBegun task inputs.told blocks s files) (stops : IsWalkStop (stream_for s files) stop)
      (at : StopsAtFile (walk_stop (stream_for s files)) file) where
    begins_within : CanBegin task s w → (k : ℕ) → k < length s.starts → first_at s.names s.starts k < length s.names
    begins_within begins k there =
        subst (λ count. slice_index_or s.starts k count < count) are.count (begins.accepted.starts.within k there)

    -- those up to a file that comes no later are told
    up_to : (end : ℕ) → end ≤ file → AreToldAt (λ k. k < end + 1) inputs.told s.names files
    up_to end sooner = told_less inputs.told s.names files among are
      where
        among : (k : ℕ) → k < end + 1 → k < file + 1
        among k below = omega (arith, below, sooner)

    -- the run doesn't come past the file
    not_past : (end : ℕ) → PassesTo end task words inputs.told → file < end → ⊥
    not_past end passed past =
        let stopping = (is_first counts no_stop w file at).1 in
        let none = passed file past s files says (up_to file (omega arith)) in cc

    -- where it stops, the walk of these files does
    stops_there : (P : SettingsFor task → FileStream → Type 0) → StopsSealed task words inputs.told blocks P → P s w
    stops_there P (end, there) = by_order (cases_lt file end)
      where
        by_order : (file < end) ⊎ (end ≤ file) → P s w
        by_order (inl past) = absurd (not_past end there.passed past)
        by_order (inr sooner) = (there.says s files says (up_to end sooner)).0

    -- which is this stop
    is_stop : (other : Stop) → IsWalkStop w other → status_of other ≡ status_of stop
    is_stop other r = ap status_of (one_stop other stop _ r stops)

    -- what each status says of it
    abbrev AtHeader : SettingsFor task → FileStream → Type 0
    AtHeader t v = (k : ℕ) × (cause : HeaderCause) × IsWalkStop v (Header k cause)

    abbrev AtGap : SettingsFor task → FileStream → Type 0
    AtGap t v = (k : ℕ) × (expected : ℕ) × (found : ℕ) × IsWalkStop v (Gap k expected found)

    abbrev AtLimit : SettingsFor task → FileStream → Type 0
    AtLimit t v = IsWalkStop v (TooLong t.max_bytes)

    three : IsSome blocks → n ≡ 3 → n ≡ status_of stop
    three some e =
        let r = stops_there AtHeader (stopped.later_header e some) in e ∙ is_stop (Header r.0 r.1) r.2

    seven : n ≡ 7 → n ≡ status_of stop
    seven e = let r = stops_there AtGap (stopped.gap e) in e ∙ is_stop (Gap r.0 r.1 r.2) r.3

    eight : n ≡ 8 → n ≡ status_of stop
    eight e = e ∙ is_stop (TooLong s.max_bytes) (stops_there AtLimit (stopped.too_long e))

    -- a place at a file that isn't told lies past this one
    no_place : (b : Finished) → is_calm → BreaksWalk task words is_calm inputs.told after b → ⊥
    no_place b is r = by_order (cases_lt file r.at.file)
      where
        by_order : (file < r.at.file) ⊎ (r.at.file ≤ file) → ⊥
        by_order (inl past) = not_past r.at.file r.passed past
        by_order (inr sooner) =
            let m = r.missing is s says in
            m.1 (subst IsSome (sym (are.each r.at.file m.0 (omega (arith, sooner)))) refl)

    -- all data are not sealed
    not_late : IsSome blocks → Contains (0 ∷ 9 ∷ 10 ∷ 11 ∷ []) n → ⊥
    not_late some late = not_past (length s.names) (sealed.passed some late s says)
        (subst (λ count. file < count) are.count (is_first counts no_stop w file at).0)

    pub stop_answered : EndsSo stop n
    stop_answered = by_blocks blocks refl
      where
        before_session : blocks ≡ None → HasBegun task inputs.told blocks s files → EndsSo stop n
        before_session is (inl some) = let none = subst IsSome is some in absurd cc
        before_session is (inr (firsts, begins)) = ends_early (status_of stop) is
            (λ e. absurd (none_refused (begins_within begins) firsts begins.accepted is e))
            (λ e. absurd (no_plan (begins_within begins) firsts begins (stopped.plan e)))
            (no_first_fault (begins_within begins) firsts)

        by_blocks : (found : Option Finished) → blocks ≡ found → EndsSo stop n
        by_blocks None is = before_session is begun
        by_blocks (Some b) is =
            let some : IsSome blocks = subst IsSome (sym is) refl in
            after_it (status_of stop) (sealed.some some) (three some) (not_six (λ still left. no_place b still
            (subst (λ (x : Option Finished). LeavesAtFault task words is_calm inputs.told after x) is left))) seven
            eight (not_late some)

pub texts_answered : SaidIsInRange → (is_calm : Type 0) → TextsAreAnswered is_calm
texts_answered law is_calm task words inputs after blocks n judged read stopped sealed leaves calm s files file fault
    says are refused =
    text_answered task words inputs is_calm after blocks n judged read stopped sealed leaves calm s says files file
    fault (said_starts law task words s says) are refused

pub firsts_answered : SaidIsInRange → (is_calm : Type 0) → FirstsAreAnswered is_calm
firsts_answered law is_calm task words inputs after blocks n judged read stopped sealed leaves calm s files stop says
    are refused =
    first_answered task words inputs is_calm after blocks n judged read stopped sealed leaves calm s says files
    (said_starts law task words s says).within are stop refused

pub stops_answered : FirstStopCounts → NoStopIsWhole → (is_calm : Type 0) → StopsAreAnswered is_calm
stops_answered counts no_stop is_calm task words inputs after blocks n judged read stopped sealed leaves calm s files
    file stop says are begun stops at =
    stop_answered task words inputs is_calm after blocks n judged read stopped sealed leaves calm s says files counts
    no_stop file stop are begun stops at

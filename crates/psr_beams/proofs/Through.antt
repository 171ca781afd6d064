-- A search of beams that went to the end of all of them.
use Rattle.std.proofs.Common.{◌≡◌, ◌≢◌, ◌⊎◌, ℕ, ◌<◌, ◌≤◌, List, [], length, map, get_or, refl, sym, ap, subst, ◌∙◌, inl, inr, Option, Some, None, lit<, arith}
use Rattle.std.specs.Prelude.{IsSome}
use Rattle.std.proofs.lemmas.Bool.{cases_lt}
use Rattle.std.proofs.lemmas.List.{get_or-map, get_or_past, length-map}
use Rattle.psr_base.specs.Inputs.{HasReadFrom}
use Rattle.psr_base.specs.Told.{Told, nothing_told}
use Rattle.psr_base.specs.Written.{SinkSeen, WroteAll, WroteFront}
use Rattle.dada_model.specs.Laws.{AcceptedByRows}
use Rattle.dada_model.specs.Fields.{HeaderText}
use Rattle.dada_model.specs.Observation.{Observation}
use Rattle.search_model.specs.Plan.{plan_refusal}
use Rattle.search_words.specs.Settings.{SettingsSeen}
use Rattle.stream_model.specs.Walk.{data_of}
use Rattle.stream_model.specs.WalkLaws.{IsAccepted, FirstFilesContinue}
use Rattle.disk_feeder.specs.declared.answers.HeaderCause.{HeaderCause}
use Rattle.disk_feeder.specs.declared.answers.HeaderCause.TheVariants.{Text, Fields}
use Rattle.disk_feeder.specs.declared.answers.FeedEnd.{FeedEnd}
use Rattle.disk_feeder.specs.declared.answers.FeedEnd.TheVariants as feed
use Rattle.beam_set.specs.declared.ended.BeamEnd.{BeamEnd}
use Rattle.beam_set.specs.Laws.{HoldsData, BeamsHoldData}
use Rattle.beam_set.specs.Later.{LaterHeadersAgree}
use Rattle.beam_set.specs.Searched.{searched_beams_text}
use Rattle.run_outcome.specs.declared.stop.Stop.{Stop}
use Rattle.run_outcome.specs.declared.stop.Stop.TheVariants.{Header, Memory, ReadFault, Gap, TooLong, TooMany, SinkFault}
use Rattle.run_outcome.specs.Runs.{stop_of_walk}
use Rattle.psr_beams.specs.Words.{within_in, more_in}
use Rattle.psr_beams.specs.Seen.{told_at, calm_at, seen_at}
use Rattle.psr_beams.specs.Files.{AreBeamsTold, ForBeams, ForSettings, beam_file, beam_name, beams_observation, IsReadOn}
use Rattle.psr_beams.specs.Found.{HaveText}
use Rattle.psr_beams.specs.EachBeam.{HaveHeadersAt, AreOfOneAt, RefusesLaterAt, CanSearchAt, IsWholeFile, AreWholeAt, IsTooLongFile, StopsBeamAt, count_of, AreFewAt, HasTooManyAt, AreSearchedAt}
use Rattle.psr_beams.specs.Stops.{SaysOfBeams}
use Rattle.psr_beams.specs.Outcome.{IsTooLong, ReadsBeams}
use Rattle.psr_beams.specs.Judged.{AreOfOne}
use Rattle.psr_beams.specs.Driven.{HasCome, HasSlotCome, HaveCome, SlotBreaks, HaveBroken, ReadsAll}
use Rattle.psr_beams.specs.Ends.{Ends, stop_at_data, stop_at_header, slot_stop, stop_in, counted_in, StopsBy, NoneStopsBy, StopsFirst, NoneStops, CountsTooMany, NoneCountsTooMany, EndsWritten, EndsBeams, Leaves}
use Rattle.psr_beams.proofs.Counting.{seen_there, calm_there, stood, read_on, still, AllRead}
use Rattle.psr_beams.proofs.Ended.{counted_is}
use Rattle.psr_beams.proofs.Builders.{Over, searched_at, judged_said, for_said, for_settings, reads_quietly, inside, one_there, told_there, at_files, at_long, at_fault}
use Rattle.psr_beams.proofs.Stopped.{head, all_heads, are_of_one}
use Rattle.psr_beams.proofs.Together.{searched}
use Rattle.psr_beams.proofs.Opening.{all_say}
use Rattle.psr_beams.proofs.Walked.{walk_kind, EndKind, end_kind, slot_failed, fails_stop, slot_failing, stopped_failing, stopped_long, all_data}

-- ---- how it ends

module _ {I : Type 0} {told : I → Told} {is_calm : I → Type 0} {faults : I → ℕ} {words : List (List ℕ)}
    {s : SettingsSeen} {before : List I} (run : Over told is_calm faults words s before) (rows : AcceptedByRows)
    (law : FirstFilesContinue) (agree : LaterHeadersAgree) {mid after : List I} {headers : ℕ → Option HeaderText}
    (read : ReadsAll told is_calm faults s before mid headers) {o : Observation}
    (accepted : AreOfOne headers (length s.names) o) (fits : plan_refusal o s.search ≡ None)
    {ends : List (Option BeamEnd)} (come : HaveCome told is_calm faults s o (length s.names) mid after ends) where
  abbrev n : ℕ
  n = length s.names

  abbrev failed : ℕ → Type 0
  failed k = slot_failed (get_or ends k None)

  -- ---- the inputs

  slot_read : (name : List ℕ) (x y : I) (slot : Option BeamEnd) → HasSlotCome told is_calm faults s o name x y slot →
      HasReadFrom told is_calm faults (slot_failed slot) x y
  slot_read name x y None is = absurd is
  slot_read name x y (Some end) is = is.read

  failed_there : (k : ℕ) → n ≤ k → ¬ failed k
  failed_there k over did =
      let many = come.many in
      rw (get_or_past ends k None (omega (arith, over, many))) at did

  all : AllRead told is_calm faults failed before after
  all = record {
    lent = come.lent ∙ read.read.lent;
    each = λ k x. elim (cases_lt k n) [
      | inl less ↦ read_on told is_calm faults (failed k) _ _ _ (read.read.each k x less).read
          (slot_read (beam_name s k) (get_or mid k x) (get_or after k x) (get_or ends k None) (come.each k x less))
      | inr over ↦ stood told is_calm faults (failed k) _ _ (failed_there k over)
          (come.others k x over ∙ read.read.others k x over)
    ];
  }

  quiet_where : (k : ℕ) → stop_in stop_at_data ends k ≡ None → ¬ failed k
  quiet_where k none did = fails_stop k (get_or ends k None) did none

  all_quiet : NoneStopsBy stop_at_data ends → (k : ℕ) → ¬ failed k
  all_quiet none k did = elim (cases_lt k n) [
    | inl less ↦ let many = come.many in quiet_where k (none k (omega (arith, less, many))) did
    | inr over ↦ failed_there k over did
  ]

  -- ---- the headers

  of_one : (count : ℕ) → count ≤ n → AreOfOneAt (told_at told before) s count o
  of_one count few = are_of_one run headers read.are rows o count few (record {
    first = accepted.first;
    later = λ k h pos less at. accepted.later k h pos (omega (arith, less, few)) at;
  })

  texts : (count : ℕ) → count ≤ n → HaveHeadersAt (told_at told before) s count
  texts = all_heads run headers read.are

  abbrev begins : CanSearchAt (told_at told before) s
  begins = record { observation = o; accepted = of_one n (omega arith); fits = fits }

  -- ---- a beam whose file is told

  module _ (k : ℕ) (below : k < n) (file : List ℕ)
      (at : (told_at told before k).bytes_under (beam_name s k) ≡ Some file) where
    file_accepted : IsAccepted file
    file_accepted =
        let h = head run headers read.are k below in
        record {
          header = h.0;
          observation = o;
          is_header = h.2 file at;
          is_observation = all_say agree headers n o accepted (read.are.there 0 run.some) k below h.0 h.1;
        }

    -- the inputs at its place tell it, once the headers were read
    told_mid : (x : I) → (told (get_or mid k x)).bytes_under (beam_name s k) ≡ Some file
    told_mid x = rw (read.read.each k x below).read.names (told_there run k x below file at)

    kind_of : (x y : I) → (told x).bytes_under (beam_name s k) ≡ Some file → (end : BeamEnd) →
        HasCome told is_calm faults s o (beam_name s k) x y end → end.feed ≢ feed.ReadFault → EndKind s file end.feed
    kind_of x y there end is not =
        let w = is.walked not file there in
        end_kind s file end.feed w.0 (walk_kind law s file file_accepted) w.1

    -- it did not stop: it was read whole
    record IsRead (slot : Option BeamEnd) : Type 0 where
      whole : IsWholeFile s file
      holds : HoldsData o s.search (data_of file) slot

    slot_whole : (x y : I) → (told x).bytes_under (beam_name s k) ≡ Some file → (slot : Option BeamEnd) →
        HasSlotCome told is_calm faults s o (beam_name s k) x y slot → slot_stop stop_at_data k slot ≡ None →
        IsRead slot
    slot_whole x y there None is none = absurd is
    slot_whole x y there (Some end) is none =
        by_kind (kind_of x y there end is (λ e. fails_stop k (Some end) e none))
      where
        by_kind : EndKind s file end.feed → IsRead (Some end)
        by_kind (inl (whole, walked)) =
            record {
              whole = walked;
              holds = rw (is.known whole.0 whole.1 file there) at (is.held whole.0 whole.1);
            }
        by_kind (inr (long, walked)) =
            let more : stop_at_data k end.feed ≡ Some (TooLong s.max_bytes) = ap (stop_at_data k) long in absurd cc

    whole_at : stop_in stop_at_data ends k ≡ None → IsRead (get_or ends k None)
    whole_at none =
        let x = one_there run k below in
        slot_whole (get_or mid k x) (get_or after k x) (told_mid x) (get_or ends k None) (come.each k x below) none

    -- it stopped at its data: there are too many
    slot_long : (x y : I) → (told x).bytes_under (beam_name s k) ≡ Some file → (slot : Option BeamEnd) →
        HasSlotCome told is_calm faults s o (beam_name s k) x y slot → (limit : ℕ) →
        slot_stop stop_at_data k slot ≡ Some (TooLong limit) → IsTooLongFile s limit file
    slot_long x y there None is limit stop = absurd is
    slot_long x y there (Some end) is limit stop = by_kind (kind_of x y there end is not)
      where
        not : end.feed ≢ feed.ReadFault
        not e = let other : stop_at_data k end.feed ≡ Some ReadFault = ap (stop_at_data k) e in cc

        by_kind : EndKind s file end.feed → IsTooLongFile s limit file
        by_kind (inl (whole, walked)) =
            let none : stop_at_data k end.feed ≡ None = ap (stop_at_data k) whole.1 in absurd cc
        by_kind (inr (long, walked)) =
            let more : stop_at_data k end.feed ≡ Some (TooLong s.max_bytes) = ap (stop_at_data k) long in
            ap (stop_of_walk s.max_bytes) walked ∙ sym more ∙ stop

    long_at : (limit : ℕ) → stop_in stop_at_data ends k ≡ Some (TooLong limit) → IsTooLongFile s limit file
    long_at limit stop =
        let x = one_there run k below in
        slot_long (get_or mid k x) (get_or after k x) (told_mid x) (get_or ends k None) (come.each k x below) limit stop

    -- no beam stops at its header once it was accepted
    slot_heads : (x y : I) → (told x).bytes_under (beam_name s k) ≡ Some file → (slot : Option BeamEnd) →
        HasSlotCome told is_calm faults s o (beam_name s k) x y slot → (first : Stop) →
        slot_stop stop_at_header k slot ≡ Some first → ⊥
    slot_heads x y there None is first stop = is
    slot_heads x y there (Some end) is first stop = by_kind (kind_of x y there end is not)
      where
        not : end.feed ≢ feed.ReadFault
        not e = let none : stop_at_header k end.feed ≡ None = ap (stop_at_header k) e in cc

        by_kind : EndKind s file end.feed → ⊥
        by_kind (inl (whole, walked)) =
            let none : stop_at_header k end.feed ≡ None = ap (stop_at_header k) whole.1 in cc
        by_kind (inr (long, walked)) =
            let none : stop_at_header k end.feed ≡ None = ap (stop_at_header k) long in cc

    no_header : (first : Stop) → stop_in stop_at_header ends k ≡ Some first → ⊥
    no_header first stop =
        let x = one_there run k below in
        slot_heads (get_or mid k x) (get_or after k x) (told_mid x) (get_or ends k None) (come.each k x below) first
        stop

    counted_at : stop_in stop_at_data ends k ≡ None → counted_in ends k ≡ count_of o s file
    counted_at none = counted_is ends o s.search (data_of file) (get_or ends k None) (whole_at none).holds

  -- ---- beams that did not stop

  whole_to : (count : ℕ) → count ≤ n → ((k : ℕ) → k < count → stop_in stop_at_data ends k ≡ None) →
      AreWholeAt (told_at told before) s count
  whole_to count few none k less file at = (whole_at k (omega (arith, less, few)) file at (none k less)).whole

  all_none : NoneStopsBy stop_at_data ends → (k : ℕ) → k < n → stop_in stop_at_data ends k ≡ None
  all_none none k less = let many = come.many in none k (omega (arith, less, many))

  all_whole : NoneStopsBy stop_at_data ends → AreWholeAt (told_at told before) s n
  all_whole none = whole_to n (omega arith) (all_none none)

  few_to : (count : ℕ) → count ≤ n → NoneStopsBy stop_at_data ends →
      ((k : ℕ) → k < count → counted_in ends k ≤ s.search.max_candidates) →
      AreFewAt (told_at told before) s o count
  few_to count few none least k less file at =
      let below : k < n = omega (arith, less, few) in
      rw (sym (counted_at k below file at (all_none none k below))) (least k less)

  all_searched : NoneStopsBy stop_at_data ends → NoneCountsTooMany ends s.search.max_candidates →
      AreSearchedAt (told_at told before) s
  all_searched none few = record {
    begins = begins;
    whole = all_whole none;
    few = few_to n (omega arith) none (λ k less. let many = come.many in few k (omega (arith, less, many)));
  }

  -- ---- a beam that stopped

  stopped_there : (stop_of : ℕ → FeedEnd → Option Stop) (stop : Stop) (r : StopsBy stop_of ends stop) → r.beam < n
  stopped_there stop_of stop r = let there = r.there in let many = come.many in omega (arith, there, many)

  too_many : (stop : Stop) → NoneStopsBy stop_at_data ends → (r : CountsTooMany ends s.search.max_candidates stop) →
      HasTooManyAt (told_at told before) s (counted_in ends r.beam) s.search.max_candidates
  too_many stop none r =
      let there = r.there in let many = come.many in
      let within : r.beam < n = omega (arith, there, many) in
      record {
        begins = begins;
        whole = all_whole none;
        beam = r.beam;
        there = within;
        counted = λ file at. sym (counted_at r.beam within file at (all_none none r.beam within));
        limit_is = refl;
        many = r.many;
        earlier = few_to r.beam (omega (arith, within)) none (λ k less. r.earlier k less);
      }

  -- the limit is that of the settings
  slot_limit : (name : List ℕ) (x y : I) (k limit : ℕ) (slot : Option BeamEnd) →
      HasSlotCome told is_calm faults s o name x y slot → slot_stop stop_at_data k slot ≡ Some (TooLong limit) →
      limit ≡ s.max_bytes
  slot_limit name x y k limit None is stop = absurd is
  slot_limit name x y k limit (Some end) is stop = is.limit limit (stopped_long k limit end.feed stop)

  limit_at : (limit : ℕ) → StopsBy stop_at_data ends (TooLong limit) → limit ≡ s.max_bytes
  limit_at limit r =
      let within = stopped_there stop_at_data (TooLong limit) r in
      let x = one_there run r.beam within in
      slot_limit (beam_name s r.beam) (get_or mid r.beam x) (get_or after r.beam x) r.beam limit
      (get_or ends r.beam None) (come.each r.beam x within) r.is

  abbrev too_long : (r : StopsBy stop_at_data ends (TooLong s.max_bytes)) →
      StopsBeamAt (told_at told before) s s.max_bytes
  too_long r =
      let within = stopped_there stop_at_data (TooLong s.max_bytes) r in
      record {
        begins = begins;
        limit_is = refl;
        beam = r.beam;
        there = within;
        long = λ file at. long_at r.beam within file at s.max_bytes r.is;
        earlier = whole_to r.beam (omega (arith, within)) (λ k less. r.earlier k less);
      }

  -- and no call of its inputs failed, nor of those of the beams before it
  lowest : StopsBy stop_at_data ends (TooLong s.max_bytes) → IsTooLong s (seen_at told faults before after)
  lowest r = record {
    long = too_long r;
    quiet = λ k most. still all k (not k most);
  }
    where
      own : (slot : Option BeamEnd) → slot_stop stop_at_data r.beam slot ≡ Some (TooLong s.max_bytes) →
          ¬ slot_failed slot
      own None is did = did
      own (Some end) is did =
          let other : stop_at_data r.beam end.feed ≡ Some ReadFault = ap (stop_at_data r.beam) did in cc

      not : (k : ℕ) → k ≤ r.beam → ¬ failed k
      not k most = elim (cases_lt k r.beam) [
        | inl less ↦ quiet_where k (r.earlier k less)
        | inr over ↦
            let same : r.beam ≡ k = omega (arith, most, over) in
            rw (sym same) (own (get_or ends r.beam None) r.is)
      ]

  -- a beam that stops at its header once it was accepted isn't told
  later_untold : (stop first : Stop) (r : StopsBy stop_at_header ends first) →
      RefusesLaterAt (told_at told before) s r.beam stop
  later_untold stop first r =
      let within = stopped_there stop_at_header first r in
      record {
        texts = texts n (omega arith);
        there = within;
        later = λ file at. elim (cases_lt 0 r.beam) [
          | inl less ↦ less
          | inr over ↦
              let same : 0 ≡ r.beam = omega (arith, over) in
              absurd (no_header r.beam within file (subst (λ k. (told_at told before k).bytes_under (beam_name s k)
              ≡ Some file) same at) first r.is)
        ];
        observation = o;
        earlier = of_one r.beam (omega (arith, within));
        refused = λ file at. absurd (no_header r.beam within file at first r.is);
      }

  header_untold : (cause : HeaderCause) (first : Stop) (r : StopsBy stop_at_header ends first) →
      SaysOfBeams (told_at told before) s (Header r.beam cause)
  header_untold (Text fault) first r =
      let within = stopped_there stop_at_header first r in
      record {
        there = within;
        refused = λ file at. absurd (no_header r.beam within file at first r.is);
        earlier = texts r.beam (omega (arith, within));
      }
  header_untold (Fields fault) first r = inr (later_untold (Header r.beam (Fields fault)) first r)

  -- ---- by what it came to

  module _ (out out' : SinkSeen) where
    abbrev LeftAt : Option Stop → Type 0
    LeftAt stop = Leaves told is_calm faults words before after out out' stop

    module _ (same : out' ≡ out) (broken : HaveBroken told s n before mid after ends) where
      fault_ends : StopsBy stop_at_data ends ReadFault → LeftAt (Some ReadFault)
      fault_ends r =
          let within = stopped_there stop_at_data ReadFault r in
          let there = inside run r.beam within in
          let lent = all.lent in
          let x = one_there run r.beam within in
          let was = (read.read.each r.beam x within).read in
          at_fault run all same r.beam within (slot_failing r.beam (get_or ends r.beam None) r.is)
          (λ k less. quiet_where k (r.earlier k less))
          (λ calm holds. serves (get_or mid r.beam x) (get_or after r.beam x) (get_or ends r.beam None)
          (come.each r.beam x within) r.is (was.calm (calm_there is_calm before r.beam x there calm))
          (rw (was.names, sym (seen_there told nothing_told before r.beam x there)) holds))
          (texts r.beam (omega (arith, within)))
          (inr (record {
            begins = begins;
            whole = whole_to r.beam (omega (arith, within)) (λ k less. r.earlier k less);
            broke = λ file is.
                rw (
                  seen_there told nothing_told before r.beam x there,
                  seen_there told nothing_told after r.beam x (omega (arith, there, lent)),
                ) (left (told (get_or before r.beam x)) (told (get_or mid r.beam x)) (told (get_or after r.beam x))
                (get_or ends r.beam None) r.is (broken r.beam x within) file (told_mid r.beam within file is x));
          }))
        where
          serves : (x y : I) (slot : Option BeamEnd) →
              HasSlotCome told is_calm faults s o (beam_name s r.beam) x y slot →
              slot_stop stop_at_data r.beam slot ≡ Some ReadFault →
              is_calm x → IsSome ((told x).bytes_under (beam_name s r.beam)) → ⊥
          serves x y None c is calm holds = absurd c
          serves x y (Some end) c is calm holds = c.serves calm holds (stopped_failing r.beam end.feed is)

          left : (start was now : Told) (slot : Option BeamEnd) →
              slot_stop stop_at_data r.beam slot ≡ Some ReadFault →
              SlotBreaks s.max_bytes start was (beam_name s r.beam) now slot → (file : List ℕ) →
              was.bytes_under (beam_name s r.beam) ≡ Some file →
              IsReadOn s.max_bytes (beam_name s r.beam) file start now
          left start was now None is broke file at = absurd cc
          left start was now (Some end) is broke file at = broke (stopped_failing r.beam end.feed is) file at

      long_ends : (limit : ℕ) → StopsBy stop_at_data ends (TooLong limit) → LeftAt (Some (TooLong limit))
      long_ends limit r =
          let is = limit_at limit r in
          rw is (at_long run all same (lowest (rw is at r)))

      header_ends : NoneStopsBy stop_at_data ends → (cause : HeaderCause) (first : Stop)
          (r : StopsBy stop_at_header ends first) → LeftAt (Some (Header r.beam cause))
      header_ends none cause first r = at_files run all same (Header r.beam cause) (omega arith) (omega arith)
          (λ e. omega (arith, e)) (λ e. omega (arith, e)) (λ e. omega (arith, e)) (all_quiet none)
          (header_untold cause first r)

      gap_ends : NoneStopsBy stop_at_data ends → (expected found : ℕ) (first : Stop)
          (r : StopsBy stop_at_header ends first) → LeftAt (Some (Gap r.beam expected found))
      gap_ends none expected found first r = at_files run all same (Gap r.beam expected found) (omega arith)
          (omega arith) (λ e. omega (arith, e)) (λ e. omega (arith, e)) (λ e. omega (arith, e)) (all_quiet none)
          (later_untold (Gap r.beam expected found) first r)

      is_first : (a first : Stop) → Some a ≡ Some first → a ≡ first
      is_first a first e = cc

      -- the lowest beam that stopped at its data
      at_data : (first : Stop) → StopsBy stop_at_data ends first → LeftAt (Some first)
      at_data first r = by_slot (get_or ends r.beam None) r.is
        where
          by_end : (e : FeedEnd) → stop_at_data r.beam e ≡ Some first → LeftAt (Some first)
          by_end feed.ReadFault is =
              let eq = is_first ReadFault first is in
              rw (sym eq) (fault_ends (rw eq r))
          by_end (feed.TooLong limit) is =
              let eq = is_first (TooLong limit) first is in
              rw (sym eq) (long_ends limit (rw eq r))
          by_end e is = absurd cc

          by_slot : (slot : Option BeamEnd) → slot_stop stop_at_data r.beam slot ≡ Some first → LeftAt (Some first)
          by_slot None is = absurd cc
          by_slot (Some end) is = by_end end.feed is

      -- or at its header
      at_head : NoneStopsBy stop_at_data ends → (first : Stop) → StopsBy stop_at_header ends first →
          LeftAt (Some first)
      at_head none first r = by_slot (get_or ends r.beam None) r.is
        where
          by_end : (e : FeedEnd) → stop_at_header r.beam e ≡ Some first → LeftAt (Some first)
          by_end (feed.BadHeader file cause) is =
              rw (sym (is_first (Header r.beam cause) first is)) (header_ends none cause first r)
          by_end (feed.Gap file expected found) is =
              rw (sym (is_first (Gap r.beam expected found) first is)) (gap_ends none expected found first r)
          by_end e is = absurd cc

          by_slot : (slot : Option BeamEnd) → slot_stop stop_at_header r.beam slot ≡ Some first → LeftAt (Some first)
          by_slot None is = absurd cc
          by_slot (Some end) is = by_end end.feed is

      at_first : (first : Stop) → StopsFirst ends first → LeftAt (Some first)
      at_first first (inl r) = at_data first r
      at_first first (inr (none, r)) = at_head none first r

      at_many : (many : Stop) → NoneStops ends → CountsTooMany ends s.search.max_candidates many → LeftAt (Some many)
      at_many many none r =
          let count = counted_in ends r.beam in
          let limit = s.search.max_candidates in
          rw r.is (at_files run all same (TooMany count limit) (omega arith) (omega arith) (λ e. omega (arith, e))
          (λ e. omega (arith, e)) (λ e. omega (arith, e)) (all_quiet none.0) (too_many many none.0 r))

    -- ---- the text, or its front

    module _ (files : List (List ℕ)) (are : AreBeamsTold (told_at told before) s.names files) where
      observed : beams_observation files ≡ o
      observed = (begins.accepted.first (beam_file files 0) (are.each 0 run.some)).is

      hold_files : NoneStops ends → BeamsHoldData o s.search (map data_of files) ends
      hold_files none = record {
        count = let count = are.count in let many = come.many in let same = length-map files data_of in
            omega (arith, count, many, same);
        each = λ k below.
            let count = are.count in let same = length-map files data_of in
            let there : k < length files = omega (arith, below, same) in
            let within : k < n = omega (arith, there, count) in
            let r = whole_at k within (beam_file files k) (are.each k within) (all_none none.0 k within) in
            rw (get_or-map data_of files k [] [] there) r.holds;
      }

    at_text : (stop : Option Stop) →
        EndsWritten o s.search (within_in words) (more_in words) ends out out' stop → LeftAt stop
    at_text stop r = by_kind r.kind
      where
        reach : n ≤ length mid
        reach = let lent = read.read.lent in let enough = run.enough in omega (arith, lent, enough)

        text : (P : List ℕ → Type 0) →
            ((data_of_beams : List (List ℕ)) → BeamsHoldData o s.search data_of_beams ends →
            P (searched_beams_text o s.search (within_in words) (more_in words) data_of_beams)) →
            ForBeams words (told_at told before) (HaveText words P)
        text P wrote = for_settings run (HaveText words P) (λ files are. (
          searched (told_at told before) s files are run.some (all_searched r.whole.0 r.few),
          rw (observed files are) (wrote (map data_of files) (hold_files files are r.whole)),
        ))

        are_searched : ForSettings words (λ t. AreSearchedAt (told_at told before) t)
        are_searched = for_said run (λ t. AreSearchedAt (told_at told before) t) (all_searched r.whole.0 r.few)

        read_all : (m : ℕ) → m ≢ 6 → m ≢ 8 →
            ReadsBeams words (seen_at told faults before after) (calm_at is_calm before) m
        read_all m six eight =
            reads_quietly words all m six eight (all_quiet r.whole.0)

        holding : (list : List (List ℕ)) × BeamsHoldData o s.search list ends
        holding = all_data told is_calm faults s o n mid after ends come reach r.whole

        late : (x : Option Stop) → x ≢ Some Memory → x ≢ Some ReadFault →
            Ends words (seen_at told faults before after) (calm_at is_calm before) out out' x → LeftAt x
        late x memory fault is =
            record { ends = is; early = λ e. absurd (memory e); order = λ e. absurd (fault e) }

        by_kind : (stop ≡ None) ⊎ (stop ≡ Some SinkFault) → LeftAt stop
        by_kind (inl none) = subst LeftAt (sym none) (late None (λ e. cc) (λ e. cc) (record {
          known = (0, lit< tt, refl);
          written = record {
            text = λ e. text (λ t. WroteAll t out out') wrote;
            front = λ e. absurd (omega (arith, e));
            failed = λ e. absurd (omega (arith, e));
            quiet = λ e. (wrote holding.0 holding.1).faults;
            untouched = λ e f. absurd (e refl);
          };
          judged = judged_said run 0 (λ e. omega (arith, e));
          read = read_all 0 (λ e. omega (arith, e)) (λ e. omega (arith, e));
          stopped = searched_at words (told_at told before) 0 (λ e. omega (arith, e)) (λ e. omega (arith, e))
              (λ e. omega (arith, e)) (λ e. omega (arith, e)) (λ e. omega (arith, e)) are_searched;
          said = tt;
        }))
          where
            wrote : (data_of_beams : List (List ℕ)) → BeamsHoldData o s.search data_of_beams ends →
                WroteAll (searched_beams_text o s.search (within_in words) (more_in words) data_of_beams) out out'
            wrote list held = rw none at (r.wrote list held)
        by_kind (inr fault) = subst LeftAt (sym fault) (late (Some SinkFault) (λ e. cc) (λ e. cc) (record {
          known = (9, lit< tt, refl);
          written = record {
            text = λ e. absurd (omega (arith, e));
            front = λ e. text (λ t. WroteFront t out out') front;
            failed = λ e. (front holding.0 holding.1).rose;
            quiet = λ e. absurd (e refl);
            untouched = λ e f. absurd (f refl);
          };
          judged = judged_said run 10 (λ e. omega (arith, e));
          read = read_all 10 (λ e. omega (arith, e)) (λ e. omega (arith, e));
          stopped = searched_at words (told_at told before) 10 (λ e. omega (arith, e)) (λ e. omega (arith, e))
              (λ e. omega (arith, e)) (λ e. omega (arith, e)) (λ e. omega (arith, e)) are_searched;
          said = (tt, λ t said. tt);
        }))
          where
            front : (data_of_beams : List (List ℕ)) → BeamsHoldData o s.search data_of_beams ends →
                WroteFront (searched_beams_text o s.search (within_in words) (more_in words) data_of_beams) out out'
            front list held = rw fault at (r.wrote list held)

    pub through : HaveBroken told s n before mid after ends → (stop : Option Stop) →
        EndsBeams o s.search (within_in words) (more_in words) ends out out' stop → LeftAt stop
    through broken stop (inl (first, is, r, same)) = subst LeftAt (sym is) (at_first same broken first r)
    through broken stop (inr (inl (many, is, none, r, same))) = subst LeftAt (sym is) (at_many same broken many none r)
    through broken stop (inr (inr r)) = at_text stop r

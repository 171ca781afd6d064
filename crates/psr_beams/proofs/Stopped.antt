-- A search of beams that stops before its first turn: at a header that cannot be read, or where it is not opened.
use Rattle.std.proofs.Common.{◌≡◌, ◌≢◌, ◌⊎◌, ℕ, ◌<◌, ◌≤◌, List, length, get_or, refl, sym, ap, subst, ◌∙◌, inl, inr, Option, Some, None, Ok, arith}
use Rattle.std.proofs.lemmas.Bool.{cases_lt}
use Rattle.psr_base.specs.Told.{Told, nothing_told}
use Rattle.psr_base.specs.Written.{SinkSeen}
use Rattle.dada_model.specs.Fields.{HeaderText, header_of, fields_of}
use Rattle.dada_model.specs.Laws.{AcceptedByRows}
use Rattle.dada_model.specs.Observation.{Observation, observation_in, observation_of}
use Rattle.search_words.specs.Settings.{SettingsSeen}
use Rattle.stream_model.specs.Walk.{observation_at, fields_past}
use Rattle.disk_feeder.specs.declared.answers.HeaderCause.TheVariants.{Text, Fields}
use Rattle.run_outcome.specs.declared.stop.Stop.{Stop}
use Rattle.run_outcome.specs.declared.stop.Stop.TheVariants.{Header, Plan, Memory, ReadFault, Gap}
use Rattle.run_outcome.specs.Texts.{status_of}
use Rattle.psr_beams.specs.Seen.{told_at}
use Rattle.dada_header.specs.Faults.{IsHeaderRefusal}
use Rattle.run_outcome.specs.Firsts.{HasHeader, RefusesFields}
use Rattle.psr_beams.specs.Files.{ForSettings, OfBeam, beam_name, header_read}
use Rattle.psr_beams.specs.Refusals.{later_stop, StopsByHeader}
use Rattle.psr_beams.specs.EachBeam.{HaveHeadersAt, AreOfOneAt, RefusesLaterAt}
use Rattle.psr_beams.specs.Stops.{SaysOfBeams}
use Rattle.psr_beams.specs.Outcome.{IsHeaderRead}
use Rattle.psr_beams.specs.Judged.{AreOfOne, RefusesZero, RefusesOne, StopsJudging}
use Rattle.psr_beams.specs.Feeders.{LeavesData, StopsReading}
use Rattle.psr_beams.specs.Opened.{RefusesTheirPlan}
use Rattle.psr_beams.specs.Driven.{AreHeaders, ReadsAll}
use Rattle.psr_beams.specs.Ends.{Leaves}
use Rattle.psr_beams.proofs.Counting.{seen_there, seen_still, calm_there, stood, retyped, AllRead}
use Rattle.psr_beams.proofs.OneFile.{some_of}
use Rattle.psr_beams.proofs.Opening.{later_kind}
use Rattle.psr_beams.proofs.Builders.{Over, for_said, inside, one_there, told_there, of_beam, at_files, at_memory, at_fault}

-- the calls for a beam failed where it stopped for a fault of its inputs
abbrev pub reading_failed : Stop → ℕ → ℕ → Type 0
reading_failed stop beam k = (k ≡ beam) × (stop ≡ ReadFault)

-- the observation of a file whose header says it
pub observation_is : AcceptedByRows → (file : List ℕ) (h : HeaderText) (o : Observation) → header_of file ≡ Ok h →
    observation_of (fields_of h.text) ≡ Ok o → observation_at file ≡ o
unfolding observation_at
observation_is rows file h o has said =
    ap (λ r. observation_in (fields_past r)) has ∙ sym ((rows (fields_of h.text) o).0 said).0

module _ {I : Type 0} {told : I → Told} {is_calm : I → Type 0} {faults : I → ℕ} {words : List (List ℕ)}
    {s : SettingsSeen} {before : List I} (run : Over told is_calm faults words s before) where
  abbrev n : ℕ
  n = length s.names

  -- ---- where there was no memory

  -- all data of the file of a beam are left
  pub left_at : (after : List I) (k : ℕ) (x : I) → k < n → length after ≡ length before →
      LeavesData (told (get_or before k x)) (beam_name s k) (told (get_or after k x)) →
      OfBeam (told_at told before) s k (IsHeaderRead s k (told_at told before) (told_at told after))
  left_at after k x below lent left file at =
      let within = inside run k below in
      seen_there told nothing_told after k x (omega (arith, within, lent))
      ∙ left file (told_there run k x below file at)
      ∙ ap (header_read (beam_name s k) file) (sym (seen_there told nothing_told before k x within))

  module _ (after : List I) (lent : length after ≡ length before) where
    abbrev ReadsNone : ℕ → Type 0
    ReadsNone k = (told_at told after k ≡ told_at told before k)
        ⊎ ForSettings words (λ t. OfBeam (told_at told before) t k
        (IsHeaderRead t k (told_at told before) (told_at told after)))

    pub leaves_data : (k : ℕ) (x : I) → k < n →
        LeavesData (told (get_or before k x)) (beam_name s k) (told (get_or after k x)) → ReadsNone k
    leaves_data k x below left = inr (for_said run (λ t. OfBeam (told_at told before) t k
        (IsHeaderRead t k (told_at told before) (told_at told after))) (left_at after k x below lent left))

    pub stands_still : (k : ℕ) → ((x : I) → get_or after k x ≡ get_or before k x) → ReadsNone k
    stands_still k same = inl (seen_still told nothing_told before after k lent same)

  -- ---- a header that cannot be read

  module _ {after : List I} where
    module _ (stop : Stop) (r : StopsReading told is_calm faults s before after stop) where
      pub all_read : AllRead told is_calm faults (reading_failed stop r.beam) before after
      all_read = record {
        lent = r.lent;
        each = λ k x. elim (cases_lt k r.beam) [
          | inl less ↦
              let not : reading_failed stop r.beam k → ⊥ = λ p. let same = p.0 in omega (arith, same, less) in
              retyped told is_calm faults ⊥ (reading_failed stop r.beam k) _ _ (λ e. absurd e) not
              (r.earlier k x less).read
          | inr over ↦ elim (cases_lt r.beam k) [
            | inl more ↦
                let not : reading_failed stop r.beam k → ⊥ = λ p. let same = p.0 in omega (arith, same, more) in
                stood told is_calm faults (reading_failed stop r.beam k) _ _ not (r.others k x more)
            | inr under ↦
                let same : r.beam ≡ k = omega (arith, over, under) in
                rw (sym same) (retyped told is_calm faults (stop ≡ ReadFault) (reading_failed stop r.beam r.beam) _ _
                (λ e. (refl, e)) (λ p. p.1) (r.fails x).read)
          ]
        ];
      }

      texts : HaveHeadersAt (told_at told before) s r.beam
      texts k less =
          let there = r.there in
          of_beam run k (omega (arith, less, there)) HasHeader (λ x. (r.earlier k x less).text)

      earlier_left : (k : ℕ) → k < r.beam → (x : I) →
          OfBeam (told_at told before) s k (IsHeaderRead s k (told_at told before) (told_at told after))
      earlier_left k less x =
          let there = r.there in
          left_at after k x (omega (arith, less, there)) r.lent (r.earlier k x less).left

    -- no data were read
    reading_none : (r : StopsReading told is_calm faults s before after Memory) → (k : ℕ) → ReadsNone after r.lent k
    reading_none r k = elim (cases_lt k r.beam) [
      | inl less ↦
          let there = r.there in
          let below : k < n = omega (arith, less, there) in
          let x = one_there run k below in
          leaves_data after r.lent k x below (r.earlier k x less).left
      | inr over ↦ elim (cases_lt r.beam k) [
        | inl more ↦ stands_still after r.lent k (λ x. r.others k x more)
        | inr under ↦
            let same : r.beam ≡ k = omega (arith, over, under) in
            let x = one_there run r.beam r.there in
            rw (sym same) (by_cause x ((r.fails x).unread refl))
      ]
    ]
      where
        by_cause : (x : I) → (told (get_or after r.beam x) ≡ told (get_or before r.beam x))
            ⊎ LeavesData (told (get_or before r.beam x)) (beam_name s r.beam) (told (get_or after r.beam x)) →
            ReadsNone after r.lent r.beam
        by_cause x (inl still) =
            let lent = r.lent in
            let within = inside run r.beam r.there in
            inl (seen_there told nothing_told after r.beam x (omega (arith, within, lent)) ∙ still
            ∙ sym (seen_there told nothing_told before r.beam x within))
        by_cause x (inr left) = leaves_data after r.lent r.beam x r.there left

    pub reading_ends : {out out' : SinkSeen} → out' ≡ out → (stop : Stop) →
        StopsReading told is_calm faults s before after stop →
        Leaves told is_calm faults words before after out out' (Some stop)
    reading_ends same (Header file (Text fault)) r =
        let said = (r.fails (one_there run r.beam r.there)).says in
        at_files run (all_read (Header file (Text fault)) r) same (Header file (Text fault)) (omega arith) (omega arith)
        (λ e. omega (arith, e)) (λ e. omega (arith, e)) (λ e. omega (arith, e)) (λ k p. let e = p.1 in cc)
        (rw said.0 (record {
          there = r.there;
          refused = of_beam run r.beam r.there (λ bytes. IsHeaderRefusal bytes fault) (λ y. (r.fails y).says.1);
          earlier = texts (Header file (Text fault)) r;
        }))
    reading_ends same Memory r =
        at_memory run (all_read Memory r) same (λ k p. let e = p.1 in cc) (reading_none r)
    reading_ends same ReadFault r =
        let there = r.there in
        let lent = r.lent in
        let within = inside run r.beam there in
        let x = one_there run r.beam there in
        at_fault run (all_read ReadFault r) same r.beam there (refl, refl)
        (λ k less p. let e = p.0 in omega (arith, e, less))
        (λ calm holds. (r.fails x).serves (calm_there is_calm before r.beam x within calm)
        (rw (seen_there told nothing_told before r.beam x within) at holds) refl)
        (texts ReadFault r)
        (inl (record {
          headers = texts ReadFault r;
          read = λ k less. earlier_left ReadFault r k less (one_there run k (omega (arith, less, there)));
          broke = λ file is.
              rw (
                seen_there told nothing_told before r.beam x within,
                seen_there told nothing_told after r.beam x (omega (arith, within, lent)),
              ) ((r.fails x).broke refl file (told_there run r.beam x there file is));
          others = λ k more. seen_still told nothing_told before after k lent (λ y. r.others k y more);
        }))
    reading_ends same stop r = absurd (r.fails (one_there run r.beam r.there)).says

  -- ---- all headers were read

  module _ (headers : ℕ → Option HeaderText) (are : AreHeaders told s n before headers) where
    -- the header of a beam is that of its file
    pub head : (k : ℕ) → k < n → (h : HeaderText) × (headers k ≡ Some h)
        × OfBeam (told_at told before) s k (λ file. header_of file ≡ Ok h)
    head k below =
        let h = some_of (headers k) (are.there k below) in (
          h.0,
          h.1,
          of_beam run k below (λ file. header_of file ≡ Ok h.0) (λ x. are.each k x h.0 below h.1),
        )

    pub all_heads : (count : ℕ) → count ≤ n → HaveHeadersAt (told_at told before) s count
    all_heads count few k below file at =
        let h = head k (omega (arith, below, few)) in
        (h.0, h.2 file at)

    -- by the header of a file, what stops a beam stops its file
    pub stops_by : (o : Observation) (k : ℕ) (stop : Option Stop) (h : HeaderText) → k < n → headers k ≡ Some h →
        later_stop k o h ≡ stop → OfBeam (told_at told before) s k (StopsByHeader o k stop)
    stops_by o k stop h below at is = of_beam run k below (StopsByHeader o k stop)
        (λ x file there. record { header = h; has = are.each k x h below at file there; stops = is })

    pub are_of_one : AcceptedByRows → (o : Observation) (count : ℕ) → count ≤ n → AreOfOne headers count o →
        AreOfOneAt (told_at told before) s count o
    are_of_one rows o count few one = record {
      first = λ file at.
          let h = head 0 run.some in
          let has = h.2 file at in
          let said = one.first h.0 h.1 in
          record {
            accepted = record { header = h.0; observation = o; is_header = has; is_observation = said };
            is = observation_is rows file h.0 o has said;
          };
      later = λ k pos less.
          let below : k < n = omega (arith, less, few) in
          let h = head k below in
          stops_by o k None h.0 below h.1 (one.later k h.0 pos less h.1);
    }

  -- ---- it was not opened

  module _ (rows : AcceptedByRows) {after : List I} {headers : ℕ → Option HeaderText}
      (read : ReadsAll told is_calm faults s before after headers) {out out' : SinkSeen} (same : out' ≡ out) where
    header_read_all : AllRead told is_calm faults (λ k. ⊥) before after
    header_read_all = record {
      lent = read.read.lent;
      each = λ k x. elim (cases_lt k n) [
        | inl less ↦ (read.read.each k x less).read
        | inr over ↦ stood told is_calm faults ⊥ _ _ (λ e. e) (read.read.others k x over)
      ];
    }

    abbrev LeftAt : Stop → Type 0
    LeftAt stop = Leaves told is_calm faults words before after out out' (Some stop)

    refused : (stop : Stop) → 3 ≤ status_of stop → status_of stop ≤ 9 → status_of stop ≢ 5 → status_of stop ≢ 6 →
        status_of stop ≢ 8 → SaysOfBeams (told_at told before) s stop → LeftAt stop
    refused stop least most five six eight is =
        at_files run header_read_all same stop least most five six eight (λ k e. e) is

    no_memory : LeftAt Memory
    no_memory = at_memory run header_read_all same (λ k e. e) (λ k. elim (cases_lt k n) [
      | inl less ↦
          let x = one_there run k less in
          leaves_data after read.read.lent k x less (read.read.each k x less).left
      | inr over ↦ stands_still after read.read.lent k (λ x. read.read.others k x over)
    ])

    all_texts : HaveHeadersAt (told_at told before) s n
    all_texts = all_heads headers read.are n (omega arith)

    zero_refused : (stop : Stop) → RefusesZero headers stop → LeftAt stop
    zero_refused stop r = subst LeftAt (sym r.is) (refused (Header 0 (Fields r.fault)) (omega arith) (omega arith)
        (λ e. omega (arith, e)) (λ e. omega (arith, e)) (λ e. omega (arith, e)) (inl (
          refl,
          record {
            texts = all_texts;
            refused = of_beam run 0 run.some (λ file. RefusesFields file r.fault) (λ x file at. record {
              header = r.header;
              has = read.are.each 0 x r.header run.some r.has file at;
              cause = r.cause;
            });
          },
        )))

    later_refused : (stop : Stop) (r : RefusesOne headers n stop) →
        RefusesLaterAt (told_at told before) s r.2.beam stop
    later_refused stop (o, first, r) =
        let there = r.there in
        record {
          texts = all_texts;
          there = r.there;
          later = λ file at. r.later;
          observation = o;
          earlier = are_of_one headers read.are rows o r.beam (omega (arith, there)) (record {
            first = first;
            later = λ k h pos less is. r.earlier k h pos less is;
          });
          refused = stops_by headers read.are o r.beam (Some stop) r.header r.there r.has r.refused;
        }

    one_refused : (stop : Stop) → RefusesOne headers n stop → LeftAt stop
    one_refused stop (o, first, r) = elim (later_kind r.beam o r.header stop r.refused) [
      | inl fields ↦
          subst LeftAt (sym fields.1) (refused (Header r.beam (Fields fields.0)) (omega arith) (omega arith)
          (λ e. omega (arith, e)) (λ e. omega (arith, e)) (λ e. omega (arith, e))
          (inr (rw fields.1 at (later_refused stop (o, first, r)))))
      | inr gap ↦
          subst LeftAt (sym gap.1) (refused (Gap r.beam o.obs_offset gap.0) (omega arith) (omega arith)
          (λ e. omega (arith, e)) (λ e. omega (arith, e)) (λ e. omega (arith, e))
          (rw gap.1 at (later_refused stop (o, first, r))))
    ]

    plan_refused : (stop : Stop) → RefusesTheirPlan s.search headers n stop → LeftAt stop
    plan_refused stop r = subst LeftAt (sym r.is) (refused (Plan r.cause) (omega arith) (omega arith)
        (λ e. omega (arith, e)) (λ e. omega (arith, e)) (λ e. omega (arith, e)) (record {
          observation = r.observation;
          accepted = are_of_one headers read.are rows r.observation n (omega arith) r.accepted;
          refused = r.refused;
        }))

    pub not_opened : (stop : Stop) → StopsJudging headers n stop ⊎ RefusesTheirPlan s.search headers n stop →
        LeftAt stop
    not_opened stop (inl (inl memory)) = subst LeftAt (sym memory) no_memory
    not_opened stop (inl (inr (inl zeroth))) = zero_refused stop zeroth
    not_opened stop (inl (inr (inr later))) = one_refused stop later
    not_opened stop (inr plan) = plan_refused stop plan

-- How the search of the observation of a number ends.
use Rattle.std.proofs.Common.{◌≡◌, ◌≢◌, ℕ, zero, suc, ◌+◌, ◌<◌, ◌≤◌, List, [], ◌∷◌, length, inl, Some, None, Contains, refl, sym, ap, ap₂, subst, ◌∙◌, arith, lit<, slice_index_or}
use Rattle.std.specs.Prelude.{Option, codes}
use Rattle.std.specs.Io.KnownBytes.{append_known}
use Rattle.std.proofs.lemmas.List.{append-nil}
use Rattle.clap.proofs.OnLiterals.{clap_on_literals}
use Rattle.psr_base.specs.Count.{CallCount}
use Rattle.psr_base.specs.InMemory.{free_room, sink_calls, told_where, room_told}
use Rattle.psr_base.specs.declared.mem_sink.MemSink.{MemSink}
use Rattle.psr_base.specs.Told.{Told, InputsSeen}
use Rattle.psr_base.specs.Made.{FilesSeen}
use Rattle.psr_base.specs.Written.{SinkSeen, Noted}
use Rattle.dada_model.specs.Number.{number_value}
use Rattle.dada_model.specs.ChangeLaws.{HeadersByFront}
use Rattle.dada_model.specs.Laws.{EdgesFall}
use Rattle.dada_model.specs.Observation.{Observation}
use Rattle.search_model.specs.CandidateLaws.{CandidatesAreListed}
use Rattle.search_model.specs.Plan.{plan_refusal}
use Rattle.search_model.specs.SampleLaws.{SamplesOfBytes}
use Rattle.search_model.specs.SubbandLaws.{SumsAreBounded}
use Rattle.search_words.specs.Settings.{SettingsSeen, SaySearch}
use Rattle.search_words.specs.Defaults.{default_settings}
use Rattle.stream_model.specs.Walk as walk
use Rattle.stream_model.specs.Walk.{FileStream, walk_stop, header_stop, data_between, data_of, file_at, begin_of}
use Rattle.stream_model.specs.WalkLaws.{AreWalked, IsAccepted, FirstFilesContinue, WholeExactly}
use Rattle.transfer_text.specs.Searched.{candidate_total, searched_text}
use Rattle.disk_feeder.specs.Plan.{AreTold}
use Rattle.run_outcome.specs.declared.ran.Ran.{Ran}
use Rattle.run_outcome.specs.declared.stop.Stop.{Stop}
use Rattle.run_outcome.specs.declared.stop.Stop.TheVariants as stop
use Rattle.run_outcome.specs.Texts.{status_of, note_of}
use Rattle.run_outcome.specs.Runs.{Searching, observed_transfers, first_observation, CanBegin, SaysOfFiles}
use Rattle.run_outcome.specs.Ends.{AcceptedGoesOn}
use Rattle.psr_search.specs.Outcome.{Outcome}
use Rattle.psr_make.specs.Made.{made_observation, made_data, made_file}
use Rattle.psr_demo.specs.Demo.{demo_spec, demo_search, demo_candidates, demo_text, EndsAt, TellsEnd, text_at, IsFound}
use Rattle.psr_demo.specs.Searching.{search_line}
use Rattle.psr_demo.proofs.MadeFile.{is_accepted, observed, holds}
use Rattle.psr_demo.proofs.MadeData.{data_length}
use Rattle.psr_demo.proofs.Pulses.{text_short}

-- ---- the words

abbrev settings : SettingsSeen
settings = record (default_settings demo_search (codes "demo" ∷ [])) { hands = 3 }

says : SaySearch search_line settings
unfolding number_value clap_on_literals
says = record { taken = refl; in_range = refl; values = refl }

-- ---- what is written

one_body : {xs ys : List ℕ} → Some xs ≡ Some ys → xs ≡ ys
one_body e = cc

none_more : (n : ℕ) → 0 + n ≡ n
none_more n = omega arith

-- ---- the file

module _ (by_front : HeadersByFront) (continues : FirstFilesContinue) (exactly : WholeExactly) (number : ℕ) where
  abbrev stream : FileStream
  stream = record { files = made_file (demo_spec number) ∷ []; starts = 0 ∷ []; max_bytes = 1099511627776 }

  within : (i : ℕ) → i < 1 → slice_index_or (0 ∷ []) i 1 < 1
  within zero below = lit< tt
  within (suc k) below = absurd (omega (arith, below))

  accepted : (transfer : ℕ) → transfer < 1 → IsAccepted (file_at stream (begin_of stream transfer))
  accepted zero below = is_accepted by_front number
  accepted (suc k) below = absurd (omega (arith, below))

  walked : AreWalked stream
  walked = record {
    starts = record {
      some = lit< tt;
      first = refl;
      rise = λ i below. absurd (omega (arith, below));
      within = within;
    };
    accepted = accepted;
  }

  no_header_stop : (k : ℕ) → k < 1 → header_stop stream k ≡ None
  no_header_stop zero below = continues stream 0 walked (lit< tt)
  no_header_stop (suc k) below = absurd (omega (arith, below))

  data_is : data_between (made_file (demo_spec number) ∷ []) 0 1 ≡ made_data (demo_spec number)
  unfolding data_between
  data_is = append-nil (data_of (made_file (demo_spec number))) ∙ holds by_front number

  whole : walk_stop stream ≡ walk.Whole
  whole = (exactly stream).1 (
    no_header_stop,
    (let size : length (data_between (made_file (demo_spec number) ∷ []) 0 1) ≡ 262144 =
        ap length data_is ∙ data_length number in omega (arith, size)),
  )

  transfers_are : observed_transfers stream
      ≡ record { observation = made_observation (demo_spec number); bytes = made_data (demo_spec number) } ∷ []
  transfers_are =
      let file = made_file (demo_spec number) in
      let o = made_observation (demo_spec number) in
      ap (λ (at : Observation). record { observation = at; bytes = data_between (file ∷ []) 0 1 } ∷ [])
      (observed by_front number)
      ∙ ap (λ (bytes : List ℕ). record { observation = o; bytes = bytes } ∷ []) data_is

  no_refusal : plan_refusal (made_observation (demo_spec number)) demo_search ≡ None
  no_refusal = refl

  searched : (k : ℕ) → k < 1 → plan_refusal (first_observation stream k) demo_search ≡ None
  searched zero below =
      subst (λ (o : Observation). plan_refusal o demo_search ≡ None) (sym (observed by_front number)) no_refusal
  searched (suc k) below = absurd (omega (arith, below))

  text_is : searched_text demo_search (observed_transfers stream) ≡ demo_text number
  unfolding demo_text
  text_is = ap (searched_text demo_search) transfers_are

  total_is : candidate_total demo_search (observed_transfers stream) ≡ length (demo_candidates number)
  unfolding demo_candidates
  total_is = ap (candidate_total demo_search) transfers_are ∙ none_more (length (demo_candidates number))

  -- the line at 5, and that at 9
  module _ (words : List (List ℕ)) (told : Told) (said : SaySearch words settings)
      (are : AreTold told settings.names (made_file (demo_spec number) ∷ [])) where
    line_at : (at : Stop) → SaysOfFiles Searching words told at →
        (status_of at ≡ 5 → note_of at ≡ note_of stop.Memory)
        × (status_of at ≡ 9 → note_of at ≡ note_of (stop.TooMany (length (demo_candidates number)) 100000))
    line_at stop.Words cause = (λ e. absurd (omega (arith, e)), λ e. absurd (omega (arith, e)))
    line_at (stop.Value opt) cause = (λ e. absurd (omega (arith, e)), λ e. absurd (omega (arith, e)))
    line_at (stop.Header file why) cause = (λ e. absurd (omega (arith, e)), λ e. absurd (omega (arith, e)))
    line_at (stop.Plan why) cause = (λ e. absurd (omega (arith, e)), λ e. absurd (omega (arith, e)))
    line_at (stop.Recording why) cause = (λ e. absurd (omega (arith, e)), λ e. absurd (omega (arith, e)))
    line_at stop.Memory cause = (λ e. refl, λ e. absurd (omega (arith, e)))
    line_at stop.ReadFault cause = (λ e. absurd (omega (arith, e)), λ e. absurd (omega (arith, e)))
    line_at (stop.Gap file expected found) cause = (λ e. absurd (omega (arith, e)), λ e. absurd (omega (arith, e)))
    line_at (stop.TooLong limit) cause = (λ e. absurd (omega (arith, e)), λ e. absurd (omega (arith, e)))
    line_at (stop.TooMany count limit) cause =
        let has = (cause settings (made_file (demo_spec number) ∷ []) said are).total in (
          λ e. absurd (omega (arith, e)),
          λ e. ap₂ (λ (a b : ℕ). note_of (stop.TooMany a b)) (sym has.0 ∙ total_is) has.1,
        )
    line_at stop.SinkFault cause = (λ e. absurd (omega (arith, e)), λ e. absurd (omega (arith, e)))
    line_at stop.FileFault cause = (λ e. absurd (omega (arith, e)), λ e. absurd (omega (arith, e)))

  begins : CanBegin Searching settings stream
  begins = record {
    accepted = walked;
    searched = searched;
    recorded = λ records. absurd cc;
  }

-- ---- the outcome

module _ (by_front : HeadersByFront) (continues : FirstFilesContinue) (exactly : WholeExactly)
    (listed : CandidatesAreListed) (samples : SamplesOfBytes) (bounded : SumsAreBounded) (fall : EdgesFall)
    (number : ℕ) (is_calm : Type 0) (calm : is_calm) (goes_on : AcceptedGoesOn is_calm) (inputs : InputsSeen)
    (files_before files_after : FilesSeen) (out_before out_after notes_before notes_after : SinkSeen) (ran : Ran)
    (words : List (List ℕ)) (line : words ≡ search_line)
    (o : Outcome words inputs is_calm files_before files_after out_before out_after notes_before notes_after ran)
    (known : inputs.told.bytes_under (codes "demo") ≡ Some (made_file (demo_spec number)))
    (room : out_before.room ≡ Some 8388608) where
  abbrev w : FileStream
  w = stream by_front continues exactly number

  said : SaySearch words settings
  said = subst (λ (xs : List (List ℕ)). SaySearch xs settings) (sym line) says

  abbrev files : List (List ℕ)
  files = made_file (demo_spec number) ∷ []

  there : (k : ℕ) → k < 1 →
      inputs.told.bytes_under (slice_index_or (codes "demo" ∷ []) k []) ≡ Some (slice_index_or files k [])
  there zero below = known
  there (suc k) below = absurd (omega (arith, below))

  are : AreTold inputs.told settings.names files
  are = record { count = refl; each = there }

  -- nothing stands against it
  others : ¬ Contains (2 ∷ 3 ∷ 4 ∷ 6 ∷ 7 ∷ 8 ∷ []) ran.status
  others = goes_on Searching words inputs ran.blocks ran.status o.judged o.read o.stopped settings files said are
      (begins by_front continues exactly number) (whole by_front continues exactly number) (inl calm)

  not_eleven : ran.status ≢ 11
  not_eleven e = (o.recorded.unrecorded settings said refl).1 e

  -- what is said of the data at an end
  few_of : candidate_total demo_search (observed_transfers w) ≤ 100000 →
      length (demo_candidates number) ≤ 100000
  few_of few = subst (λ n. n ≤ 100000) (total_is by_front continues exactly number) few

  not_ten : ran.status ≢ 10
  not_ten e =
      let r = o.written.front e settings files said are in
      let short = r.1.short 8388608 room in
      let long = subst (λ (text : List ℕ). 8388608 < length text) (text_is by_front continues exactly number) short in
      let most = text_short number samples listed fall bounded (few_of r.0.total) in
      omega (arith, long, most)

  known_of : Contains (0 ∷ 2 ∷ 3 ∷ 4 ∷ 5 ∷ 6 ∷ 7 ∷ 8 ∷ 9 ∷ 10 ∷ 11 ∷ []) ran.status →
      Contains (0 ∷ 5 ∷ 9 ∷ []) ran.status
  known_of (zero, below, is) = (0, lit< tt, is)
  known_of (suc zero, below, is) = absurd (others (0, lit< tt, is))
  known_of (suc (suc zero), below, is) = absurd (others (1, lit< tt, is))
  known_of (suc (suc (suc zero)), below, is) = absurd (others (2, lit< tt, is))
  known_of (suc (suc (suc (suc zero))), below, is) = (1, lit< tt, is)
  known_of (suc (suc (suc (suc (suc zero)))), below, is) = absurd (others (3, lit< tt, is))
  known_of (suc (suc (suc (suc (suc (suc zero))))), below, is) = absurd (others (4, lit< tt, is))
  known_of (suc (suc (suc (suc (suc (suc (suc zero)))))), below, is) = absurd (others (5, lit< tt, is))
  known_of (suc (suc (suc (suc (suc (suc (suc (suc zero))))))), below, is) = (2, lit< tt, is)
  known_of (suc (suc (suc (suc (suc (suc (suc (suc (suc zero)))))))), below, is) = absurd (not_ten (sym is))
  known_of (suc (suc (suc (suc (suc (suc (suc (suc (suc (suc zero))))))))), below, is) = absurd (not_eleven (sym is))
  known_of (suc (suc (suc (suc (suc (suc (suc (suc (suc (suc (suc k)))))))))), below, is) =
      absurd (omega (arith, below))

  ends : EndsAt number ran.status
  ends = record {
    known = known_of o.known;
    few = λ e. few_of (o.written.text e settings files said are).0.total;
    many = λ e. subst (λ n. 100000 < n) (total_is by_front continues exactly number)
        (o.too_many e settings files said are).total;
  }

  -- what was written
  whole_text : (body : List ℕ) → out_before.written ≡ Some [] → out_after.written ≡ Some body → ran.status ≡ 0 →
      body ≡ demo_text number
  whole_text body before after e =
      let wrote = (o.written.text e settings files said are).1.written in
      one_body (sym after ∙ wrote ∙ ap (λ (known : Option (List ℕ)). append_known known (searched_text demo_search
      (observed_transfers w))) before)
      ∙ text_is by_front continues exactly number

  no_text : (body : List ℕ) → out_before.written ≡ Some [] → out_after.written ≡ Some body → ran.status ≢ 0 →
      ran.status ≢ 10 → ran.status ≢ 11 → body ≡ []
  no_text body before after other written recorded =
      let still = o.written.untouched other written recorded in
      one_body (sym after ∙ ap (λ (seen : SinkSeen). seen.written) still ∙ before)

  text_of : (status : ℕ) (body : List ℕ) → (status ≡ 0 → body ≡ demo_text number) → (status ≢ 0 → body ≡ []) →
      Contains (0 ∷ 5 ∷ 9 ∷ []) status → body ≡ text_at number status
  text_of status body some none (zero, below, is) =
      subst (λ n. body ≡ text_at number n) is (some (sym is))
  text_of status body some none (suc zero, below, is) =
      subst (λ n. body ≡ text_at number n) is (none (λ e. omega (arith, is, e)))
  text_of status body some none (suc (suc zero), below, is) =
      subst (λ n. body ≡ text_at number n) is (none (λ e. omega (arith, is, e)))
  text_of status body some none (suc (suc (suc k)), below, is) = absurd (omega (arith, below))

  text : (body : List ℕ) → out_before.written ≡ Some [] → out_after.written ≡ Some body →
      body ≡ text_at number ran.status
  text body before after = text_of ran.status body (whole_text body before after)
      (λ other. no_text body before after other not_ten not_eleven) ends.known

  -- what was said
  told : TellsEnd number ran.status notes_before notes_after
  told = record {
    silent = o.noted.silent;
    memory = λ e. let n = o.noted.noted (λ f. omega (arith, e, f)) in
        subst (λ (line : List ℕ). Noted line notes_before notes_after)
        ((line_at by_front continues exactly number words inputs.told said are n.stop n.cause).0
        (sym n.answered ∙ e))
        n.line;
    many = λ e. let n = o.noted.noted (λ f. omega (arith, e, f)) in
        subst (λ (line : List ℕ). Noted line notes_before notes_after)
        ((line_at by_front continues exactly number words inputs.told said are n.stop n.cause).1
        (sym n.answered ∙ e))
        n.line;
  }

  pub found : (body : List ℕ) → out_before.written ≡ Some [] → out_after.written ≡ Some body →
      IsFound number ran.status body notes_before notes_after
  found body before after = record { ends = ends; text = text body before after; told = told }

-- ---- a sink in memory

-- the room of one whose calls don't fail is told
pub room_of : (sink : MemSink) → sink_calls sink ≡ record { fail = []; number = 0; faults = 0 } →
    free_room sink ≡ 8388608 → room_told sink ≡ Some 8388608
room_of sink calls room =
    subst (λ (fail : List ℕ). told_where fail (free_room sink) ≡ Some 8388608)
    (sym (ap (λ (count : CallCount). count.fail) calls)) (ap Some room)

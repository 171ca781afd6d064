-- The end of a search.
use Rattle.std.proofs.Common.{◌≡◌, ℕ, ◌≤◌, ◌<◌, ◌++◌, ◌&&◌, Bool, true, false, cond, leb, List, [], ◌∷◌, get_or, refl, sym, ◌∙◌, ap, subst, append-nil, arith, Ok, Err, Result}
use Rattle.std.specs.Prelude.{All, filter, nat_lt}
use Rattle.std.proofs.lemmas.Bool.{lt-ltb}
use Rattle.std.proofs.lemmas.Bool.Decides.{nat_tests}
use Rattle.std.proofs.lemmas.List.Elements.{All-head, All-nil, All-tail, Contains-get_or}
use Rattle.dada_model.specs.Observation.{Observation, edges}
use Rattle.psr_base.specs.Written.{SinkSeen, Wrote, WroteAll, WroteFront}
use Rattle.search_model.specs.declared.candidate.Candidate.{Candidate}
use Rattle.search_model.specs.declared.candidate.Candidate.TheVariants.{Pulse, Fold}
use Rattle.search_model.specs.declared.search.Search.{Search}
use Rattle.search_model.specs.Candidates.{plain_cells, shard_part}
use Rattle.search_model.specs.CandidateLaws.{CandidatesAreListed, IsCandidate}
use Rattle.search_model.specs.Observed.{candidates_of, filterbank_of, labels_of}
use Rattle.search_model.specs.Parts.{check_line, ends_within, first_needed, within_part}
use Rattle.candidate_book.specs.Book.{BookContents, book_of}
use Rattle.candidate_book.specs.Conditions.{IsSearched}
use Rattle.search_engine.specs.Engine.{EngineState, HasFoundIn}
use Rattle.search_engine.specs.Scope.{Scope, scope_of_part}
use Rattle.warm_restart.specs.Counts.{greatest_count}
use Rattle.warm_restart.specs.LastLine.{last_line}
use Rattle.warm_restart.specs.declared.checkpoint.Checkpoint.{Checkpoint}
use Rattle.live_search.specs.LiveText.{Layout, after_parts, counted, end_mark, layout_of, live_text, next_end, printed, pulse_lines, stopped_text, text_so_far}
use Rattle.live_search.specs.Live.{HasEnded, Task, last_count, last_pulses, settings_of, so_far}
use Rattle.live_search.specs.Used.{UsedLaws}
use Rattle.live_search.specs.declared.live.LiveSearch.{LiveSearch}
use Rattle.live_search.proofs.Counts.{at_later}
use Rattle.live_search.proofs.Lasting.{count_left, last_part, lines_left, stopped_first, stopped_last, whole_text}
use Rattle.live_search.proofs.Reaching.{few_spectra, one_part}
use Rattle.live_search.proofs.Searched.{kept_searched}
use Rattle.live_search.proofs.Texts.{so_standing, state_text}

-- ---- all candidates end within the data

keeps_same : (p q : Candidate → Bool) (xs : List Candidate) → All (λ x. p x ≡ q x) xs → filter p xs ≡ filter q xs
keeps_same p q [] same = refl
keeps_same p q (x ∷ xs) same =
    ap (λ b. cond b (x ∷ filter p xs) (filter p xs)) (All-head (λ x. p x ≡ q x) x xs same)
    ∙ ap (λ ys. cond (q x) (x ∷ ys) ys) (keeps_same p q xs (All-tail (λ x. p x ≡ q x) x xs same))

module _ (listed : CandidatesAreListed) (o : Observation) (s : Search) (bytes : List ℕ) (place until : ℕ)
    (late : (filterbank_of o bytes).spectra ≤ until) where
  abbrev spectra : ℕ
  spectra = (filterbank_of o bytes).spectra

  ends_same : (c : Candidate) → IsCandidate (filterbank_of o bytes) (edges o) (plain_cells o.channels) s c →
      ends_within place until c ≡ ends_within place spectra c
  ends_same (Pulse end d w sum) is =
      let within = is.ends in
      ap (λ b. leb place end && b)
      (lt-ltb end until (omega (arith, within, late)) ∙ sym (lt-ltb end spectra (omega (arith, within))))
  ends_same (Fold d p m j q sum) is = refl

  pub all_end : within_part place until (candidates_of o s bytes) ≡ within_part place spectra (candidates_of o s bytes)
  all_end = keeps_same (ends_within place until) (ends_within place spectra) (candidates_of o s bytes)
      (λ k d small.
      let c = get_or (candidates_of o s bytes) k d in
      ends_same c ((listed (filterbank_of o bytes) (edges o) (plain_cells o.channels) s c).0
      (Contains-get_or (candidates_of o s bytes) k d small)))

-- END stands where all spectra came
pub end_is : (spectra pulses : ℕ) → last_line spectra spectra pulses ≡ end_mark spectra pulses
end_is spectra pulses =
    let no : nat_lt spectra spectra ≡ false = grind (arith, nat_tests) in
    ap (λ b. cond b (check_line spectra pulses) (end_mark spectra pulses)) no

-- ---- a search whose data ended

module _ (laws : UsedLaws) {o : Observation} {t : Task} {bytes : List ℕ} {w now : LiveSearch} {spectra : ℕ}
    (ended : HasEnded o t bytes w now spectra) where
  abbrev pub layout : Layout
  layout = layout_of o t.search t.every

  abbrev pub some : 1 ≤ layout.every
  some = ended.was.task.every.some

  abbrev n : ℕ
  n = ended.was.parts

  abbrev pub list : List Candidate
  list = candidates_of o t.search bytes

  abbrev at : Checkpoint
  at = after_parts layout t.from list n

  abbrev e : EngineState
  e = now.engine

  spectra_is : spectra ≡ (filterbank_of o bytes).spectra
  spectra_is = ended.count ∙ ended.found.all

  is_at : w.from ≡ at
  is_at = ended.was.at [] (All-nil (λ byte. byte < 256))
      ∙ ap (λ xs. after_parts layout t.from (candidates_of o t.search xs) n) (append-nil bytes)

  -- what stands of its place
  abbrev Stands : Checkpoint → Type 0
  Stands c = (spectra < next_end t.every c.place) × (w.due ≡ true → (spectra ≡ c.place) × (1 ≤ n))
      × (w.due ≡ false → 1 ≤ n → c.place < spectra)

  stands : Stands at
  stands =
      let placed = ended.was.placed in
      let until = placed.until in
      let before = placed.before in
      let is = spectra_is in
      let due : w.due ≡ true → (spectra ≡ w.from.place) × (1 ≤ n) =
      λ on. let old = placed.due on in (is ∙ old.0, old.1) in
      let past : w.due ≡ false → 1 ≤ n → w.from.place < spectra =
      λ off more. let old = placed.past off more in omega (arith, is, old) in
      subst Stands is_at (omega (arith, until, before, is), due, past)

  was_text : so_far o t bytes bytes ≡ state_text layout t.from list n w.due
  was_text =
      let is = spectra_is in
      ap (λ k. text_so_far layout t.from k list) (sym is)
      ∙ so_standing layout some t.from list n spectra w.due stands.0 stands.1 stands.2

  place_later : t.from.place ≤ w.from.place
  place_later =
      let later = at_later layout some t.from list n in
      let place = ap (λ (c : Checkpoint). c.place) is_at in
      omega (arith, later, place)

  -- the pulses of the last part
  abbrev pub part : List Candidate
  part = within_part w.from.place spectra list

  few : (filterbank_of o bytes).spectra ≤ greatest_count
  few = few_spectra laws ended.was.task ended.was.searches ended.was.fed

  book_is : e.book ≡ book_of t.search.max_candidates part
  book_is =
      let s = ended.was.searches in
      let early = s.begins.early in
      let search : e.search ≡ settings_of t.search = ended.same.search ∙ s.search in
      let shard : e.shard ≡ 0 = ended.same.shard ∙ s.shard in
      let Off : Search → Type 0 = λ x. x.fold_max < x.fold_min in
      let first : s.first ≡ first_needed e.search s.begins.needed =
      s.begins.is ∙ ap (λ (x : Search). first_needed x s.begins.needed) (sym search) in
      let scope = ended.scope ∙ s.scope
      ∙ ap (λ k. scope_of_part o.channels k w.from.place greatest_count) first in
      let later = place_later in
      laws.found.ended o bytes bytes w.engine e s.begins.needed w.from.place greatest_count
      (subst Off (sym search) ended.was.task.unfolded) (omega (arith, early, later)) ended.was.fed ended.same
      (subst (λ (x : Scope). HasFoundIn o x bytes e) scope ended.found)
      ∙ ap (λ (x : Search). book_of x.max_candidates (shard_part x e.shard
      (within_part w.from.place greatest_count (candidates_of o x bytes)))) search
      ∙ ap (λ k. book_of t.search.max_candidates (shard_part (settings_of t.search) k
      (within_part w.from.place greatest_count (candidates_of o (settings_of t.search) bytes)))) shard
      ∙ ap (book_of t.search.max_candidates) (one_part laws.one o t.search w.from.place greatest_count bytes)
      ∙ ap (book_of t.search.max_candidates) (all_end laws.listed o t.search bytes w.from.place greatest_count few)
      ∙ ap (λ k. book_of t.search.max_candidates (within_part w.from.place k list)) (sym spectra_is)

  limit_is : e.book.limit ≡ t.search.max_candidates
  limit_is = ap (λ (b : BookContents). b.limit) book_is

  pub own_book : e.book ≡ book_of e.book.limit part
  own_book = book_is ∙ ap (λ k. book_of k part) (sym limit_is)

  pub searched : All IsSearched e.book.kept
  searched = kept_searched laws.listed o t.search bytes ended.was.task.range e.book t.search.max_candidates w.from.place
      spectra book_is

  -- what is written last
  lines_are : last_pulses o now spectra part ≡ lines_left layout some t.from list w.due n spectra
  lines_are =
      ap (λ x. last_pulses o x spectra part) ended.state
      ∙ ap (λ k. cond w.due [] (pulse_lines (labels_of o) k spectra part)) limit_is
      ∙ ap (λ (c : Checkpoint). cond w.due [] (pulse_lines (labels_of o)
      t.search.max_candidates spectra (within_part c.place spectra list))) is_at

  count_is : last_count now part ≡ count_left layout some t.from list w.due n spectra
  count_is =
      ap (λ x. last_count x part) ended.state
      ∙ ap (λ k. cond w.due w.from.pulses (counted w.from.pulses
      (printed k part))) limit_is
      ∙ ap (λ (c : Checkpoint). cond w.due c.pulses (counted c.pulses
      (printed t.search.max_candidates (within_part c.place spectra list)))) is_at

  last_is : (mark : ℕ → ℕ → List ℕ) → so_far o t bytes bytes
      ++ (last_pulses o now spectra part ++ mark spectra (last_count now part))
      ≡ whole_text layout some t.from list mark spectra
  last_is mark =
      ap (λ xs. xs ++ (last_pulses o now spectra part ++ mark spectra (last_count now part))) was_text
      ∙ ap (λ xs. state_text layout t.from list n w.due ++ (xs ++ mark spectra (last_count now part))) lines_are
      ∙ ap (λ k. state_text layout t.from list n w.due
      ++ (lines_left layout some t.from list w.due n spectra ++ mark spectra k)) count_is
      ∙ last_part layout some t.from list mark n spectra w.due stands.0 stands.1 stands.2

  -- ---- written

  pub last_wrote : (mark : ℕ → ℕ → List ℕ) (start old middle new : SinkSeen) →
      WroteAll (so_far o t bytes bytes) start old → WroteAll (last_pulses o now spectra part) old middle →
      WroteAll (mark spectra (last_count now part)) middle new →
      WroteAll (whole_text layout some t.from list mark spectra) start new
  last_wrote mark start old middle new text lines line =
      subst (λ xs. WroteAll xs start new) (last_is mark)
      (laws.join.joins _ _ start old new text (laws.join.joins _ _ old middle new lines line))

  pub last_broke : (mark : ℕ → ℕ → List ℕ) (start old middle new : SinkSeen) →
      WroteAll (so_far o t bytes bytes) start old → WroteAll (last_pulses o now spectra part) old middle →
      WroteFront (mark spectra (last_count now part)) middle new →
      WroteFront (whole_text layout some t.from list mark spectra) start new
  last_broke mark start old middle new text lines line =
      subst (λ xs. WroteFront xs start new) (last_is mark)
      (laws.join.stops _ _ start old new text (laws.join.stops _ _ old middle new lines line))

  pub lines_broke : (mark : ℕ → ℕ → List ℕ) (start old new : SinkSeen) →
      WroteAll (so_far o t bytes bytes) start old → WroteFront (last_pulses o now spectra part) old new →
      WroteFront (whole_text layout some t.from list mark spectra) start new
  lines_broke mark start old new text lines =
      subst (λ xs. WroteFront xs start new) (last_is mark)
      (laws.join.stops _ _ start old new text (laws.join.breaks_off _ _ old new lines))

  -- ---- data that stopped

  -- its place, and whether its CHECK line is due, as they were
  was_due : now.due ≡ w.due
  was_due = ap (λ (x : LiveSearch). x.due) ended.state

  was_place : now.from.place ≡ w.from.place
  was_place = ap (λ (x : LiveSearch). x.from.place) ended.state

  pub stops_last : (now.due ≡ false → now.from.place < spectra) → whole_text layout some t.from list check_line spectra
      ≡ stopped_text layout t.from (filterbank_of o bytes).spectra list
  stops_last past =
      let place = ap (λ (c : Checkpoint). c.place) is_at in
      stopped_last layout some t.from list n spectra w.due stands.0 stands.1
      (λ off. let more = past (was_due ∙ off) in omega (arith, more, place, was_place))
      ∙ ap (λ k. stopped_text layout t.from k list) spectra_is

  pub stops_first : now.due ≡ false → spectra ≤ now.from.place →
      so_far o t bytes bytes ≡ stopped_text layout t.from (filterbank_of o bytes).spectra list
  stops_first off early =
      let place = ap (λ (c : Checkpoint). c.place) is_at in
      let was_off = sym was_due ∙ off in
      was_text ∙ ap (state_text layout t.from list n) was_off
      ∙ stopped_first layout some t.from list n spectra (omega (arith, early, place, was_place)) (stands.2 was_off)
      stands.0
      ∙ ap (λ k. stopped_text layout t.from k list) spectra_is

  -- ---- the answers of the last calls

  whole_is : whole_text layout some t.from list end_mark spectra
      ≡ live_text o t.search t.every t.from bytes
  whole_is = ap (λ k. whole_text layout some t.from list end_mark k) spectra_is

  pub finish_ok : {T E : Type 0} (pulses : ℕ) (start old middle new : SinkSeen) (r : Result T E) →
      pulses ≡ last_count now part → WroteAll (so_far o t bytes bytes) start old →
      WroteAll (last_pulses o now spectra part) old middle →
      Wrote (last_line spectra spectra pulses) middle new r →
      Wrote (live_text o t.search t.every t.from bytes) start new r
  finish_ok pulses start old middle new (Ok x) is text lines line = record {
    all = subst (λ xs. WroteAll xs start new) whole_is
        (last_wrote end_mark start old middle new text lines
        (subst (λ k. WroteAll (end_mark spectra k) middle new) is
        (subst (λ xs. WroteAll xs middle new) (end_is spectra pulses) line.all)));
    front = tt;
  }
  finish_ok pulses start old middle new (Err e) is text lines line = record {
    all = tt;
    front = subst (λ xs. WroteFront xs start new) whole_is
        (last_broke end_mark start old middle new text lines
        (subst (λ k. WroteFront (end_mark spectra k) middle new) is
        (subst (λ xs. WroteFront xs middle new) (end_is spectra pulses) line.front)));
  }

  pub finish_err : {T E : Type 0} (e : E) (start old new : SinkSeen) → WroteAll (so_far o t bytes bytes) start old →
      WroteFront (last_pulses o now spectra part) old new →
      Wrote {T = T} {E = E} (live_text o t.search t.every t.from bytes) start new (Err e)
  finish_err e start old new text lines = record {
    all = tt;
    front = subst (λ xs. WroteFront xs start new) whole_is (lines_broke end_mark start old new text lines);
  }

  abbrev pub stopped : List ℕ
  stopped = stopped_text layout t.from (filterbank_of o bytes).spectra list

  pub stop_ok : {T E : Type 0} (pulses : ℕ) (start old middle new : SinkSeen) (r : Result T E) →
      (now.due ≡ false → now.from.place < spectra) →
      pulses ≡ last_count now part → WroteAll (so_far o t bytes bytes) start old →
      WroteAll (last_pulses o now spectra part) old middle → Wrote (check_line spectra pulses) middle new r →
      Wrote stopped start new r
  stop_ok pulses start old middle new (Ok x) past is text lines line = record {
    all = subst (λ xs. WroteAll xs start new) (stops_last past)
        (last_wrote check_line start old middle new text lines
        (subst (λ k. WroteAll (check_line spectra k) middle new) is line.all));
    front = tt;
  }
  stop_ok pulses start old middle new (Err e) past is text lines line = record {
    all = tt;
    front = subst (λ xs. WroteFront xs start new) (stops_last past)
        (last_broke check_line start old middle new text lines
        (subst (λ k. WroteFront (check_line spectra k) middle new) is line.front));
  }

  pub stop_err : {T E : Type 0} (e : E) (start old new : SinkSeen) → (now.due ≡ false → now.from.place < spectra) →
      WroteAll (so_far o t bytes bytes) start old → WroteFront (last_pulses o now spectra part) old new →
      Wrote {T = T} {E = E} stopped start new (Err e)
  stop_err e start old new past text lines = record {
    all = tt;
    front = subst (λ xs. WroteFront xs start new) (stops_last past) (lines_broke check_line start old new text lines);
  }

  pub stop_none : {T E : Type 0} (x : T) (start old : SinkSeen) → now.due ≡ false → spectra ≤ now.from.place →
      WroteAll (so_far o t bytes bytes) start old → Wrote {T = T} {E = E} stopped start old (Ok x)
  stop_none x start old off early text = record {
    all = subst (λ xs. WroteAll xs start old) (stops_first off early) text;
    front = tt;
  }

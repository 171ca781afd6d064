-- A step of a search, from what its calls left.
use Rattle.std.proofs.Common.{◌≡◌, ℕ, ◌+◌, ◌*◌, ◌^◌, ◌≤◌, ◌<◌, ◌++◌, false, List, [], length, take, drop, sym, ◌∙◌, ap, subst, append_assoc, length-append, length-take-le, arith, Fits, w8, get_or}
use Rattle.std.specs.Prelude.{All}
use Rattle.std.proofs.lemmas.List.{take-append-drop}
use Rattle.std.proofs.lemmas.List.Elements.{All-append, All-drop, All-from_get_or, All-nil}
use Rattle.dada_model.specs.Observation.{Observation}
use Rattle.psr_base.specs.Written.{SinkSeen, WroteAll, WroteFront}
use Rattle.search_model.specs.declared.candidate.Candidate.{Candidate}
use Rattle.search_model.specs.Observed.{filterbank_of, labels_of}
use Rattle.candidate_book.specs.Book.{BookContents, book_of}
use Rattle.candidate_book.specs.Conditions.{IsSearched}
use Rattle.search_engine.specs.Engine.{HoldsNoFullChunk, SameShard, StandsForPart, most_fed, scope_of, searched_to}
use Rattle.live_search.specs.LiveText.{printed, pulse_lines}
use Rattle.live_search.specs.Live.{BrokeOff, Came, HasBegun, Task, WasFed, WroteOn, after_line, due_line, so_far}
use Rattle.live_search.specs.Used.{UsedLaws}
use Rattle.live_search.specs.declared.live.LiveSearch.{LiveSearch}
use Rattle.live_search.proofs.Searched.{kept_searched}
use Rattle.live_search.proofs.Sizes.{bytes_before_end, spectra_within}
use Rattle.live_search.proofs.Steps.{after, amid_was, amid_wrote, book_has, due_broke, early_if, end_broke, end_was, end_wrote, here_if, part}

pub bytes_are : (bytes : List ℕ) → ((i : ℕ) → Fits w8 (get_or bytes i 0)) → All (λ b. b < 256) bytes
bytes_are bytes fits = All-from_get_or (λ b. b < 256) bytes 0 (λ i _. let fit = fits i in omega (arith, fit))

pub came_of : (o : Observation) (t : Task) (before bytes : List ℕ) (w new : LiveSearch) (count : ℕ) →
    new ≡ record w { engine = new.engine } → SameShard new.engine w.engine → scope_of new.engine ≡ scope_of w.engine →
    new.engine.has_ended ≡ false → HoldsNoFullChunk new.engine →
    (StandsForPart o before w.engine → StandsForPart o (before ++ take count bytes) new.engine) →
    (w.engine.fed < 2 ^ 63 → w.engine.fed < w.until * w.spectrum → w.engine.fed + count ≤ w.until * w.spectrum) →
    count ≤ length bytes → w.engine.fed + length bytes ≤ most_fed → All (λ byte. byte < 256) bytes →
    WasFed o t before w → Came o t before bytes count w new
came_of o t before bytes w new count state same scope running full stands within most few numbers was =
    let piece : List ℕ = take count bytes in
    let bounds = was.fed.chunks.holds.searches.bounds in
    let fed = was.fed.count in
    let Size : ℕ → Type 0 = λ z. w.engine.fed < w.until * z → w.engine.fed + count ≤ w.until * z in
    let room = subst Size was.size (within (omega (arith, few))) in
    let early = bytes_before_end o before w.until bounds was.placed.before in
    let past = room (omega (arith, early, fed)) in
    let long = length-append before piece in
    let some = length-take-le count bytes most in
    record {
      was = was;
      state = state;
      same = same;
      scope = scope;
      running = running;
      stands = stands was.fed;
      full = full;
      within = spectra_within o (before ++ piece) w.until bounds (omega (arith, long, some, past, fed));
      most = most;
      numbers = numbers;
    }

module _ (laws : UsedLaws) {o : Observation} {t : Task} {before bytes : List ℕ} {count : ℕ} {w mid : LiveSearch}
    (came : Came o t before bytes count w mid) where
  abbrev piece : List ℕ
  piece = take count bytes

  abbrev have : ℕ
  have = (filterbank_of o (before ++ piece)).spectra

  abbrev rest : List ℕ → List ℕ
  rest more = drop count bytes ++ more

  rest_is : (more : List ℕ) → before ++ piece ++ rest more ≡ before ++ bytes ++ more
  rest_is more =
      append_assoc before piece (rest more)
      ∙ ap (λ xs. before ++ xs) (sym (append_assoc piece (drop count bytes) more))
      ∙ ap (λ xs. before ++ (xs ++ more)) (take-append-drop count bytes)
      ∙ sym (append_assoc before bytes more)

  rest_numbers : (more : List ℕ) → All (λ byte. byte < 256) more → All (λ byte. byte < 256) (rest more)
  rest_numbers more all = All-append (λ byte. byte < 256) (drop count bytes) more
      (All-drop (λ byte. byte < 256) count bytes came.numbers) all

  -- the front of a text of all bytes
  broke : (old new : SinkSeen) →
      ((more : List ℕ) (start : SinkSeen) → All (λ byte. byte < 256) more →
      WroteAll (so_far o t (before ++ piece ++ more) before) start old →
      WroteFront (so_far o t (before ++ piece ++ more) (before ++ piece)) start new) →
      BrokeOff o t before bytes old new
  broke old new front = λ more start all wrote. (
    count,
    came.most,
    subst (λ xs. WroteFront (so_far o t xs (before ++ piece)) start new) (rest_is more)
        (front (rest more) start (rest_numbers more all)
        (subst (λ xs. WroteAll (so_far o t xs before) start old) (sym (rest_is more)) wrote)),
  )

  -- the CHECK line is due as it was before the bytes were taken
  line_is : (spectra : ℕ) → spectra ≡ have → due_line spectra mid ≡ due_line have w
  line_is spectra is = ap (λ n. due_line n mid) is ∙ ap (due_line have) came.state

  pub due_breaks : {spectra : ℕ} → spectra ≡ have → (old new : SinkSeen) → WroteFront (due_line spectra mid) old new →
      BrokeOff o t before bytes old new
  due_breaks is old new line = broke old new (λ more start all wrote.
      due_broke laws came more all start old new wrote (subst (λ xs. WroteFront xs old new) (line_is _ is) line))

  module _ {spectra : ℕ} {now : LiveSearch} (is : spectra ≡ have) (state : now ≡ after_line spectra mid) where
    now_is : now ≡ after laws came
    now_is = state ∙ ap (λ n. after_line n mid) is ∙ ap (after_line have) came.state

    line_was : (old new : SinkSeen) → WroteAll (due_line spectra mid) old new → WroteAll (due_line have w) old new
    line_was old new line = subst (λ xs. WroteAll xs old new) (line_is spectra is) line

    early_is : searched_to now.engine < now.until → have < w.until
    early_is early =
        let P : LiveSearch → Type 0 = λ x. searched_to x.engine < x.until in early_if laws came (subst P now_is early)

    here_is : now.until ≤ searched_to now.engine → have ≡ w.until
    here_is late =
        let P : LiveSearch → Type 0 = λ x. x.until ≤ searched_to x.engine in here_if laws came (subst P now_is late)

    pub amid_stands : searched_to now.engine < now.until → WasFed o t (before ++ piece) now
    amid_stands early = subst (λ x. WasFed o t (before ++ piece) x) (sym now_is) (amid_was laws came (early_is early))

    pub amid_writes : searched_to now.engine < now.until → (old new : SinkSeen) →
        WroteAll (due_line spectra mid) old new → WroteOn o t before piece old new
    amid_writes early old new line = λ more start all wrote.
        amid_wrote laws came more all start old new (early_is early) wrote (line_was old new line)

    -- ---- where the part ends

    module _ (late : now.until ≤ searched_to now.engine) {b : BookContents} (book : b ≡ now.engine.book) where
      book_at : (more : List ℕ) (all : All (λ byte. byte < 256) more) →
          b ≡ book_of t.search.max_candidates (part laws came more all)
      book_at more all =
          book ∙ ap (λ (x : LiveSearch). x.engine.book) now_is ∙ book_has laws came more all (here_is late)

      limit_at : b.limit ≡ t.search.max_candidates
      limit_at = ap (λ (x : BookContents). x.limit) (book_at (rest []) (rest_numbers [] (All-nil (λ byte. byte < 256))))

      own_book : (more : List ℕ) (all : All (λ byte. byte < 256) more) → b ≡ book_of b.limit (part laws came more all)
      own_book more all = book_at more all ∙ ap (λ n. book_of n (part laws came more all)) (sym limit_at)

      -- the lines of the part's pulses
      lines_at : (more : List ℕ) (all : All (λ byte. byte < 256) more) →
          pulse_lines (labels_of o) b.limit now.until (part laws came more all)
          ≡ pulse_lines (labels_of o) t.search.max_candidates w.until (part laws came more all)
      lines_at more all =
          ap (λ n. pulse_lines (labels_of o) n now.until (part laws came more all)) limit_at
          ∙ ap (λ (x : LiveSearch). pulse_lines (labels_of o) t.search.max_candidates x.until (part laws came more all))
          now_is

      pub end_searched : All IsSearched b.kept
      end_searched = kept_searched laws.listed o t.search _ came.was.task.range b t.search.max_candidates _ _
          (book_at [] (All-nil (λ byte. byte < 256)))

      pub end_writes : (old middle new : SinkSeen) → WroteAll (due_line spectra mid) old middle →
          ((xs : List Candidate) → b ≡ book_of b.limit xs →
          WroteAll (pulse_lines (labels_of o) b.limit now.until xs) middle new) →
          WroteOn o t before piece old new
      end_writes old middle new line lines = λ more start all wrote.
          end_wrote laws came more all start old middle new (here_is late) wrote (line_was old middle line)
          (subst (λ xs. WroteAll xs middle new) (lines_at more all)
          (lines (part laws came more all) (own_book more all)))

      pub end_breaks : (old middle new : SinkSeen) → WroteAll (due_line spectra mid) old middle →
          ((xs : List Candidate) → b ≡ book_of b.limit xs →
          WroteFront (pulse_lines (labels_of o) b.limit now.until xs) middle new) →
          BrokeOff o t before bytes old new
      end_breaks old middle new line lines = broke old new (λ more start all wrote.
          end_broke laws came more all start old middle new (here_is late) wrote (line_was old middle line)
          (subst (λ xs. WroteFront xs middle new) (lines_at more all)
          (lines (part laws came more all) (own_book more all))))

      pub end_stands : (pulses : ℕ) (new : LiveSearch) → HasBegun pulses now new →
          ((xs : List Candidate) → b ≡ book_of b.limit xs → pulses ≡ printed b.limit xs) →
          WasFed o t (before ++ piece) new
      end_stands pulses new begun count =
          end_was laws came pulses new (subst (λ x. HasBegun pulses x new) now_is begun)
          (λ more all. count (part laws came more all) (own_book more all)
          ∙ ap (λ n. printed n (part laws came more all)) limit_at)
          (here_is late)

-- What a step of a search leaves, and what it writes.
use Rattle.std.proofs.Common.{◌≡◌, ℕ, suc, ◌+◌, ◌*◌, ◌/◌, ◌≤◌, ◌<◌, ◌++◌, ◌⊎◌, ◌&&◌, inl, inr, Bool, true, false, cond, not, List, [], max, take, refl, sym, ◌∙◌, ap, subst, append-nil, append_assoc, length-append, arith}
use Rattle.std.specs.Prelude.{All, nat_lt}
use Rattle.std.proofs.lemmas.Bool.{cases_lt, lt-ltb}
use Rattle.std.proofs.lemmas.List.Elements.{All-append, All-nil, All-take}
use Rattle.dada_model.specs.Observation.{Observation}
use Rattle.psr_base.specs.Written.{SinkSeen, WroteAll, WroteFront}
use Rattle.search_model.specs.declared.candidate.Candidate.{Candidate}
use Rattle.search_model.specs.Observed.{candidates_of, filterbank_of, labels_of}
use Rattle.search_model.specs.Parts.{check_line, within_part}
use Rattle.candidate_book.specs.Book.{book_of}
use Rattle.search_engine.specs.Engine.{EngineState, searched_to}
use Rattle.search_engine.specs.Scope.{scope_from, scope_of_part}
use Rattle.spectra_rows.specs.Unpacking.{Unpacking}
use Rattle.warm_restart.specs.Counts.{greatest_count}
use Rattle.warm_restart.specs.declared.checkpoint.Checkpoint.{Checkpoint}
use Rattle.live_search.specs.LiveText.{Layout, after_parts, counted, layout_of, lines_at, next_after, next_end, part_at, printed, pulse_lines}
use Rattle.live_search.specs.Live.{AreSteps, Came, HasBegun, SearchesFrom, Task, WasFed, due_line, so_far}
use Rattle.live_search.specs.declared.live.LiveSearch.{LiveSearch}
use Rattle.live_search.specs.Used.{UsedLaws}
use Rattle.live_search.proofs.Counts.{at_later, at_next, next_past, whole}
use Rattle.live_search.proofs.Reaching.{book_is, end_steps, few_spectra, reaches, stays_before}
use Rattle.live_search.proofs.Sizes.{spectra_grow}
use Rattle.live_search.proofs.Texts.{check_more, ending, lines_more, so_standing, state_text}

-- ---- a line that is due

still : (b c : Bool) → b && not (b && c) ≡ true → (b ≡ true) × (c ≡ false)
still true false is = (refl, refl)
still true true is = absurd (let other : false ≡ true = is in cc)
still false c is = absurd (let other : false ≡ true = is in cc)

gone : (b c : Bool) → b && not (b && c) ≡ false → (b ≡ false) ⊎ (c ≡ true)
gone true true is = inr refl
gone true false is = absurd (let other : true ≡ false = is in cc)
gone false c is = inl refl

not_less : (a b : ℕ) → nat_lt a b ≡ false → b ≤ a
not_less a b is = elim (cases_lt a b) [
  | inl less ↦ absurd (let other : true ≡ false = sym (lt-ltb a b less) ∙ is in cc)
  | inr more ↦ more
]

less_if : (a b : ℕ) → nat_lt a b ≡ true → a < b
less_if a b is = Rattle.std.proofs.lemmas.Bool.ltb-true a b is

due_more : (l : Layout) (some : 1 ≤ l.every) (from : Checkpoint) (list : List Candidate) (n : ℕ) (b c : Bool)
    (at : Checkpoint) → at ≡ after_parts l from list n → (b ≡ true → 1 ≤ n) →
    state_text l from list n b ++ cond (b && c) (check_line at.place at.pulses) []
    ≡ state_text l from list n (b && not (b && c))
due_more l some from list n true true at is more =
    ap (λ (x : Checkpoint). state_text l from list n true ++ check_line x.place x.pulses) is
    ∙ check_more l some from list n (more refl)
due_more l some from list n true false at is more = append-nil (state_text l from list n true)
due_more l some from list n false c at is more = append-nil (state_text l from list n false)

-- ---- the engine took the next bytes

module _ (laws : UsedLaws) {o : Observation} {t : Task} {before bytes : List ℕ} {count : ℕ} {w mid : LiveSearch}
    (came : Came o t before bytes count w mid) where
  abbrev pub piece : List ℕ
  piece = take count bytes

  abbrev e : EngineState
  e = mid.engine

  abbrev pub layout : Layout
  layout = layout_of o t.search t.every

  abbrev some : 1 ≤ layout.every
  some = came.was.task.every.some

  abbrev pub n : ℕ
  n = came.was.parts

  -- how many spectra had come, and how many have
  abbrev pub had : ℕ
  had = (filterbank_of o before).spectra

  abbrev pub have : ℕ
  have = (filterbank_of o (before ++ piece)).spectra

  abbrev due : Bool
  due = w.due && not (w.due && nat_lt w.from.place have)

  -- the search once the line that was due is written
  abbrev pub after : LiveSearch
  after = record w { engine = e; due = due }

  grows : had ≤ have
  grows =
      let long = length-append before piece in
      spectra_grow o before (before ++ piece) came.stands.chunks.holds.searches.bounds (omega (arith, long))

  searches : SearchesFrom o t w.from.place e
  searches =
      let s = came.was.searches in
      record {
        search = came.same.search ∙ s.search;
        shard = came.same.shard ∙ s.shard;
        running = came.running;
        first = s.first;
        begins = s.begins;
        scope = came.scope ∙ s.scope;
      }

  until_is : w.until ≡ next_end t.every w.from.place
  until_is = came.was.placed.until

  place_before : w.from.place < w.until
  place_before =
      let past = next_past t.every w.from.place some in
      let is = until_is in
      omega (arith, past, is)

  -- the checkpoint, whatever data follow
  at_is : (more : List ℕ) → All (λ byte. byte < 256) more →
      w.from ≡ after_parts layout t.from (candidates_of o t.search (before ++ piece ++ more)) n
  at_is more numbers =
      came.was.at (piece ++ more)
      (All-append (λ byte. byte < 256) piece more (All-take (λ byte. byte < 256) count bytes came.numbers) numbers)
      ∙ ap (λ xs. after_parts layout t.from (candidates_of o t.search xs) n) (sym (append_assoc before piece more))

  place_later : t.from.place ≤ w.from.place
  place_later =
      let list = candidates_of o t.search (before ++ []) in
      let is = came.was.at [] (All-nil (λ byte. byte < 256)) in
      let later = at_later layout some t.from list n in
      let place = ap (λ (c : Checkpoint). c.place) is in
      omega (arith, later, place)

  until_steps : AreSteps w.until
  until_steps = subst AreSteps (sym until_is) (end_steps t.every w.from.place came.was.task.every.even)

  few_have : have ≤ greatest_count
  few_have = few_spectra laws came.was.task searches came.stands

  reach : have ≡ w.until → searched_to e ≡ w.until
  reach here =
      let later = place_later in
      let past = place_before in
      reaches laws came.was.task searches came.stands came.full
      w.until until_steps (omega (arith, later, past)) here

  pub early_if : searched_to e < w.until → have < w.until
  early_if early = elim (cases_lt have w.until) [
    | inl less ↦ less
    | inr more ↦
        let within = came.within in
        let all = reach (omega (arith, within, more)) in absurd (omega (arith, all, early))
  ]

  pub here_if : w.until ≤ searched_to e → have ≡ w.until
  here_if late = elim (cases_lt have w.until) [
    | inl less ↦
        let later = place_later in
        let past = place_before in
        let early = stays_before laws came.was.task searches came.stands
        came.full w.until (omega (arith, later, past)) less in absurd (omega (arith, early, late))
    | inr more ↦ let within = came.within in omega (arith, within, more)
  ]

  -- ---- amid the part

  pub amid_was : have < w.until → WasFed o t (before ++ piece) after
  amid_was early = record {
    task = came.was.task;
    every = came.was.every;
    size = came.was.size;
    searches = searches;
    fed = came.stands;
    full = came.full;
    parts = n;
    placed = record {
      until = until_is;
      before = early;
      due = λ is.
          let on = still w.due (nat_lt w.from.place have) is in
          let old = came.was.placed.due on.0 in
          let late = not_less w.from.place have on.1 in
          let more = grows in
          (omega (arith, old, late, more), old.1);
      past = λ is more. elim (gone w.due (nat_lt w.from.place have) is) [
        | inl off ↦ let old = came.was.placed.past off more in
            let later = grows in omega (arith, old, later)
        | inr on ↦ less_if w.from.place have on
      ];
    };
    at = λ more numbers. at_is more numbers;
  }

  module _ (more : List ℕ) (numbers : All (λ byte. byte < 256) more) where
    abbrev pub list : List Candidate
    list = candidates_of o t.search (before ++ piece ++ more)

    abbrev pub at : Checkpoint
    at = after_parts layout t.from list n

    is_at : w.from ≡ at
    is_at = at_is more numbers

    -- the text that was written, and with the line that was due
    was_text : so_far o t (before ++ piece ++ more) before ≡ state_text layout t.from list n w.due
    was_text =
        let P : Checkpoint → Type 0 = λ c. (had < next_end t.every c.place)
        × (w.due ≡ true → (had ≡ c.place) × (1 ≤ n)) × (w.due ≡ false → 1 ≤ n → c.place < had) in
        let old = came.was.placed in
        let ends = until_is in
        let early = old.before in
        let now : P at = subst P is_at (omega (arith, ends, early), old.due, old.past) in
        so_standing layout some t.from list n had w.due now.0 now.1 now.2

    due_text : state_text layout t.from list n w.due ++ due_line have w ≡ state_text layout t.from list n due
    due_text = due_more layout some t.from list n w.due (nat_lt w.from.place have) w.from is_at
        (λ on. (came.was.placed.due on).1)

    pub amid_text : have < w.until →
        so_far o t (before ++ piece ++ more) (before ++ piece) ≡ state_text layout t.from list n due
    unfolding amid_was
    amid_text early =
        let P : Checkpoint → Type 0 = λ c. (have < next_end t.every c.place)
        × (due ≡ true → (have ≡ c.place) × (1 ≤ n)) × (due ≡ false → 1 ≤ n → c.place < have) in
        let new = (amid_was early).placed in
        let ends = until_is in
        let now : P at = subst P is_at (omega (arith, ends, early), new.due, new.past) in
        so_standing layout some t.from list n have due now.0 now.1 now.2

    -- ---- where the part ends

    none_due : have ≡ w.until → due ≡ false
    none_due here =
        let past = place_before in
        let on = lt-ltb w.from.place have (omega (arith, past, here)) in
        let off : (b c : Bool) → c ≡ true → b && not (b && c) ≡ false = off_if in
        off w.due (nat_lt w.from.place have) on
      where
        off_if : (b c : Bool) → c ≡ true → b && not (b && c) ≡ false
        off_if true true is = refl
        off_if true false is = absurd (let other : false ≡ true = is in cc)
        off_if false c is = refl

    -- the pulses of the part
    abbrev pub part : List Candidate
    part = part_at layout at list

    pub book_has : have ≡ w.until → e.book ≡ book_of t.search.max_candidates part
    book_has here =
        let later = place_later in
        let all = reach here in
        let few = few_have in
        book_is laws came.was.task searches came.stands
        (omega (arith, all, here, few)) more numbers later
        ∙ ap (λ p. book_of t.search.max_candidates (within_part w.from.place p list)) (all ∙ until_is)
        ∙ ap (λ (c : Checkpoint). book_of t.search.max_candidates (part_at layout c list)) is_at

    pub lines_are : have ≡ w.until → pulse_lines (labels_of o) t.search.max_candidates w.until part
        ≡ lines_at layout at list
    lines_are here = ap (λ u. pulse_lines (labels_of o) t.search.max_candidates u part)
        (until_is ∙ ap (λ (c : Checkpoint). next_end t.every c.place) is_at)

    pub end_text : have ≡ w.until →
        so_far o t (before ++ piece ++ more) (before ++ piece) ≡ state_text layout t.from list (suc n) true
    end_text here =
        let P : Checkpoint → Type 0 = λ c. (have ≡ next_end t.every c.place) × (c.place < have) in
        let ends = until_is in
        let past = place_before in
        let now : P at = subst P is_at (omega (arith, ends, here), omega (arith, past, here)) in
        ending layout some t.from list n have (λ more. now.1) now.0

    -- ---- what is written

    wrote_due : (start old new : SinkSeen) →
        WroteAll (so_far o t (before ++ piece ++ more) before) start old → WroteAll (due_line have w) old new →
        WroteAll (state_text layout t.from list n due) start new
    wrote_due start old new text line =
        subst (λ xs. WroteAll xs start new) due_text
        (laws.join.joins _ _ start old new (subst (λ xs. WroteAll xs start old) was_text text) line)

    pub amid_wrote : (start old new : SinkSeen) → have < w.until →
        WroteAll (so_far o t (before ++ piece ++ more) before) start old → WroteAll (due_line have w) old new →
        WroteAll (so_far o t (before ++ piece ++ more) (before ++ piece)) start new
    amid_wrote start old new early text line =
        subst (λ xs. WroteAll xs start new) (sym (amid_text early)) (wrote_due start old new text line)

    -- the text once the part ended, of that with the line that was due
    ended_text : have ≡ w.until → state_text layout t.from list n due
        ++ pulse_lines (labels_of o) t.search.max_candidates w.until part
        ≡ so_far o t (before ++ piece ++ more) (before ++ piece)
    ended_text here =
        ap (λ b. state_text layout t.from list n b ++ pulse_lines (labels_of o) t.search.max_candidates w.until part)
        (none_due here)
        ∙ ap (λ xs. state_text layout t.from list n false ++ xs) (lines_are here)
        ∙ lines_more layout some t.from list n ∙ sym (end_text here)

    pub end_wrote : (start old middle new : SinkSeen) → have ≡ w.until →
        WroteAll (so_far o t (before ++ piece ++ more) before) start old → WroteAll (due_line have w) old middle →
        WroteAll (pulse_lines (labels_of o) t.search.max_candidates w.until part) middle new →
        WroteAll (so_far o t (before ++ piece ++ more) (before ++ piece)) start new
    end_wrote start old middle new here text line lines =
        subst (λ xs. WroteAll xs start new) (ended_text here)
        (laws.join.joins _ _ start middle new (wrote_due start old middle text line) lines)

    pub end_broke : (start old middle new : SinkSeen) → have ≡ w.until →
        WroteAll (so_far o t (before ++ piece ++ more) before) start old → WroteAll (due_line have w) old middle →
        WroteFront (pulse_lines (labels_of o) t.search.max_candidates w.until part) middle new →
        WroteFront (so_far o t (before ++ piece ++ more) (before ++ piece)) start new
    end_broke start old middle new here text line lines =
        subst (λ xs. WroteFront xs start new) (ended_text here)
        (laws.join.stops _ _ start middle new (wrote_due start old middle text line) lines)

    pub due_broke : (start old new : SinkSeen) →
        WroteAll (so_far o t (before ++ piece ++ more) before) start old → WroteFront (due_line have w) old new →
        WroteFront (so_far o t (before ++ piece ++ more) (before ++ piece)) start new
    due_broke start old new text line =
        let front = subst (λ xs. WroteFront xs start new) due_text
        (laws.join.stops _ _ start old new (subst (λ xs. WroteAll xs start old) was_text text) line) in
        elim (cases_lt have w.until) [
          | inl early ↦ subst (λ xs. WroteFront xs start new) (sym (amid_text early)) front
          | inr late ↦
              let within = came.within in
              subst (λ xs. WroteFront xs start new) (ended_text (omega (arith, within, late)))
              (laws.join.breaks_off _ _ start new front)
        ]

  -- ---- the next part

  checkpoint : ℕ → ℕ → Checkpoint
  checkpoint place pulses = record { place = place; pulses = pulses }

  same_checkpoint : (c d : Checkpoint) → c.place ≡ d.place → c.pulses ≡ d.pulses → c ≡ d
  unfolding checkpoint
  same_checkpoint c d place pulses =
      ap (λ p. checkpoint p c.pulses) place ∙ ap (λ p. checkpoint d.place p) pulses

  pub end_was : (pulses : ℕ) (new : LiveSearch) → HasBegun pulses after new →
      ((more : List ℕ) (numbers : All (λ byte. byte < 256) more) →
      pulses ≡ printed t.search.max_candidates (part more numbers)) →
      have ≡ w.until → WasFed o t (before ++ piece) new
  end_was pulses new begun count here =
      let every = came.was.every in
      let past = place_before in
      let few = few_have in
      let all = reach here in
      let task = came.was.task in
      let most = task.every.most in
      let least = task.every.some in
      let k : ℕ = w.from.place / t.every + 1 in
      let ends = until_is in
      let next : next_end t.every w.until ≡ w.until + t.every =
      ap (λ p. next_end t.every p) ends ∙ ap (λ q. (q + 1) * t.every) (whole t.every k some)
      ∙ (let sum : (k + 1) * t.every ≡ k * t.every + t.every = omega arith in sum)
      ∙ ap (λ p. p + t.every) (sym ends) in
      let until = begun.until in
      let after : new.until ≡ w.until + t.every = omega (arith, until, every, few, here, most) in
      record {
        task = task;
        every = begun.every ∙ every;
        size = begun.size ∙ came.was.size;
        searches = record {
          search = begun.same.search ∙ searches.search;
          shard = begun.same.shard ∙ searches.shard;
          running = begun.running ∙ came.running;
          first = searches.first;
          begins = searches.begins;
          scope = begun.scope ∙ ap (scope_from (searched_to e)) searches.scope
              ∙ ap (λ p. scope_of_part o.channels searches.first p greatest_count)
              (let later : max w.from.place (searched_to e) ≡ w.until = omega (arith, past, all) in
              later ∙ sym begun.place);
        };
        fed = begun.stands o (before ++ piece) came.stands;
        full = subst (λ (u : Unpacking). u.whole < u.chunk) (sym begun.unpacker) came.full;
        parts = suc n;
        placed = record {
          until = after ∙ sym next ∙ ap (λ p. next_end t.every p) (sym begun.place);
          before = omega (arith, after, here, least);
          due = λ on. (here ∙ sym begun.place, omega arith);
          past = λ off. absurd (let other : true ≡ false = sym begun.due ∙ off in cc);
        };
        at = λ more numbers.
            let at_now = is_at more numbers in
            same_checkpoint new.from (next_after layout (at more numbers) (list more numbers))
            (begun.place ∙ ends ∙ ap (λ (c : Checkpoint). next_end t.every c.place) at_now)
            (begun.pulses_are ∙ ap (λ k. counted w.from.pulses k) (count more numbers)
            ∙ ap (λ (c : Checkpoint). counted c.pulses (printed t.search.max_candidates (part more numbers))) at_now)
            ∙ sym (at_next layout some t.from (list more numbers) n);
      }

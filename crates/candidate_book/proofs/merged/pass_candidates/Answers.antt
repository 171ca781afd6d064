use Rattle.std.proofs.Common.{◌≡◌, ℕ, ◌+◌, ◌-◌, ◌*◌, ◌^◌, ◌<◌, ◌≤◌, List, [], ◌∷◌, ◌++◌, length, get_or, set, refl, sym, ap, subst, ◌∙◌, arith, length-set}
use Rattle.std.specs.Prelude.{All}
use Rattle.std.proofs.lemmas.List.Elements.{All-replicate}
use Rattle.std.proofs.lemmas.Result.{err_from_is_err_and}
use Rattle.psr_base.specs.Written.{WroteFront}
use Rattle.search_model.specs.declared.candidate.Candidate.{Candidate}
use Rattle.search_model.specs.CandidateText.{candidate_line, candidate_lines}
use Rattle.candidate_book.specs.Labelled.{labels_with}
use Rattle.candidate_book.specs.Lines.{Pending}
use Rattle.candidate_book.specs.Merged.{AreTotals}
use Rattle.candidate_book.proofs.Merging.{next_is_found, none_left, found_is_searched, all_left}
use Rattle.candidate_book.proofs.Passing.{PassedOn, nothing_passed, one_passed, line_failed, all_passed, one_kind}
use Rattle.candidate_book.proofs.Places.{sum_of, sum_moves, sum_is_small, moves_within, begins_at}
use Rattle.candidate_book.proofs.merged.pass_candidates.Goals as goal

falls : (before after moved n : ℕ) → after ≡ before + 1 → after ≡ moved → n ≡ 7 → moved ≤ n * 2 ^ 32 →
    7 * 2 ^ 32 - after < 7 * 2 ^ 32 - before
falls before after moved n more same seven small =
    let most : moved ≤ 7 * 2 ^ 32 = subst (λ k. moved ≤ k * 2 ^ 32) seven small in
    omega arith

pub loop-next-init : goal.loop-next-init
loop-next-init g c = record {
  asked = c.at-asked.ensures.word;
  seven = refl;
  fits = All-replicate (λ (place : ℕ). place ≤ 2 ^ 32) 7 0 (omega arith);
  counted = omega (arith, c.none-totals.ensures.pulses, c.none-totals.ensures.folds);
  passed = λ merged merge.
      let seen = g.K.Sink.seen c.args.sink.now in
      let labels = labels_with c.args.obs.now (g.L.LineLabels.cells_of_delay c.args.labels.now)
      (g.L.LineLabels.word_at c.args.labels.now) in
      let places : List ℕ = 0 ∷ 0 ∷ 0 ∷ 0 ∷ 0 ∷ 0 ∷ 0 ∷ [] in
      subst (λ page. PassedOn labels c.args.books.now places c.none-totals.result page seen seen merged)
      (sym c.requires.page)
      (nothing_passed labels c.args.books.now places c.none-totals.result seen merged
      c.pieces_join.ensures.pieces
      (record { pulses = c.none-totals.ensures.pulses; folds = c.none-totals.ensures.folds })
      (all_left c.args.books.now places merged (begins_at 7) merge));
}

pub advance-requires : goal.advance-requires
advance-requires g c =
    let found = c.in-Some.next in
    record {
      within = omega (arith, c.in-Some.ensures.first.within, c.requires.books.few);
      fits = c.in-Some.ensures.bound found refl;
    }

pub count-requires : goal.count-requires
count-requires g c =
    let before = c.loop-next.invariant in
    omega (arith, before.counted, before.seven, sum_is_small c.loop-next.places (2 ^ 32) before.fits)

pub candidate_line-requires-clause-searched : goal.candidate_line-requires-clause-searched
candidate_line-requires-clause-searched g c =
    found_is_searched c.args.books.now c.requires.books c.loop-next.places c.in-Some.next c.in-Some.ensures.first

pub loop-next-smaller : goal.loop-next-smaller
loop-next-smaller g c =
    let before = c.loop-next.invariant in
    let places = c.loop-next.places in
    let book = c.in-Some.next.book in
    let within : book < length places =
    omega (arith, c.in-Some.ensures.first.within, c.requires.books.few, before.seven) in
    let moves : c.advance.new.places ≡ set places book (get_or places book 0 + 1) = c.advance.ensures in
    let fits = moves_within places book (2 ^ 32) before.fits (c.in-Some.ensures.bound c.in-Some.next refl) in
    let small = sum_is_small (set places book (get_or places book 0 + 1)) (2 ^ 32) fits in
    let long : length (set places book (get_or places book 0 + 1)) ≡ 7 = simp length-set before.seven in
    let sum : sum_of c.advance.new.places ≡ sum_of places + 1 = ap sum_of moves ∙ sum_moves places book within in
    let same : sum_of c.advance.new.places ≡ sum_of (set places book (get_or places book 0 + 1)) = ap sum_of moves in
    falls (sum_of places) (sum_of c.advance.new.places) (sum_of (set places book (get_or places book 0 + 1)))
    (length (set places book (get_or places book 0 + 1))) sum same long small

pub loop-next-preserved : goal.loop-next-preserved
loop-next-preserved g c =
    let before = c.loop-next.invariant in
    let books = c.args.books.now in
    let places = c.loop-next.places in
    let found = c.in-Some.next in
    let first = c.in-Some.ensures.first in
    let labels = labels_with c.args.obs.now (g.L.LineLabels.cells_of_delay c.args.labels.now)
    (g.L.LineLabels.word_at c.args.labels.now) in
    let old = g.K.Sink.seen c.args.sink.now in
    let moves : c.advance.new.places ≡ set places found.book (get_or places found.book 0 + 1) = c.advance.ensures in
    let within : found.book < length places = omega (arith, first.within, c.requires.books.few, before.seven) in
    let sum : sum_of c.advance.new.places ≡ sum_of places + 1 = ap sum_of moves ∙ sum_moves places found.book within in
    let line : c.as_bytes.result.now ≡ candidate_line labels found.candidate =
    c.as_bytes.ensures ∙ c.candidate_line.ensures.text in
    let room : length books ≤ length places = omega (arith, c.requires.books.few, before.seven) in
    record {
      asked = c.of-word.ensures.asked;
      seven = c.type_inv.places;
      fits = subst (All (λ place. place ≤ 2 ^ 32)) (sym moves)
          (moves_within places found.book (2 ^ 32) before.fits (c.in-Some.ensures.bound found refl));
      counted = omega (arith, c.count.ensures.pulses, c.count.ensures.folds, before.counted, one_kind found.candidate);
      passed = λ merged merge.
          let far = before.passed merged merge in
          let step = next_is_found books c.order_is_strict.ensures c.requires.books places
          c.advance.new.places found first moves room
          far.left far.merges in
          let is : merged ≡ far.done ++ found.candidate ∷ step.0 =
          far.splits ∙ ap (λ (xs : List Candidate). far.done ++ xs) step.1 in
          let passed = (c.in_ok-push.ensures (candidate_lines labels far.done) old far.lines).pending in
          one_passed labels books c.advance.new.places c.loop-next.totals c.count.new.self c.push.new.self old
          (g.K.Sink.seen c.push.new.sink) far.done found.candidate step.0 merged is far.counted
          c.count.ensures.pulses c.count.ensures.folds
          (subst (λ text. Pending (candidate_lines labels far.done ++ text) c.push.new.self old
          (g.K.Sink.seen c.push.new.sink))
          line passed)
          step.2;
    }

pub returns-in_err-push : goal.returns-in_err-push
returns-in_err-push g c =
    let before = c.loop-next.invariant in
    let books = c.args.books.now in
    let places = c.loop-next.places in
    let found = c.in-Some.next in
    let labels = labels_with c.args.obs.now (g.L.LineLabels.cells_of_delay c.args.labels.now)
    (g.L.LineLabels.word_at c.args.labels.now) in
    let old = g.K.Sink.seen c.args.sink.now in
    let moves : c.advance.new.places ≡ set places found.book (get_or places found.book 0 + 1) = c.advance.ensures in
    let line : c.as_bytes.result.now ≡ candidate_line labels found.candidate =
    c.as_bytes.ensures ∙ c.candidate_line.ensures.text in
    let room : length books ≤ length places = omega (arith, c.requires.books.few, before.seven) in
    let p = err_from_is_err_and c.from_residual.result c.from_residual.ensures.1 in
    rw p.1 (λ merged merge.
    let far = before.passed merged merge in
    let step = next_is_found books c.order_is_strict.ensures c.requires.books places
    c.advance.new.places found c.in-Some.ensures.first moves
    room far.left far.merges in
    let is : merged ≡ far.done ++ found.candidate ∷ step.0 =
    far.splits ∙ ap (λ (xs : List Candidate). far.done ++ xs) step.1 in
    let front = (c.in_err-push.ensures (candidate_lines labels far.done) old far.lines).front in
    record {
      lines = record {
        pending = tt;
        front = line_failed labels old (g.K.Sink.seen c.push.new.sink) far.done found.candidate step.0 merged
            c.pieces_join.ensures.pieces is
            (subst (λ text. WroteFront (candidate_lines labels far.done ++ text) old
            (g.K.Sink.seen c.push.new.sink)) line
            front);
      };
      totals = tt;
    })

pub returns : goal.returns
returns g c =
    let before = c.loop-next.invariant in
    let labels = labels_with c.args.obs.now (g.L.LineLabels.cells_of_delay c.args.labels.now)
    (g.L.LineLabels.word_at c.args.labels.now) in
    λ merged merge.
    let far = before.passed merged merge in
    let none = none_left c.args.books.now c.loop-next.places far.left far.merges c.in_default.ensures.first in
    let all = all_passed labels far.done far.left merged far.splits none in
    record {
      lines = record {
        pending = subst (λ list. Pending (candidate_lines labels list) c.loop-next.page (g.K.Sink.seen c.args.sink.now)
            (g.K.Sink.seen c.loop-next.sink)) all far.lines;
        front = tt;
      };
      totals = subst (λ list. AreTotals list c.loop-next.totals) all far.counted;
    }

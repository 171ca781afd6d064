use Rattle.std.proofs.Common.{◌≡◌, ◌<◌, ℕ, inl, inr, List, [], None, map, length, get_or, slice_get, sym, ap, subst, ◌∙◌, arith, rules}
use Rattle.std.specs.Prelude.{IsSome}
use Rattle.std.proofs.lemmas.Bool.{cases_lt}
use Rattle.std.proofs.lemmas.List.{get_or_read, get_or-map, length-map}
use Rattle.std.proofs.lemmas.Option.{slice_get-get_or, same_Some}
use Rattle.candidate_book.specs.Conditions.{CanBeMerged}
use Rattle.book_bench.proofs.checks.can_be_written.Goals as goal

-- within a list the default does not count
any_default : {X : Type 0} (xs : List X) (k : ℕ) (d e : X) → k < length xs → get_or xs k d ≡ get_or xs k e
any_default xs k d e within =
    same_Some (get_or xs k d) (get_or xs k e) (sym (slice_get-get_or xs k d within) ∙ slice_get-get_or xs k e within)

pub loop-k-preserved : goal.loop-k-preserved
loop-k-preserved c =
    let k = c.loop-k.k in
    let inside : k < length c.args.observations.now =
    omega (arith, c.loop-k-test.true, c.if-observations-books.false) in
    let some : IsSome c.index-observations-k.result = search rules in
    let read = get_or_read c.args.observations.now k c.index-observations-k.result inside
    c.index-observations-k.is None in
    let can : CanBeMerged c.as_slice.result.now = search rules in
    let held : get_or (map (λ shards. shards.items) c.args.books.now) k [] ≡ c.as_slice.result.now =
    get_or-map (λ shards. shards.items) c.args.books.now k c.index-books-k.result [] c.loop-k-test.true
    ∙ ap (λ shards. shards.items) (sym c.index-books-k.is) ∙ sym c.as_slice.ensures.value in
    record {
      there = λ j within. elim (cases_lt j k) [
        | inl below ↦ c.loop-k.invariant.there j below
        | inr above ↦
            let same : k ≡ j = omega (arith, within, above) in
            subst (λ i. IsSome (get_or c.args.observations.now i None)) same (subst IsSome read some)
      ];
      mergeable = λ j within. elim (cases_lt j k) [
        | inl below ↦ c.loop-k.invariant.mergeable j below
        | inr above ↦
            let same : k ≡ j = omega (arith, within, above) in
            subst (λ i. CanBeMerged (get_or (map (λ shards. shards.items) c.args.books.now) i [])) same
            (subst CanBeMerged (sym held) can)
      ];
    }

pub returns : goal.returns
returns c = λ yes.
    let long = length-map c.args.books.now (λ shards. shards.items) in
    record {
      observed = omega (arith, long, c.if-observations-books.false);
      counted = omega (arith, long, c.if-spectra-books.false);
      there = λ k d within.
          subst IsSome (any_default c.args.observations.now k None d within)
          (c.loop-k.invariant.there k (omega (arith, within, c.if-observations-books.false, c.loop-k-test.false)));
      mergeable = λ k d within.
          subst CanBeMerged (any_default (map (λ shards. shards.items) c.args.books.now) k [] d within)
          (c.loop-k.invariant.mergeable k (omega (arith, within, long, c.loop-k-test.false)));
    }

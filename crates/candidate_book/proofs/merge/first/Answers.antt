use Rattle.std.proofs.Common.{◌≡◌, ◌<◌, ◌^◌, get_or, slice_get, Option, None, Bool, true, false, sym, ap, ◌∙◌, subst, rules, arith}
use Rattle.std.specs.Option.{ForSome}
use Rattle.std.proofs.lemmas.Bool.{false≢true}
use Rattle.std.proofs.lemmas.List.{get_or_read}
use Rattle.std.proofs.lemmas.Option.{same_Some}
use Rattle.search_model.specs.Order.{Precedes}
use Rattle.candidate_book.specs.Book.{BookContents}
use Rattle.candidate_book.specs.Conditions.{kept_in}
use Rattle.candidate_book.specs.First.{next_at}
use Rattle.candidate_book.specs.declared.merge.Next.{Next}
use Rattle.candidate_book.proofs.First.{first_past_none, first_past_later, first_is_new}
use Rattle.candidate_book.proofs.merge.first.Goals as goal
use Rattle.candidate_book.proofs.merge.first.Goals.{in-Some+then-comes_before, in-Some+else-comes_before, in_default}

not_both : (b : Bool) → b ≡ false → b ≡ true → ⊥
not_both b is_false is_true = false≢true (sym is_false ∙ is_true)

pub loop-i-preserved : goal.loop-i-preserved
loop-i-preserved c =
    let books = c.args.books.now in
    let places = c.args.places.now in
    let next = next_at books places in
    let order = c.order_is_strict.ensures in
    let i = c.loop-i.i in
    let found = c.loop-i.found in
    let before = c.loop-i.invariant in
    let book : c.index-books-i.result ≡ get_or books i None =
    get_or_read books i c.index-books-i.result (omega arith) c.index-books-i.is None in
    let at : next i ≡ c.candidate_at.result =
    sym (c.candidate_at.ensures.value ∙ ap (λ (b : Option BookContents).
    slice_get (kept_in b) (get_or places i 0)) book) in
    elim c.match-candidate_at.branch [
      | in-Some+then-comes_before w ↦
          let candidate = w.in-Some.candidate in
          let small : get_or places i 0 < 2 ^ 32 = search rules in
          let precedes : ForSome found (λ one. Precedes candidate one.candidate) =
          w.comes_before.ensures.0 w.if-comes_before.true in
          rw w.found-is (record {
            first = first_is_new order next i candidate found before.first (at ∙ w.in-Some.is) precedes;
            bound = λ x e. subst (λ (y : Next). get_or places y.book 0 < 2 ^ 32) (same_Some _ x e) small;
          })
      | in-Some+else-comes_before w ↦
          let candidate = w.in-Some.candidate in
          let later : ForSome found (λ one. Precedes candidate one.candidate) → ⊥ =
          λ p. not_both w.comes_before.result w.if-comes_before.false (w.comes_before.ensures.1 p) in
          rw w.found-is (record {
            first = first_past_later next i candidate found before.first (at ∙ w.in-Some.is) later;
            bound = before.bound;
          })
      | in_default w ↦
          rw w.found-is (record {
            first = first_past_none next i found before.first (at ∙ w.in_default.is);
            bound = before.bound;
          })
    ]

use Rattle.std.proofs.Common.{◌≡◌, ◌≢◌, [], None, map, length, sym, subst, arith}
use Rattle.std.proofs.lemmas.List.{get_or_read, length-map}
use Rattle.std.proofs.lemmas.Result.{err_from_is_err_and}
use Rattle.psr_base.specs.Written.{WroteAll, WroteFront, Wrote}
use Rattle.candidate_book.specs.Conditions.{CanBeMerged}
use Rattle.transfer_text.proofs.Numbered.{list_at, alone_text, several_texts, one_more, stopped, whole}
use Rattle.transfer_text.proofs.Places.{items_at, merged_at}
use Rattle.transfer_text.proofs.texts.write_texts.Goals as goal

pub write_list-requires-clause-books : goal.write_list-requires-clause-books
write_list-requires-clause-books g c =
    let books = map (λ shards. shards.items) c.args.books.now in
    let long = length-map c.args.books.now (λ shards. shards.items) in
    let held = items_at (λ shards. shards.items) c.args.books.now 0 c.index-books-0.result c.as_slice.result.now
    (omega (arith, c.if-books-eq1.true)) c.index-books-0.is c.as_slice.ensures.value in
    subst CanBeMerged held (c.requires.written.mergeable 0 [] (omega (arith, long, c.if-books-eq1.true)))

pub returns-then-books-eq1 : goal.returns-then-books-eq1
returns-then-books-eq1 g c = λ lists merged.
    let books = map (λ shards. shards.items) c.args.books.now in
    let long = length-map c.args.books.now (λ shards. shards.items) in
    let one : length lists ≡ 1 = omega (arith, long, merged.count, c.if-books-eq1.true) in
    let found = list_at lists 0 (omega (arith, one)) in
    let held = items_at (λ shards. shards.items) c.args.books.now 0 c.index-books-0.result c.as_slice.result.now
    (omega (arith, c.if-books-eq1.true)) c.index-books-0.is c.as_slice.ensures.value in
    let read = get_or_read c.args.observations.now 0 c.index-observations-0.result
    (omega (arith, c.requires.written.observed, long, c.if-books-eq1.true)) c.index-observations-0.is None in
    let is = merged_at lists c.args.observations.now books c.args.spectra.now 0 found.0 c.index-observations-0.result
    c.as_slice.result.now merged found.1 read held in
    subst (λ t. Wrote t (g.K.Sink.seen c.args.out.now) (g.K.Sink.seen c.write_list.new.out) c.write_list.result)
    (sym (alone_text lists found.0 one found.1)) (c.write_list.ensures found.0 is)

pub write_numbered-requires-clause-books : goal.write_numbered-requires-clause-books
write_numbered-requires-clause-books g c =
    let books = map (λ shards. shards.items) c.args.books.now in
    let long = length-map c.args.books.now (λ shards. shards.items) in
    let k = c.loop-k.k in
    let held = items_at (λ shards. shards.items) c.args.books.now k c.index-books-k.result
    c.as_slice-in-loop-k.result.now c.loop-k-test.true c.index-books-k.is c.as_slice-in-loop-k.ensures.value in
    subst CanBeMerged held (c.requires.written.mergeable k [] (omega (arith, long, c.loop-k-test.true)))

pub returns-in_err-write_numbered : goal.returns-in_err-write_numbered
returns-in_err-write_numbered g c =
    let p = err_from_is_err_and c.from_residual.result c.from_residual.ensures.1 in
    rw p.1 (λ lists merged.
    let books = map (λ shards. shards.items) c.args.books.now in
    let long = length-map c.args.books.now (λ shards. shards.items) in
    let k = c.loop-k.k in
    let found = list_at lists k (omega (arith, long, merged.count, c.loop-k-test.true)) in
    let held = items_at (λ shards. shards.items) c.args.books.now k c.index-books-k.result
    c.as_slice-in-loop-k.result.now c.loop-k-test.true c.index-books-k.is c.as_slice-in-loop-k.ensures.value in
    let read = get_or_read c.args.observations.now k c.index-observations-k.result
    (omega (arith, c.requires.written.observed, long, c.loop-k-test.true)) c.index-observations-k.is None in
    let is = merged_at lists c.args.observations.now books c.args.spectra.now k found.0 c.index-observations-k.result
    c.as_slice-in-loop-k.result.now merged found.1 read held in
    let several : length lists ≢ 1 = λ one. c.if-books-eq1.false (omega (arith, one, long, merged.count)) in
    record {
      all = tt;
      front = subst (λ t. WroteFront t (g.K.Sink.seen c.args.out.now) (g.K.Sink.seen c.write_numbered.new.out))
          (sym (several_texts lists several))
          (stopped lists k found.0 found.1 c.pieces_join.ensures.pieces (g.K.Sink.seen c.args.out.now)
          (g.K.Sink.seen c.loop-k.out) (g.K.Sink.seen c.write_numbered.new.out)
          (c.loop-k.invariant.written lists merged) (c.in_err-write_numbered.ensures found.0 is).front);
    })

pub loop-k-preserved : goal.loop-k-preserved
loop-k-preserved g c = record {
  written = λ lists merged.
      let books = map (λ shards. shards.items) c.args.books.now in
      let long = length-map c.args.books.now (λ shards. shards.items) in
      let k = c.loop-k.k in
      let found = list_at lists k (omega (arith, long, merged.count, c.loop-k-test.true)) in
      let held = items_at (λ shards. shards.items) c.args.books.now k c.index-books-k.result
      c.as_slice-in-loop-k.result.now c.loop-k-test.true c.index-books-k.is c.as_slice-in-loop-k.ensures.value in
      let read = get_or_read c.args.observations.now k c.index-observations-k.result
      (omega (arith, c.requires.written.observed, long, c.loop-k-test.true)) c.index-observations-k.is None in
      let is = merged_at lists c.args.observations.now books c.args.spectra.now k found.0
      c.index-observations-k.result c.as_slice-in-loop-k.result.now merged found.1 read held in
      one_more lists k found.0 found.1 c.pieces_join.ensures.pieces (g.K.Sink.seen c.args.out.now)
      (g.K.Sink.seen c.loop-k.out) (g.K.Sink.seen c.write_numbered.new.out) (c.loop-k.invariant.written lists merged)
      (c.in_ok-write_numbered.ensures found.0 is).all;
}

pub returns : goal.returns
returns g c = λ lists merged.
    let long = length-map c.args.books.now (λ shards. shards.items) in
    let several : length lists ≢ 1 = λ one. c.if-books-eq1.false (omega (arith, one, long, merged.count)) in
    record {
      all = subst (λ t. WroteAll t (g.K.Sink.seen c.args.out.now) (g.K.Sink.seen c.loop-k.out))
          (whole lists c.loop-k.k several (omega (arith, long, merged.count, c.loop-k-test.false)))
          (c.loop-k.invariant.written lists merged);
      front = tt;
    }

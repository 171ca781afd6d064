use Rattle.std.proofs.Common.{◌<◌, map, length, arith}
use Rattle.std.proofs.lemmas.List.{length-map}
use Rattle.transfer_text.proofs.Places.{items_at, total_within, total_more}
use Rattle.transfer_text.proofs.found.count_all.Goals as goal

pub count_shards-count-requires : goal.count_shards-count-requires
count_shards-count-requires c =
    let books = map (λ shards. shards.items) c.args.books.now in
    let long = length-map c.args.books.now (λ shards. shards.items) in
    let within : c.loop-k.k < length books = omega (arith, long, c.loop-k-test.true) in
    let held = items_at (λ shards. shards.items) c.args.books.now c.loop-k.k c.index-books-k.result
    c.as_slice.result.now c.loop-k-test.true c.index-books-k.is c.as_slice.ensures.value in
    let le = total_within books c.loop-k.k c.loop-k.count c.as_slice.result.now within held
    c.loop-k.invariant.counted in
    omega (arith, le, c.requires)

pub overflow_add-count : goal.overflow_add-count
overflow_add-count c =
    let books = map (λ shards. shards.items) c.args.books.now in
    let long = length-map c.args.books.now (λ shards. shards.items) in
    let within : c.loop-k.k < length books = omega (arith, long, c.loop-k-test.true) in
    let held = items_at (λ shards. shards.items) c.args.books.now c.loop-k.k c.index-books-k.result
    c.as_slice.result.now c.loop-k-test.true c.index-books-k.is c.as_slice.ensures.value in
    let le = total_within books c.loop-k.k c.loop-k.count c.as_slice.result.now within held
    c.loop-k.invariant.counted in
    omega (arith, le, c.requires, c.count_shards-count.ensures)

pub loop-k-preserved : goal.loop-k-preserved
loop-k-preserved c =
    let books = map (λ shards. shards.items) c.args.books.now in
    let long = length-map c.args.books.now (λ shards. shards.items) in
    let within : c.loop-k.k < length books = omega (arith, long, c.loop-k-test.true) in
    let held = items_at (λ shards. shards.items) c.args.books.now c.loop-k.k c.index-books-k.result
    c.as_slice.result.now c.loop-k-test.true c.index-books-k.is c.as_slice.ensures.value in
    record {
      counted = total_more books c.loop-k.k c.loop-k.count c.count_shards-count.result c.as_slice.result.now within held
          c.loop-k.invariant.counted c.count_shards-count.ensures;
    }

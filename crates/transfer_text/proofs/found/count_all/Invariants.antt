use Rattle.std.proofs.Common.{◌≡◌, map, take}
use Rattle.transfer_text.specs.Found.{book_total}
use Rattle.transfer_text.proofs.found.count_all.Given as goal

abbrev pub invariant-loop-k : goal.invariant-loop-k
invariant-loop-k l = record {
  counted : l.count ≡ book_total (take l.k (map (λ shards. shards.items) l.books));
}

use Rattle.std.proofs.Common.{◌≡◌, take}
use Rattle.std.specs.List.{sum_by}
use Rattle.transfer_text.specs.Found.{count_in}
use Rattle.transfer_text.proofs.found.count_shards.Given as goal

abbrev pub invariant-loop-k : goal.invariant-loop-k
invariant-loop-k l = record { counted : l.count ≡ sum_by count_in (take l.k l.books) }

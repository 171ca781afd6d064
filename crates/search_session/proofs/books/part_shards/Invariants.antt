use Rattle.search_session.proofs.Parting.{Parting}
use Rattle.search_session.proofs.books.part_shards.Given as goal

abbrev pub invariant-loop-place : goal.invariant-loop-place
invariant-loop-place l = Parting l.fn.shards.items l._place l.shards.items l.passes.items l.banks.items

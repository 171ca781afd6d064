use Rattle.std.proofs.Common.{◌<◌, ◌^◌, get_or}
use Rattle.std.specs.Option.{ForSome}
use Rattle.candidate_book.specs.First.{next_at, FindsFirst}
use Rattle.candidate_book.proofs.merge.first.Given as goal

-- the first of the books before book i was found
abbrev pub invariant-loop-i : goal.invariant-loop-i
invariant-loop-i l = record {
  first : FindsFirst (next_at l.books l.places) l.i l.found;
  bound : ForSome l.found (λ next. get_or l.places next.book 0 < 2 ^ 32);
}

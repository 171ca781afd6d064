use Rattle.std.proofs.Common.{take}
use Rattle.book_bench.specs.Parts.{IsPart, EndsWith}
use Rattle.book_bench.proofs.checks.is_part.Given as goal

-- what was checked so far
abbrev pub invariant-loop-candidate : goal.invariant-loop-candidate
invariant-loop-candidate l = record {
  part : IsPart l.n l.k (take l.candidate-index l.list);
  ends : EndsWith (take l.candidate-index l.list) l.last;
}

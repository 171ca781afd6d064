use Rattle.dada_header.proofs.HeaderReads.{size_missing, size_read, size_refused}
use Rattle.dada_header.specs.Places.{at}
use Rattle.dada_header.proofs.header.Header.size_of.Goals as goal

pub returns-in-None-clause-ok : goal.returns-in-None-clause-ok
returns-in-None-clause-ok c =
    size_missing c.args.first.now c.before_nul_of-text.result.now c.before_nul_of-text.ensures c.in-None.ensures.none

pub returns-in-Some-size_in-clause-ok : goal.returns-in-Some-size_in-clause-ok
returns-in-Some-size_in-clause-ok c =
    size_read c.args.first.now c.before_nul_of-text.result.now
    (at c.in-Some.place c.before_nul_of-text.result.now) c.in-Some-size_in.size c.before_nul_of-text.ensures
    c.in-Some.ensures.some.value c.in-Some-size_in.ensures

pub returns-in-None-size_in-clause-fault : goal.returns-in-None-size_in-clause-fault
returns-in-None-size_in-clause-fault c = (
  c.if-first-lt-LEAST.false,
  size_refused c.args.first.now c.before_nul_of-text.result.now
      (at c.in-Some.place c.before_nul_of-text.result.now) c.before_nul_of-text.ensures c.in-Some.ensures.some.value
      c.in-None-size_in.ensures,
)

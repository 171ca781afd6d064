use Rattle.std.proofs.Common.{sym, ◌∙◌}
use Rattle.psr_beams.proofs.Telling.{outcome}
use Rattle.psr_beams.proofs.top.run_beams.Goals as goal

pub returns-clause-outcome : goal.returns-clause-outcome
returns-clause-outcome g c =
    outcome _ _ _ _ _ _ _ c.search-stop.result c.tell.result c.search-stop.ensures.leaves.ends c.tell.ensures.status
    c.tell.ensures.silent c.tell.ensures.line

pub returns-clause-early : goal.returns-clause-early
returns-clause-early g c = λ five. c.search-stop.ensures.leaves.early (c.tell.ensures.memory five)

pub returns-clause-order : goal.returns-clause-order
returns-clause-order g c = λ six. c.search-stop.ensures.leaves.order (c.tell.ensures.read_fault six)

pub returns-clause-refused : goal.returns-clause-refused
returns-clause-refused g c = λ two. c.search-stop.ensures.refused (sym c.tell.ensures.status ∙ two)

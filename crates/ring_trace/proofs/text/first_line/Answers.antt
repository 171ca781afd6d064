-- A text's first line is what stands before its first line feed, or all of it.
use Rattle.std.proofs.Common.{ap, ◌∙◌}
use Rattle.ring_trace.specs.Text.{trace_lines}
use Rattle.ring_trace.proofs.Splits.{lines_split, lines_last}
use Rattle.ring_trace.proofs.text.first_line.Goals as goal

pub returns-in-Some-clause-lines : goal.returns-in-Some-clause-lines
returns-in-Some-clause-lines c = ap trace_lines c.in-Some.ensures.found ∙ lines_split _ _ c.in-Some.ensures.first

pub returns-in-None-clause-lines : goal.returns-in-None-clause-lines
returns-in-None-clause-lines c = lines_last c.args.text.now c.requires c.in-None.ensures.none

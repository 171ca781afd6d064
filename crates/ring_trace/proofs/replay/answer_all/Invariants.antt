use Rattle.std.proofs.Common.{◌≡◌, ℕ, List, ◌++◌, length}
use Rattle.ring_trace.specs.Text.{trace_lines}
use Rattle.ring_trace.specs.Replay.{IsReplayed}
use Rattle.ring_trace.proofs.replay.answer_all.Given as goal

-- the lines that were answered so far, and what they did
abbrev pub invariant-loop-rest : goal.invariant-loop-rest
invariant-loop-rest l = (done : List (List ℕ)) × (trace_lines l.lines ≡ done ++ trace_lines l.rest)
    × (IsReplayed l.readers l.initial.core done l.core l.text.items)

abbrev pub decreases-loop-rest : goal.decreases-loop-rest
decreases-loop-rest l = length l.rest

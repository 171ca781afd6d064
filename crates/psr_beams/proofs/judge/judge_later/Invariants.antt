use Rattle.std.proofs.Common.{◌≡◌, ℕ, ◌<◌, Some, None}
use Rattle.dada_model.specs.Fields.{HeaderText}
use Rattle.psr_beams.specs.Judged.{headers_in}
use Rattle.psr_beams.specs.Refusals.{later_stop}
use Rattle.psr_beams.proofs.judge.judge_later.Given as goal

-- those before have no stop
abbrev pub invariant-loop-beam : goal.invariant-loop-beam
invariant-loop-beam l = (k : ℕ) (h : HeaderText) → 0 < k → k < l.beam → headers_in l.slots k ≡ Some h →
    later_stop k l.observation h ≡ None

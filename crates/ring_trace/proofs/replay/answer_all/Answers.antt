-- The lines that were answered, with those that are left, are all lines.
use Rattle.std.proofs.Common.{ℕ, List, [], ◌∷◌, ◌++◌, sym, ap, subst, ◌∙◌, append_assoc}
use Rattle.ring_trace.specs.Text.{trace_lines}
use Rattle.ring_trace.specs.Replay.{IsReplayed}
use Rattle.ring_trace.proofs.Replays.{replay_none, replay_on}
use Rattle.ring_trace.proofs.replay.answer_all.Goals as goal

pub loop-rest-init : goal.loop-rest-init
loop-rest-init c = let P : List ℕ → Type 0 = λ t. IsReplayed c.args.readers c.args.core.now [] c.args.core.now t in (
  [],
  (λ i. trace_lines c.args.lines.now),
  subst P (sym c.new-text.ensures.items)
      (replay_none c.args.readers c.args.core.now),
)

pub loop-rest-preserved : goal.loop-rest-preserved
loop-rest-preserved c =
    let done = c.loop-rest.invariant.0 in let line = c.first_line.result.0.now in
    let left = trace_lines c.first_line.result.1.now in
    let step = c.in_ok-answer.ensures.asked c.if-not-branch.false in (
      done ++ line ∷ [],
      c.loop-rest.invariant.1 ∙ (ap (λ rest. done ++ rest) c.first_line.ensures.lines
          ∙ sym (append_assoc done (line ∷ []) left)),
      replay_on c.args.readers c.args.core.now done c.loop-rest.core c.loop-rest.text.items line c.answer.new.core
          c.answer.new.text.items c.loop-rest.invariant.2 step,
    )

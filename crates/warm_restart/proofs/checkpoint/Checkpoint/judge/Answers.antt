use Rattle.std.proofs.Common.{subst, sym}
use Rattle.warm_restart.specs.Checkpoint.{IsJudged}
use Rattle.warm_restart.proofs.Judging.{judged_form, judged_said}
use Rattle.warm_restart.proofs.checkpoint.Checkpoint.judge.Goals as goal

pub returns-in-Some-clause-judged : goal.returns-in-Some-clause-judged
returns-in-Some-clause-judged c =
    subst (λ r. IsJudged c.args.text.now c.args.until r) (sym c.before-in-Some.ensures)
    (judged_said c.texts_say_one.ensures c.args.text.now c.args.until c.in-Some.checkpoint c.in-Some.ensures.some)

pub returns-in-None-clause-judged : goal.returns-in-None-clause-judged
returns-in-None-clause-judged c = judged_form c.args.text.now c.args.until c.in-None.ensures.none

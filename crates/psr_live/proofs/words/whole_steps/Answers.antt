use Rattle.std.proofs.Common.{◌≡◌, ◌%◌, subst}
use Rattle.psr_live.proofs.Said.{is_every}
use Rattle.psr_live.proofs.words.whole_steps.Goals as goal

pub returns-then-every-from-eq0-clause-is : goal.returns-then-every-from-eq0-clause-is
returns-then-every-from-eq0-clause-is c = is_every _ c.requires.range.0 c.requires.range.1 (subst (λ k. c.args.every % k ≡ 0) c.from.ensures c.if-every-from-eq0.true)

use Rattle.std.proofs.Common.{◌-◌, List, Option, All, IsSomeAnd, length, sym, subst}
use Rattle.std.proofs.lemmas.List.Elements.{All-take, All-push}
use Rattle.ring_ends.specs.declared.passes.ReaderPass.{ReaderPass}
use Rattle.ring_ends.specs.Passes.{ReadsFrom}
use Rattle.ring_bench.specs.declared.crew.Job.{Job}
use Rattle.ring_bench.specs.Crew.{IsAt}
use Rattle.ring_bench.proofs.moving.open_jobs.Goals as goal

pub loop-next-preserved : goal.loop-next-preserved
loop-next-preserved c = let old = c.loop-next.readers.items in (
  subst (λ (l : List (Option ReaderPass)). All (λ o. IsSomeAnd o (ReadsFrom c.args.ring.now)) l)
      (sym c.pop.ensures.rest)
      (All-take (λ o. IsSomeAnd o (ReadsFrom c.args.ring.now)) (length old - 1) old c.loop-next.invariant.0),
  subst (λ (l : List Job). All (IsAt c.args.ring.now) l) (sym c.in_ok-push.ensures.items)
      (All-push (IsAt c.args.ring.now) c.loop-next.jobs.items c.in_ok-job.job c.loop-next.invariant.1
      c.in_ok-job.ensures),
)

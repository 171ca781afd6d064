use Rattle.search_opening.proofs.Observed.{one_fits, all_fit}
use Rattle.search_opening.proofs.plans.judge_plans.Goals as goal

pub loop-k-preserved : goal.loop-k-preserved
loop-k-preserved c = record {
  fit = one_fits c.args.search.now c.args.observations.now c.loop-k.k c.index-observations-k.result
      c.loop-k.invariant.fit c.index-observations-k.is c.in_ok-check_at.ensures.fits;
}

pub returns-clause-fit : goal.returns-clause-fit
returns-clause-fit c = all_fit c.args.search.now c.args.observations.now c.loop-k.k c.loop-k-test.false
    c.loop-k.invariant.fit

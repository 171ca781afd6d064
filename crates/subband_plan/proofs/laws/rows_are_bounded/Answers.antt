use Rattle.subband_plan.proofs.RowSums.{bounded}
use Rattle.subband_plan.proofs.laws.rows_are_bounded.Goals as goal

pub returns : goal.returns
returns c = λ p rows f e m is are channels small.
    bounded
    (record {
      halves = c.halves_add.ensures;
      adds = c.one_channel_adds.ensures;
      sample = c.one_channel_is_its_sample.ensures;
      nothing = c.nothing_before.ensures;
      fit = c.splits_fit.ensures;
    }) p rows f e m (c.plans_are_laid.ensures p is).0 are channels small

use Rattle.std.proofs.Common.{refl}
use Rattle.band_level.proofs.Scales.{lift_most, base_most}
use Rattle.band_level.proofs.scale.with_gain.Goals as goal

pub returns : goal.returns
returns c = record {
  gain = refl;
  base = refl;
  lift = refl;
  most_gain = c.requires.gain;
  most_base = base_most c.args.plan.mean c.args.m.count _ c.requires.plan.mean;
  most_lift = lift_most c.args.gain c.args.m.total c.args.m.count c.requires.gain c.requires.range.total;
}

use Rattle.std.proofs.Common.{◌^◌, ◌≤◌}
use Rattle.std.proofs.lemmas.Nat.{mul-le}
use Rattle.std.proofs.Math.Pow.{pow_mono}
use Rattle.search_bench.proofs.rows.fold_often.Goals as goal

pub open-requires-clause-size : goal.open-requires-clause-size
open-requires-clause-size c =
    let rows : 2 ^ c.args.halvings ≤ 2 ^ 6 = pow_mono c.requires.few in
    mul-le c.args.period (2 ^ c.args.halvings) (2 ^ 16) (2 ^ 6) c.requires.short rows

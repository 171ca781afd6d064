use Rattle.std.proofs.Common.{◌≡◌, ◌+◌, ◌*◌, ◌^◌, ◌-◌, ◌<◌, length, sym, ap, subst, arith}
use Rattle.fast_fold.specs.Folding.{Folding}
use Rattle.fast_fold.proofs.Room.{loaded_fits, row_fits}
use Rattle.fast_fold.proofs.folder.Folder.profile.Goals as goal

pub row_of-requires : goal.row_of-requires
row_of-requires c =
    let f = c.self.inside in
    let block : c.args.block < 2 ^ (f.halvings - f.level) =
    subst (λ (f : Folding). c.args.block < 2 ^ (f.halvings - f.level)) (sym c.self.view_is) c.requires.block in
    let trial : c.args.j < 2 ^ f.level =
    subst (λ (f : Folding). c.args.j < 2 ^ f.level) (sym c.self.view_is) c.requires.trial in
    let row = row_fits f.halvings f.level f.period c.args.block c.args.j c.self.invariant.done block trial in
    let fits = loaded_fits f.longest f.most f.period f.halvings c.self.invariant.short c.self.invariant.few_halvings in
    let power = ap (λ x. (c.args.block * x + c.args.j + 1) * f.period) c.power.ensures.value in
    let long : length c.as_slice.result.now ≡ length f.sums.items = ap length c.as_slice.ensures.value in
    omega (arith, row, fits, power, long)

use Rattle.std.proofs.Common.{◌≡◌, ◌*◌, length, take, ap, arith}
use Rattle.fast_fold.specs.Folding.{Folding}
use Rattle.fast_fold.proofs.Excess.{greatest_of_rows}
use Rattle.fast_fold.proofs.Room.{tile_fits}
use Rattle.fast_fold.proofs.folder.Folder.greatest_excess.Goals as goal

pub greatest_excess-requires-clause-out : goal.greatest_excess-requires-clause-out
greatest_excess-requires-clause-out c =
    let f = c.self.inside in
    let most : f.most ≡ c.args.self.now.most = ap (λ (f : Folding). f.most) c.self.view_is in
    let room = tile_fits f.most c.args.m _ (omega arith) c.requires.tiled c.self.invariant.tile_room in
    let long : length c.as_mut_slice.result.now ≡ length f.tile.items = ap length c.as_mut_slice.ensures.value in
    omega (arith, room, long)

pub greatest_excess-requires-clause-spare : goal.greatest_excess-requires-clause-spare
greatest_excess-requires-clause-spare c =
    let f = c.self.inside in
    let most : f.most ≡ c.args.self.now.most = ap (λ (f : Folding). f.most) c.self.view_is in
    let room = tile_fits f.most c.args.m _ (omega arith) c.requires.tiled c.self.invariant.spare_tile_room in
    let long : length c.as_mut_slice-2.result.now ≡ length f.spare_tile.items =
    ap length c.as_mut_slice-2.ensures.value in
    omega (arith, room, long)

pub returns-clause-greatest : goal.returns-clause-greatest
returns-clause-greatest c =
    greatest_of_rows c.args.base _ c.args.series.now c.args.p c.args.m _ c.requires.some_phases
    (ap (λ n. take n c.args.series.now) (ap (λ x. x * c.args.p) c.power.ensures.value)) c.greatest_excess.ensures

use Rattle.std.proofs.Common.{◌≡◌, ◌*◌, length, slice_index, ◌∙◌, ap, arith}
use Rattle.std.proofs.lemmas.List.{take_at}
use Rattle.fast_fold.specs.Folding.{Folding}
use Rattle.fast_fold.proofs.Levels.{folded_none}
use Rattle.fast_fold.proofs.Room.{loaded_fits}
use Rattle.fast_fold.proofs.folder.Folder.load.Goals as goal

pub copy_front-requires-clause-room : goal.copy_front-requires-clause-room
copy_front-requires-clause-room c =
    let longest : c.self.inside.longest ≡ c.args.self.now.longest = ap (λ (f : Folding). f.longest) c.self.view_is in
    let most : c.self.inside.most ≡ c.args.self.now.most = ap (λ (f : Folding). f.most) c.self.view_is in
    let fits = loaded_fits c.self.inside.longest c.self.inside.most c.args.p c.args.m (omega arith) (omega arith) in
    let power = ap (λ x. x * c.args.p) c.power.ensures.value in
    let long : length c.as_mut_slice-table.result.now ≡ length c.self.inside.sums.items =
    ap length c.as_mut_slice-table.ensures.value in
    omega (arith, fits, power, long)

pub returns-clause-sums : goal.returns-clause-sums
returns-clause-sums c =
    let power = ap (λ x. x * c.args.p) c.power.ensures.value in
    folded_none c.args.p c.args.m c.args.series.now _ c.requires.some_phases
    (λ k h. ap (λ xs. slice_index xs k)
    (take_at c.copy_front.new.out _ c.self.inside.sums.len (c.copy_front.auto.out ∙ c.as_mut_slice-table.ensures.len))
    ∙ c.copy_front.ensures k (omega (arith, power)))
    c.requires.fits

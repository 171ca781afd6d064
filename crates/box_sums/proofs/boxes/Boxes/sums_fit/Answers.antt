use Rattle.std.proofs.Common.{◌≡◌, ap, subst, sym, arith}
use Rattle.box_sums.specs.Tails.{RowTails, IsNewest}
use Rattle.box_sums.proofs.Feeding.{ending_fits}
use Rattle.box_sums.proofs.boxes.Boxes.sums_fit.Goals as goal

pub returns : goal.returns
returns c = λ d n k w xs newest below is narrow.
    let f = c.self.inside in
    let widest : f.widest ≡ c.args.self.now.widest = ap (λ (b : RowTails). b.widest) c.self.view_is in
    let row = subst (λ (b : RowTails). IsNewest b d n xs) (sym c.self.view_is) newest in
    let enough = c.self.invariant.enough in
    ending_fits f.line.items xs f.bound f.widest f.reach n k w c.self.invariant.small_line (omega (arith, widest, narrow))
    c.self.invariant.fits row.line below (omega (arith, widest, narrow, enough))

use Rattle.std.proofs.Common.{ℕ, ◌≡◌, ◌+◌, ◌-◌, ◌*◌, ◌^◌, ◌<◌, List, sum, take, drop, ◌∙◌, sym, ap, subst, arith}
use Rattle.box_sums.specs.Tails.{RowTails, IsKept}
use Rattle.box_sums.proofs.Feeding.{sum_fits, box_read}
use Rattle.box_sums.proofs.Filling.{kept_there}
use Rattle.box_sums.proofs.Parts.{drop_small}
use Rattle.box_sums.proofs.boxes.Boxes.kept_sum.Goals as goal

pub add_all-requires : goal.add_all-requires
add_all-requires c =
    let f = c.self.inside in
    let place : ℕ = (c.args.d - f.first) * (f.reach + f.chunk) + (f.reach + 1 - c.args.w) + c.args.k in
    let widest : f.widest ≡ c.args.self.now.widest = ap (λ (b : RowTails). b.widest) c.self.view_is in
    let values : c.front_of.result.now ≡ take c.args.w (drop place f.kept.items) =
    c.front_of.ensures.values ∙ ap (λ ys. take c.args.w (drop place ys)) c.as_slice.ensures.value in
    subst (λ (ys : List ℕ). sum ys < 2 ^ 32) (sym values)
    (sum_fits f.bound f.widest c.args.w (drop place f.kept.items)
    (drop_small f.bound place f.kept.items c.self.invariant.small_kept)
    (omega (arith, widest)) c.self.invariant.fits)

pub returns : goal.returns
returns c = λ n xs kept below.
    let f = c.self.inside in
    let at : ℕ = c.args.d - f.first in
    let stride : ℕ = f.reach + f.chunk in
    let place : ℕ = at * stride + (f.reach + 1 - c.args.w) + c.args.k in
    let widest : f.widest ≡ c.args.self.now.widest = ap (λ (b : RowTails). b.widest) c.self.view_is in
    let row = subst (λ (b : RowTails). IsKept b c.args.d n xs) (sym c.self.view_is) kept in
    let short = row.short in
    let enough = c.self.invariant.enough in
    let values : c.front_of.result.now ≡ take c.args.w (drop place f.kept.items) =
    c.front_of.ensures.values ∙ ap (λ ys. take c.args.w (drop place ys)) c.as_slice.ensures.value in
    c.add_all.ensures
    ∙ ap (λ ys. sum ys) values
    ∙ box_read f.kept.items xs stride at f.reach n c.args.k c.args.w row.line below
    (omega (arith, widest, enough)) (omega (arith, short))

pub returns-then-len-place : goal.returns-then-len-place
returns-then-len-place c = λ n xs kept below.
    let f = c.self.inside in
    let at : ℕ = c.args.d - f.first in
    let stride : ℕ = f.reach + f.chunk in
    let widest : f.widest ≡ c.args.self.now.widest = ap (λ (b : RowTails). b.widest) c.self.view_is in
    let row = subst (λ (b : RowTails). IsKept b c.args.d n xs) (sym c.self.view_is) kept in
    let enough = c.self.invariant.enough in
    let there = kept_there f.kept.items stride at f.reach n xs row.line in
    let past = c.if-len-place.true in
    absurd (omega (arith, widest, enough, there))

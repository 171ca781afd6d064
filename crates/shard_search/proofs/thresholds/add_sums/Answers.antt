use Rattle.std.proofs.Common.{◌≡◌, ℕ, ◌+◌, ◌-◌, ◌*◌, ◌++◌, List, [], ◌∷◌, Option, length, slice_index, subst, sym, ap, ◌∙◌, arith, length-append}
use Rattle.detect_rule.specs.Noise.{StandOutFrom}
use Rattle.fold_search.specs.Judging.{noise_of}
use Rattle.shard_search.specs.Sought.{cells_in}
use Rattle.shard_search.specs.Thresholds.{AreLeastSums}
use Rattle.shard_search.proofs.WidthLists.{leasts_more}
use Rattle.shard_search.proofs.thresholds.add_sums.Goals as goal

pub loop-at-preserved : goal.loop-at-preserved
loop-at-preserved c =
    let a = c.args in
    let s = a.search.now in
    let before = c.loop-at.invariant in
    let sums = c.loop-at.sums.items in
    let at = c.loop-at.at in
    let inside = c.loop-at-test.true in
    let w = slice_index a.widths.now at in
    let x = c.least_sum.result in
    let from = c.requires.above in
    let delay : a.d ≡ a.first + (a.d - a.first) = omega (arith, from) in
    let D : ℕ → Type 0 = λ e. StandOutFrom (noise_of s) (w * cells_in a.sought.now e) x in
    let P : List (Option ℕ) → Type 0 = AreLeastSums s a.sought.now a.first a.widths.now in
    let count = before.count in
    let more = length-append sums (x ∷ []) in
    record {
      count = ap (λ (xs : List (Option ℕ)). length xs) c.in_ok-push.ensures.items
          ∙ (let n : length (sums ++ x ∷ []) ≡ length a.widths.now * (a.d - a.first) + (at + 1) =
          omega (arith, count, more) in n);
      least = subst P (sym c.in_ok-push.ensures.items)
          (leasts_more s a.sought.now a.first a.widths.now sums (a.d - a.first) at x inside count
          (subst D delay c.least_sum.ensures) before.least);
    }

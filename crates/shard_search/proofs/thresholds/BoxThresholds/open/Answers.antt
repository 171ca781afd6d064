use Rattle.std.proofs.Common.{◌≡◌, ℕ, ◌-◌, ◌*◌, List, length, subst}
use Rattle.shard_search.specs.Thresholds.{AreLeastSums}
use Rattle.shard_search.proofs.thresholds.BoxThresholds.open.Goals as goal

pub returns : goal.returns
returns c =
    let a = c.args in
    let sums = c.in_ok-least_sums.least_sums.items in
    let C : List ℕ → Type 0 = λ ws. length sums ≡ length ws * (a.end - a.first) in
    let L : List ℕ → Type 0 = λ ws. AreLeastSums a.search.now a.sought.now a.first ws sums in
    record {
      widths_are = c.in_ok-widths.ensures;
      count = subst C c.as_slice.ensures.value c.in_ok-least_sums.ensures.count;
      least_sums = subst L c.as_slice.ensures.value c.in_ok-least_sums.ensures.least;
    }

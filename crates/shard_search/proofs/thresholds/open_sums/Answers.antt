use Rattle.std.proofs.Common.{◌≡◌, ◌+◌, ◌-◌, ◌*◌, length, sym, ap, ◌∙◌, arith}
use Rattle.shard_search.proofs.WidthLists.{places_more}
use Rattle.shard_search.proofs.thresholds.open_sums.Goals as goal

pub loop-d-preserved : goal.loop-d-preserved
loop-d-preserved c =
    let a = c.args in
    let from = c.loop-d.auto.d in
    let order = c.requires.order in
    record {
      count = c.in_ok-add_sums.ensures.count ∙ sym (places_more (length a.widths.now) (c.loop-d.d - a.first))
          ∙ ap (λ n. length a.widths.now * n) (let e : c.loop-d.d - a.first + 1 ≡ c.loop-d.d + 1 - a.first =
          omega (arith, from, order) in e);
      least = c.in_ok-add_sums.ensures.least;
    }

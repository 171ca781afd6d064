use Rattle.std.proofs.Common.{◌≡◌, ◌+◌, ◌-◌, ◌*◌, ◌<◌, length, vec_len, ◌∙◌, ap, subst, sym, rules}
use Rattle.shard_search.proofs.WidthLists.{least_at}
use Rattle.shard_search.proofs.thresholds.BoxThresholds.least.Goals as goal

pub returns : goal.returns
returns c = λ s x end are.
    let a = c.args in
    let t = a.self.now in
    let len : vec_len t.widths ≡ length t.widths.items = search rules in
    let place = ap (λ n. n * (a.d - a.first) + a.at) (c.len.ensures ∙ len) in
    least_at s x a.first end a.d a.at _ c.index.result.now t are c.requires.above c.requires.width place
    (subst (λ n. n < length t.least_sums.items) (sym place) c.requires.inside) c.index.ensures

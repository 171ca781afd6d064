use Rattle.std.proofs.Common.{◌≡◌, ℕ, ◌+◌, ◌-◌, ◌*◌, List, Option, Some, length, vec_len, take, drop, slice_get, sym, ◌∙◌, ap, subst, arith, rules}
use Rattle.shard_search.proofs.WidthLists.{least_in_part}
use Rattle.shard_search.proofs.thresholds.BoxThresholds.leasts.Goals as goal

pub returns-clause-least : goal.returns-clause-least
returns-clause-least c = λ s x end at least are e.
    let a = c.args in
    let t = a.self.now in
    let sums : List (Option ℕ) = c.deref.result.now in
    let len : vec_len t.widths ≡ length t.widths.items = search rules in
    let m : ℕ = c.len-2.result in
    let from : ℕ = c.len.result * (a.d - a.first) in
    let long : m ≡ length t.widths.items = c.len-2.ensures ∙ len in
    let first_long : c.len.result ≡ m = c.len.ensures ∙ sym c.len-2.ensures in
    let end_is : from + m - from ≡ m = omega arith in
    least_in_part s x a.first end a.d at from m least t sums are c.requires.above c.deref.ensures.value long
    (ap (λ n. n * (a.d - a.first)) first_long)
    (subst (λ n. slice_get (take n (drop from sums)) at ≡ Some least) end_is e)

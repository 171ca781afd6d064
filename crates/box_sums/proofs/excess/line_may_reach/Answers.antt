use Rattle.std.proofs.Common.{ℕ, ◌+◌, ◌++◌, length, sym, subst}
use Rattle.box_sums.specs.Excess.{AreExcess, plain_sums}
use Rattle.box_sums.proofs.Above.{filled}
use Rattle.box_sums.proofs.excess.line_may_reach.Goals as goal

pub returns : goal.returns
returns c = λ no.
    let a = c.args in
    let line = a.tail.now ++ plain_sums a.upper.now a.lower.now in
    let total : ℕ = length a.tail.now + length a.upper.now in
    let upper_base : ℕ = c.base_of-upper_base.result in
    let lower_base : ℕ = c.base_of-lower_base.result in
    c.any_may_reach.ensures no line
    (subst (λ (base : ℕ). AreExcess line c.fill-greatest.new.rows a.stride base total 0 c.fill-greatest.result)
    (sym c.both_bases-base.ensures)
    (filled a.tail.now a.upper.now a.lower.now c.fill-greatest.new.rows a.stride upper_base lower_base
    c.fill-greatest.result c.requires.same c.fill-greatest.ensures.front c.fill-greatest.ensures.back
    c.fill-greatest.ensures.bound))

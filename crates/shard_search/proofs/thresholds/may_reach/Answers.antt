use Rattle.std.proofs.Common.{ℕ, ◌+◌, ◌<◌, inl, inr, length, sym, ◌∙◌, subst, arith}
use Rattle.std.proofs.lemmas.Bool.{cases_lt, false≢true, le-leb}
use Rattle.shard_search.specs.Pulses.{first_sums}
use Rattle.shard_search.proofs.Boxes.{box_of_one}
use Rattle.shard_search.proofs.Reports.{ending_is_box}
use Rattle.shard_search.proofs.thresholds.may_reach.Goals as goal

pub returns-then-width-lt2-clause-below : goal.returns-then-width-lt2-clause-below
returns-then-width-lt2-clause-below c = λ out y d m k taken inside.
    let is = box_of_one y d (m + k) c.args.width c.requires.width (omega arith) in
    let value = taken.values k inside in
    let bound = c.greatest.ensures.bound k in
    let short : c.greatest.result < c.args.least = elim (cases_lt c.greatest.result c.args.least) [
      | inl h ↦ h
      | inr h ↦ absurd (false≢true (sym out ∙ le-leb c.args.least c.greatest.result h))
    ] in
    omega (arith, is, value, bound, short)

pub returns-clause-below : goal.returns-clause-below
returns-clause-below c = λ out y d m k taken inside.
    let n : ℕ = length c.args.row.now in
    let narrow = c.requires.within in
    let above = c.if-width-lt2.false in
    subst (λ (sum : ℕ). sum < c.args.least)
    (ending_is_box c.sums_add_values.ensures y d m n k c.args.width inside)
    (c.may_reach.ensures.below out d n k (first_sums y d (m + n)) (taken.newest (omega (arith, narrow, above))) inside)

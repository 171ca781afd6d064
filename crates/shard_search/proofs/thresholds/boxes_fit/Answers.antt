use Rattle.std.proofs.Common.{ℕ, ◌+◌, ◌<◌, ◌^◌, inl, inr, length, subst, arith}
use Rattle.std.proofs.lemmas.Bool.{cases_lt}
use Rattle.shard_search.specs.Pulses.{first_sums}
use Rattle.shard_search.proofs.Boxes.{box_of_one}
use Rattle.shard_search.proofs.Reports.{ending_is_box}
use Rattle.shard_search.proofs.thresholds.boxes_fit.Goals as goal

pub returns : goal.returns
returns c = λ y d m k taken inside.
    let n : ℕ = length c.args.row.now in
    let narrow = c.requires.within in
    elim (cases_lt c.args.width 2) [
      | inl one ↦
          let is = box_of_one y d (m + k) c.args.width c.requires.width one in
          let value = taken.values k inside in
          let fits = c.type_inv.row k in
          omega (arith, is, value, fits)
      | inr above ↦
          subst (λ (sum : ℕ). sum < 2 ^ 32)
          (ending_is_box c.sums_add_values.ensures y d m n k c.args.width inside)
          (c.sums_fit.ensures d n k c.args.width (first_sums y d (m + n)) (taken.newest (omega (arith, narrow, above)))
          inside c.requires.width narrow)
    ]

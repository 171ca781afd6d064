use Rattle.std.proofs.Common.{◌≡◌, ◌∙◌, ap, rules, refl, sym, cond, Some}
use Rattle.std.specs.Prelude.{pos, neg_ℤ}
use Rattle.dada_model.specs.Number.{number_value}
use Rattle.dada_model.specs.Laws.{spelled_value}
use Rattle.psr_base.proofs.FixedPlace.{refused, spells_of}
use Rattle.psr_base.proofs.FixedValue.{magnitude_signed, uncapped_above, uncapped_within}
use Rattle.psr_base.proofs.fixed.Fixed.read.Goals as goal
use Rattle.psr_base.proofs.fixed.Fixed.read.Goals.{After-magnitude-magnitude}

pub returns-then-not-are_number-clause-fault : goal.returns-then-not-are_number-clause-fault
returns-then-not-are_number-clause-fault c =
    refused c.numbers_are_spelled.ensures c.args.text.now _ _ _ _ c.split_number-parts.ensures c.args.decimals
    (λ none some. let yes = c.are_number.ensures.1 (none, some) in absurd (cc))

value_is : (c : After-magnitude-magnitude) →
    number_value c.args.decimals c.args.text.now ≡ Some
    (spelled_value c.args.decimals c.split_number-parts.result.negative c.split_number-parts.result.whole.now
    c.split_number-parts.result.fraction.now)
value_is c =
    let parts = c.split_number-parts.result in
    let number = c.are_number.ensures.0 c.if-not-are_number.false in
    let spells = spells_of c.numbers_are_spelled.ensures c.args.text.now _ _ _ _ c.split_number-parts.ensures number.0
    number.1 in
    (c.numbers_are_spelled.ensures c.args.decimals c.args.text.now
    (spelled_value c.args.decimals parts.negative parts.whole.now parts.fraction.now)).1
    (parts.negative, parts.whole.now, parts.fraction.now, spells, refl)

pub returns-then-magnitude-gt-MOST-clause-fault : goal.returns-then-magnitude-gt-MOST-clause-fault
returns-then-magnitude-gt-MOST-clause-fault c =
    let parts = c.split_number-parts.result in
    let above = uncapped_above c.magnitude-magnitude.result _ c.magnitude-magnitude.ensures c.if-magnitude-gt-MOST.true
    in (
      spelled_value c.args.decimals parts.negative parts.whole.now parts.fraction.now,
      value_is
          (goal.at.returns-then-magnitude-gt-MOST-clause-fault c).After-magnitude-magnitude,
      rw (magnitude_signed parts.negative _) above,
    )

pub returns-clause-value : goal.returns-clause-value
returns-clause-value c =
    let parts = c.split_number-parts.result in
    let within = uncapped_within c.magnitude-magnitude.result _ c.magnitude-magnitude.ensures
    c.if-magnitude-gt-MOST.false in
    let same = c.signed.ensures.value ∙ ap (λ m. cond parts.negative (neg_ℤ (pos m)) (pos m)) within in
    value_is (goal.at.returns-clause-value c).After-magnitude-magnitude ∙ ap Some (sym same) ∙ search rules

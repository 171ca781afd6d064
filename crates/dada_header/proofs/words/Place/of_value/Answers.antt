use Rattle.std.proofs.Common.{sym, ◌∙◌}
use Rattle.dada_header.proofs.FieldWords.{value_is, no_field, other_field}
use Rattle.dada_header.proofs.words.Place.of_value.Goals as goal

pub returns-in_default-clause-none : goal.returns-in_default-clause-none
returns-in_default-clause-none c = no_field c.args.key.now c.args.line.now c.in_default.ensures.none

pub returns-then-eq-clause-some : goal.returns-then-eq-clause-some
returns-then-eq-clause-some c = value_is c.args.key.now c.args.line.now c.in-Some.field c.in-Some.ensures.some
    (sym c.eq.ensures ∙ c.if-eq.true)

pub returns-else-eq-clause-none : goal.returns-else-eq-clause-none
returns-else-eq-clause-none c = other_field c.args.key.now c.args.line.now c.in-Some.field c.in-Some.ensures.some
    (sym c.eq.ensures ∙ c.if-eq.false)

use Rattle.dada_header.proofs.Edits.{appended_without, appended_for_longer, overwritten_at}
use Rattle.dada_header.proofs.change.overwritten_place.Goals as goal

pub returns-in_default-clause-none : goal.returns-in_default-clause-none
returns-in_default-clause-none c =
    appended_without c.args.key.now c.args.value.now c.args.text.now c.in_default.ensures.none

pub returns-then-value-place-clause-some : goal.returns-then-value-place-clause-some
returns-then-value-place-clause-some c =
    overwritten_at c.args.key.now c.args.value.now c.args.text.now c.in-Some.place c.in-Some.ensures.some
    c.if-value-place.true

pub returns-else-value-place-clause-none : goal.returns-else-value-place-clause-none
returns-else-value-place-clause-none c =
    appended_for_longer c.args.key.now c.args.value.now c.args.text.now c.in-Some.place c.in-Some.ensures.some
    c.if-value-place.false

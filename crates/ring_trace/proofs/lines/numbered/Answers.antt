-- What stands after the word is one thing.
use Rattle.std.proofs.Common.{sym, ap, ◌∙◌, ◌++◌}
use Rattle.ring_trace.proofs.Splits.{same_rest, no_number}
use Rattle.ring_trace.proofs.lines.numbered.Goals as goal

pub returns-in_default-after-clause-none : goal.returns-in_default-after-clause-none
returns-in_default-after-clause-none c n (number, is, is_number, value) =
    c.in_default-after.ensures.none number (same_rest c.args.word.now _ _ (sym c.in-Some.ensures.some ∙ is))

pub returns-clause-none : goal.returns-clause-none
returns-clause-none c = no_number c.number.result c.args.word.now c.args.line.now _ c.number.ensures
    (c.in-Some.ensures.some ∙ ap (λ rest. c.args.word.now ++ rest) c.in-Some-after.ensures.some)

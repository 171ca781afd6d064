use Rattle.std.proofs.Common.{refl}
use Rattle.dada_model.proofs.Numbers.{parsed, digits_below, number_value-whole}
use Rattle.dada_model.proofs.number.whole_number.Goals as goal

pub returns-then-is_whole_number-clause-digits : goal.returns-then-is_whole_number-clause-digits
returns-then-is_whole_number-clause-digits c =
    let whole = c.is_whole_number.ensures.0 c.if-is_whole_number.true in
    let read = parsed c.args.most_digits c.args.text.now c.parse.result c.requires whole c.parse.ensures.value.0 in
    rw (c.ok.ensures.value, read) (whole, refl)

pub returns-then-is_whole_number-clause-value : goal.returns-then-is_whole_number-clause-value
returns-then-is_whole_number-clause-value c =
    let whole = c.is_whole_number.ensures.0 c.if-is_whole_number.true in
    let read = parsed c.args.most_digits c.args.text.now c.parse.result c.requires whole c.parse.ensures.value.0 in
    rw (c.ok.ensures.value, read) (λ k. number_value-whole c.args.most_digits c.args.text.now k whole)

pub returns-then-is_whole_number-clause-bound : goal.returns-then-is_whole_number-clause-bound
returns-then-is_whole_number-clause-bound c =
    let whole = c.is_whole_number.ensures.0 c.if-is_whole_number.true in
    let read = parsed c.args.most_digits c.args.text.now c.parse.result c.requires whole c.parse.ensures.value.0 in
    rw (c.ok.ensures.value, read) (digits_below c.args.most_digits c.args.text.now whole)

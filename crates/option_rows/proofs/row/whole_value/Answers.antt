use Rattle.std.proofs.Common.{◌∙◌}
use Rattle.option_rows.proofs.Digits.{whole_read, none_read}
use Rattle.option_rows.proofs.row.whole_value.Goals as goal

pub returns-in-Some : goal.returns-in-Some
returns-in-Some c =
    let digits = c.in-Some.ensures.digits in
    c.allowed.ensures ∙ whole_read c.args.limits c.args.text.now c.in-Some.number digits.0 digits.1

pub returns-in-None : goal.returns-in-None
returns-in-None c = none_read c.args.limits c.args.text.now c.in-None.ensures.digits

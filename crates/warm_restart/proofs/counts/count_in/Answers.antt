-- Digits are UTF-8.
use Rattle.std.proofs.Common.{arith}
use Rattle.std.proofs.lemmas.Str.{IsUtf8-from_ascii}
use Rattle.std.proofs.lemmas.Str.Ascii.{IsAscii-from_all}
use Rattle.warm_restart.proofs.counts.count_in.Goals as goal

pub returns-in-Err-clause-none : goal.returns-in-Err-clause-none
returns-in-Err-clause-none c n is =
    c.in-Err.ensures.cases.0 (IsUtf8-from_ascii c.args.text.now (IsAscii-from_all c.args.text.now
    (λ k d small. let digit = is.digits.2 k d small in omega arith)))

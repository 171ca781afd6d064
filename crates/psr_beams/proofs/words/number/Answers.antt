use Rattle.std.proofs.Common.{arith}
use Rattle.psr_beams.proofs.Numbers.{said, formless, outside}
use Rattle.psr_beams.proofs.words.number.Goals as goal

pub returns-in-Some : goal.returns-in-Some
returns-in-Some c =
    let digits = c.in-Some.ensures.digits in
    let low = c.if-from-number.true in let high = c.if-number-from.true in
    let least = c.from.ensures in let most = c.from-then-from-number.ensures in
    said c.args.least c.args.most c.args.word.now c.in-Some.number digits.0 digits.1 (omega arith) (omega arith)

pub returns-in_default : goal.returns-in_default
returns-in_default c =
    let digits = c.in-Some.ensures.digits in
    let high = c.if-number-from.false in let most = c.from-then-from-number.ensures in
    outside c.args.least c.args.most c.args.word.now c.in-Some.number digits.0 digits.1 (λ a b. omega arith)

pub returns-in_default-2 : goal.returns-in_default-2
returns-in_default-2 c =
    let digits = c.in-Some.ensures.digits in
    let low = c.if-from-number.false in let least = c.from.ensures in
    outside c.args.least c.args.most c.args.word.now c.in-Some.number digits.0 digits.1 (λ a b. omega arith)

pub returns-in_default-3 : goal.returns-in_default-3
returns-in_default-3 c =
    formless c.args.least c.args.most c.args.word.now c.in_default.ensures.digits

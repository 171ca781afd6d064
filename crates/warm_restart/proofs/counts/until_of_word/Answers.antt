use Rattle.std.proofs.Common.{◌≡◌, ℕ, Option, Some, None, sym, refl, arith}
use Rattle.warm_restart.specs.Counts.{until_of}
use Rattle.warm_restart.proofs.counts.until_of_word.Goals as goal

-- where no number is said, none is computed
none_said : (said : Option ℕ) → ((n : ℕ) → said ≡ Some n → ⊥) → None ≡ said
none_said (Some n) none = absurd (none n refl)
none_said None none = refl

pub returns-in-Some-clause-value : goal.returns-in-Some-clause-value
returns-in-Some-clause-value c =
    sym ((c.texts_say_one.ensures.until c.args.word.now c.in-Some.number).0
    (record { count = c.in-Some.ensures.some; some = c.if-number-ge1.true }))

pub returns-in_default-clause-value : goal.returns-in_default-clause-value
returns-in_default-clause-value c = none_said (until_of c.args.word.now) (λ n e.
    let said = (c.texts_say_one.ensures.until c.args.word.now n).1 e in
    let value = said.count.value in let number = c.in-Some.ensures.some in let value' = number.value in
    let some = said.some in let none = c.if-number-ge1.false in omega arith)

pub returns-in_default-2-clause-value : goal.returns-in_default-2-clause-value
returns-in_default-2-clause-value c = none_said (until_of c.args.word.now) (λ n e.
    c.in_default.ensures.none n ((c.texts_say_one.ensures.until c.args.word.now n).1 e).count)

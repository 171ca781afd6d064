-- Each digit is read, and the value so far is no more than the whole one.
use Rattle.std.proofs.Common.{◌≡◌, ℕ, ◌+◌, ◌<◌, take, length, arith, below_more, subst, ap, sym, ◌∙◌}
use Rattle.std.proofs.lemmas.Bool.Decides.{nat_tests}
use Rattle.std.proofs.lemmas.List.{take_all}
use Rattle.std.proofs.lemmas.Int.Digits.{digits_value_more}
use Rattle.std.proofs.lemmas.Str.Parse.{digits_value-take-le}
use Rattle.std.specs.Char.{digit_value}
use Rattle.std.specs.Str.Parse.{digits_value}
use Rattle.ring_trace.proofs.Digits.{all_by_place, all_at}
use Rattle.ring_trace.proofs.text.number.Goals as goal

pub returns-in_default : goal.returns-in_default
returns-in_default c n =
    let digit = all_at c.args.text.now c.loop-byte.byte-index n.digits.1 c.loop-byte-test.true in
    let P : ℕ → Type 0 = λ b. digit_value b < 10 in c.in_default.ensures.value (subst P (sym c.from.ensures) digit)

pub returns-in_default-checked_mul : goal.returns-in_default-checked_mul
returns-in_default-checked_mul c n =
    let more = digits_value_more 10 c.args.text.now c.loop-byte.byte-index c.loop-byte-test.true in
    let below = digits_value-take-le 10 c.args.text.now (c.loop-byte.byte-index + 1) (omega arith) in
    let fits = n.fits in let value = c.loop-byte.invariant.value in
    c.in_default-checked_mul.ensures (omega arith)

pub returns-in_default-checked_add : goal.returns-in_default-checked_add
returns-in_default-checked_add c n =
    let more = digits_value_more 10 c.args.text.now c.loop-byte.byte-index c.loop-byte-test.true in
    let below = digits_value-take-le 10 c.args.text.now (c.loop-byte.byte-index + 1) (omega arith) in
    let fits = n.fits in let value = c.loop-byte.invariant.value in let tens = c.in-Some-checked_mul.ensures.1 in
    let digit = c.in-Some.ensures.value.1 ∙ ap digit_value c.from.ensures in let same = c.from-in-loop-byte.ensures in
    c.in_default-checked_add.ensures (omega arith)

pub loop-byte-preserved : goal.loop-byte-preserved
loop-byte-preserved c =
    let more = digits_value_more 10 c.args.text.now c.loop-byte.byte-index c.loop-byte-test.true in
    let value = c.loop-byte.invariant.value in let tens = c.in-Some-checked_mul.ensures.1 in
    let sum = c.in-Some-checked_add.ensures.1 in
    let digit = c.in-Some.ensures.value.1 ∙ ap digit_value c.from.ensures in let same = c.from-in-loop-byte.ensures in
    let P : ℕ → Type 0 = λ b. digit_value b < 10 in record {
      digits = below_more _ _ c.loop-byte.invariant.digits (subst P c.from.ensures c.in-Some.ensures.value.0);
      value = omega arith;
      fits = let fits = c.in-Some-checked_add.ensures.0 in omega arith;
    }

pub returns : goal.returns
returns c =
    let text = c.args.text.now in
    let all : take c.loop-byte.byte-index text ≡ text = take_all c.loop-byte.byte-index text c.loop-byte-test.false in
    let value : c.loop-byte.value ≡ digits_value 10 text = c.loop-byte.invariant.value ∙ ap (digits_value 10) all in
    let some : 0 < length text = grind (arith, nat_tests, c.is_empty.ensures, c.if-is_empty.false) in (
      record {
        digits = (
          some,
          all_by_place text (λ k h. c.loop-byte.invariant.digits k
              (let past = c.loop-byte-test.false in omega arith)),
        );
        few = let short = c.if-text-gt-MOST_DIGITS.false in omega arith;
        fits = let fits = c.loop-byte.invariant.fits in omega arith;
      },
      value,
    )

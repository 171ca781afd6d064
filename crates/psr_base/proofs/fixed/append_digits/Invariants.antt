use Rattle.std.proofs.Common.{◌≡◌, ℕ, ◌≤◌, take}
use Rattle.std.specs.Str.Parse.{digits_value_after}
use Rattle.psr_base.specs.Spelling.{capped}
use Rattle.psr_base.proofs.fixed.append_digits.Given as goal

abbrev pub invariant-loop-digit : goal.invariant-loop-digit
invariant-loop-digit l = record {
  bound : l.number ≤ 1000000000000000001;
  value : (n : ℕ) → l.fn.number ≡ capped n → l.number ≡ capped (digits_value_after 10 n (take l.digit-index l.digits));
}

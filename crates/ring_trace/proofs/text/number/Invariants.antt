use Rattle.std.proofs.Common.{◌≡◌, ℕ, ◌<◌, take, get_or}
use Rattle.std.specs.Char.{digit_value}
use Rattle.std.specs.Str.Parse.{digits_value}
use Rattle.ring_trace.proofs.text.number.Given as goal

abbrev pub invariant-loop-byte : goal.invariant-loop-byte
invariant-loop-byte l = record {
  digits : (k : ℕ) → k < l.byte-index → digit_value (get_or l.text k 0) < 10;
  value : l.value ≡ digits_value 10 (take l.byte-index l.text);
  fits : l.value < 18446744073709551616;
}

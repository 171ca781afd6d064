use Rattle.std.proofs.Common.{◌≡◌, ◌<◌, ◌^◌, take}
use Rattle.std.specs.Str.Parse.{digits_value}
use Rattle.channel_mask.proofs.ranges.number.Given as goal

abbrev pub invariant-loop-digit : goal.invariant-loop-digit
invariant-loop-digit l = record {
  bound : l.number < 10 ^ l.digit-index;
  value : l.number ≡ digits_value 10 (take l.digit-index l.digits);
}

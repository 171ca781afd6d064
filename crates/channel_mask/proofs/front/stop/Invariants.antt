use Rattle.std.proofs.Common.{◌≡◌, ◌+◌, drop}
use Rattle.channel_mask.specs.declared.front.Front.TheVariants.{Start}
use Rattle.channel_mask.specs.Fronts.{with_bytes, bytes_taken, stop_of}
use Rattle.channel_mask.proofs.front.stop.Given as goal

-- what was read is a front, from which the text goes on as from its beginning
abbrev pub invariant-loop-place : goal.invariant-loop-place
invariant-loop-place l = record {
  stop : stop_of l.text ≡ l.place + bytes_taken l.front (drop l.place l.text);
  front : with_bytes Start l.text ≡ with_bytes l.front (drop l.place l.text);
}

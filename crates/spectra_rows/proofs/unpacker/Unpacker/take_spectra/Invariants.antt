use Rattle.std.proofs.Common.{◌≡◌, ◌-◌, ◌<◌, ◌≤◌, [], length, take}
use Rattle.spectra_rows.specs.Unpacking.{Takes}
use Rattle.spectra_rows.proofs.unpacker.Unpacker.take_spectra.Given as goal

abbrev pub invariant-loop-done : goal.invariant-loop-done
invariant-loop-done l = record {
  within : l.done ≤ length l.bytes;
  takes : Takes l.fn.self l.self (take l.done l.bytes);
  part : 0 < length l.bytes → l.self.part ≡ [];
}

abbrev pub decreases-loop-done : goal.decreases-loop-done
decreases-loop-done l = length l.bytes - l.done

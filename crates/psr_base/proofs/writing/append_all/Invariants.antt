use Rattle.std.proofs.Common.{◌-◌, ◌≤◌, length, take}
use Rattle.psr_base.specs.Made.{AppendedAll}
use Rattle.psr_base.proofs.writing.append_all.Given as goal

-- the file has taken the first bytes
abbrev pub invariant-loop-taken : goal.invariant-loop-taken
invariant-loop-taken g l = record {
  within : l.taken ≤ length l.bytes;
  appended : AppendedAll (take l.taken l.bytes) (g.F.Files.seen l.fn.files) (g.F.Files.seen l.files);
  is_open : g.F.Files.is_open l.files;
}

abbrev pub decreases-loop-taken : goal.decreases-loop-taken
decreases-loop-taken g l = length l.bytes - l.taken

use Rattle.std.specs.List.{AllWithin}
use Rattle.std.specs.Prelude.{IsSome}
use Rattle.psr_beams.proofs.engines.are_opened.Given as goal

abbrev pub invariant-loop-place : goal.invariant-loop-place
invariant-loop-place l = AllWithin IsSome l.slots 0 l.place

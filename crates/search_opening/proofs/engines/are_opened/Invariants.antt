use Rattle.std.specs.List.{AllWithin}
use Rattle.std.specs.Prelude.{IsSome}
use Rattle.search_opening.proofs.engines.are_opened.Given as goal

abbrev pub invariant-loop-place : goal.invariant-loop-place
invariant-loop-place l = AllWithin IsSome l.banks 0 l.place

use Rattle.std.specs.List.{AllWithin}
use Rattle.search_session.specs.Hands.{HandEnded}
use Rattle.search_session.proofs.rounds.all_ended.Given as goal

abbrev pub invariant-loop-place : goal.invariant-loop-place
invariant-loop-place g l = AllWithin HandEnded l.hands 0 l.place

use Rattle.std.specs.List.{AllWithin}
use Rattle.beam_set.specs.Sets.{HasSlotEnded}
use Rattle.beam_set.proofs.rounds.all_ended.Given as goal

abbrev pub invariant-loop-place : goal.invariant-loop-place
invariant-loop-place l = AllWithin HasSlotEnded l.beams 0 l.place

use Rattle.std.proofs.Common.{◌≡◌, take}
use Rattle.beam_set.specs.Marks.{near_beams}
use Rattle.beam_set.specs.Beams.{lists_in}
use Rattle.beam_set.proofs.marks.count_near.Given as goal

-- of the beams so far, those that keep a pulse near were counted
abbrev pub invariant-loop-k : goal.invariant-loop-k
invariant-loop-k l = record {
  counted : l.count ≡ near_beams (take l.k (lists_in l.beams)) l.within l.spectrum;
}

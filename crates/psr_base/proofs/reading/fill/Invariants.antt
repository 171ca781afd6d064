use Rattle.std.proofs.Common.{◌≡◌, ◌-◌, ◌≤◌, ℕ, List, Some, length, take}
use Rattle.psr_base.specs.Told.{left_to_read, moved_by}
use Rattle.psr_base.proofs.reading.fill.Given as goal

-- the bytes so far are the next bytes
abbrev pub invariant-loop-filled : goal.invariant-loop-filled
invariant-loop-filled g l =
    let i = g.I.Inputs in
    record {
      within : l.filled ≤ length l.into;
      moved : i.told l.inputs ≡ moved_by l.filled (i.told l.fn.inputs);
      given : (left : List ℕ) → left_to_read (i.told l.fn.inputs) ≡ Some left →
          (take l.filled l.into ≡ take l.filled left) × (l.filled ≤ length left);
      is_open : i.is_open l.inputs;
      quiet : i.faults l.inputs ≡ i.faults l.fn.inputs;
      calm : i.is_calm l.fn.inputs → i.is_calm l.inputs;
    }

abbrev pub decreases-loop-filled : goal.decreases-loop-filled
decreases-loop-filled g l = length l.into - l.filled

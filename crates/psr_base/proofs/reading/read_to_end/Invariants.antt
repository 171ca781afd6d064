use Rattle.std.proofs.Common.{◌≡◌, ◌+◌, ◌-◌, ◌≤◌, ℕ, List, Some, length, take, vec_len}
use Rattle.psr_base.specs.Told.{left_to_read, moved_by}
use Rattle.psr_base.proofs.reading.read_to_end.Given as goal

-- the data are the next bytes
abbrev pub invariant-loop-piece : goal.invariant-loop-piece
invariant-loop-piece g l =
    let i = g.I.Inputs in
    record {
      moved : i.told l.inputs ≡ moved_by (vec_len l.data) (i.told l.fn.inputs);
      given : (left : List ℕ) → left_to_read (i.told l.fn.inputs) ≡ Some left →
          (l.data.items ≡ take (vec_len l.data) left) × (vec_len l.data ≤ length left);
      is_open : i.is_open l.inputs;
      quiet : i.faults l.inputs ≡ i.faults l.fn.inputs;
      calm : i.is_calm l.fn.inputs → i.is_calm l.inputs;
    }

abbrev pub decreases-loop-piece : goal.decreases-loop-piece
decreases-loop-piece g l = l.limit + 1 - vec_len l.data

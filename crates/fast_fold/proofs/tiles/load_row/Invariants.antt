use Rattle.std.proofs.Common.{◌≡◌, ℕ, ◌+◌, ◌-◌, ◌%◌, ◌<◌, ◌≤◌, length, slice_index}
use Rattle.fdmt_rows.specs.Excess.{excess}
use Rattle.fast_fold.proofs.tiles.load_row.Given as goal

-- the places so far are filled
abbrev pub invariant-loop-done : goal.invariant-loop-done
invariant-loop-done l = record {
  within : l.done ≤ length l.out;
  phase : l.from < length l.values;
  at : l.done < length l.out → (l.start + l.done) % length l.values ≡ l.from;
  filled : (x : ℕ) → x < l.done
      → slice_index l.out x ≡ excess l.base (slice_index l.values ((l.start + x) % length l.values));
}

abbrev pub decreases-loop-done : goal.decreases-loop-done
decreases-loop-done l = length l.out - l.done

use Rattle.std.proofs.Common.{◌≡◌, ℕ, List}
use Rattle.spectra_rows.specs.Unpacking.{StandsForBytes, StandsForKept}
use Rattle.search_engine.specs.Scope.{kept_below}
use Rattle.search_engine.proofs.hiding.hide_marked.Given as goal

abbrev pub invariant-loop-channel : goal.invariant-loop-channel
invariant-loop-channel l = record {
  same : l.unpacker ≡ record l.fn.unpacker { rows = l.unpacker.rows };
  kept : (bytes : List ℕ) (gone : ℕ) → StandsForBytes l.fn.unpacker bytes gone
      → StandsForKept (kept_below l.marks l.channel) l.unpacker bytes gone;
}

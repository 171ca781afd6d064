use Rattle.std.proofs.Common.{ℕ, ◌+◌, List, length}
use Rattle.dada_model.specs.Edges.{AreEdges}
use Rattle.channel_mask.specs.Counting.{AreCounts}
use Rattle.channel_mask.proofs.cells.count_channel.Given as goal

abbrev pub invariant-loop-d : goal.invariant-loop-d
invariant-loop-d l = (edges : List ℕ) → AreEdges (length l.masked) edges →
    AreCounts edges l.masked l.c (l.c + 1) l.d l.counts.items

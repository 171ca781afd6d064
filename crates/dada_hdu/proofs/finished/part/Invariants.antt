use Rattle.dada_hdu.proofs.Parting.{Parting}
use Rattle.dada_hdu.proofs.finished.part.Given as goal

abbrev pub invariant-loop-place : goal.invariant-loop-place
invariant-loop-place l =
    Parting l.fn.readers.items l._place l.readers.items l.headers.items l.blocks.items

use Rattle.dada_hdu.proofs.Pairing.{Pairing}
use Rattle.dada_hdu.proofs.hdu.readers_of.Given as goal

abbrev pub invariant-loop-place : goal.invariant-loop-place
invariant-loop-place l =
    Pairing l.fn.headers.items l.fn.blocks.items l._place l.headers.items l.blocks.items l.readers.items

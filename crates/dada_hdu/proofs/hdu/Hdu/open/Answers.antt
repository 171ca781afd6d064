use Rattle.std.proofs.Common.{◌≡◌, length, sym, ap, ◌∙◌, arith}
use Rattle.ring_words.specs.declared.shape.RingShape.{RingShape}
use Rattle.dada_hdu.proofs.Opening.{fresh_pair, all_fresh}
use Rattle.dada_hdu.proofs.hdu.Hdu.open.Goals as goal

pub returns-clause-readers : goal.returns-clause-readers
returns-clause-readers c i near = let long = c.readers_of-readers.ensures.count in
    let same : length c.in-Ok.header_readers.items ≡ length c.in-Ok-open.block_readers.items =
    c.in-Ok.ensures.count ∙ (ap (λ (z : RingShape). z.readers) c.shape_of_headers.ensures
    ∙ sym c.in-Ok-open.ensures.count) in
    fresh_pair _ c.in-Ok.header_readers.items c.in-Ok-open.block_readers.items c.readers_of-readers.result.items i
    c.readers_of-readers.ensures.each (c.in-Ok.ensures.readers i (omega arith))
    (c.in-Ok-open.ensures.readers i (omega arith))

pub returns-clause-passes : goal.returns-clause-passes
returns-clause-passes c = let long = c.readers_of-readers.ensures.count in
    let same : length c.in-Ok.header_readers.items ≡ length c.in-Ok-open.block_readers.items =
    c.in-Ok.ensures.count ∙ (ap (λ (z : RingShape). z.readers) c.shape_of_headers.ensures
    ∙ sym c.in-Ok-open.ensures.count) in
    all_fresh _ c.readers_of-readers.result.items
    (λ i near. fresh_pair _ c.in-Ok.header_readers.items c.in-Ok-open.block_readers.items
    c.readers_of-readers.result.items i c.readers_of-readers.ensures.each (c.in-Ok.ensures.readers i (omega arith))
    (c.in-Ok-open.ensures.readers i (omega arith)))

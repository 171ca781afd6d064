use Rattle.std.proofs.Common.{arith}
use Rattle.std.proofs.lemmas.Option.{slice_get_within}
use Rattle.dada_hdu.proofs.Pairing.{pair_more}
use Rattle.dada_hdu.proofs.hdu.readers_of.Goals as goal

pub loop-place-preserved : goal.loop-place-preserved
loop-place-preserved c = let test = c.loop-place-test.true in let long = c.requires in
    let end = c.len-place-end.ensures.value in
    pair_more c.args.headers.items c.args.blocks.items c.loop-place.headers.items c.loop-place.blocks.items
    c.remove.new.self.items c.remove-in-loop-place.new.self.items c.loop-place._place c.loop-place.readers.items
    c.push.new.self.items c.remove.result c.remove-in-loop-place.result c.reader_of.result (omega arith) (omega arith)
    c.loop-place.invariant c.remove.ensures.value c.remove.ensures.items c.remove-in-loop-place.ensures.value
    c.remove-in-loop-place.ensures.items c.reader_of.ensures c.push.ensures.items

pub returns-clause-each : goal.returns-clause-each
returns-clause-each c i h b at_h at_b = let test = c.loop-place-test.false in
    let end = c.len-place-end.ensures.value in
    let near = slice_get_within c.args.headers.items i _ at_h in
    c.loop-place.invariant.each i h b (omega arith) at_h at_b

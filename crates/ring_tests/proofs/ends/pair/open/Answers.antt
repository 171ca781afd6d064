use Rattle.std.proofs.Common.{subst, ap, ◌∙◌, arith}
use Rattle.ring_words.specs.declared.shape.RingShape.{RingShape}
use Rattle.ring_ends.specs.Passes.{ReadsFrom}
use Rattle.ring_tests.proofs.Rows.{found}
use Rattle.ring_tests.proofs.ends.pair.open.Goals as goal

pub invariant_of-result : goal.invariant_of-result
invariant_of-result c = let opened = c.in-Ok.ensures in let count = opened.count in let one = c.requires.one in
    let h = opened.readers 0 (omega arith) in
    let same = found c.in-Ok.readers.items 0 h.0 c.in_ok-reader.reader c.remove.result h.1 c.remove.ensures.value
    c.in_ok-reader.was in
    record {
      size = ap (λ (z : RingShape). z.size) opened.shape ∙ c.requires.size;
      writes = opened.writer.0;
      reads =
          subst (ReadsFrom c.in-Ok.ring) same h.2;
    }

use Rattle.psr_base.proofs.Pieces.{rest_within}
use Rattle.psr_base.proofs.Writes.{WroteAll-next}
use Rattle.psr_base.proofs.writing.write_all.Goals as goal

pub loop-taken-preserved : goal.loop-taken-preserved
loop-taken-preserved g c =
    let seen = g.S.Sink.seen in
    let before = c.loop-taken.invariant in
    let taken = c.loop-taken.taken in
    let n = c.in_ok-taken.field-0 in
    let bytes = c.args.bytes.now in
    record {
      within = rest_within taken n bytes before.within c.in_ok-taken.ensures.bound;
      wrote = WroteAll-next taken n bytes (seen c.args.sink.now) (seen c.loop-taken.sink)
          (seen c.write.new.self) before.wrote c.in_ok-taken.ensures.took;
    }

use Rattle.psr_base.proofs.Pieces.{rest_within}
use Rattle.psr_base.proofs.Appends.{AppendedAll-next}
use Rattle.psr_base.proofs.writing.append_all.Goals as goal

pub loop-taken-preserved : goal.loop-taken-preserved
loop-taken-preserved g c =
    let seen = g.F.Files.seen in
    let before = c.loop-taken.invariant in
    let taken = c.loop-taken.taken in
    let n = c.in_ok-taken.field-0 in
    let bytes = c.args.bytes.now in
    record {
      within = rest_within taken n bytes before.within c.in_ok-taken.ensures.bound;
      appended = AppendedAll-next taken n bytes (seen c.args.files.now) (seen c.loop-taken.files)
          (seen c.append.new.self) before.appended c.in_ok-taken.ensures.took;
      is_open = c.append.ensures.still_open;
    }

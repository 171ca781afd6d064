use Rattle.std.proofs.Common.{◌∙◌, ap, length, arith}
use Rattle.band_level.proofs.Written.{written}
use Rattle.band_level.proofs.sums.Sums.write.Goals as goal

pub returns-then-self-clause-writes : goal.returns-then-self-clause-writes
returns-then-self-clause-writes c =
    let s = c.args.self.now in
    let new = written c.write_wide.new.values s.wide.items s.wide.len
    (c.write_wide.auto.values ∙ c.as_mut_slice.ensures.len) in
    rw (c.if-self.true, new, ← c.as_mut_slice.ensures.value) c.write_wide.ensures

pub write_wide-requires : goal.write_wide-requires
write_wide-requires c =
    omega (arith, rw c.if-self.true at c.requires.room, ap length c.as_mut_slice.ensures.value)

pub returns-else-self-clause-writes : goal.returns-else-self-clause-writes
returns-else-self-clause-writes c =
    let s = c.args.self.now in
    let new = written c.write_narrow.new.values s.narrow.items s.narrow.len
    (c.write_narrow.auto.values ∙ c.as_mut_slice-else-self.ensures.len) in
    rw (c.if-self.false, new, ← c.as_mut_slice-else-self.ensures.value) c.write_narrow.ensures

pub write_narrow-requires-clause-room : goal.write_narrow-requires-clause-room
write_narrow-requires-clause-room c =
    omega (arith, rw c.if-self.false at c.requires.room, ap length c.as_mut_slice-else-self.ensures.value)

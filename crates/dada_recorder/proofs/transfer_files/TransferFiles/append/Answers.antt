use Rattle.std.proofs.Common.{◌-◌, ◌++◌, length, take, drop, ◌∙◌, arith}
use Rattle.std.proofs.lemmas.List.{length-take, length-drop}
use Rattle.dada_recorder.specs.TransferFiles.{recording_in}
use Rattle.dada_recorder.proofs.Stepping.{taken_more, taken_all, taken_length}
use Rattle.dada_recorder.proofs.transfer_files.TransferFiles.append.Goals as goal

pub loop-taken-preserved : goal.loop-taken-preserved
loop-taken-preserved g c =
    let before = c.loop-taken.invariant in
    let t = c.loop-taken.taken in
    let n = c.in-Ok.n in
    let ys = c.args.bytes.now in
    let old = g.F.Files.seen c.loop-taken.files in
    let new = g.F.Files.seen c.step.new.files in
    let r = recording_in c.args.self.now in
    let taken = c.in-Ok.ensures.taken in
    let rest = length-take (length ys - t) (drop t ys) in
    let count = taken.count in
    let within = taken.within in
    let was = before.count in
    record {
      within = let dropped = length-drop t ys in omega (arith, within, rest, dropped);
      kept = c.in-Ok.ensures.kept ∙ before.kept;
      placed = c.in-Ok.ensures.placed;
      count = omega (arith, count, was);
      is_open = c.in-Ok.ensures.is_open;
      faults = c.in-Ok.ensures.faults.none ∙ before.faults;
      made = λ files xs is outset has.
          let now = (c.in-Ok.ensures.made files (xs ++ take t ys)
          (taken_length t _ _ xs ys before.within is before.count)).all outset
          (rw before.kept (before.made files xs is outset has)) in
          rw (before.kept, taken_more t n xs ys) at now;
    }

pub returns-in-Err-clause-made : goal.returns-in-Err-clause-made
returns-in-Err-clause-made g c = λ files xs is.
    let before = c.loop-taken.invariant in
    let t = c.loop-taken.taken in
    let ys = c.args.bytes.now in
    let old = g.F.Files.seen c.loop-taken.files in
    let r = recording_in c.args.self.now in
    record {
      all = λ outset has. tt;
      front = λ outset all has front.
          (c.in-Err.ensures.made files (xs ++ take t ys)
          (taken_length t _ _ xs ys before.within is before.count)).front outset all
          (rw before.kept (before.made files xs is outset has)) (rw (before.kept, taken_all t xs ys) front);
    }

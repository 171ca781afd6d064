use Rattle.std.proofs.Common.{◌≡◌, ◌+◌, ◌*◌, ◌≤◌, [], take, arith, refl}
use Rattle.std.proofs.Math.Nat.{mul-le-mul_right}
use Rattle.band_level.specs.Sound.{task_in}
use Rattle.band_level.specs.Spectra.{written_bytes}
use Rattle.band_level.proofs.Puts.{has_fewer}
use Rattle.band_level.proofs.SpectraLevelled.{spectra_more}
use Rattle.band_level.proofs.spectra.level_spectra.Goals as goal

pub level_spectrum-requires-clause-room : goal.level_spectrum-requires-clause-room
level_spectrum-requires-clause-room c =
    let wide = written_bytes c.args.task.now.format c.args.task.now.plan in
    let part : (c.loop-t.t + 1) * wide ≤ c.args.count * wide = mul-le-mul_right wide (omega arith) in
    rw c.written_bytes-written.ensures (omega arith)

pub loop-t-preserved : goal.loop-t-preserved
loop-t-preserved c =
    let s = c.args.scales.now in
    let wide = c.written_bytes-written.result in
    let next : c.loop-t.t * wide + written_bytes c.args.task.now.format c.args.task.now.plan ≡ (c.loop-t.t + 1) * wide =
    omega (arith, c.written_bytes-written.ensures) in
    record {
      rows = c.level_spectrum.ensures.rows;
      narrow = rw c.level_spectrum.ensures.narrow c.loop-t.invariant.narrow;
      levels = spectra_more (task_in c.args.task.now) c.args.held.now s.gains.items s.bases.items s.lifts.items
          c.args.rows.now.fractions.items c.loop-t.rows.fractions.items c.level_spectrum.new.rows.fractions.items []
          (take (c.loop-t.t * wide) c.loop-t.out) (take ((c.loop-t.t + 1) * wide) c.level_spectrum.new.out)
          c.args.first c.loop-t.t (c.args.first + c.loop-t.t) refl c.loop-t.invariant.levels
          (rw next at c.level_spectrum.ensures.levels);
    }

pub returns-clause-levels : goal.returns-clause-levels
returns-clause-levels c =
    let all : c.loop-t.t ≡ c.args.count = omega arith in
    rw (← all, ← c.written_bytes-written.ensures) c.loop-t.invariant.levels

pub level_spectrum-requires-clause-held : goal.level_spectrum-requires-clause-held
level_spectrum-requires-clause-held c =
    has_fewer c.args.task.now.format c.args.held.now (c.args.first + c.loop-t.t + 1) (c.args.first + c.args.count)
    (omega arith) c.requires.held

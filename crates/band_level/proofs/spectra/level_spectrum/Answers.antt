use Rattle.std.proofs.Common.{◌≡◌, ◌+◌, ◌*◌, ◌/◌, length, take, ◌∙◌, ap, arith}
use Rattle.band_level.specs.Values.{cells}
use Rattle.band_level.specs.Finished.{finished}
use Rattle.band_level.specs.Levelled.{marks_cell}
use Rattle.band_level.specs.Sound.{task_in}
use Rattle.band_level.proofs.SpectraLevelled.{one_levelled}
use Rattle.band_level.proofs.Written.{written}
use Rattle.band_level.proofs.spectra.level_spectrum.Goals as goal

pub returns-clause-levels : goal.returns-clause-levels
returns-clause-levels c =
    let k = task_in c.args.task.now in
    let s = c.args.scales.now in
    let old = c.args.rows.now in
    let row : length c.as_mut_slice-row.result.now ≡ cells k.format =
    ap length c.as_mut_slice-row.ensures.value ∙ c.requires.rows.rows.row_long in
    let levels : length c.as_mut_slice-levels.result.now ≡ cells k.format =
    ap length c.as_mut_slice-levels.ensures.value ∙ c.requires.rows.rows.levels_long in
    let long : cells k.format ≡ length c.finish_row.new.levels = omega arith in
    let fractions = written c.level_row.new.fractions old.fractions.items old.fractions.len
    (c.level_row.auto.fractions ∙ c.as_mut_slice.ensures.len) in
    rw (fractions, ← c.as_mut_slice.ensures.value)
    (one_levelled k c.args.held.now _ _ _ c.read.new.row c.level_row.new.levels c.finish_row.new.levels _ _ _ _
    c.args.t (omega arith) (omega arith) c.level_row.ensures.levels c.read.ensures.values
    (c.finish_row.ensures.levels
    ∙ ap (λ ms. finished k.plan (marks_cell ms k.format.polarisations) c.level_row.new.levels) c.as_slice.ensures.value)
    (ap (λ n. take (c.args.at + n * (k.plan.bits / 8)) c.write_levels.new.out) long ∙ c.write_levels.ensures))

pub level_row-requires-clause-narrow : goal.level_row-requires-clause-narrow
level_row-requires-clause-narrow c fits i lt =
    let row : length c.as_mut_slice-row.result.now ≡ cells c.args.task.now.format =
    ap length c.as_mut_slice-row.ensures.value ∙ c.requires.rows.rows.row_long in
    rw c.most_value.ensures.value (c.requires.narrow fits i (omega arith))

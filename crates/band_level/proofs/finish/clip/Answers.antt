use Rattle.std.proofs.Common.{sym, ◌∙◌, ap}
use Rattle.band_level.specs.Levelled.{marks_cell}
use Rattle.band_level.specs.Finished.{clipped_by}
use Rattle.band_level.proofs.finish.clip.Goals as goal

pub returns-in-Some-clause-levels : goal.returns-in-Some-clause-levels
returns-in-Some-clause-levels c =
    c.clip_row.ensures.levels
    ∙ ap (λ o. clipped_by o c.args.plan (marks_cell c.args.masked.now c.args.polarisations) c.args.levels.now)
    (sym c.in-Some.is)

pub returns-in-None-clause-levels : goal.returns-in-None-clause-levels
returns-in-None-clause-levels c =
    ap (λ o. clipped_by o c.args.plan (marks_cell c.args.masked.now c.args.polarisations) c.args.levels.now)
    (sym c.in-None.is)

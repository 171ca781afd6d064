use Rattle.std.proofs.Common.{◌∙◌}
use Rattle.search_model.specs.Parts.{within_part}
use Rattle.warm_restart.proofs.Parts.{part_ends, part_breaks}
use Rattle.warm_restart.proofs.part.write_part.Goals as goal

pub returns-in-Ok : goal.returns-in-Ok
returns-in-Ok g c list all =
    part_ends c.args.obs.now c.of.result.channels c.of.ensures c.kept-kept.result.now
    (within_part c.args.checkpoint.now.place c.args.until list) (c.kept-kept.ensures.value ∙ all) c.args.until
    c.args.spectra c.args.checkpoint.now.pulses _ _ _ c.write_last_line.result c.pieces_join.ensures.pieces
    c.in-Ok.ensures.lines.all c.write_last_line.ensures

pub returns-in-Err : goal.returns-in-Err
returns-in-Err g c list all =
    part_breaks c.args.obs.now c.of.result.channels c.of.ensures c.kept-kept.result.now
    (within_part c.args.checkpoint.now.place c.args.until list) (c.kept-kept.ensures.value ∙ all) c.args.until
    c.args.spectra c.args.checkpoint.now.pulses _ _ c.in-Err.stop c.pieces_join.ensures.pieces
    c.in-Err.ensures.lines.front

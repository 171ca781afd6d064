use Rattle.std.proofs.Common.{◌+◌, ◌*◌, ◌∙◌}
use Rattle.std.proofs.lemmas.List.{get_or-set_same}
use Rattle.band_level.proofs.Shares.{amount_more}
use Rattle.band_level.proofs.finish.spread_at.Goals as goal

pub returns-clause-left : goal.returns-clause-left
returns-clause-left c j is =
    let s = c.args.spread in
    rw (c.if-is_masked.false, ← amount_more j s.amount s.start) (c.left_behind.ensures.left (j * s.amount + s.start) is)

pub returns-clause-here : goal.returns-clause-here
returns-clause-here c j is =
    let s = c.args.spread in
    rw (c.if-is_masked.false, ← amount_more j s.amount s.start, ← c.share_of.ensures.share (j * s.amount + s.start) is)
    (get_or-set_same c.args.levels.now c.args.i c.changed.result 0 c.requires.place ∙ c.changed.ensures.value)

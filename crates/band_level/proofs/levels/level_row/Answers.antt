use Rattle.band_level.proofs.Narrowed.{room_for, levels_in_full}
use Rattle.band_level.proofs.levels.level_row.Goals as goal

pub level_narrow-requires-clause-room : goal.level_narrow-requires-clause-room
level_narrow-requires-clause-room c i lt =
    rw (c.as_slice-gains.ensures.value, c.as_slice-bases.ensures.value)
    (room_for _ _ _ _ _ _ _ _ (c.requires.narrow c.if-narrow.true i lt) (c.requires.values i))

pub returns-then-narrow-clause-levels : goal.returns-then-narrow-clause-levels
returns-then-narrow-clause-levels c =
    let s = c.args.scales.now in
    let n = c.args.narrow.now in
    levels_in_full c.args.most c.args.most_value c.args.row.now s.gains.items s.bases.items s.lifts.items
    n.gains.items n.bases.items n.lifts.items _ _ _ (c.requires.narrow c.if-narrow.true)
    (rw (← c.as_slice-gains.ensures.value, ← c.as_slice-bases.ensures.value, ← c.as_slice-lifts.ensures.value)
    c.level_narrow.ensures.levels)

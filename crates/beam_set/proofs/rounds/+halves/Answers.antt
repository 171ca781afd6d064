use Rattle.std.proofs.Common.{◌++◌, sym, ◌∙◌}
use Rattle.beam_set.specs.Sets.{EachPair, SlotOn, SlotMoved}
use Rattle.beam_set.proofs.Pairing.{pairs_right, moved_join}
use Rattle.beam_set.proofs.rounds.+halves.Goals as goal

pub drive_from-drive_halves-requires-clause-right : goal.drive_from-drive_halves-requires-clause-right
drive_from-drive_halves-requires-clause-right g t c κs within =
    let On = SlotOn g.I.Inputs.told g.I.Inputs.is_open in
    let cut = c.split_at_mut-front in
    let xs = c.split-rest.new.beams.items in
    let zs = c.split-rest.result.items in
    let all : EachPair On (xs ++ zs) (cut.result.0.now ++ cut.result.1.now) =
    rw (c.split-rest.ensures.all, sym cut.ensures.value) c.requires in
    pairs_right On xs zs cut.result.0.now cut.result.1.now (cut.ensures.front_len ∙ c.len-2.ensures.value) all

pub drive_from-returns-clause-moved : goal.drive_from-returns-clause-moved
drive_from-returns-clause-moved g t c =
    let Moved = SlotMoved g.I.Inputs.told g.I.Inputs.is_calm g.I.Inputs.faults c.args.turns in
    let cut = c.split_at_mut-front in
    let both = c.drive_halves in
    let xs = c.split-rest.new.beams.items in
    let zs = c.split-rest.result.items in
    let us = cut.result.0.now in
    let vs = cut.result.1.now in
    let moved = moved_join Moved xs zs both.new.left.items both.new.right.items us vs both.new.left_inputs
    both.new.right_inputs (cut.ensures.front_len ∙ c.len-2.ensures.value) both.ensures.left_moved both.ensures.right_moved in
    rw (c.append.ensures, sym c.split-rest.ensures.all, cut.ensures.value) moved

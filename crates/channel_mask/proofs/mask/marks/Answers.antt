use Rattle.std.proofs.Common.{ℕ, ap, ◌∙◌}
use Rattle.std.specs.List.{list_any}
use Rattle.channel_mask.specs.Ranges.{has_channel}
use Rattle.channel_mask.proofs.Marks.{one_mark_more}
use Rattle.channel_mask.proofs.mask.marks.Goals as goal

pub loop-c-preserved : goal.loop-c-preserved
loop-c-preserved c =
    let ranges = c.args.ranges.now in
    one_mark_more ranges c.args.channels c.args.is_falling c.loop-c.c c.loop-c.marks.items c.push.new.self.items
    c.are_naming.result c.loop-c.invariant c.in_ok-push.ensures.items
    (c.are_naming.ensures
    ∙ ap (λ (place : ℕ). list_any (λ range. has_channel range place) ranges) c.place_in_file.ensures)

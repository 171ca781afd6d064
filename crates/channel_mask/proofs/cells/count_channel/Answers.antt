use Rattle.std.proofs.Common.{◌+◌}
use Rattle.channel_mask.proofs.Counts.{channel_count, count_more}
use Rattle.channel_mask.proofs.cells.count_channel.Goals as goal

pub loop-d-preserved : goal.loop-d-preserved
loop-d-preserved c = λ edges band.
    rw c.in_ok-push.ensures.items (count_more edges c.args.masked.now c.args.c (c.args.c + 1) c.loop-d.d
    c.cells_of_channel.result c.loop-d.counts.items (c.loop-d.invariant edges band)
    (channel_count edges c.args.masked.now band c.one_channel_adds.ensures c.one_channel_is_its_sample.ensures c.args.c
    c.loop-d.d c.cells_of_channel.result c.requires.channel c.cells_of_channel.ensures))

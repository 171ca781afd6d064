use Rattle.std.proofs.Common.{◌+◌, ◌-◌, ℕ, arith}
use Rattle.psr_make.proofs.Adding.{short_delays, train_low, train_more}
use Rattle.psr_make.proofs.maker.raise_train.Goals as goal

pub raise_channel-requires-clause-delay : goal.raise_channel-requires-clause-delay
raise_channel-requires-clause-delay c =
    let n : ℕ = c.args.spec.now.channels in
    short_delays n c.args.delays.now c.requires.delays (n - (c.loop-channel.channel + 1)) (c.loop-channel.channel + 1)
    (omega arith)

pub raise_channel-requires-clause-low : goal.raise_channel-requires-clause-low
raise_channel-requires-clause-low c =
    train_low c.args.spec.now c.args.bytes.now c.loop-channel.bytes c.loop-channel.channel c.args.first c.args.count
    c.loop-channel.auto.bytes c.requires.low c.loop-channel.invariant

pub loop-channel-preserved : goal.loop-channel-preserved
loop-channel-preserved c =
    train_more c.args.spec.now c.args.bytes.now c.loop-channel.bytes c.raise_channel.new.bytes c.args.delays.now
    c.loop-channel.channel c.args.first c.args.count c.loop-channel.auto.bytes c.requires.path c.requires.whole
    (omega arith) c.loop-channel.invariant c.raise_channel.ensures

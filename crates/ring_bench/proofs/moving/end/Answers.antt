use Rattle.ring_bench.proofs.moving.end.Goals as goal

pub finish-requires-clause-readers : goal.finish-requires-clause-readers
finish-requires-clause-readers c = c.order_is_enough.ensures c.args.ring c.args.readers.items c.requires.readers

use Rattle.ring_ends.specs.Passes.{reader_knows}
use Rattle.dada_hdu.specs.Passes.{data_shape}
use Rattle.session_readers.proofs.Passing.{can_feed_copy}
use Rattle.session_readers.proofs.reading.copy_block.Goals as goal

pub take-requires : goal.take-requires
take-requires c = can_feed_copy c.args.bank.now c.args.transfer (data_shape c.args.hdu.now)
    (reader_knows c.args.reader.now.blocks) (reader_knows c.read.new.pass.blocks) c.args.space.now c.read.new.into
    c.in-Ok.taken c.requires.reads.blocks.1 c.requires.ready c.in-Ok.ensures.blocks.cases

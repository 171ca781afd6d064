use Rattle.std.proofs.Common.{refl, arith}
use Rattle.dada_hdu.specs.Passes.{data_shape}
use Rattle.session_readers.specs.Shards.{blocks_cleared}
use Rattle.search_session.proofs.Unfed.{unfed_at, unread_over, unread_done}
use Rattle.search_session.proofs.staff.shard_of.Goals as goal

pub returns-clause-on : goal.returns-clause-on
returns-clause-on c =
    let xs = blocks_cleared c.args.reader in
    let reader = c.requires.reader in
    let bank = c.requires.bank in
    record {
      reads = reader.reads;
      here = λ running. (c.args.reader, refl);
      stays = tt;
      header_room = c.requires.space;
      few = c.requires.few;
      done = unread_done xs reader.no_block;
      over = unread_over bank.0 xs c.args.bank reader.no_block bank.1 bank.2;
      engines = unfed_at (data_shape c.args.hdu.now).size bank.0 xs c.args.bank reader.no_block bank.2;
      count = omega arith;
    }

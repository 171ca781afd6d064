use Rattle.std.proofs.Common.{refl, sym, arith}
use Rattle.search_session.proofs.staff.recorder_of.Goals as goal

pub returns-clause-on : goal.returns-clause-on
returns-clause-on g c =
    let part = c.args.part in
    let fresh = c.requires.part in
    let reader = c.requires.reader in
    record {
      reads = reader.reads;
      here = λ running. (c.args.reader, refl);
      stays = tt;
      size = fresh.size;
      file = λ running. rw fresh.no_file fresh.closed;
      closed = tt;
      stands = rw (reader.no_block, reader.no_header) fresh.stands;
      end = sym fresh.running;
      count = omega arith;
    }

use Rattle.std.proofs.Common.{arith}
use Rattle.ring_words.specs.Views.{reader_of}
use Rattle.ring_words.proofs.Holding.{reader_free}
use Rattle.ring_words.proofs.Moves.{joins_at}
use Rattle.ring_words.proofs.words.Words.join.Goals as goal

pub join_seat-requires : goal.join_seat-requires
join_seat-requires c = let t = c.args.self.now in let w = c.args.writer.now in let r = c.args.reader in
    let wide = t.wide in let two = t.ring.two_buffers in (
      c.requires.writer_seat.0,
      c.requires.reader_seat.0,
      reader_free (reader_of r.seat.me.0) r.seat.me.1 r.hand c.requires.home,
      omega arith,
      joins_at t.table.shared.key w.seat.id w.seat.me.0 r.seat.id r.seat.me.0 w.role r.role,
    )

use Rattle.std.proofs.Common.{◌+◌, arith}
use Rattle.ring_words.proofs.Moves.{tries_at}
use Rattle.ring_words.proofs.words.Words.reader_take.Goals as goal

pub compare_exchange-found-requires : goal.compare_exchange-found-requires
compare_exchange-found-requires c = let t = c.args.self.now in let r = c.args.reader.now in let s = r.seat in
    let wide = t.wide in let two = t.ring.two_buffers in let slot = c.slot_of.ensures in (
      c.requires.seat.0,
      omega arith,
      tries_at t.table.shared.key t.shape t.keyed t.table.shared.table_id.slots s.id t.deep s.me c.slot_of.result
          r.cleared r.number c.home_word-home.result
          ((c.home_word-home.result + r.number) + 1) r.role r.count slot r.number_is c.requires.home
          c.requires.registered
          c.home_word-home.ensures (omega arith),
    )

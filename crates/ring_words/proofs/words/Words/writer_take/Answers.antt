use Rattle.std.proofs.Common.{◌+◌, arith}
use Rattle.ring_words.proofs.Moves.{takes_out_at}
use Rattle.ring_words.proofs.words.Words.writer_take.Goals as goal

pub compare_exchange-requires : goal.compare_exchange-requires
compare_exchange-requires c = let t = c.args.self.now in let w = c.args.writer.now in let s = w.seat in
    let wide = t.wide in let two = t.ring.two_buffers in let slot = c.slot_of.ensures in (
      c.requires.seat.0,
      omega arith,
      takes_out_at t.table.shared.key t.shape t.keyed t.table.shared.table_id.slots s.id t.deep s.me c.slot_of.result
          w.sealed c.passed_word-found.result
          (c.passed_word-found.result + 15) w.role w.count slot c.requires.home c.requires.blocks c.requires.room
          c.passed_word-found.ensures
          (omega arith),
    )

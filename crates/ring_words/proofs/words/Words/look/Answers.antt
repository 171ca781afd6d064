use Rattle.std.proofs.Common.{arith}
use Rattle.ring_words.proofs.Moves.{looks_at}
use Rattle.ring_words.proofs.words.Words.look.Goals as goal

pub load-found-requires : goal.load-found-requires
load-found-requires c = let t = c.args.self.now in let s = c.args.writer.now.seat in let wide = t.wide in
    let word = c.count_word_of-word.ensures in let near = c.requires.reader in (
      c.requires.seat.0,
      omega arith,
      looks_at t.table.shared.key t.shape t.keyed t.table.shared.table_id.slots s.id t.deep s.me
          c.count_word_of-word.result c.args.reader c.args.writer.now.role word near,
    )

use Rattle.std.proofs.Common.{◌<◌, subst, arith}
use Rattle.ring_words.specs.declared.shape.RingShape.{RingShape}
use Rattle.ring_words.proofs.Moves.{retires_at}
use Rattle.ring_words.proofs.words.Words.retire.Goals as goal

pub store-requires : goal.store-requires
store-requires c = let t = c.args.self.now in let r = c.args.reader.now in let s = r.seat in let wide = t.wide in
    let word = c.count_word_of.ensures in
    let near : r.number < t.shape.readers = subst (λ (z : RingShape).
    r.number < z.readers) c.requires.seat.1 r.in_range in (
      c.requires.seat.0,
      omega arith,
      retires_at t.table.shared.key t.shape t.keyed t.table.shared.table_id.slots s.id t.deep s.me
          c.count_word_of.result r.number r.role word r.number_is c.requires.home c.requires.registered,
    )

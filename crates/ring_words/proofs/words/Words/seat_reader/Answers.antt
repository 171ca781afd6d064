use Rattle.std.proofs.Common.{ap, ◌∙◌, arith}
use Rattle.ring_words.specs.declared.shape.RingShape.{RingShape}
use Rattle.ring_words.specs.Views.{fresh_reader, writer_of, parked_at}
use Rattle.ring_words.proofs.Moves.{splits_at}
use Rattle.ring_words.proofs.words.Words.seat_reader.Goals as goal

pub split_seat-requires : goal.split_seat-requires
split_seat-requires c = let t = c.args.self.now in let w = c.args.writer.now in let wide = t.wide in
    let two = t.ring.two_buffers in let next = c.requires.next in
    let near = ap (λ (z : RingShape). z.readers) t.keyed in let below = c.requires.near in (
      c.requires.seat.0,
      omega arith,
      splits_at t.table.shared.key w.seat.id w.seat.me.0 (fresh_reader t.shape c.args.number) w.role (omega arith)
          (ap (parked_at (writer_of w.seat.me.0)) c.requires.next ∙ c.requires.fresh),
    )

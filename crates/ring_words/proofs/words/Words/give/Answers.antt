use Rattle.std.proofs.Common.{arith}
use Rattle.ring_words.proofs.Giving.{block_held, may_give}
use Rattle.ring_words.proofs.words.Words.give.Goals as goal

pub slot_mut-block-requires : goal.slot_mut-block-requires
slot_mut-block-requires c =
    let h = block_held c.args.self.now c.args.reader.now c.requires.seat c.requires.out c.slot_of-slot.result
    c.slot_of-slot.ensures in (c.requires.seat.0, (h.0, h.1))

pub store-requires : goal.store-requires
store-requires c = let t = c.args.self.now in let wide = t.wide in let two = t.ring.two_buffers in
    let slot = c.slot_of-slot.ensures in (
      c.requires.seat.0,
      omega arith,
      may_give t c.args.reader.now c.requires.seat c.requires.out c.slot_of-slot.result slot
          c.slot_mut-block.result.now c.home_word.result c.slot_mut-block.ensures.value c.home_word.ensures,
    )

use Rattle.std.proofs.Common.{length, ap, ◌∙◌, arith}
use Rattle.ring_blocks.specs.declared.Entry.{Entry}
use Rattle.ring_words.proofs.Sealing.{at_hand, hand_room, may_seal}
use Rattle.ring_words.proofs.words.Words.seal.Goals as goal

pub slot_mut-requires : goal.slot_mut-requires
slot_mut-requires c = let h = at_hand c.args.self.now c.args.writer.now c.slot_of-slot.result c.requires.seat.1
    c.requires.out c.slot_of-slot.ensures in (c.requires.seat.0, (h.0, h.1))

pub store-requires : goal.store-requires
store-requires c = let t = c.args.self.now in let w = c.args.writer.now in let wide = t.wide in
    let two = t.ring.two_buffers in let slot = c.slot_of-slot.ensures in let out = c.requires.out in
    let room = c.fill.ensures.room
    ∙ hand_room t w c.slot_of-slot.result c.requires.seat.1 out slot c.slot_mut.result.now c.slot_mut.ensures.value in
    let fits = c.requires.fits in let filled = ap (λ (e : Entry). length e.bytes) c.fill.ensures.filled in (
      c.requires.seat.0,
      omega arith,
      may_seal t w c.slot_of-slot.result c.requires.seat.1 out slot c.fill.new.self c.home_word.result room
          (omega arith) c.home_word.ensures,
    )

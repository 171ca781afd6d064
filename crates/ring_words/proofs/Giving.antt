-- The buffer that a reader holds: the slot where it lies, and that it may be given back.
use Rattle.std.proofs.Common.{◌≡◌, ℕ, ◌+◌, ◌*◌, ◌%◌, true, ◌∷◌, length, Some, sym, ap, ◌∙◌}
use mathlib.Core.Option.{none}
use Rattle.atomic_table.specs.Table.{Me, rest, step, Allows}
use Rattle.ring_blocks.specs.declared.Block.{Block}
use Rattle.ring_blocks.specs.Contents.{room_of, entry_of}
use Rattle.ring_words.specs.declared.shape.RingShape.{RingShape}
use Rattle.ring_words.specs.declared.views.View.{View}
use Rattle.ring_words.specs.declared.seats.ReaderSeat.{ReaderSeat}
use Rattle.ring_words.specs.declared.words.Words.{Words}
use Rattle.ring_words.specs.Ring.{RuleHolds}
use Rattle.ring_words.specs.Plays.{Gave}
use Rattle.ring_words.specs.Seats.{reader_view, Reads}
use Rattle.ring_words.proofs.Holding.{reader_slot, reader_with, same_block}
use Rattle.ring_words.proofs.Moves.{gives_at}

module _ (t : Words) (r : ReaderSeat) (reads : Reads t r) (out : (reader_view r).out ≡ true) (slot : ℕ)
    (at : slot ≡ r.cleared % t.shape.buffers) where
  at_next : slot ≡ length (reader_view r).cleared % (reader_view r).shape.buffers
  at_next = at ∙ (ap (λ (x : ℕ). x % t.shape.buffers) r.count
      ∙ ap (λ (z : RingShape). length (reader_view r).cleared % z.buffers) (sym reads.1))

  -- the block that it holds, which it got
  pub block_held : (b : Block) × (r.seat.me.1 ≡ (slot, b) ∷ rest r.seat.me.1)
      × (room_of b ≡ (reader_view r).shape.size) × ((reader_view r).got ≡ Some (entry_of b))
  block_held = reader_slot r.seat.me slot r.hand out (r.holds out) at_next

  -- given back, the buffer is at home with that block
  pub may_give : (b : Block) (word : ℕ) → r.seat.me.1 ≡ (slot, b) ∷ rest r.seat.me.1 → word ≡ 16 * (r.cleared + 1) →
      (let me : Me Block View = (r.seat.me.0, (slot, b) ∷ rest r.seat.me.1) in
      Allows (RuleHolds t.table.shared.key) t.table.shared.table_id.slots r.seat.id me slot (λ _. word)
      (λ _. Gave (step t.table.shared.table_id.slots slot word 0 none) me word))
  may_give b word held is = let h = block_held in let same = same_block r.seat.me.1 slot b h.0 held h.1 in
      gives_at t.table.shared.key t.shape t.keyed t.table.shared.table_id.slots r.seat.id t.deep
      (r.seat.me.0, (slot, b) ∷ rest r.seat.me.1) slot r.cleared word (reader_view r) b reads.1
      (reader_with r.seat.me slot b r.role r.hand out (r.holds out) at_next) r.count at out
      (ap room_of same ∙ (h.2 ∙ ap (λ (z : RingShape). z.size) reads.1))
      (h.3 ∙ ap (λ (x : Block). Some (entry_of x)) (sym same)) is

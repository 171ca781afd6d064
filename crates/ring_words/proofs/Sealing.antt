-- The block in the writer's hand is filled and sealed.
use Rattle.std.proofs.Common.{◌≡◌, ℕ, ◌+◌, ◌*◌, ◌%◌, ◌≤◌, true, ◌∷◌, length, sym, ap, ◌∙◌}
use mathlib.Core.Option.{none}
use Rattle.atomic_table.specs.Table.{Me, step, Allows, rest}
use Rattle.ring_blocks.specs.declared.Block.{Block}
use Rattle.ring_blocks.specs.Contents.{room_of, entry_of}
use Rattle.ring_words.specs.declared.shape.RingShape.{RingShape}
use Rattle.ring_words.specs.declared.seats.WriterSeat.{WriterSeat}
use Rattle.ring_words.specs.declared.views.View.{View}
use Rattle.ring_words.specs.declared.words.Words.{Words}
use Rattle.ring_words.specs.Ring.{RuleHolds}
use Rattle.ring_words.specs.Plays.{Sealed}
use Rattle.ring_words.specs.Seats.{shape_of, writer_view}
use Rattle.ring_words.proofs.Holding.{writer_slot, writer_with, same_block}
use Rattle.ring_words.proofs.Moves.{seals_at}

module _ (t : Words) (w : WriterSeat) (k : ℕ) (shaped : (writer_view w).shape ≡ shape_of t)
    (out : (writer_view w).out ≡ true) (slot : k ≡ w.sealed % (shape_of t).buffers) where
  here : k ≡ length (writer_view w).sealed % (writer_view w).shape.buffers
  here = slot ∙ (ap (λ (x : ℕ). x % t.shape.buffers) w.count
      ∙ ap (λ (z : RingShape). (length (writer_view w).sealed) % z.buffers) (sym shaped))

  -- it lies in that slot
  pub at_hand : (b : Block) × (w.seat.me.1 ≡ (k, b) ∷ rest w.seat.me.1) × (room_of b ≡ (writer_view w).shape.size)
  at_hand = writer_slot w.seat.me k w.hand out here

  -- and has the room of the ring's blocks
  pub hand_room : (b : Block) → w.seat.me.1 ≡ (k, b) ∷ rest w.seat.me.1 → room_of b ≡ (shape_of t).size
  hand_room b is = ap room_of (same_block w.seat.me.1 k b at_hand.0 is at_hand.1)
      ∙ (at_hand.2 ∙ ap (λ (z : RingShape). z.size) shaped)

  -- a block of that room may be sealed
  pub may_seal : (b : Block) (word : ℕ) → room_of b ≡ (shape_of t).size →
      length (entry_of b).bytes ≤ (shape_of t).size → word ≡ 16 * (w.sealed + 1) →
      let me : Me Block View = (w.seat.me.0, (k, b) ∷ rest w.seat.me.1) in
      Allows (RuleHolds t.table.shared.key) t.table.shared.table_id.slots w.seat.id me k (λ _. word)
      (λ _. Sealed (step t.table.shared.table_id.slots k word 0 none) me word)
  may_seal b word room fits is = seals_at t.table.shared.key t.shape t.keyed t.table.shared.table_id.slots w.seat.id
      t.deep _ k w.sealed word (writer_view w) b shaped (writer_with w.seat.me k b w.role w.hand out here) w.count slot
      out room fits is

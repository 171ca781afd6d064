use Rattle.std.proofs.Common.{◌≡◌, ◌+◌, ℕ, List, length, get_or, replicate, Some, sym, ap, ◌∙◌, arith}
use lib.ListN.{length-replicate, get_or-replicate}
use Rattle.ring_blocks.specs.declared.Block.{Block}
use Rattle.atomic_table.specs.Table.{Me}
use Rattle.ring_words.specs.declared.views.View.{View}
use Rattle.ring_words.specs.Views.{fresh_reader, writer_of}
use Rattle.ring_words.proofs.Listed.{length-listed}
use Rattle.ring_words.proofs.Opening.{each_room}
use Rattle.ring_words.proofs.SeatSteps.{starts}
use Rattle.ring_words.proofs.words.Words.lay.Goals as goal

pub new-requires : goal.new-requires
new-requires c = let n : ℕ = c.args.shape.buffers + c.args.shape.readers in
    let words : c.as_slice.result.now ≡ replicate n 0 = c.as_slice.ensures.value
    ∙ c.in_ok-words.ensures.items_if_clones_equal (λ y e. e) in
    starts c.args.shape c.as_slice.result.now c.in_ok-blocks.blocks.items c.requires
    (ap (λ (l : List ℕ). length l) words ∙ length-replicate n 0)
    (λ i near. let long : length c.as_slice.result.now ≡ n = ap (λ (l : List ℕ). length l) words
    ∙ length-replicate n 0 in ap (λ (l : List ℕ). get_or l i 0) words ∙ get_or-replicate n i 0 0 (omega arith))
    c.in_ok-blocks.ensures.count
    (each_room c.args.shape.size c.in_ok-blocks.blocks.items c.in_ok-blocks.ensures.room)

pub invariant_of-writer-clause-parks : goal.invariant_of-writer-clause-parks
invariant_of-writer-clause-parks c = let seat = ap (λ (m : Me Block View). m.0) c.in-Ok.ensures.ok.4 in
    let long = length-listed (λ (i : ℕ). Some (fresh_reader c.args.shape i)) c.args.shape.readers in
    ap (λ (v : View). length (writer_of v).parked) seat
    ∙ (long ∙ sym (ap (λ (v : View). (writer_of v).shape.readers) seat))

pub invariant_of-writer-clause-lows : goal.invariant_of-writer-clause-lows
invariant_of-writer-clause-lows c = let seat = ap (λ (m : Me Block View). m.0) c.in-Ok.ensures.ok.4 in
    ap (λ (v : View). length (writer_of v).low) seat ∙ (length-replicate c.args.shape.readers 0
    ∙ sym (ap (λ (v : View). (writer_of v).shape.readers) seat))

-- What a seat holds, from what its struct says of it.
use Rattle.std.proofs.Common.{◌≡◌, ◌≢◌, ℕ, ◌%◌, Bool, true, false, cond, List, [], ◌∷◌, map, length, Option, Some, None, IsSome, sym, refl, ap, ◌∙◌}
use Rattle.ring_blocks.specs.declared.Block.{Block}
use Rattle.ring_blocks.specs.declared.Entry.{Entry}
use Rattle.ring_blocks.specs.Contents.{room_of, entry_of}
use Rattle.ring_words.specs.declared.views.ReaderView.{ReaderView}
use Rattle.ring_words.specs.declared.views.WriterView.{WriterView}
use Rattle.ring_words.specs.Views.{got_list, writer_of, reader_of}
use Rattle.atomic_table.specs.Table.{Me, rest}
use Rattle.ring_words.specs.declared.views.View.{View}
use Rattle.ring_words.specs.declared.views.View.TheVariants.{Writer, Reader}
use Rattle.ring_words.specs.Hands.{room_at, rooms_out, entry_at, entries_out}

first_or : {A : Type 0} → A → List A → A
first_or d [] = d
first_or d (x ∷ xs) = x

none_mapped : {A : Type 0} (f : ℕ × Block → A) (l : List (ℕ × Block)) → map f l ≡ [] → l ≡ []
none_mapped f [] e = refl
none_mapped f (x ∷ xs) e = cc

one_room : (l : List (ℕ × Block)) (k n : ℕ) → map room_at l ≡ (k, n) ∷ [] → (b : Block) × (l ≡ (k, b) ∷ [])
    × (room_of b ≡ n)
unfolding first_or
one_room [] k n e = cc
one_room (x ∷ []) k n e = let p = ap (first_or (k, n)) e in
    (x.1, ap (λ (y : ℕ × ℕ). (y.0, x.1) ∷ []) p, ap (λ (y : ℕ × ℕ). y.1) p)
one_room (x ∷ y ∷ l) k n e = let tails : map room_at (y ∷ l) ≡ [] = cc in cc

one_entry : (l : List (ℕ × Block)) (k n : ℕ) (entry : Entry) → map entry_at l ≡ (k, n, entry) ∷ [] → (b : Block)
    × (l ≡ (k, b) ∷ []) × (room_of b ≡ n) × (entry ≡ entry_of b)
unfolding first_or
one_entry [] k n entry e = cc
one_entry (x ∷ []) k n entry e = let p = ap (first_or (k, n, entry)) e in (
  x.1,
  ap (λ (y : ℕ × ℕ × Entry). (y.0, x.1) ∷ []) p,
  ap (λ (y : ℕ × ℕ × Entry). y.1) p,
  sym (ap (λ (y : ℕ × ℕ × Entry). y.2) p),
)
one_entry (x ∷ y ∷ l) k n entry e = let tails : map entry_at (y ∷ l) ≡ [] = cc in cc

-- the writer with a buffer out holds it alone
pub writer_holds : (w : WriterView) (l : List (ℕ × Block)) → map room_at l ≡ rooms_out w → w.out ≡ true → (b : Block)
    × (l ≡ (length w.sealed % w.shape.buffers, b) ∷ []) × (room_of b ≡ w.shape.size)
writer_holds w l hand out = one_room l (length w.sealed % w.shape.buffers) w.shape.size
    (hand ∙ ap (λ (z : Bool). cond z ((length w.sealed % w.shape.buffers, w.shape.size) ∷ []) []) out)

held_entry : (r : ReaderView) (l : List (ℕ × Block)) (o : Option Entry) → o ≢ None →
    map entry_at l ≡ map (λ e. (length r.cleared % r.shape.buffers, r.shape.size, e)) (got_list o)
    → (b : Block) × (l ≡ (length r.cleared % r.shape.buffers, b) ∷ []) × (room_of b ≡ r.shape.size)
    × (o ≡ Some (entry_of b))
held_entry r l None some_one hand = absurd (some_one refl)
held_entry r l (Some e) some_one hand = let t = one_entry l
    (length r.cleared % r.shape.buffers) r.shape.size e hand in (t.0, t.1, t.2, ap (λ (x : Entry). Some x) t.3)

-- a reader with a buffer out holds the block that it got, and no other
pub reader_holds : (r : ReaderView) (l : List (ℕ × Block)) → map entry_at l ≡ entries_out r → r.out ≡ true →
    r.got ≢ None
    → (b : Block) × (l ≡ (length r.cleared % r.shape.buffers, b) ∷ []) × (room_of b ≡ r.shape.size)
    × (r.got ≡ Some (entry_of b))
reader_holds r l hand out some_one = held_entry r l r.got some_one
    (hand ∙ ap (λ (z : Bool). cond z (map (λ e. (length r.cleared % r.shape.buffers, r.shape.size, e))
    (got_list r.got)) []) out)

-- and with nothing out it holds nothing
pub reader_free : (r : ReaderView) (l : List (ℕ × Block)) → map entry_at l ≡ entries_out r → r.out ≡ false → l ≡ []
reader_free r l hand home = none_mapped entry_at l (hand
    ∙ ap (λ (z : Bool). cond z (map (λ e. (length r.cleared % r.shape.buffers, r.shape.size, e))
    (got_list r.got)) []) home)

-- the writer's seat with another block in the slot that it holds
pub writer_with : (me : Me Block View) (k : ℕ) (b : Block) → me.0 ≡ Writer (writer_of me.0) →
    map room_at me.1 ≡ rooms_out (writer_of me.0) → (writer_of me.0).out ≡ true →
    k ≡ length (writer_of me.0).sealed % (writer_of me.0).shape.buffers
    → ◌≡◌ {A = Me Block View} (me.0, (k, b) ∷ rest me.1)
    (Writer (writer_of me.0), (length (writer_of me.0).sealed % (writer_of me.0).shape.buffers, b) ∷ [])
writer_with me k b role hand out at = let h = writer_holds (writer_of me.0) me.1 hand out in
    λ i. (role i, (at i, b) ∷ rest (h.1 i))

pub reader_with : (me : Me Block View) (k : ℕ) (b : Block) → me.0 ≡ Reader (reader_of me.0) →
    map entry_at me.1 ≡ entries_out (reader_of me.0) → (reader_of me.0).out ≡ true → (reader_of me.0).got ≢ None
    → k ≡ length (reader_of me.0).cleared % (reader_of me.0).shape.buffers
    → ◌≡◌ {A = Me Block View} (me.0, (k, b) ∷ rest me.1)
    (Reader (reader_of me.0), (length (reader_of me.0).cleared % (reader_of me.0).shape.buffers, b) ∷ [])
reader_with me k b role hand out some_one at = let h = reader_holds (reader_of me.0) me.1 hand out some_one in
    λ i. (role i, (at i, b) ∷ rest (h.1 i))

-- the block at hand, in the slot k
pub writer_slot : (me : Me Block View) (k : ℕ) → map room_at me.1 ≡ rooms_out (writer_of me.0) →
    (writer_of me.0).out ≡ true → k ≡ length (writer_of me.0).sealed % (writer_of me.0).shape.buffers
    → (b : Block) × (me.1 ≡ (k, b) ∷ rest me.1) × (room_of b ≡ (writer_of me.0).shape.size)
writer_slot me k hand out at = let h = writer_holds (writer_of me.0) me.1 hand out in
    (h.0, h.1 ∙ (λ i. (sym at i, h.0) ∷ rest (sym h.1 i)), h.2)

pub reader_slot : (me : Me Block View) (k : ℕ) → map entry_at me.1 ≡ entries_out (reader_of me.0) →
    (reader_of me.0).out ≡ true → (reader_of me.0).got ≢ None →
    k ≡ length (reader_of me.0).cleared % (reader_of me.0).shape.buffers
    → (b : Block) × (me.1 ≡ (k, b) ∷ rest me.1) × (room_of b ≡ (reader_of me.0).shape.size)
    × ((reader_of me.0).got ≡ Some (entry_of b))
reader_slot me k hand out some_one at = let h = reader_holds (reader_of me.0) me.1 hand out some_one in
    (h.0, h.1 ∙ (λ i. (sym at i, h.0) ∷ rest (sym h.1 i)), h.2, h.3)

-- one slot has one block
pub same_block : (l : List (ℕ × Block)) (k : ℕ) (a b : Block) → l ≡ (k, a) ∷ rest l → l ≡ (k, b) ∷ rest l → a ≡ b
same_block l k a b p q = ap (λ (m : List (ℕ × Block)). block_or a m) (sym p ∙ q)
  where
    block_or : Block → List (ℕ × Block) → Block
    block_or d [] = d
    block_or d (x ∷ xs) = x.1

pub some_of : (o : Option Entry) → IsSome o → (e : Entry) × (o ≡ Some e)
some_of None h = cc
some_of (Some e) h = (e, refl)

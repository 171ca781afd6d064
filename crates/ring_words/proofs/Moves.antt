-- The steps, at a seat as a call has it.
use Rattle.std.proofs.Common.{◌≡◌, ℕ, ◌+◌, ◌-◌, ◌*◌, ◌%◌, ◌<◌, ◌≤◌, true, false, eqb, [], ◌∷◌, length, Option, Some, sym, ap, ◌∙◌, subst, arith}
use mathlib.Core.Option.{none}
use prog.Atomic.{either}
use Rattle.atomic_table.specs.Table.{Me, step, Allows, Splits, Joins}
use Rattle.ring_blocks.specs.declared.Block.{Block}
use Rattle.ring_blocks.specs.declared.Entry.{Entry}
use Rattle.ring_blocks.specs.Contents.{room_of, entry_of}
use Rattle.ring_core.specs.Machine.{greatest}
use Rattle.ring_words.specs.declared.shape.RingShape.{RingShape}
use Rattle.ring_words.specs.declared.views.View.{View}
use Rattle.ring_words.specs.declared.views.ReaderView.{ReaderView}
use Rattle.ring_words.specs.declared.views.WriterView.{WriterView}
use Rattle.ring_words.specs.declared.views.View.TheVariants.{Writer, Reader, Spent}
use Rattle.ring_words.specs.Views.{writer_of, reader_of, parked_at, after_split, kept_by_split, given_by_split, reader_or_spent, joined}
use Rattle.ring_words.specs.Ring.{RuleHolds}
use Rattle.ring_words.specs.Steps.{SeesRoom}
use Rattle.ring_words.specs.Plays.{Looked, WriterTook, Sealed, Tried, Gave, Cleared, Retired}
use Rattle.ring_words.proofs.WriterSteps as writer
use Rattle.ring_words.proofs.ReaderSteps as reader
use Rattle.ring_words.proofs.SeatSteps as seats

module _ (key shape : RingShape) (keyed : key ≡ shape) (slots id : ℕ) (deep : slots ≡ shape.buffers) where
  pub looks_at : (me : Me Block View) (word i : ℕ) → me.0 ≡ Writer (writer_of me.0) → word ≡ shape.buffers + i →
      i < shape.readers
      → Allows (RuleHolds key) slots id me word (λ n. n) (Looked (step slots word 0 0 none) me)
  looks_at me word i role is near = subst (λ (x : RingShape × Me Block View).
      Allows (RuleHolds x.0) slots id x.1 word (λ n. n) (Looked (step slots word 0 0 none) x.1))
      (λ z. (sym keyed z, (sym role z, me.1)))
      (writer.looks shape slots id word (writer_of me.0) me.1 deep (omega arith) (omega arith))

  pub takes_out_at : (me : Me Block View) (k h old new : ℕ) → me.0 ≡ Writer (writer_of me.0) →
      h ≡ length (writer_of me.0).sealed → k ≡ h % shape.buffers → (writer_of me.0).out ≡ false →
      length (writer_of me.0).sealed < shape.max_blocks
      → SeesRoom shape (writer_of me.0) → old ≡ 16 * ((h + 1) - shape.buffers) → new ≡ old + 15
      → Allows (RuleHolds key) slots id me k (λ n. either (eqb n old) new n) (WriterTook (step slots k old new none) me)
  takes_out_at me k h old new role count at home below room is new_is =
      let place : k ≡ length (writer_of me.0).sealed % shape.buffers = at ∙ ap (λ (x : ℕ). x % shape.buffers) count in
      subst (λ (x : RingShape × Me Block View × ℕ). Allows (RuleHolds x.0) slots id x.1 x.2
      (λ n. either (eqb n old) new n)
      (WriterTook (step slots x.2 old new none) x.1)) (λ z. (sym keyed z, (sym role z, me.1), sym place z))
      (writer.takes_out shape slots id (writer_of me.0) me.1 old new home below room
      (is ∙ ap (λ (x : ℕ). 16 * ((x + 1) - shape.buffers)) count) new_is)

  pub seals_at : (me : Me Block View) (k h word : ℕ) (v : WriterView) (b : Block) → v.shape ≡ shape →
      me ≡ (Writer v, (length v.sealed % v.shape.buffers, b) ∷ []) → h ≡ length v.sealed → k ≡ h % shape.buffers →
      v.out ≡ true → room_of b ≡ shape.size
      → length (entry_of b).bytes ≤ shape.size → word ≡ 16 * (h + 1)
      → Allows (RuleHolds key) slots id me k (λ _. word) (λ _. Sealed (step slots k word 0 none) me word)
  seals_at me k h word v b shaped seat count at out room fits is =
      let place : k ≡ length v.sealed % shape.buffers = at ∙ ap (λ (x : ℕ). x % shape.buffers) count in
      subst (λ (x : RingShape × Me Block View × ℕ). Allows (RuleHolds x.0) slots id x.1 x.2 (λ _. word)
      (λ _. Sealed (step slots x.2 word 0 none) x.1 word))
      (λ z. (
        sym keyed z,
        sym (seat ∙ ap (λ (x : RingShape).
            let y : Me Block View = (Writer v, (length v.sealed % x.buffers, b) ∷ []) in y) shaped) z,
        sym place z,
      ))
      (writer.seals shape slots id v b word out room fits (is ∙ ap (λ (x : ℕ). 16 * (x + 1)) count))

  pub tries_at : (me : Me Block View) (k h i old new : ℕ) → me.0 ≡ Reader (reader_of me.0) →
      h ≡ length (reader_of me.0).cleared → k ≡ h % shape.buffers → i ≡ (reader_of me.0).number →
      (reader_of me.0).out ≡ false → (reader_of me.0).retired ≡ false
      → old ≡ 16 * (h + 1) → new ≡ (old + i) + 1 → Allows (RuleHolds key) slots id me k (λ n. either (eqb n old) new n)
      (Tried (step slots k old new none) me)
  tries_at me k h i old new role count at number home live is new_is =
      let place : k ≡ length (reader_of me.0).cleared % shape.buffers = at ∙ ap (λ (x : ℕ). x % shape.buffers) count in
      subst (λ (x : RingShape × Me Block View × ℕ). Allows (RuleHolds x.0) slots id x.1 x.2
      (λ n. either (eqb n old) new n)
      (Tried (step slots x.2 old new none) x.1)) (λ z. (sym keyed z, (sym role z, me.1), sym place z))
      (reader.tries shape slots id (reader_of me.0) me.1 old new home live (is ∙ ap (λ (x : ℕ). 16 * (x + 1)) count)
      (omega arith))

  pub gives_at : (me : Me Block View) (k h word : ℕ) (r : ReaderView) (b : Block) → r.shape ≡ shape →
      me ≡ (Reader r, (length r.cleared % r.shape.buffers, b) ∷ []) → h ≡ length r.cleared → k ≡ h % shape.buffers →
      r.out ≡ true → room_of b ≡ shape.size
      → r.got ≡ Some (entry_of b) → word ≡ 16 * (h + 1) →
      Allows (RuleHolds key) slots id me k (λ _. word) (λ _. Gave (step slots k word 0 none) me word)
  gives_at me k h word r b shaped seat count at out room got is =
      let place : k ≡ length r.cleared % shape.buffers = at ∙ ap (λ (x : ℕ). x % shape.buffers) count in
      subst (λ (x : RingShape × Me Block View × ℕ). Allows (RuleHolds x.0) slots id x.1 x.2 (λ _. word)
      (λ _. Gave (step slots x.2 word 0 none) x.1 word))
      (λ z. (
        sym keyed z,
        sym (seat ∙ ap (λ (x : RingShape).
            let y : Me Block View = (Reader r, (length r.cleared % x.buffers, b) ∷ []) in y) shaped) z,
        sym place z,
      ))
      (reader.gives_back shape slots id r b word out room got (is ∙ ap (λ (x : ℕ). 16 * (x + 1)) count))

  pub clears_at : (me : Me Block View) (k i word : ℕ) → me.0 ≡ Reader (reader_of me.0) → k ≡ shape.buffers + i →
      i ≡ (reader_of me.0).number → (reader_of me.0).out ≡ false → (reader_of me.0).retired ≡ false
      → (e : Entry) → (reader_of me.0).got ≡ Some e → word ≡ length (reader_of me.0).cleared + 1 →
      Allows (RuleHolds key) slots id me k (λ _. word) (λ _. Cleared (step slots k word 0 none) me word)
  clears_at me k i word role at number home live e got is =
      let place : k ≡ shape.buffers + (reader_of me.0).number = at ∙ ap (λ (x : ℕ). shape.buffers + x) number in
      subst (λ (x : RingShape × Me Block View × ℕ). Allows (RuleHolds x.0) slots id x.1 x.2 (λ _. word)
      (λ _. Cleared (step slots x.2 word 0 none) x.1 word)) (λ z. (sym keyed z, (sym role z, me.1), sym place z))
      (reader.clears shape slots id (reader_of me.0) me.1 e word home live got is)

  pub retires_at : (me : Me Block View) (k i : ℕ) → me.0 ≡ Reader (reader_of me.0) → k ≡ shape.buffers + i →
      i ≡ (reader_of me.0).number → (reader_of me.0).out ≡ false → (reader_of me.0).retired ≡ false
      → Allows (RuleHolds key) slots id me k (λ _. greatest) (λ _. Retired (step slots k greatest 0 none) me greatest)
  retires_at me k i role at number home live =
      let place : k ≡ shape.buffers + (reader_of me.0).number = at ∙ ap (λ (x : ℕ). shape.buffers + x) number in
      subst (λ (x : RingShape × Me Block View × ℕ). Allows (RuleHolds x.0) slots id x.1 x.2 (λ _. greatest)
      (λ _. Retired (step slots x.2 greatest 0 none) x.1 greatest))
      (λ z. (sym keyed z, (sym role z, me.1), sym place z))
      (reader.retires shape slots id (reader_of me.0) me.1 home live)

pub joins_at : (key : RingShape) (id : ℕ) (v : View) (other : ℕ) (u : View) → v ≡ Writer (writer_of v) →
    u ≡ Reader (reader_of u) → Joins (RuleHolds key) id v other u (joined v u) Spent
joins_at key id v other u is_writer is_reader = subst (λ (x : View × View).
    Joins (RuleHolds key) id x.0 other x.1 (joined x.0 x.1) Spent) (λ z. (sym is_writer z, sym is_reader z))
    (seats.joins key id (writer_of v) other (reader_of u))

pub splits_at : (key : RingShape) (id : ℕ) (v : View) (r : ReaderView) → v ≡ Writer (writer_of v) →
    (writer_of v).split < key.readers → parked_at (writer_of v) (writer_of v).split ≡ Some r
    → Splits (RuleHolds key) id v (kept_by_split v) (given_by_split v)
splits_at key id v r role near parked = subst (λ (x : View).
    Splits (RuleHolds key) id x (kept_by_split x) (given_by_split x)) (sym role)
    (subst (λ (o : Option ReaderView). Splits (RuleHolds key) id (Writer (writer_of v))
    (Writer (after_split (writer_of v))) (reader_or_spent o)) (sym parked)
    (seats.splits key id (writer_of v) r near parked))

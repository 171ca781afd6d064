-- One block that goes through a ring with one reader.
use Rattle.std.proofs.Common.{◌≡◌, ℕ, zero, suc, ◌<◌, ◌++◌, List, [], ◌∷◌, get_or, slice_get, drop, length, Option, Some, unwrap_or, refl, sym, subst, ap, ◌∙◌, arith}
use Rattle.std.proofs.lemmas.Option.{get_or_from_slice_get}
use Rattle.ring_blocks.specs.declared.Entry.{Entry}
use Rattle.ring_words.specs.declared.shape.RingShape.{RingShape}
use Rattle.ring_words.specs.declared.views.ReaderView.{ReaderView}
use Rattle.ring_words.specs.declared.views.WriterView.{WriterView}
use Rattle.ring_words.specs.Views.{fresh_reader, seated_writer, got_list, after_clear}
use Rattle.ring_words.specs.Ring.{Begins}
use Rattle.ring_ends.specs.declared.answers.Taken.{Taken}
use Rattle.ring_ends.specs.declared.finished.Finished.{Finished}
use Rattle.ring_ends.specs.declared.passes.EndedReader.{EndedReader}
use Rattle.ring_ends.specs.declared.ring.Ring.{Ring}
use Rattle.ring_ends.specs.Answers.{IsWritten, IsRead}
use Rattle.ring_ends.specs.Counted.{cleared_of}
use Rattle.ring_ends.specs.Ended.{sealed_at_end, reader_at_end, cleared_at_end, Gives, AreInOrder}
use Rattle.ring_ends.specs.Passes.{ring_shape, ended_knows, EndedFrom}

-- what is read at place i
pub found : {A : Type 0} (l : List (Option A)) (i : ℕ) (a x : A) (r : Option A) → slice_get l i ≡ Some (Some a) →
    r ≡ get_or l i r → r ≡ Some x → a ≡ x
found {A} l i a x r at read is = ap (λ (o : Option A). unwrap_or o a)
    (sym (get_or_from_slice_get l i (Some a) r at) ∙ (sym read ∙ is))

-- the only reader of a ring
pub alone : (ring : Ring) (a : EndedReader) → (ring_shape ring).readers ≡ 1 → EndedFrom ring a →
    (ended_knows a).number ≡ 0 → AreInOrder ring (Some a ∷ [])
alone ring a count from number = record { count = sym count; each = stands }
  where
    stands : (j : ℕ) → j < 1 → (e : EndedReader) × Gives (Some a ∷ []) j e × EndedFrom ring e
        × ((ended_knows e).number ≡ j)
    stands zero near = (a, refl, from, number)
    stands (suc j) near = absurd (omega arith)

-- a writer that has done nothing seals a block
sealed_is : (s : RingShape) (k : ℕ) (w w' : WriterView) (e : Entry) (n : ℕ) → w ≡ seated_writer s k →
    IsWritten w e n w' → w'.sealed ≡ e ∷ []
sealed_is s k w w' e n begun written = ap (λ (v : WriterView). v.sealed) written.view
    ∙ ap (λ (l : List Entry). l ++ e ∷ []) (ap (λ (v : WriterView). v.sealed) written.saw.in_turn.rest
    ∙ ap (λ (v : WriterView). v.sealed) begun)

-- a reader that has done nothing reads a block and clears it
module _ (s : RingShape) (i : ℕ) (r r' r'' : ReaderView) (t : Taken) (into into' : List ℕ)
    (begun : r ≡ fresh_reader s i) (read : IsRead r into t r' into') (done : r'' ≡ after_clear r') where
  cleared_is : r''.cleared ≡ read.entry ∷ []
  cleared_is = ap (λ (v : ReaderView). v.cleared) done
      ∙ (ap (λ (v : ReaderView). v.cleared ++ got_list v.got) read.rest
      ∙ ap (λ (v : ReaderView). v.cleared ++ read.entry ∷ []) begun)

  pub number_is : r''.number ≡ i
  number_is = ap (λ (v : ReaderView). v.number) done
      ∙ (ap (λ (v : ReaderView). v.number) read.rest ∙ ap (λ (v : ReaderView). v.number) begun)

  -- so it got what was sealed
  pub handed : (f : Finished) (s' : RingShape) (k n : ℕ) (w w' : WriterView) (e : Entry) → w ≡ seated_writer s' k →
      IsWritten w e n w' → sealed_at_end f ≡ w'.sealed → reader_at_end f r''.number ≡ Some r'' →
      Begins (cleared_at_end f i) (sealed_at_end f) →
      (t.used ≡ length e.bytes) × (into' ≡ e.bytes ++ drop (length e.bytes) into)
  handed f s' k n w w' e seated written sealed back begins =
      let here : reader_at_end f i ≡ Some r'' = subst (λ (j : ℕ). reader_at_end f j ≡ Some r'') number_is back in
      let cleared : cleared_at_end f i ≡ read.entry ∷ [] = ap cleared_of here ∙ cleared_is in
      let both : e ∷ [] ≡ (read.entry ∷ []) ++ begins.0 =
      sym (sealed_is s' k w w' e n seated written) ∙ (sym sealed ∙ (begins.1
      ∙ ap (λ (l : List Entry). l ++ begins.0) cleared)) in
      let same : read.entry ≡ e = sym (ap (λ (l : List Entry). get_or l 0 e) both) in
      subst (λ (x : Entry). (t.used ≡ length x.bytes) × (into' ≡ x.bytes ++ drop (length x.bytes) into)) same
      (read.used, read.bytes)

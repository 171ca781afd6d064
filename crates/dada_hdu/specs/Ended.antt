-- What is known once all passes are back.
-- Source: PSRDADA manual (a header ring and a data ring as one data unit); what is counted is this project's choice.
use Rattle.std.specs.Prelude.{◌≡◌, ℕ, ◌<◌, ◌≤◌, All, List, length, slice_get, Option, Some}
use Rattle.ring_blocks.specs.declared.Entry.{Entry}
use Rattle.ring_words.specs.declared.views.ReaderView.{ReaderView}
use Rattle.ring_words.specs.Ring.{Begins}
use Rattle.ring_ends.specs.declared.ring.Ring.{Ring}
use Rattle.ring_ends.specs.declared.passes.WriterPass.{WriterPass}
use Rattle.ring_ends.specs.declared.passes.EndedReader.{EndedReader}
use Rattle.ring_ends.specs.declared.finished.Finished.{Finished}
use Rattle.ring_ends.specs.Passes.{ring_shape, writer_knows, ended_knows}
use Rattle.ring_ends.specs.Ended.{AllReaders, finished_shape, sealed_at_end, reader_at_end, cleared_at_end}
use Rattle.dada_hdu.specs.declared.hdu.Hdu.{Hdu}
use Rattle.dada_hdu.specs.declared.ended.HduEnded.{HduEnded}
use Rattle.dada_hdu.specs.Passes.{header_ring, data_ring, data_shape, header_ends, data_ends, number_of, EndedFromBoth}

-- the reader is given at place j
abbrev pub GivesBoth : List (Option HduEnded) → ℕ → HduEnded → Type 0
GivesBoth readers j reader = slice_get readers j ≡ Some (Some reader)

-- these are all readers of either ring, each once, in any order
pub record AllReadersOfBoth (hdu : Hdu) (readers : List (Option HduEnded)) : Type 0 where
  pub header : AllReaders (header_ring hdu) (header_ends readers)
  pub blocks : AllReaders (data_ring hdu) (data_ends readers)

-- as many readers of both rings as these have, and reader j at place j
pub record AreBothInOrder (hdu : Hdu) (readers : List (Option HduEnded)) : Type 0 where
  pub count : length readers ≡ (data_shape hdu).readers
  pub each : (j : ℕ) → j < length readers →
      (e : HduEnded) × GivesBoth readers j e × EndedFromBoth hdu e × (number_of e ≡ j)

-- these are all
abbrev pub OrderIsEnough : Type 0
OrderIsEnough = (hdu : Hdu) (readers : List (Option HduEnded)) → AreBothInOrder hdu readers →
    AllReadersOfBoth hdu readers

-- Of one of the rings, with `part` as what each reader was there: the blocks that its writer sealed, and what each
-- reader knew. Each reader cleared a beginning of them, and what it got is the next one.
pub record RingFinished (ring : Ring) (writer : WriterPass) (part : HduEnded → EndedReader)
    (readers : List (Option HduEnded)) (finished : Finished) : Type 0 where
  pub shape : finished_shape finished ≡ ring_shape ring
  pub sealed : sealed_at_end finished ≡ (writer_knows writer).sealed
  pub limit : length (sealed_at_end finished) ≤ (ring_shape ring).max_blocks
  pub known : (j : ℕ) (e : HduEnded) → GivesBoth readers j e →
      reader_at_end finished (ended_knows (part e)).number ≡ Some (ended_knows (part e))
  pub sized : All (λ e. length e.bytes ≤ (ring_shape ring).size) (sealed_at_end finished)
  pub begins : (i : ℕ) → i < (ring_shape ring).readers →
      Begins (cleared_at_end finished i) (sealed_at_end finished)
  pub next : (i : ℕ) (r : ReaderView) (e : Entry) → reader_at_end finished i ≡ Some r →
      r.got ≡ Some e → slice_get (sealed_at_end finished) (length r.cleared) ≡ Some e

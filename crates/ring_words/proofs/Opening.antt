-- The readers get their seats one by one.
use Rattle.std.proofs.Common.{◌≡◌, ℕ, zero, suc, ◌+◌, ◌<◌, All, List, [], ◌∷◌, ◌++◌, length, get_or, set, drop, replicate, Option, Some, None, slice_get, sym, refl, ap, ◌∙◌, subst, arith, append_assoc}
use Rattle.std.proofs.Math.Seq.{get_or-append_seam, set-append_seam}
use mathlib.Core.Option.{some, some-injective}
use mathlib.Core.Logic.{dite}
use native.Mathlib.Decide.{ℕ_discrete}
use lib.ListN.{get_elem?, length-replicate, replicate-append-replicate}
use Rattle.atomic_table.proofs.Lists.{at_last, drop_at}
use Rattle.ring_blocks.specs.declared.Block.{Block}
use Rattle.ring_blocks.specs.Contents.{room_of}
use Rattle.ring_words.specs.declared.shape.RingShape.{RingShape}
use Rattle.ring_words.specs.declared.views.ReaderView.{ReaderView}
use Rattle.ring_words.specs.declared.views.WriterView.{WriterView}
use Rattle.ring_words.specs.declared.seats.WriterSeat.{WriterSeat}
use Rattle.ring_words.specs.declared.seats.ReaderSeat.{ReaderSeat}
use Rattle.ring_words.specs.declared.words.Words.{Words}
use Rattle.ring_words.specs.Views.{listed, fresh_reader, fresh_writer, seated_writer, parked_at, after_split}
use Rattle.ring_words.specs.Seats.{shape_of, writer_view, Writes, IsFreshReader, HasFreshReader}
use Rattle.ring_words.proofs.Counts.{at_below}
use Rattle.ring_words.proofs.Listed.{got_at, at_listed}

slice_get_longer : {A : Type 0} (l m : List A) (i : ℕ) (a : A) → slice_get l i ≡ Some a → slice_get (l ++ m) i ≡ Some a
slice_get_longer [] m i a e = cc
slice_get_longer (x ∷ xs) m zero a e = e
slice_get_longer (x ∷ xs) m (suc i) a e = slice_get_longer xs m i a e

-- so many readers have their seats
pub record Opening (shape : RingShape) (n : ℕ) (words : Words) (writer : WriterSeat)
    (seats : List (Option ReaderSeat)) : Type 0 where
  pub shaped : shape_of words ≡ shape
  pub writes : Writes words writer
  pub rest : writer_view writer ≡ seated_writer shape n
  pub count : length seats ≡ n
  pub readers : (i : ℕ) → i < n → HasFreshReader words seats i

abbrev all : RingShape → List (Option ReaderView)
all shape = listed (λ i. Some (fresh_reader shape i)) shape.readers

-- the reader whose turn it is
next_reader : (shape : RingShape) (n : ℕ) → n < shape.readers →
    drop n (all shape) ≡ Some (fresh_reader shape n) ∷ drop (suc n) (all shape)
next_reader shape n near = drop_at (all shape) n (Some (fresh_reader shape n))
    (at_listed (λ i. Some (fresh_reader shape i)) shape.readers n near)

pub next_parked : (shape : RingShape) (n : ℕ) → n < shape.readers →
    parked_at (seated_writer shape n) n ≡ Some (fresh_reader shape n)
next_parked shape n near = ap (λ (l : List (Option ReaderView)). get_or (replicate n None ++ l) n None)
    (next_reader shape n near)
    ∙ (ap (λ (k : ℕ). get_or (replicate n None ++ Some (fresh_reader shape n) ∷ drop (suc n) (all shape)) k None)
    (sym (length-replicate n None))
    ∙ get_or-append_seam (replicate n None) (Some (fresh_reader shape n)) (drop (suc n) (all shape)) None)

pub next_rest : (shape : RingShape) (n : ℕ) → n < shape.readers →
    after_split (seated_writer shape n) ≡ seated_writer shape (n + 1)
next_rest shape n near = ap (λ (l : List (Option ReaderView)).
    let w : WriterView = record (fresh_writer shape) { parked = l; split = n + 1 } in w)
    (ap (λ (l : List (Option ReaderView)). set (replicate n None ++ l) n None) (next_reader shape n near)
    ∙ (ap (λ (k : ℕ). set (replicate n None ++ Some (fresh_reader shape n) ∷ drop (suc n) (all shape)) k None)
    (sym (length-replicate n None))
    ∙ (set-append_seam (replicate n None) (Some (fresh_reader shape n)) (drop (suc n) (all shape)) None
    ∙ (sym (append_assoc (replicate n None) (None ∷ []) (drop (suc n) (all shape)))
    ∙ (ap (λ (l : List (Option ReaderView)). l ++ drop (suc n) (all shape)) (replicate-append-replicate n 1 None)
    ∙ ap (λ (k : ℕ). replicate (n + 1) None ++ drop k (all shape)) (let e : suc n ≡ n + 1 = omega arith in e))))))

-- one more has its seat
pub seats_more : (words : Words) (seats : List (Option ReaderSeat)) (n : ℕ) (s : ReaderSeat) → length seats ≡ n →
    IsFreshReader words n s → ((i : ℕ) → i < n → HasFreshReader words seats i)
    → (i : ℕ) → i < n + 1 → HasFreshReader words (seats ++ Some s ∷ []) i
seats_more words seats n s long new old i near = dite (ℕ_discrete i n)
    (λ same. (
      s,
      got_at (seats ++ Some s ∷ []) i (Some s) (at_last seats (Some s) i (long ∙ sym same)),
      subst (λ (k : ℕ). IsFreshReader words k s) (sym same) new,
    ))
    (λ other. let h = old i (omega arith) in (h.0, slice_get_longer seats (Some s ∷ []) i (Some h.0) h.1, h.2))

pub each_room : (size : ℕ) (blocks : List Block) → All (λ b. room_of b ≡ size) blocks → (k : ℕ) (b : Block) →
    get_elem? blocks k ≡ some b → room_of b ≡ size
each_room size blocks rooms k b is = ap room_of (sym (element blocks k b is)) ∙ rooms k b (at_below blocks k b is)
  where
    element : (l : List Block) (i : ℕ) (a : Block) → get_elem? l i ≡ some a → get_or l i a ≡ a
    element [] i a e = refl
    element (x ∷ xs) zero a e = some-injective x a e
    element (x ∷ xs) (suc i) a e = element xs i a e

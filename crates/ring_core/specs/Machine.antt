-- The ring between one writer and its readers as a machine over plain data, for labels of any type (PSRDADA manual:
-- a ring of data blocks with one writer and several readers; a block is written again only after each reader cleared
-- it).
-- Block number n lies in buffer n modulo buffers. "Length minus buffers" is over numbers with sign: c ≤ h - buffers is
-- written c + buffers ≤ h.
use Rattle.std.specs.Prelude.{◌≡◌, ◌≢◌, ℕ, ◌+◌, ◌<◌, ◌≤◌, ◌⊎◌, Bool, true, false, List, [], ◌∷◌, ◌++◌, length, replicate, Some, slice_get, slice_index, slice_set, EachIndex, SomeIndex}

-- How a reader stands. Out: it holds the buffer of the block that comes after those it cleared. Read: it gave that
-- buffer back, and has not cleared the block
pub data Phase : Type 0 where
  Ready : Phase
  Out : Phase
  Read : Phase
  Detached : Phase
  Retired : Phase

-- how many blocks a reader cleared, and how it stands
pub record Reader : Type 0 where
  pub cleared : ℕ
  pub phase : Phase

-- a detached reader is registered too
abbrev pub IsRegistered : Reader → Type 0
IsRegistered r = r.phase ≢ Phase.Retired

-- nothing out, and neither detached nor retired
abbrev pub IsIdle : Reader → Type 0
IsIdle r = (r.phase ≡ Phase.Ready) ⊎ (r.phase ≡ Phase.Read)

-- the labels of the sealed blocks, whether the writer holds a buffer, what it remembers of each reader's count, and
-- the readers
pub record Machine (L : Type 0) : Type 0 where
  pub sealed : List L
  pub writing : Bool
  pub low : List ℕ
  pub readers : List Reader

-- what is asked of the ring; a number is a reader's
pub data Event (L : Type 0) : Type 0 where
  Look : ℕ → Event L
  WriterTake : Event L
  Seal : L → Event L
  ReaderTake : ℕ → Event L
  Give : ℕ → Event L
  Clear : ℕ → Event L
  Retire : ℕ → Event L
  Detach : ℕ → Event L
  Attach : ℕ → Event L

-- what the ring answers
pub data Answer (L : Type 0) : Type 0 where
  Full : (reader cleared : ℕ) → Answer L
  Room : (reader cleared : ℕ) → Answer L
  RoomRetired : (reader : ℕ) → Answer L
  Taken : (number : ℕ) → Answer L
  Spent : (limit : ℕ) → Answer L
  Sealed : (number : ℕ) → Answer L
  Got : (number : ℕ) (label : L) → Answer L
  Empty : (number : ℕ) → Answer L
  Busy : (number reader : ℕ) → Answer L
  Given : Answer L
  Cleared : (count : ℕ) → Answer L
  Retired : Answer L
  Detached : Answer L
  Attached : (number : ℕ) → Answer L
  Refused : Answer L

-- what the writer remembers of a reader that it saw retired: the greatest number of 64 bits
abbrev pub greatest : ℕ
greatest = 18446744073709551615

module _ {L : Type 0} where
  -- how many blocks were sealed
  abbrev pub height : Machine L → ℕ
  height m = length m.sealed

  -- reader i is r
  abbrev pub IsReader : Machine L → ℕ → Reader → Type 0
  IsReader m i r = slice_get m.readers i ≡ Some r

  -- reader j holds the buffer of block n
  abbrev pub Holds : Machine L → ℕ → ℕ → Type 0
  Holds m j n = (r : Reader) × (IsReader m j r) × (r.phase ≡ Phase.Out) × (r.cleared ≡ n)

  -- the machine that remembers c of reader i
  abbrev pub remembers : Machine L → ℕ → ℕ → Machine L
  remembers m i c = record m { low = slice_set m.low i c }

  -- the machine with reader i as r
  abbrev pub with_reader : Machine L → ℕ → Reader → Machine L
  with_reader m i r = record m { readers = slice_set m.readers i r }

  -- each remembered count is above length minus buffers
  abbrev pub HasRoom : ℕ → Machine L → Type 0
  HasRoom buffers m = EachIndex m.low (λ i. height m < slice_index m.low i + buffers)

  abbrev pub LacksRoom : ℕ → Machine L → Type 0
  LacksRoom buffers m = SomeIndex m.low (λ i. slice_index m.low i + buffers ≤ height m)

  abbrev pub IsRefused : Machine L → Answer L → Machine L → Type 0
  IsRefused m a m' = (a ≡ Answer.Refused) × (m' ≡ m)

  -- With so many buffers, and at most `limit` blocks: from m the event has the answer a and leaves m'. One row for each
  -- case of the event: its facts, then its answer and its change
  abbrev pub Does : (buffers limit : ℕ) → Machine L → Event L → Answer L → Machine L → Type 0
  Does buffers limit m (Event.Look i) a m' =
      ((r : Reader) × (IsReader m i r) × (r.phase ≡ Phase.Retired)
      × (a ≡ Answer.RoomRetired i) × (m' ≡ remembers m i greatest))
      ⊎ ((r : Reader) × (IsReader m i r) × (IsRegistered r) × (r.cleared + buffers ≤ height m)
      × (a ≡ Answer.Full i r.cleared) × (m' ≡ remembers m i r.cleared))
      ⊎ ((r : Reader) × (IsReader m i r) × (IsRegistered r) × (height m < r.cleared + buffers)
      × (a ≡ Answer.Room i r.cleared) × (m' ≡ remembers m i r.cleared))
      ⊎ (length m.readers ≤ i) × (IsRefused m a m')
  Does buffers limit m Event.WriterTake a m' =
      (m.writing ≡ true) × (IsRefused m a m')
      ⊎ (m.writing ≡ false) × (height m ≡ limit) × (a ≡ Answer.Spent limit) × (m' ≡ m)
      ⊎ (m.writing ≡ false) × (height m ≢ limit) × (LacksRoom buffers m) × (IsRefused m a m')
      ⊎ (m.writing ≡ false) × (height m ≢ limit) × (HasRoom buffers m)
      × (a ≡ Answer.Taken (height m)) × (m' ≡ record m { writing = true })
  Does buffers limit m (Event.Seal label) a m' =
      (m.writing ≡ true)
      × (a ≡ Answer.Sealed (height m))
      × (m' ≡ record m { sealed = m.sealed ++ label ∷ []; writing = false })
      ⊎ (m.writing ≡ false) × (IsRefused m a m')
  Does buffers limit m (Event.ReaderTake i) a m' =
      ((r : Reader) × (IsReader m i r) × (IsIdle r) × (height m ≤ r.cleared)
      × (a ≡ Answer.Empty r.cleared) × (m' ≡ m))
      ⊎ ((r : Reader) × (j : ℕ) × (IsReader m i r) × (IsIdle r) × (r.cleared < height m)
      × (Holds m j r.cleared) × (a ≡ Answer.Busy r.cleared j) × (m' ≡ m))
      ⊎ ((r : Reader) × (label : L) × (IsReader m i r) × (IsIdle r)
      × ((j : ℕ) → ¬ Holds m j r.cleared) × (slice_get m.sealed r.cleared ≡ Some label)
      × (a ≡ Answer.Got r.cleared label) × (m' ≡ with_reader m i (record r { phase = Phase.Out })))
      ⊎ ((r : Reader) → IsReader m i r → ¬ IsIdle r) × (IsRefused m a m')
  Does buffers limit m (Event.Give i) a m' =
      ((r : Reader) × (IsReader m i r) × (r.phase ≡ Phase.Out)
      × (a ≡ Answer.Given) × (m' ≡ with_reader m i (record r { phase = Phase.Read })))
      ⊎ ((r : Reader) → IsReader m i r → r.phase ≢ Phase.Out) × (IsRefused m a m')
  Does buffers limit m (Event.Clear i) a m' =
      ((r : Reader) × (IsReader m i r) × (r.phase ≡ Phase.Read)
      × (a ≡ Answer.Cleared (r.cleared + 1))
      × (m' ≡ with_reader m i (record { cleared = r.cleared + 1; phase = Phase.Ready })))
      ⊎ ((r : Reader) → IsReader m i r → r.phase ≢ Phase.Read) × (IsRefused m a m')
  Does buffers limit m (Event.Retire i) a m' =
      ((r : Reader) × (IsReader m i r) × (IsIdle r)
      × (a ≡ Answer.Retired) × (m' ≡ with_reader m i (record r { phase = Phase.Retired })))
      ⊎ ((r : Reader) → IsReader m i r → ¬ IsIdle r) × (IsRefused m a m')
  Does buffers limit m (Event.Detach i) a m' =
      ((r : Reader) × (IsReader m i r) × (IsIdle r)
      × (a ≡ Answer.Detached) × (m' ≡ with_reader m i (record r { phase = Phase.Detached })))
      ⊎ ((r : Reader) → IsReader m i r → ¬ IsIdle r) × (IsRefused m a m')
  Does buffers limit m (Event.Attach i) a m' =
      ((r : Reader) × (IsReader m i r) × (r.phase ≡ Phase.Detached)
      × (a ≡ Answer.Attached r.cleared) × (m' ≡ with_reader m i (record r { phase = Phase.Ready })))
      ⊎ ((r : Reader) → IsReader m i r → r.phase ≢ Phase.Detached) × (IsRefused m a m')

  -- one event after another
  abbrev pub Runs : (buffers limit : ℕ) →
      Machine L → List (Event L) → List (Answer L) → Machine L → Type 0
  Runs buffers limit m [] [] m' = m' ≡ m
  Runs buffers limit m (e ∷ es) (a ∷ as') m' = (n : Machine L) × (Does buffers limit m e a n)
      × (Runs buffers limit n es as' m')
  Runs buffers limit m [] (a ∷ as') m' = ⊥
  Runs buffers limit m (e ∷ es) [] m' = ⊥

-- nothing sealed, the writer idle, each reader ready at count 0
abbrev pub at_first : (L : Type 0) → ℕ → Machine L
at_first L readers = record {
  sealed = [];
  writing = false;
  low = replicate readers 0;
  readers = replicate readers (record { cleared = 0; phase = Phase.Ready });
}

-- what some list of events leaves of the first state
pub data Reached {L : Type 0} (buffers limit readers : ℕ) : Machine L → Type 0 where
  at_begin : Reached buffers limit readers (at_first L readers)
  by_event : (m : Machine L) (e : Event L) (a : Answer L) (m' : Machine L) →
      Reached buffers limit readers m → Does buffers limit m e a m' →
      Reached buffers limit readers m'

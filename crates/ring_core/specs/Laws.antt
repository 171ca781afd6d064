-- What the table of events comes to, in words of its own.
-- Source: PSRDADA manual (ring buffers of a writer and its readers); the bounds are this project's choice.
use Rattle.std.specs.Prelude.{◌≡◌, ◌≢◌, ℕ, ◌+◌, ◌%◌, ◌<◌, ◌≤◌, Some, slice_get, if◌then◌else◌}
use Rattle.ring_core.specs.Machine.{Machine, Reader, Event, Answer, IsReader, IsRegistered, Holds, Reached, height, greatest}
use Rattle.ring_core.specs.Sound.{IsSound}

-- of the first `begun` blocks, n is the last one that lies in its buffer
pub record StandsAmong (buffers begun n : ℕ) : Type 0 where
  pub among : n < begun
  pub last : (k : ℕ) → n < k → k < begun → k % buffers ≢ n % buffers

module _ {L : Type 0} where
  -- the blocks that were sealed, and the one that is being written
  abbrev pub begun_blocks : Machine L → ℕ
  begun_blocks m = height m + (if m.writing then 1 else 0)

  -- what a registered reader has not cleared stands in its buffer: nothing was written over it
  abbrev pub KeepsUncleared : ℕ → Machine L → Type 0
  KeepsUncleared buffers m = (i : ℕ) (r : Reader) (n : ℕ) → IsReader m i r → IsRegistered r →
      r.cleared ≤ n → n < height m → StandsAmong buffers (begun_blocks m) n

  -- no two readers hold one block
  abbrev pub HoldsAlone : Machine L → Type 0
  HoldsAlone m = (i j n : ℕ) → Holds m i n → Holds m j n → i ≡ j

  -- what a reader gets is the block at its count, with that block's label
  abbrev pub GetsNext : Machine L → Event L → Answer L → Type 0
  GetsNext m e a = (n : ℕ) (label : L) → a ≡ Answer.Got n label →
      (i : ℕ) × (r : Reader) × (e ≡ Event.ReaderTake i) × (IsReader m i r)
      × (r.cleared ≡ n) × (slice_get m.sealed n ≡ Some label)

  -- the writer is told of a full ring by a registered reader, and the first block that this reader has not cleared
  -- stands in the buffer that is wanted next
  abbrev pub FullByReader : ℕ → Machine L → Answer L → Type 0
  FullByReader buffers m a = (i c : ℕ) → a ≡ Answer.Full i c →
      (r : Reader) × (IsReader m i r) × (IsRegistered r) × (r.cleared ≡ c)
      × (c % buffers ≡ height m % buffers) × (StandsAmong buffers (height m) c)

-- whatever events leave of a new ring is sound
abbrev pub ReachedIsSound : Type 0 → Type 0
ReachedIsSound L = (buffers limit readers : ℕ) (m : Machine L) → limit ≤ greatest →
    Reached buffers limit readers m → IsSound buffers limit m

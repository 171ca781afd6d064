-- What holds in every state that events leave.
-- Source: PSRDADA manual (ring buffers of a writer and its readers); the bounds are this project's choice.
use Rattle.std.specs.Prelude.{◌≡◌, ℕ, ◌+◌, ◌<◌, ◌≤◌, ◌⊎◌, true, length, slice_index}
use Rattle.ring_core.specs.Machine.{Machine, Reader, Phase, IsReader, IsRegistered, Holds, HasRoom, height}

-- with so many buffers, and at most `limit` blocks
pub record IsSound {L : Type 0} (buffers limit : ℕ) (m : Machine L) : Type 0 where
  -- no more blocks than the limit, and room for one more while the writer holds a buffer
  pub limited : height m ≤ limit
  pub one_more : m.writing ≡ true → height m < limit
  -- a registered reader is not ahead of the writer, and no more than the buffers behind it
  pub counts : (i : ℕ) (r : Reader) → IsReader m i r → IsRegistered r →
      (r.cleared ≤ height m) × (height m ≤ r.cleared + buffers)
  -- the writer remembers no more than a registered reader cleared
  pub remembered : (i : ℕ) (r : Reader) → IsReader m i r → IsRegistered r →
      slice_index m.low i ≤ r.cleared
  -- while the writer holds a buffer, it remembers each count above length minus buffers
  pub room : m.writing ≡ true → HasRoom buffers m
  -- what a reader holds or has read was sealed
  pub was_sealed : (i : ℕ) (r : Reader) → IsReader m i r →
      (r.phase ≡ Phase.Out) ⊎ (r.phase ≡ Phase.Read) → r.cleared < height m
  -- no two readers hold one block
  pub alone : (i j n : ℕ) → Holds m i n → Holds m j n → i ≡ j
  -- a count is remembered of each reader
  pub one_each : length m.low ≡ length m.readers

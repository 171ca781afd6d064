-- The machine of a ring as contracts see it, and the code's events and answers as the machine's.
-- Source: PSRDADA manual (ring buffers of a writer and its readers); the form is this project's choice.
use Rattle.std.specs.Prelude.{◌≡◌, ℕ, ◌≤◌, List, length}
use Rattle.ring_core.specs.Machine.{Machine, Reader, Does, Runs}
use Rattle.ring_core.specs.Sound.{IsSound}
use Rattle.ring_core.specs.Machine as machine
use Rattle.ring_core.specs.declared.Shape.{Shape}
use Rattle.ring_core.specs.declared.Phase.{Phase}
use Rattle.ring_core.specs.declared.Phase.TheVariants as phase
use Rattle.ring_core.specs.declared.Reader.{Reader as Held}
use Rattle.ring_core.specs.declared.Event.{Event}
use Rattle.ring_core.specs.declared.Event.TheVariants.{Look, WriterTake, Seal, ReaderTake, Give, Clear, Retire, Detach, Attach}
use Rattle.ring_core.specs.declared.Answer.{Answer}
use Rattle.ring_core.specs.declared.Answer.TheVariants.{Full, Room, RoomRetired, Taken, Spent, Sealed, Got, Empty, Busy, Given, Cleared, Retired, Detached, Attached, Refused}

-- a ring: its shape, and where its machine stands
pub record CoreState : Type 0 where
  pub shape : Shape
  pub machine : Machine ℕ

abbrev pub phase_of : Phase → machine.Phase
phase_of phase.Ready = machine.Phase.Ready
phase_of phase.Out = machine.Phase.Out
phase_of phase.Read = machine.Phase.Read
phase_of phase.Detached = machine.Phase.Detached
phase_of phase.Retired = machine.Phase.Retired

abbrev pub reader_of : Held → Reader
reader_of r = record { cleared = r.cleared; phase = phase_of r.phase }

abbrev pub event_of : Event → machine.Event ℕ
event_of (Look i) = machine.Event.Look i
event_of WriterTake = machine.Event.WriterTake
event_of (Seal label) = machine.Event.Seal label
event_of (ReaderTake i) = machine.Event.ReaderTake i
event_of (Give i) = machine.Event.Give i
event_of (Clear i) = machine.Event.Clear i
event_of (Retire i) = machine.Event.Retire i
event_of (Detach i) = machine.Event.Detach i
event_of (Attach i) = machine.Event.Attach i

abbrev pub answer_of : Answer → machine.Answer ℕ
answer_of (Full i c) = machine.Answer.Full i c
answer_of (Room i c) = machine.Answer.Room i c
answer_of (RoomRetired i) = machine.Answer.RoomRetired i
answer_of (Taken n) = machine.Answer.Taken n
answer_of (Spent n) = machine.Answer.Spent n
answer_of (Sealed n) = machine.Answer.Sealed n
answer_of (Got n label) = machine.Answer.Got n label
answer_of (Empty n) = machine.Answer.Empty n
answer_of (Busy n i) = machine.Answer.Busy n i
answer_of Given = machine.Answer.Given
answer_of (Cleared n) = machine.Answer.Cleared n
answer_of Retired = machine.Answer.Retired
answer_of Detached = machine.Answer.Detached
answer_of (Attached n) = machine.Answer.Attached n
answer_of Refused = machine.Answer.Refused

-- at least 2 buffers, at most 8 readers and 2^20 blocks, and a sound machine with all its readers
pub record IsSoundCore (r : CoreState) : Type 0 where
  pub two : 2 ≤ r.shape.buffers
  pub few : r.shape.readers ≤ 8
  pub short : r.shape.max_blocks ≤ 1048576
  pub all_readers : length r.machine.readers ≡ r.shape.readers
  pub sound : IsSound r.shape.buffers r.shape.max_blocks r.machine

-- at the old ring the event has this answer, and leaves the new one
pub record Steps (old : CoreState) (e : machine.Event ℕ) (a : machine.Answer ℕ)
    (new : CoreState) : Type 0 where
  pub shape : new.shape ≡ old.shape
  pub does : Does old.shape.buffers old.shape.max_blocks old.machine e a new.machine

-- no other answer, and no other state after it, is allowed
abbrev pub IsOnly : CoreState → machine.Event ℕ → machine.Answer ℕ → CoreState → Type 0
IsOnly old e a new = (b : machine.Answer ℕ) (m : Machine ℕ) →
    Does old.shape.buffers old.shape.max_blocks old.machine e b m → (b ≡ a) × (m ≡ new.machine)

-- the events, one after another, leave the new ring
pub record RunsTo (old : CoreState) (events : List (machine.Event ℕ))
    (new : CoreState) : Type 0 where
  pub shape : new.shape ≡ old.shape
  pub answers : List (machine.Answer ℕ)
  pub runs : Runs old.shape.buffers old.shape.max_blocks old.machine events answers new.machine

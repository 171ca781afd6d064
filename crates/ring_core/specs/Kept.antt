-- What a core's fields stand for, and what they keep.
-- Source: PSRDADA manual (ring buffers of a writer and its readers); how they are kept is this project's choice.
use Rattle.std.specs.Prelude.{ℕ, ◌≤◌, map, vec_capacity}
use Rattle.ring_core.specs.Machine.{Machine}
use Rattle.ring_core.specs.State.{CoreState, IsSoundCore, reader_of}
use Rattle.ring_core.specs.declared.Core.TheInside.{Inside}

abbrev pub machine_of : Inside → Machine ℕ
machine_of a = record {
  sealed = a.sealed.items;
  writing = a.writing;
  low = a.low.items;
  readers =
      map reader_of a.readers.items;
}

abbrev pub ring_of : Inside → CoreState
ring_of a = record { shape = a.shape; machine = machine_of a }

-- memory for all labels is there from the start
pub record IsKept (a : Inside) : Type 0 where
  pub space : a.shape.max_blocks ≤ vec_capacity a.sealed
  pub ring : IsSoundCore (ring_of a)

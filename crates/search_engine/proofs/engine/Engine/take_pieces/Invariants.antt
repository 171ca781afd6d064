use Rattle.std.proofs.Common.{◌≡◌, ◌+◌, ◌-◌, ◌≤◌, ◌++◌, List, ℕ, false, length, take}
use Rattle.dada_model.specs.Observation.{Observation}
use Rattle.search_engine.specs.Engine.{SameShard, HasTakenChunks, scope_of}
use Rattle.search_engine.proofs.engine.Engine.take_pieces.Given as goal

-- the first bytes were taken
abbrev pub invariant-loop-done : goal.invariant-loop-done
invariant-loop-done l = record {
  within : l.done ≤ length l.bytes;
  same : SameShard l.self l.fn.self;
  scope : scope_of l.self ≡ scope_of l.fn.self;
  running : l.self.has_ended ≡ false;
  fed : l.self.fed ≡ l.fn.self.fed + l.done;
  taken : (o : Observation) (before : List ℕ) → HasTakenChunks o before l.fn.self
      → HasTakenChunks o (before ++ take l.done l.bytes) l.self;
}

abbrev pub decreases-loop-done : goal.decreases-loop-done
decreases-loop-done l = length l.bytes - l.done

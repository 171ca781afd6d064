use Rattle.std.proofs.Common.{◌≡◌, ◌+◌, ◌-◌, ◌≤◌, ◌++◌, List, ℕ, length, take}
use Rattle.live_search.specs.Live.{IsLive, Task, WasFed, WroteOn, fed_of}
use Rattle.live_search.proofs.live.LiveSearch.feed.Given as goal

-- the first bytes were taken
abbrev pub invariant-loop-done : goal.invariant-loop-done
invariant-loop-done g l = record {
  within : l.done ≤ length l.bytes;
  live : IsLive l.observation l.self;
  fed : fed_of l.self ≡ fed_of l.fn.self + l.done;
  stands : (t : Task) (before : List ℕ) → WasFed l.observation t before l.fn.self
      → WasFed l.observation t (before ++ take l.done l.bytes) l.self;
  wrote : (t : Task) (before : List ℕ) → WasFed l.observation t before l.fn.self
      → WroteOn l.observation t before (take l.done l.bytes) (g.K.Sink.seen l.fn.sink)
      (g.K.Sink.seen l.sink);
}

abbrev pub decreases-loop-done : goal.decreases-loop-done
decreases-loop-done g l = length l.bytes - l.done

use Rattle.std.proofs.Common.{◌≡◌, ℕ, ◌<◌, Some, length, slice_get}
use Rattle.search_engine.specs.Engine.{EngineState}
use Rattle.session_readers.specs.Banks.{HasEngine, engines_of}
use Rattle.search_session.proofs.books.spectra_of.Given as goal

abbrev pub invariant-loop-k : goal.invariant-loop-k
invariant-loop-k l = record {
  count : length l.spectra.items ≡ l.k;
  done : (k : ℕ) (e : EngineState) → k < l.k → HasEngine (engines_of l.bank) k e →
      slice_get l.spectra.items k ≡ Some e.sums.carry.fed;
}

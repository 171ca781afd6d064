-- What the engines of a shard were fed.
-- Source: this project's choice.
use Rattle.std.specs.Prelude.{◌≡◌, ◌≢◌, ℕ, ◌+◌, ◌≤◌, Bool, true, false, List, ◌++◌, length, slice_get, Option, Some}
use Rattle.std.specs.Borrow.{Lends, MutBor, Fml}
use Rattle.arrayvec.specs.ArrayVec.{with_item}
use Rattle.dada_model.specs.Observation.{Observation}
use Rattle.ring_blocks.specs.declared.Entry.{Entry}
use Rattle.search_engine.specs.Engine.{EngineState, StandsForPart, HasFoundPart, HasSearched, SameShard, scope_of, most_fed}
use Rattle.search_engine.specs.Scope.{whole_scope}
use Rattle.search_engine.specs.contracts.engine.Engine.{the_row as engine_row}
use Rattle.session_readers.specs.declared.bank.Bank.{Bank}
use Rattle.session_readers.specs.contracts.bank.Bank.{the_row}

-- the engines of a bank, by transfer
abbrev pub engines_of : Bank → List (Option EngineState)
engines_of bank = bank.engines.value.items

-- the engine of a transfer
abbrev pub HasEngine : List (Option EngineState) → ℕ → EngineState → Type 0
HasEngine engines transfer e = slice_get engines transfer ≡ Some (Some e)

-- the bank with this engine of a transfer
abbrev pub with_engine : Bank → ℕ → EngineState → Bank
with_engine bank transfer e = record bank {
  engines = record bank.engines { value = with_item bank.engines.value transfer (Some e) };
}

-- once the borrow r ends, the engine of a transfer is the one that r shows last
abbrev pub lends_engine : MutBor Bank → ℕ → MutBor EngineState → Fml
lends_engine bank transfer r = Lends the_row engine_row bank r (with_engine bank.now transfer)

-- an engine that has ended found what it searches of these data bytes; where that is all, it has searched them
pub record HasEnded (o : Observation) (bytes : List ℕ) (e : EngineState) : Type 0 where
  pub found : HasFoundPart o bytes e
  pub searched : scope_of e ≡ whole_scope o.channels → HasSearched o bytes e

-- an engine stands for these data bytes of an observation: until it ended it was fed them, and then it has found what
-- there is
abbrev pub Stands : Bool → Observation → List ℕ → EngineState → Type 0
Stands false o bytes e = StandsForPart o bytes e
Stands true o bytes e = HasEnded o bytes e

-- an engine was fed these bytes, and ended then exactly where they are the last
pub record WasFed (old : EngineState) (bytes : List ℕ) (is_last : Bool) (new : EngineState) :
    Type 0 where
  pub same : SameShard new old
  pub scope : scope_of new ≡ scope_of old
  pub fed : new.fed ≡ old.fed + length bytes
  pub ended : new.has_ended ≡ is_last
  pub stands : (o : Observation) (before : List ℕ) → StandsForPart o before old → Stands is_last o
      (before ++ bytes) new

-- the engine of a transfer was fed these bytes, and the others nothing
pub record WasFedAt (old : List (Option EngineState)) (transfer : ℕ) (bytes : List ℕ)
    (is_last : Bool)
    (new : List (Option EngineState)) : Type 0 where
  pub count : length new ≡ length old
  pub others : (k : ℕ) → k ≢ transfer → slice_get new k ≡ slice_get old k
  pub this : (e : EngineState) → HasEngine old transfer e →
      (f : EngineState) × HasEngine new transfer f × WasFed e bytes is_last f

-- the engine of a transfer has not ended, and has room for these bytes
abbrev pub CanFeedAt : List (Option EngineState) → ℕ → List ℕ → Type 0
CanFeedAt engines transfer bytes = (e : EngineState) × HasEngine engines transfer e
    × (e.has_ended ≡ false) × (e.fed + length bytes ≤ most_fed)

-- ---- a block

-- the engine of a transfer can be fed a block
abbrev pub CanFeed : Bank → ℕ → Entry → Type 0
CanFeed bank transfer block = CanFeedAt (engines_of bank) transfer block.bytes

-- it was fed the block, and has not ended
abbrev pub WasFedBlock : Bank → ℕ → Entry → Bank → Type 0
WasFedBlock old transfer block new =
    WasFedAt (engines_of old) transfer block.bytes false (engines_of new)

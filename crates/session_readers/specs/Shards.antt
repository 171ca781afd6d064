-- What a shard has read, and what its turns did.
-- Source: this project's choice.
use Rattle.std.specs.Prelude.{◌≡◌, ℕ, ◌+◌, ◌*◌, ◌<◌, ◌≤◌, ◌^◌, min, ⊤, true, false, nat_lt, List, [], ◌∷◌, ◌++◌, length, vec_len, Option}
use Rattle.dada_model.specs.Observation.{Observation}
use Rattle.ring_core.specs.Machine.{greatest}
use Rattle.ring_blocks.specs.declared.Entry.{Entry}
use Rattle.ring_words.specs.Ring.{Begins}
use Rattle.ring_words.specs.declared.shape.RingShape.{RingShape}
use Rattle.ring_ends.specs.Passes.{reader_knows, ended_knows}
use Rattle.ring_ends.specs.declared.answers.Taken.{Taken}
use Rattle.dada_hdu.specs.declared.hdu.Hdu.{Hdu}
use Rattle.dada_hdu.specs.declared.passes.HduReader.{HduReader}
use Rattle.dada_hdu.specs.declared.ended.HduEnded.{HduEnded}
use Rattle.dada_hdu.specs.declared.ended.HduEnded.TheVariants.{Here, Away, Retired}
use Rattle.dada_hdu.specs.Passes.{data_shape, data_end, number_of, tries_of, EndedFromBoth}
use Rattle.stream_model.specs.Blocks.{ended_transfers, is_over, transfer_bytes}
use Rattle.search_engine.specs.Engine.{EngineState, SameShard, scope_of, most_fed}
use Rattle.session_readers.specs.declared.bank.Bank.{Bank}
use Rattle.session_readers.specs.declared.shard.ShardActor.{ShardActor}
use Rattle.session_readers.specs.Banks.{HasEngine, Stands, WasFedBlock, engines_of}
use Rattle.session_readers.specs.Reads.{ReadsRing, ReadsNext, HasMore, Reads}

-- ---- engines and the blocks that were cleared

-- the engine of a transfer stands for the bytes of that transfer among the blocks, and has ended where they have
abbrev pub StandsAt : Observation → ℕ → List Entry → EngineState → Type 0
StandsAt o transfer blocks e =
    Stands (nat_lt transfer (ended_transfers blocks)) o (transfer_bytes transfer blocks) e

-- an engine was fed as many bytes as its transfer has among the blocks, no more than these can
-- hold, and has ended if the transfer has
pub record IsEngineAt (size : ℕ) (blocks : List Entry) (transfer : ℕ) (e : EngineState) :
    Type 0 where
  pub ended : e.has_ended ≡ nat_lt transfer (ended_transfers blocks)
  pub fed : e.fed ≡ length (transfer_bytes transfer blocks)
  pub most : e.fed ≤ length blocks * size

-- each engine was fed the bytes of its transfer among the blocks
abbrev pub AreEnginesAt : ℕ → List Entry → List (Option EngineState) → Type 0
AreEnginesAt size blocks engines = (k : ℕ) → k < length engines →
    (e : EngineState) × HasEngine engines k e × IsEngineAt size blocks k e

-- from the blocks before to those after, an engine was fed the further bytes of its transfer
pub record EngineFollows (transfer : ℕ) (before after : List Entry) (e f : EngineState) :
    Type 0 where
  pub same : SameShard f e
  pub scope : scope_of f ≡ scope_of e
  pub stands : (o : Observation) → StandsAt o transfer before e → StandsAt o transfer after f

-- from the blocks before to those after, each engine was fed the further bytes of its transfer
pub record EnginesFollow (before after : List Entry) (old new : List (Option EngineState)) :
    Type 0 where
  pub count : length new ≡ length old
  pub each : (k : ℕ) (e : EngineState) → HasEngine old k e →
      (f : EngineState) × HasEngine new k f × EngineFollows k before after e f

-- ---- a read

-- the blocks that it cleared of each ring
abbrev pub headers_cleared : HduReader → List Entry
headers_cleared reader = (reader_knows reader.header).cleared

abbrev pub blocks_cleared : HduReader → List Entry
blocks_cleared reader = (reader_knows reader.blocks).cleared

-- a read of the data ring found no block, and no engine was fed
pub record HasMissed (old new : HduReader) (bank bank' : Bank) : Type 0 where
  pub read : ReadsRing false (Here old) (Here new)
  pub cleared : blocks_cleared new ≡ blocks_cleared old
  pub bank_is : bank' ≡ bank

-- A reader, which had cleared fewer blocks of data than its ring, of this shape, may carry, read the next one and
-- cleared it. The engine of a transfer was fed the block, and goes on whatever its mark.
pub record HasFedBlock (ring : RingShape) (old new : HduReader) (bank : Bank) (transfer : ℕ)
    (taken : Taken) (bank' : Bank) : Type 0 where
  pub block : Entry
  pub read : ReadsRing false (Here old) (Here new)
  pub cleared : blocks_cleared new ≡ blocks_cleared old ++ block ∷ []
  pub mark : taken.mark ≡ block.mark
  pub within : length (blocks_cleared old) < ring.max_blocks
  pub fits : length block.bytes ≤ ring.size
  pub fed : WasFedBlock bank transfer block bank'

-- ---- a shard

-- the blocks of data that it cleared
abbrev pub shard_cleared : ShardActor → List Entry
shard_cleared x = (ended_knows (data_end x.pass)).cleared

abbrev pub shard_number : ShardActor → ℕ
shard_number x = number_of x.pass

-- it reads
abbrev pub IsHere : HduEnded → Type 0
IsHere pass = (reader : HduReader) × (pass ≡ Here reader)

-- it retired: the writer of the rings no longer waits for it
abbrev pub IsRetired : HduEnded → Type 0
IsRetired (Here reader) = ⊥
IsRetired (Away reader) = ⊥
IsRetired (Retired reader) = ⊤

-- it reads or it retired
abbrev pub IsHereOrRetired : HduEnded → Type 0
IsHereOrRetired (Here reader) = ⊤
IsHereOrRetired (Away reader) = ⊥
IsHereOrRetired (Retired reader) = ⊤

-- A shard of these rings: its engines were fed exactly the blocks that it cleared, and it ended where they did.
pub record ShardOn (hdu : Hdu) (x : ShardActor) : Type 0 where
  pub reads : EndedFromBoth hdu x.pass
  pub here : x.ended ≡ false → IsHere x.pass
  pub stays : IsHereOrRetired x.pass
  pub header_room : 65537 ≤ vec_len x.space
  pub few : (data_shape hdu).max_blocks * (data_shape hdu).size ≤ most_fed
  pub done : x.done ≡ ended_transfers (shard_cleared x)
  pub over : x.ended ≡ is_over (length (engines_of x.part)) (shard_cleared x)
  pub engines : AreEnginesAt (data_shape hdu).size (shard_cleared x) (engines_of x.part)
  pub count : x.turns < 2 ^ 64

-- its engines stand as they stood
pub record KeepsEngines (x y : ShardActor) : Type 0 where
  pub part : y.part ≡ x.part
  pub done : y.done ≡ x.done
  pub ended : y.ended ≡ x.ended

-- one read of a shard: its engines were fed what it read, or stand as they stood
pub record ShardStepped (x y : ShardActor) : Type 0 where
  pub turns : y.turns ≡ x.turns
  pub read : ReadsNext x.pass y.pass
  pub idle : shard_cleared y ≡ shard_cleared x → KeepsEngines x y
  pub engines : EnginesFollow (shard_cleared x)
      (shard_cleared y) (engines_of x.part) (engines_of y.part)

-- n turns of a shard, or fewer where it ended: each made one read, and none came once it had ended
pub record ShardMoved (n : ℕ) (x y : ShardActor) : Type 0 where
  pub number : shard_number y ≡ shard_number x
  pub made : ℕ
  pub most : made ≤ n
  pub all : y.ended ≡ false → made ≡ n
  pub none : x.ended ≡ true → made ≡ 0
  pub stays : x.ended ≡ true → y.ended ≡ true
  pub turns : y.turns ≡ min greatest (x.turns + made)
  pub reads : Reads (HasMore (length (engines_of x.part))) made x.pass y.pass
  pub tries : tries_of y.pass ≡ tries_of x.pass + made
  pub grown : Begins (shard_cleared x) (shard_cleared y)
  pub engines : EnginesFollow (shard_cleared x)
      (shard_cleared y) (engines_of x.part) (engines_of y.part)

-- What a lone session answers.
-- Source: this project's choice.
use Rattle.std.specs.Prelude.{◌≡◌, ℕ, ◌+◌, ⊤, true, false, List, [], length, Some, None}
use Rattle.psr_base.specs.Told.{Told}
use Rattle.dada_model.specs.Observation.{Observation}
use Rattle.ring_words.specs.Ring.{Begins}
use Rattle.ring_ends.specs.Ended.{sealed_at_end, cleared_at_end}
use Rattle.stream_model.specs.Blocks.{transfer_bytes}
use Rattle.search_engine.specs.Engine.{EngineState, SameShard, scope_of}
use Rattle.disk_feeder.specs.declared.answers.FeedEnd.TheVariants.{Whole}
use Rattle.disk_feeder.specs.Resting.{feeder_over}
use Rattle.disk_feeder.specs.Turns.{sealed_blocks}
use Rattle.session_readers.specs.declared.bank.Bank.{Bank}
use Rattle.search_session.specs.declared.ended.SessionEnd.{SessionEnd}
use Rattle.search_session.specs.declared.lone.LoneSession.{LoneSession}
use Rattle.search_session.specs.declared.lone.LoneEnd.{LoneEnd}
use Rattle.session_readers.specs.Banks.{HasEngine, Stands, engines_of}
use Rattle.session_readers.specs.Shards.{shard_cleared, EnginesFollow}
use Rattle.search_session.specs.Sessions.{FeedAnswers}
use Rattle.search_session.specs.Lone.{lone_feeder, lone_bank, LoneOn, LoneMoved, LoneBegins, HasLoneEnded}

-- what was closed is what the session came to
pub record IsLoneEnd (s : LoneSession) (end : LoneEnd) : Type 0 where
  pub feed : s.feed.end ≡ Some end.feed
  pub sealed : sealed_at_end end.blocks ≡ sealed_blocks s.feed.pass
  pub cleared : cleared_at_end end.blocks 0 ≡ shard_cleared s.shard
  pub begins : Begins (shard_cleared s.shard) (sealed_at_end end.blocks)
  pub bank : end.bank ≡ lone_bank s

-- the end of a lone session, to which these inputs were lent, as that of a session that gives them back; the books stay
-- in the bank
abbrev pub session_end : {I : Type 0} → I → LoneEnd → SessionEnd I ⊤
session_end lent end = record {
  feed = end.feed;
  books = record { items = [] };
  spectra = record { items = [] };
  recorded = None;
  blocks = end.blocks;
  inputs = record { ref_ptr = (0, 0); ghost_name = 0; now = lent };
  files = None;
}

-- an engine that was fed nothing, as `e`, was fed these bytes, and ended then
pub record WentThrough (e : EngineState) (bytes : List ℕ) (f : EngineState) : Type 0 where
  pub same : SameShard f e
  pub scope : scope_of f ≡ scope_of e
  pub fed : f.fed ≡ length bytes
  pub ended : f.has_ended ≡ true
  pub stands : (o : Observation) → Stands false o [] e → Stands true o bytes f

-- What the engines of a bank came to. The shard cleared all blocks that were sealed, and the engines were fed them.
-- Where all data were sealed, each engine has searched those of its transfer.
pub record BankAnswers (bank : Bank) (end : LoneEnd) : Type 0 where
  pub cleared : cleared_at_end end.blocks 0 ≡ sealed_at_end end.blocks
  pub engines : EnginesFollow [] (sealed_at_end end.blocks) (engines_of bank)
      (engines_of end.bank)
  pub searched : (bytes : ℕ) → end.feed ≡ Whole bytes → (transfer : ℕ) (e : EngineState) →
      HasEngine (engines_of bank) transfer e →
      (f : EngineState) × HasEngine (engines_of end.bank) transfer f
      × WentThrough e (transfer_bytes transfer (sealed_at_end end.blocks)) f

-- What a session came to, which was begun over inputs that were `before`, and ended when they were `after`: its feeder
-- as that of any session, and its engines.
pub record LoneAnswers {I : Type 0} (told : I → Told) (is_calm : I → Type 0) (faults : I → ℕ)
    (start : LoneSession) (before after : I) (end : LoneEnd) : Type 0 where
  pub feed : FeedAnswers told is_calm faults (feeder_over before (lone_feeder start))
      (session_end after end)
  pub bank : BankAnswers (lone_bank start) end

-- ---- laws

-- no turn, and turns after turns
pub record LoneTurnsAdd {I : Type 0} (told : I → Told) (is_calm : I → Type 0) (faults : I → ℕ) :
    Type 0 where
  pub none : (lent : I) (s : LoneSession) → LoneOn (told lent) s →
      LoneMoved told is_calm faults 0 lent s lent s
  pub more : (n m : ℕ) (before lent after : I) (x y z : LoneSession) →
      LoneMoved told is_calm faults n before x lent y →
      LoneMoved told is_calm faults m lent y after z →
      LoneMoved told is_calm faults (n + m) before x after z

-- a session that began, took turns until both ended, and was closed
abbrev pub LoneSessionsEnd : {I : Type 0} → (I → Told) → (I → Type 0) → (I → ℕ) → Type 0
LoneSessionsEnd told is_calm faults = (start now : LoneSession) (before after : _) (n : ℕ)
    (end : LoneEnd) → LoneBegins (told before) start →
    LoneMoved told is_calm faults n before start after now → LoneOn (told after) now →
    HasLoneEnded now → IsLoneEnd now end →
    LoneAnswers told is_calm faults start before after end

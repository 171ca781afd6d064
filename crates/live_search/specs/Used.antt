-- The laws of lower crates that the proofs of a search use.
use Rattle.psr_base.specs.Written.{PiecesJoin}
use Rattle.search_engine.specs.Laws.{PartsAreFound}
use Rattle.search_model.specs.CandidateLaws.{CandidatesAreListed, OneShardIsAll}

pub record UsedLaws : Type 0 where
  pub found : PartsAreFound
  pub listed : CandidatesAreListed
  pub one : OneShardIsAll
  pub join : PiecesJoin

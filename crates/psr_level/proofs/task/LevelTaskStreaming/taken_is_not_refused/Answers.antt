use Rattle.level_words.specs.Settings.{level_seen}
use Rattle.psr_level.proofs.Taken.{not_refused}
use Rattle.psr_level.proofs.task.LevelTaskStreaming.taken_is_not_refused.Goals as goal

pub returns : goal.returns
returns c = not_refused (level_seen c.args.self.now.settings.now)

use Rattle.std.proofs.Common.{◌∙◌, sym, subst}
use Rattle.clap.specs.Words.{found_of, rows_of}
use Rattle.level_words.specs.Settings.{LevelInRange}
use Rattle.level_words.proofs.Ranges.{level_in_range}
use Rattle.level_words.proofs.reading.read.Goals as goal

pub returns-in-Ok-settings-clause-in_range : goal.returns-in-Ok-settings-clause-in_range
returns-in-Ok-settings-clause-in_range c =
    let found = rows_of (found_of c.in-Ok.matches) in
    subst LevelInRange (sym c.in-Ok-settings.ensures)
    (level_in_range c.none_fails.ensures c.values_are_allowed.ensures found
    (sym c.first_out_of_range.ensures ∙ c.in-None.is))

use Rattle.std.proofs.Common.{◌∙◌, sym, subst}
use Rattle.clap.specs.Words.{found_of, rows_of}
use Rattle.search_words.specs.Settings.{RunInRange}
use Rattle.search_words.proofs.Ranges.{run_in_range}
use Rattle.search_words.proofs.reading.read.Goals as goal

pub returns-in-Ok-run_settings-clause-in_range : goal.returns-in-Ok-run_settings-clause-in_range
returns-in-Ok-run_settings-clause-in_range c =
    let found = rows_of (found_of c.in-Ok.matches) in
    subst RunInRange (sym c.in-Ok-run_settings.ensures)
    (run_in_range c.none_fails.ensures c.values_are_allowed.ensures c.args.program found (sym c.first_out_of_range.ensures ∙ c.in-None.is))

use Rattle.std.proofs.Common.{◌∙◌, sym, subst, ap}
use Rattle.clap.specs.Words.{found_of, rows_of}
use Rattle.search_model.specs.Search.{SettingsInRange}
use Rattle.search_words.specs.declared.table.Program.TheVariants.{PsrSearch}
use Rattle.search_words.specs.Values.{first_out_of_range}
use Rattle.search_words.proofs.Ranges.{search_in_range}
use Rattle.search_words.proofs.reading.read_search.Goals as goal

pub returns-in-Ok-clause-in_range : goal.returns-in-Ok-clause-in_range
returns-in-Ok-clause-in_range c =
    let found = rows_of (found_of c.in-Ok.matches) in
    let fits = ap (first_out_of_range PsrSearch) c.in-Ok.ensures.found ∙ c.in-Ok.ensures.says.in_range in
    record {
      search = subst SettingsInRange (sym c.search.ensures)
          (search_in_range c.none_fails.ensures c.values_are_allowed.ensures found fits);
      run = c.in-Ok.ensures.in_range;
    }

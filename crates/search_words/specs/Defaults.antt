-- The settings of words that give few options: all others stand as they do where no word gives them.
-- Source: this project's choice.
use Rattle.std.specs.Prelude.{List, [], ◌∷◌}
use Rattle.clap.specs.Walk.{Text}
use Rattle.search_model.specs.declared.search.Search.{Search}
use Rattle.search_words.specs.declared.table.Program.TheVariants.{PsrSearch}
use Rattle.search_words.specs.Settings.{SettingsSeen, search_of, settings_of}

-- a search of the names of one transfer, which are not recorded
abbrev pub default_settings : Search → List Text → SettingsSeen
default_settings search names =
    record (settings_of search_of PsrSearch []) { search = search; names = names; starts = 0 ∷ [] }

-- the search of small samples: `--mean 1 --sd 2 --snr 7 --max-delay 1 --widths 1`
unfoldable pub sample_search : Search
sample_search =
    record (search_of []) { max_delay = 1; widest = 1; mean = 1000; sd = 2000; snr = 700 }

-- The values of the options, and the first that is out of its range.
-- Source: this project's choice.
use Rattle.std.specs.Prelude.{ℕ, Bool, ◌&&◌, not, nat_le, List, [], find, Option, None, is_some, unwrap_or, if◌then◌else◌}
use Rattle.clap.specs.Walk.{Row as Found, Text, first_of, all_of}
use Rattle.option_rows.specs.Rows.{value_of_word}
use Rattle.search_words.specs.declared.opt.Opt.{Opt}
use Rattle.search_words.specs.declared.opt.Opt.TheVariants.{MaxDelay, MinDelay, File}
use Rattle.search_words.specs.declared.table.Program.{Program}
use Rattle.search_words.specs.Table.{option_name, option_row, all_options, offers}
use Rattle.search_words.specs.Transfers.{files_fit}

-- the word that was given for an option of the program
abbrev pub given_word : Program → List Found → Opt → Option Text
given_word program found opt = if offers program opt then first_of (option_name opt) found else None

-- the value of an option, where it is in its row: that of its word, or the one that stands without a word
abbrev pub option_value : Program → List Found → Opt → Option ℕ
option_value program found opt = value_of_word (option_row opt) (given_word program found opt)

-- the same as a number
abbrev pub option_number : Program → List Found → Opt → ℕ
option_number program found opt = unwrap_or (option_value program found opt) 0

-- the FILE words
abbrev pub files_of : List Found → List Text
files_of found = unwrap_or (all_of (option_name File) found) []

-- whether the value of an option is in its range: in its row, the least delay no greater than the greatest, and the
-- FILE words in their numbers
abbrev pub is_in_range : Program → List Found → Opt → Bool
is_in_range program found MinDelay = is_some (option_value program found MinDelay)
    && nat_le (option_number program found MinDelay) (option_number program found MaxDelay)
is_in_range program found File = files_fit (files_of found)
is_in_range program found opt = is_some (option_value program found opt)

-- the first option, in the table's order, whose value is out of its range
abbrev pub first_out_of_range : Program → List Found → Option Opt
first_out_of_range program found = find (λ opt. not (is_in_range program found opt)) all_options

-- The values of the options, and the first that is out of its range.
-- Source: this project's choice.
use Rattle.std.specs.Prelude.{ℕ, Bool, true, false, ◌&&◌, not, nat_le, List, [], length, find, Option, is_some, unwrap_or, option_map, codes}
use Rattle.std.specs.Option.{option_map_or}
use Rattle.std.specs.Str.{bytes_eq}
use Rattle.clap.specs.Walk.{Row as Found, Text, first_of, all_of}
use Rattle.option_rows.specs.Rows.{value_of_word}
use Rattle.level_words.specs.declared.opt.Opt.{Opt}
use Rattle.level_words.specs.declared.opt.Opt.TheVariants.{Mask, File}
use Rattle.level_words.specs.declared.opt.Flag.{Flag}
use Rattle.level_words.specs.Table.{option_name, option_row, flag_name, all_options}

-- the value of an option: that of the word that was given for it, or the one that stands without a word
abbrev pub option_value : List Found → Opt → Option ℕ
option_value found opt = value_of_word (option_row opt) (first_of (option_name opt) found)

-- the same as a number
abbrev pub option_number : List Found → Opt → ℕ
option_number found opt = unwrap_or (option_value found opt) 0

-- the number of an option that was given
abbrev pub given_number : List Found → Opt → Option ℕ
given_number found opt =
    option_map (λ word. option_number found opt) (first_of (option_name opt) found)

-- whether a flag was given
abbrev pub is_given : List Found → Flag → Bool
is_given found flag =
    option_map_or (λ text. bytes_eq text (codes "true")) (first_of (flag_name flag) found) false

-- the text of the mask, which masks no channel if none is given
abbrev pub mask_text : List Found → Text
mask_text found = unwrap_or (first_of (option_name Mask) found) (codes "none")

-- the names of the files
abbrev pub files_of : List Found → List Text
files_of found = unwrap_or (all_of (option_name File) found) []

-- from 1 to 65535 of them
abbrev pub are_few : Option (List Text) → Bool
are_few = λ files.
    option_map_or (λ names. nat_le 1 (length names) && nat_le (length names) 65535) files false

-- whether the value of an option is in its range: in its row, and the names in their number
abbrev pub is_in_range : List Found → Opt → Bool
is_in_range found Mask = true
is_in_range found File = are_few (all_of (option_name File) found)
is_in_range found opt = is_some (option_value found opt)

-- the first option, in the table's order, whose value is out of its range
abbrev pub first_out_of_range : List Found → Option Opt
first_out_of_range found = find (λ opt. not (is_in_range found opt)) all_options

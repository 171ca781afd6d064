-- What the words ask for.
-- Source: this project's choice.
use Rattle.std.specs.Prelude.{◌≡◌, ℕ, not, List, find, Option, Some, None, is_some, unwrap_or, codes}
use Rattle.clap.specs.Walk.{Row as Found, Text, first_of}
use Rattle.option_rows.specs.Rows.{value_of_word}
use Rattle.psr_make.specs.declared.opt.Opt.{Opt}
use Rattle.psr_make.specs.declared.opt.Opt.TheVariants.{Number, Nchan, Spectra, Delay, Period, Height, Nbit, Npol}
use Rattle.psr_make.specs.declared.spec.MakeSpec.{MakeSpec}
use Rattle.psr_make.specs.Table.{option_name, option_row, all_options}
use Rattle.psr_make.specs.Command.{TakesWords, matches_on}

-- the value of an option: that of the word that was given for it, or the one that stands without a word
abbrev pub option_value : List Found → Opt → Option ℕ
option_value found opt = value_of_word (option_row opt) (first_of (option_name opt) found)

-- the same as a number
abbrev pub option_number : List Found → Opt → ℕ
option_number found opt = unwrap_or (option_value found opt) 0

-- the first option, in the table's order, whose value is out of its range
abbrev pub first_out_of_range : List Found → Option Opt
first_out_of_range found = find (λ opt. not (is_some (option_value found opt))) all_options

-- what an observation is made from by these values
abbrev pub spec_of : List Found → MakeSpec
spec_of found = record {
  number = option_number found Number;
  channels = option_number found Nchan;
  spectra = option_number found Spectra;
  delay = option_number found Delay;
  period = option_number found Period;
  height = option_number found Height;
  nbit = option_number found Nbit;
  npol = option_number found Npol;
}

-- the name of the file
abbrev pub name_in : List Found → Option Text
name_in found = first_of (codes "NAME") found

-- clap takes the words, and a name is among them
pub record AreWords (words : List Text) (name : Text) : Type 0 where
  pub taken : TakesWords words
  pub named : name_in (matches_on words) ≡ Some name

-- the words ask for the observation of s in a file of that name: each value is in its range, and these are the values
pub record Asks (words : List Text) (s : MakeSpec) (name : Text) : Type 0 where
  pub read : AreWords words name
  pub in_range : first_out_of_range (matches_on words) ≡ None
  pub values : s ≡ spec_of (matches_on words)

-- The command that clap reads, and what it makes of the words. Each option is given once at most and takes one value,
-- and one NAME stands anywhere; there is no help, no version and no subcommand.
-- Source: this project's choice; what such a command takes is told by the crate clap.
use Rattle.std.specs.Prelude.{◌≡◌, List, [], ◌∷◌, ◌++◌, map, codes, Some, true}
use Rattle.clap.specs.Walk.{Row, Rule, Text}
use Rattle.clap.specs.Simple.{App, new_app, new_rule, matches_of}
use Rattle.clap.specs.Takes.{takes}
use Rattle.clap.specs.Faults.{fault_of}
use Rattle.psr_make.specs.declared.opt.Opt.{Opt}
use Rattle.psr_make.specs.Table.{option_name, all_options}

abbrev pub option_rule : Opt → Rule
option_rule opt = record (new_rule (option_name opt)) { long = Some (option_name opt) }

-- the name of the file
abbrev pub name_rule : Rule
name_rule = record (new_rule (codes "NAME")) { required = true }

abbrev pub command_with : List Rule → App
command_with rules = record {
  top = record (new_app (codes "psr_make")).top { rules = rules; disable_help_flag = true };
  subs = [];
}

unfoldable pub make_command : App
make_command = command_with (map option_rule all_options ++ name_rule ∷ [])

-- clap takes the words, of which the first is the program's name: nothing in them is at fault
abbrev pub TakesWords : List Text → Type 0
TakesWords words = fault_of make_command words ≡ []

-- the words are of the kind that clap promises to take
abbrev pub IsSimpleLine : List Text → Type 0
IsSimpleLine words = takes make_command words ≡ true

-- what was found for each option, where clap takes the words
abbrev pub matches_on : List Text → List Row
matches_on words = matches_of make_command words

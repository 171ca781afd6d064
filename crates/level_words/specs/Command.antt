-- The command that clap reads, and what it makes of the words. Each option is given once at most and takes one value,
-- a flag takes none, and one FILE or more stand anywhere; there is no help, no version and no subcommand.
-- Source: this project's choice; what such a command takes is told by the crate clap.
use Rattle.std.specs.Prelude.{◌≡◌, List, [], ◌∷◌, ◌++◌, map, codes, Some, true}
use Rattle.clap.specs.Lexer.{usize_max}
use Rattle.clap.specs.Walk.{Row, Rule, Text}
use Rattle.clap.specs.Simple.{App, new_app, new_rule, matches_of}
use Rattle.clap.specs.Faults.{fault_of}
use Rattle.clap.specs.declared.builder.action.ArgAction.TheVariants.{Append, SetTrue}
use Rattle.level_words.specs.declared.opt.Opt.{Opt}
use Rattle.level_words.specs.declared.opt.Flag.{Flag}
use Rattle.level_words.specs.declared.opt.Flag.TheVariants.{Fast, ZeroDm, Signed, HighByteFirst}
use Rattle.level_words.specs.Table.{option_name, flag_name, valued_options}

abbrev pub option_rule : Opt → Rule
option_rule opt = record (new_rule (option_name opt)) { long = Some (option_name opt) }

abbrev pub flag_rule : Flag → Rule
flag_rule flag = record (new_rule (flag_name flag)) {
  long = Some (flag_name flag);
  action = Some SetTrue;
}

-- the names of files
abbrev pub file_rule : Rule
file_rule = record (new_rule (codes "FILE")) {
  action = Some Append;
  range = Some (record { start_inclusive = 1; end_inclusive = usize_max });
  required = true;
}

abbrev pub command_with : List Rule → App
command_with rules = record {
  top = record (new_app (codes "psr_level")).top { rules = rules; disable_help_flag = true };
  subs = [];
}

unfoldable pub level_command : App
level_command = command_with (((((map option_rule valued_options ++ flag_rule Fast ∷ [])
    ++ flag_rule ZeroDm ∷ []) ++ flag_rule Signed ∷ []) ++ flag_rule HighByteFirst ∷ [])
    ++ file_rule ∷ [])

-- clap takes the words, of which the first is the program's name: nothing in them is at fault
abbrev pub TakesWords : List Text → Type 0
TakesWords words = fault_of level_command words ≡ []

-- what was found for each option, if clap takes the words
abbrev pub matches_on : List Text → List Row
matches_on words = matches_of level_command words

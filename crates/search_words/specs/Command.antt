-- The command that clap reads, and what it makes of the words. Each option is given once at most and takes one value,
-- `--record` takes none, and one FILE or more stand anywhere; there is no help, no version and no subcommand.
-- Source: this project's choice; what such a command takes is told by the crate clap.
use Rattle.std.specs.Prelude.{◌≡◌, Bool, List, [], ◌∷◌, ◌++◌, map, filter, codes, Some, true}
use Rattle.clap.specs.Lexer.{usize_max}
use Rattle.clap.specs.Walk.{Row, Rule, Text}
use Rattle.clap.specs.Simple.{App, new_app, new_rule, matches_of}
use Rattle.clap.specs.Takes.{takes}
use Rattle.clap.specs.Faults.{fault_of}
use Rattle.clap.specs.declared.builder.action.ArgAction.TheVariants.{Append, SetTrue}
use Rattle.search_words.specs.declared.opt.Opt.{Opt}
use Rattle.search_words.specs.declared.table.Program.{Program}
use Rattle.search_words.specs.declared.table.Program.TheVariants.{PsrSearch, PsrRecord}
use Rattle.search_words.specs.Table.{option_name, all_options, offers, demands}

-- an option that takes a value
abbrev pub option_rule : Text → Bool → Rule
option_rule name is_demanded = record (new_rule name) { long = Some name; required = is_demanded }

abbrev pub rule_for : Program → Opt → Rule
rule_for program opt = option_rule (option_name opt) (demands program opt)

-- the flag
abbrev pub record_rule : Rule
record_rule = record (new_rule (codes "record")) {
  long = Some (codes "record");
  action = Some SetTrue;
}

-- the names of files
abbrev pub file_rule : Rule
file_rule = record (new_rule (codes "FILE")) {
  action = Some Append;
  range = Some (record { start_inclusive = 1; end_inclusive = usize_max });
  required = true;
}

-- psr_record records always and has no flag for it
abbrev pub flag_rules : Program → List Rule
flag_rules PsrSearch = record_rule ∷ []
flag_rules PsrRecord = []

-- those of some options that the program has
abbrev pub option_rules : Program → List Opt → List Rule
option_rules program some = map (rule_for program) (filter (offers program) some)

abbrev pub rules_of : Program → List Rule
rules_of program = option_rules program all_options ++ flag_rules program ++ file_rule ∷ []

abbrev pub program_name : Program → Text
program_name PsrSearch = codes "psr_search"
program_name PsrRecord = codes "psr_record"

abbrev pub command_with : Program → List Rule → App
command_with program rules = record {
  top = record (new_app (program_name program)).top { rules = rules; disable_help_flag = true };
  subs = [];
}

-- the command of a program
abbrev pub command_of : Program → App
command_of program = command_with program (rules_of program)

-- clap takes the words, of which the first is the program's name: nothing in them is at fault
abbrev pub TakesWords : Program → List Text → Type 0
TakesWords program words = fault_of (command_of program) words ≡ []

-- the words are of the kind that clap promises to take
abbrev pub IsSimpleLine : Program → List Text → Type 0
IsSimpleLine program words = takes (command_of program) words ≡ true

-- what was found for each option, where clap takes the words
abbrev pub matches_on : Program → List Text → List Row
matches_on program words = matches_of (command_of program) words

use Rattle.std.proofs.Common.{◌≡◌, take}
use Rattle.clap.specs.Words.{app_of}
use Rattle.search_words.specs.Command.{command_with, option_rules}
use Rattle.search_words.proofs.command.command.Given as goal

-- the options so far are there
abbrev pub invariant-loop-opt : goal.invariant-loop-opt
invariant-loop-opt l = app_of l.command ≡ command_with l.program (option_rules l.program (take l.opt-index l.opt-items))

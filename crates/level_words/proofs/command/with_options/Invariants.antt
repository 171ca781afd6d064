use Rattle.std.proofs.Common.{◌≡◌, take, map}
use Rattle.clap.specs.Words.{app_of}
use Rattle.level_words.specs.Command.{command_with, option_rule}
use Rattle.level_words.proofs.command.with_options.Given as goal

-- the options so far are there
abbrev pub invariant-loop-opt : goal.invariant-loop-opt
invariant-loop-opt l = app_of l.command ≡ command_with (map option_rule (take l.opt-index l.opt-items))

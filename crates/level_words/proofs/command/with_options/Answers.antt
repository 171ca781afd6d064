use Rattle.std.proofs.Common.{◌≡◌, List, ap, sym, ◌∙◌, arith, take, map, ◌++◌, [], ◌∷◌}
use Rattle.std.proofs.lemmas.List.{take_all}
use Rattle.clap.specs.Walk.{Rule}
use Rattle.level_words.specs.declared.opt.Opt.{Opt}
use Rattle.level_words.specs.declared.opt.Opt.TheVariants.{Spectra}
use Rattle.level_words.specs.Table.{valued_options}
use Rattle.level_words.specs.Command.{command_with, option_rule}
use Rattle.level_words.proofs.Clap.{rules_more}
use Rattle.level_words.proofs.command.with_options.Goals as goal

pub loop-opt-preserved : goal.loop-opt-preserved
loop-opt-preserved c =
    let i = c.loop-opt.opt-index in
    let more = rules_more valued_options i Spectra (omega arith) in
    let so_far = map option_rule (take i valued_options) in
    c.in_ok-command.ensures so_far c.loop-opt.invariant
    ∙ ap (λ (rule : Rule). command_with (so_far ++ rule ∷ [])) c.option.ensures.rule ∙ ap command_with (sym more)

pub returns : goal.returns
returns c =
    let whole : take c.loop-opt.opt-index valued_options ≡ valued_options =
    take_all c.loop-opt.opt-index valued_options (omega arith) in
    c.loop-opt.invariant ∙ ap (λ (opts : List Opt). command_with (map option_rule opts)) whole

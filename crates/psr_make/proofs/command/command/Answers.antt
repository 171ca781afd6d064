use Rattle.std.proofs.Common.{◌≡◌, List, ap, ap₂, sym, ◌∙◌, arith, take, map}
use Rattle.std.proofs.lemmas.Result.{IfOk-weaker}
use Rattle.std.proofs.lemmas.List.{take_all}
use Rattle.clap.specs.Words.{with_rule}
use Rattle.psr_make.specs.declared.opt.Opt.{Opt}
use Rattle.psr_make.specs.declared.opt.Opt.TheVariants.{Number}
use Rattle.psr_make.specs.Table.{all_options}
use Rattle.psr_make.specs.Command.{command_with, option_rule, make_command}
use Rattle.psr_make.proofs.Clap.{rules_more}
use Rattle.psr_make.proofs.command.command.Goals as goal

pub loop-opt-preserved : goal.loop-opt-preserved
loop-opt-preserved c =
    let more = rules_more all_options c.loop-opt.opt-index Number (omega arith) in
    c.in_ok-command.ensures.shape c.option.ensures.here
    ∙ ap₂ with_rule c.loop-opt.invariant c.option.ensures.rule ∙ ap command_with (sym more)

pub returns : goal.returns
unfolding make_command
returns c =
    let whole : take c.loop-opt.opt-index all_options ≡ all_options =
    take_all c.loop-opt.opt-index all_options (omega arith) in
    let options = c.loop-opt.invariant ∙ ap (λ (opts : List Opt). command_with (map option_rule opts)) whole in
    IfOk-weaker c.arg-2.result _ _ (λ m h. h.shape c.file_name.ensures.here
    ∙ ap₂ with_rule options c.file_name.ensures.rule) c.arg-2.ensures

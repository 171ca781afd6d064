use Rattle.std.proofs.Common.{◌≡◌, List, ap, ap₂, sym, ◌∙◌, arith, take}
use Rattle.std.proofs.lemmas.Result.{IfOk-weaker}
use Rattle.std.proofs.lemmas.List.{take_all}
use Rattle.clap.specs.Words.{with_rule}
use Rattle.search_words.specs.declared.opt.Opt.{Opt}
use Rattle.search_words.specs.declared.opt.Opt.TheVariants.{MaxDelay}
use Rattle.search_words.specs.Table.{all_options}
use Rattle.search_words.specs.Command.{command_with, option_rules}
use Rattle.search_words.proofs.Rules.{rules_more}
use Rattle.search_words.proofs.command.command.Goals as goal

pub loop-opt-preserved : goal.loop-opt-preserved
loop-opt-preserved c =
    let p = c.args.program in
    let more = rules_more p all_options c.loop-opt.opt-index MaxDelay (omega arith) in
    c.in_ok-command.ensures _ c.loop-opt.invariant ∙ ap (command_with p) (sym more)

pub returns : goal.returns
returns c =
    let p = c.args.program in
    let whole : take c.loop-opt.opt-index all_options ≡ all_options =
    take_all c.loop-opt.opt-index all_options (omega arith) in
    let all = c.loop-opt.invariant ∙ ap (λ (opts : List Opt). command_with p (option_rules p opts)) whole in
    let flagged = c.in_ok-with_flag.ensures _ all in
    IfOk-weaker c.arg.result _ _ (λ m h. h.shape c.file.ensures.here ∙ ap₂ with_rule flagged c.file.ensures.rule)
    c.arg.ensures

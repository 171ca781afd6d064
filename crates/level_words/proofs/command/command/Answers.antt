use Rattle.std.proofs.Common.{List, ap, ◌∙◌, ◌++◌, [], ◌∷◌}
use Rattle.std.proofs.lemmas.Result.{IfOk-weaker}
use Rattle.std.specs.Prelude.{map}
use Rattle.clap.specs.Walk.{Rule}
use Rattle.level_words.specs.declared.opt.Flag.TheVariants.{Fast, ZeroDm, Signed, HighByteFirst}
use Rattle.level_words.specs.Table.{valued_options}
use Rattle.level_words.specs.Command.{command_with, option_rule, flag_rule, level_command}
use Rattle.level_words.proofs.command.command.Goals as goal

pub returns : goal.returns
unfolding level_command
returns c =
    let options = map option_rule valued_options in
    let fast = options ++ flag_rule Fast ∷ [] in
    let zero = fast ++ flag_rule ZeroDm ∷ [] in
    let signed = zero ++ flag_rule Signed ∷ [] in
    let high = signed ++ flag_rule HighByteFirst ∷ [] in
    let add = λ (rules : List Rule) (rule : Rule). command_with (rules ++ rule ∷ []) in
    let a = c.in_ok-command-2.ensures options c.in_ok-command.ensures ∙ ap (add options) c.flag.ensures.rule in
    let z = c.in_ok-command-3.ensures fast a ∙ ap (add fast) c.flag-2.ensures.rule in
    let b = c.in_ok-command-4.ensures zero z ∙ ap (add zero) c.flag-3.ensures.rule in
    let d = c.in_ok-command-5.ensures signed b ∙ ap (add signed) c.flag-4.ensures.rule in
    IfOk-weaker c.with_arg-5.result _ _ (λ m h. h high d ∙ ap (add high) c.file.ensures.rule) c.with_arg-5.ensures

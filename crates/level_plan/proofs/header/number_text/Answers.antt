use Rattle.std.proofs.Common.{◌≡◌, rules, ◌^◌, pos, sym, subst}
use Rattle.dada_model.specs.Change.{IsWord}
use Rattle.psr_base.specs.Fixed.{fixed_text}
use Rattle.level_plan.proofs.Texts.{number_word, small_quotient, small_rest}
use Rattle.level_plan.proofs.header.number_text.Goals as goal

pub returns-clause-word : goal.returns-clause-word
returns-clause-word c =
    let text : c.write.new.into.bytes ≡ fixed_text c.args.decimals (pos c.args.number) = search rules in
    subst IsWord (sym text)
    (number_word c.args.decimals c.args.number (small_quotient c.args.number (10 ^ c.args.decimals) c.requires.number)
    (small_rest c.args.number (10 ^ c.args.decimals) c.requires.number))

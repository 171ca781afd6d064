use Rattle.std.proofs.Common.{◌≡◌, ap, sym, subst, ◌∙◌, []}
use Rattle.std.specs.Prelude.{map, string_bytes}
use Rattle.clap.specs.Words.{kind_of, takes, fault_of, app_of, is_simple_and_free}
use Rattle.search_words.specs.Settings.{ExplainsWords, fault_of_kind}
use Rattle.search_words.specs.Command.{command_of, TakesWords}
use Rattle.search_words.specs.declared.fault.WordFault.{WordFault}
use Rattle.search_words.proofs.Faults.{explained, simple_and_free}
use Rattle.search_words.proofs.command.matches_of.Goals as goal

pub returns-in-Err-clause-fault : goal.returns-in-Err-clause-fault
returns-in-Err-clause-fault c =
    let words = map string_bytes c.args.words.now in
    let program = c.args.program in
    let is : app_of c.in_ok-command.command ≡ command_of program = c.in_ok-command.ensures in
    let kinds = fault_of (app_of c.in_ok-command.command) words in
    let has = c.in-Err.ensures.kinds (ap is_simple_and_free is ∙ simple_and_free program) in
    let P : WordFault → Type 0 = ExplainsWords program words in
    let empty : TakesWords program words → kinds ≡ [] = λ taken. ap (λ a. fault_of a words) is ∙ taken in
    subst P (sym c.fault_of.ensures) (explained program words (kind_of c.in-Err.error) kinds empty has)

pub returns-in-Err-clause-simple : goal.returns-in-Err-clause-simple
returns-in-Err-clause-simple c = λ line same.
    let words = map string_bytes c.args.words.now in
    let is : app_of c.in_ok-command.command ≡ command_of c.args.program = c.in_ok-command.ensures in
    let memory = c.in-Err.ensures.passes (ap (λ a. takes a words) is ∙ line) in
    let fault = c.fault_of.ensures ∙ ap fault_of_kind memory in
    cc

use Rattle.std.proofs.Common.{◌≡◌, ap, sym, subst, ◌∙◌, []}
use Rattle.std.specs.Prelude.{map, string_bytes}
use Rattle.clap.specs.Words.{kind_of, takes, fault_of, app_of, is_simple, is_simple_and_free}
use Rattle.clap.specs.Simple.{matches_of}
use Rattle.psr_make.specs.Stop.{ExplainsClap, stop_of_kind}
use Rattle.psr_make.specs.Command.{make_command, TakesWords}
use Rattle.psr_make.specs.declared.stop.Stop.{Stop}
use Rattle.psr_make.proofs.Clap.{explained, simple, simple_and_free}
use Rattle.psr_make.proofs.command.matches_of.Goals as goal

pub returns-in-Ok-try_get_matches_from-clause-taken : goal.returns-in-Ok-try_get_matches_from-clause-taken
returns-in-Ok-try_get_matches_from-clause-taken c =
    let words = map string_bytes c.args.words.now in
    let is : app_of c.in-Ok.command ≡ make_command = c.in-Ok.ensures in
    ap (λ a. fault_of a words) (sym is)
    ∙ c.in-Ok-try_get_matches_from.ensures.kinds (ap is_simple_and_free is ∙ simple_and_free)

pub returns-in-Ok-try_get_matches_from-clause-found : goal.returns-in-Ok-try_get_matches_from-clause-found
returns-in-Ok-try_get_matches_from-clause-found c =
    let words = map string_bytes c.args.words.now in
    let is : app_of c.in-Ok.command ≡ make_command = c.in-Ok.ensures in
    (c.in-Ok-try_get_matches_from.ensures.matches (ap is_simple is ∙ simple)).0 ∙ ap (λ a. matches_of a words) is

pub returns-in-Err-try_get_matches_from-clause-fault : goal.returns-in-Err-try_get_matches_from-clause-fault
returns-in-Err-try_get_matches_from-clause-fault c =
    let words = map string_bytes c.args.words.now in
    let is : app_of c.in-Ok.command ≡ make_command = c.in-Ok.ensures in
    let kinds = fault_of (app_of c.in-Ok.command) words in
    let has = c.in-Err-try_get_matches_from.ensures.kinds (ap is_simple_and_free is ∙ simple_and_free) in
    let empty : TakesWords words → kinds ≡ [] = λ taken. ap (λ a. fault_of a words) is ∙ taken in
    subst (λ (stop : Stop). ExplainsClap words stop) (sym c.stop_of.ensures)
    (explained words (kind_of c.in-Err-try_get_matches_from.error) kinds empty has)

pub returns-in-Err-try_get_matches_from-clause-simple : goal.returns-in-Err-try_get_matches_from-clause-simple
returns-in-Err-try_get_matches_from-clause-simple c = λ line same.
    let words = map string_bytes c.args.words.now in
    let is : app_of c.in-Ok.command ≡ make_command = c.in-Ok.ensures in
    let memory = c.in-Err-try_get_matches_from.ensures.passes (ap (λ a. takes a words) is ∙ line) in
    let fault = c.stop_of.ensures ∙ ap stop_of_kind memory in
    cc

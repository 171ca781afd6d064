use Rattle.std.proofs.Common.{◌≡◌, ap, sym, subst, ◌∙◌, []}
use Rattle.std.specs.Prelude.{map, string_bytes}
use Rattle.clap.specs.Words.{kind_of, fault_of, app_of, is_simple, is_simple_and_free}
use Rattle.clap.specs.Simple.{matches_of}
use Rattle.level_words.specs.Settings.{ExplainsClap}
use Rattle.level_words.specs.Command.{level_command, TakesWords}
use Rattle.level_words.specs.declared.fault.LevelFault.{LevelFault}
use Rattle.level_words.proofs.Clap.{explained, simple, simple_and_free}
use Rattle.level_words.proofs.command.matches_of.Goals as goal

pub returns-in-Ok-try_get_matches_from-clause-taken : goal.returns-in-Ok-try_get_matches_from-clause-taken
returns-in-Ok-try_get_matches_from-clause-taken c =
    let words = map string_bytes c.args.words.now in
    let is : app_of c.in-Ok.command ≡ level_command = c.in-Ok.ensures in
    ap (λ a. fault_of a words) (sym is)
    ∙ c.in-Ok-try_get_matches_from.ensures.kinds (ap is_simple_and_free is ∙ simple_and_free)

pub returns-in-Ok-try_get_matches_from-clause-found : goal.returns-in-Ok-try_get_matches_from-clause-found
returns-in-Ok-try_get_matches_from-clause-found c =
    let words = map string_bytes c.args.words.now in
    let is : app_of c.in-Ok.command ≡ level_command = c.in-Ok.ensures in
    (c.in-Ok-try_get_matches_from.ensures.matches (ap is_simple is ∙ simple)).0 ∙ ap (λ a. matches_of a words) is

pub returns-in-Err-try_get_matches_from-clause-fault : goal.returns-in-Err-try_get_matches_from-clause-fault
returns-in-Err-try_get_matches_from-clause-fault c =
    let words = map string_bytes c.args.words.now in
    let is : app_of c.in-Ok.command ≡ level_command = c.in-Ok.ensures in
    let kinds = fault_of (app_of c.in-Ok.command) words in
    let has = c.in-Err-try_get_matches_from.ensures.kinds (ap is_simple_and_free is ∙ simple_and_free) in
    let empty : TakesWords words → kinds ≡ [] = λ taken. ap (λ a. fault_of a words) is ∙ taken in
    subst (λ (fault : LevelFault). ExplainsClap words fault) (sym c.fault_of.ensures)
    (explained words (kind_of c.in-Err-try_get_matches_from.error) kinds empty has)

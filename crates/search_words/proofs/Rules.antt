-- The rules of some options.
use Rattle.std.proofs.Common.{◌≡◌, ℕ, ◌+◌, ◌<◌, List, [], ◌∷◌, ◌++◌, length, take, map, filter, get_or, ap, ◌∙◌, add-one}
use Rattle.std.proofs.Math.Seq.{take-suc}
use Rattle.std.proofs.lemmas.List.{map-append}
use Rattle.std.proofs.lemmas.List.Elements.{filter-append}
use Rattle.search_words.specs.declared.opt.Opt.{Opt}
use Rattle.search_words.specs.declared.table.Program.{Program}
use Rattle.search_words.specs.Table.{offers}
use Rattle.search_words.specs.Command.{option_rules, rule_for}

-- one more option
pub rules_more : (program : Program) (some : List Opt) (i : ℕ) (d : Opt) → i < length some →
    option_rules program (take (i + 1) some)
    ≡ option_rules program (take i some) ++ option_rules program (get_or some i d ∷ [])
rules_more program some i d within =
    let split : take (i + 1) some ≡ take i some ++ get_or some i d ∷ [] = rw add-one (take-suc some i d within) in
    ap (option_rules program) split
    ∙ ap (map (rule_for program)) (filter-append (offers program) (take i some) (get_or some i d ∷ []))
    ∙ map-append (rule_for program) (filter (offers program) (take i some))
    (filter (offers program) (get_or some i d ∷ []))

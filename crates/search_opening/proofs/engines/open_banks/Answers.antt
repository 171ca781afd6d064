use Rattle.std.proofs.Common.{◌<◌, All, IsSome, List, Option, length, sym, ap, subst, ◌∙◌}
use Rattle.session_readers.specs.declared.bank.Bank.{Bank}
use Rattle.search_opening.proofs.Opened.{opened}
use Rattle.search_opening.proofs.engines.open_banks.Goals as goal

pub returns-then-are_opened : goal.returns-then-are_opened
returns-then-are_opened g c =
    let value = c.as_mut_slice.ensures.value in
    opened c.args.search.now c.args.observations.now c.no_banks-banks.result.items c.fill_banks.new.banks
    c.no_banks-banks.ensures (c.fill_banks.ensures.count ∙ ap length value)
    (λ shard within. c.fill_banks.ensures.banks shard
    (subst (λ (xs : List (Option Bank)). shard < length xs) (sym value) within))
    (subst (λ (xs : List (Option Bank)). All IsSome xs) c.as_slice.ensures.value
    (c.are_opened.ensures.0 c.if-are_opened.true))

use Rattle.std.proofs.Common.{rules, ◌≡◌, sym, subst}
use Rattle.std.specs.Prelude.{IfErr}
use Rattle.search_words.specs.Settings.{settings_seen}
use Rattle.run_outcome.specs.Lone.{LoneSearch}
use Rattle.run_outcome.specs.Outcomes.{blocks_of, LeavesAtFault}
use Rattle.run_outcome.specs.Runs.{Alone}
use Rattle.search_opening.specs.Settings.{ForWords}
use Rattle.drive_lone.specs.declared.found.LoneFound.{LoneFound}
use Rattle.drive_lone.specs.Stops.{FailsReading, ReadsBefore}
use Rattle.drive_lone.proofs.run.drive_alone.Goals as goal

pub returns-clause-unread : goal.returns-clause-unread
returns-clause-unread g c =
    let told = g.I.Inputs.told in
    let s = settings_seen c.args.settings.now in
    let Reads : _ → _ → Type 0 = λ r i. IfErr r (λ stop. (lone : LoneSearch) → ForWords (Alone lone) s
    (λ words. ReadsBefore lone words (told c.args.inputs.now) (told i) stop)) in
    let back : c.inputs-1.given.0 ≡ c.within.result.inputs.now = search rules in
    subst (Reads c.give_back.result) (sym back)
    (subst (λ r. Reads r c.within.result.inputs.now) (sym c.give_back.ensures.done) c.within.ensures.unread)

pub returns-clause-broken : goal.returns-clause-broken
returns-clause-broken g c = λ failed lone.
    let told = g.I.Inputs.told in
    let s = settings_seen c.args.settings.now in
    let calm : Type 0 = g.I.Inputs.is_calm c.args.inputs.now in
    let Leaves : _ → Type 0 = λ i. ForWords (Alone lone) s (λ words.
    LeavesAtFault (Alone lone) words calm (told c.args.inputs.now) (told i)
    (blocks_of (λ (found : LoneFound). found.blocks) c.give_back.result)) in
    let Blocks : _ → Type 0 = λ r. FailsReading r → ForWords (Alone lone) s (λ words.
    LeavesAtFault (Alone lone) words calm (told c.args.inputs.now) (told c.within.result.inputs.now)
    (blocks_of (λ (found : LoneFound). found.blocks) r)) in
    let back : c.inputs-1.given.0 ≡ c.within.result.inputs.now = search rules in
    subst Leaves (sym back)
    (subst Blocks (sym c.give_back.ensures.done) (λ was. c.within.ensures.broken was lone) failed)

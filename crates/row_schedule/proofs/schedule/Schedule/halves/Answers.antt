use Rattle.std.proofs.Common.{◌≡◌, ℕ, ◌+◌, List, [], length, slice_index, arith, ap, sym, ◌∙◌}
use Rattle.std.proofs.lemmas.List.{get_or_read}
use Rattle.row_schedule.specs.declared.step.Step.{Step}
use Rattle.row_schedule.specs.declared.step.Kind.TheVariants.{AddWidened}
use Rattle.row_schedule.specs.Schedules.{Scheduled}
use Rattle.row_schedule.specs.Steps.{step_at}
use Rattle.row_schedule.proofs.Carrying.{halves_add_up}
use Rattle.row_schedule.proofs.schedule.Schedule.halves.Goals as goal

pub returns-in-AddWidened-clause-sums : goal.returns-in-AddWidened-clause-sums
returns-in-AddWidened-clause-sums c = λ rows x y u k follows adds fits running lt.
    let s = c.args.self.now in
    let j : ℕ = c.args.order in
    let step = c.index-step.result.now in
    let narrow = c.args.stores.now.narrow in
    let orders = ap (λ (x : Scheduled). length x.orders) c.self.view_is in
    let number = c.requires.order in
    let entries = c.self.invariant.entries in
    let step_is : step ≡ step_at s.steps j =
    get_or_read c.self.inside.steps.items j step (omega (arith, orders, number, entries)) c.index-step.ensures
    (step_at [] 0)
    ∙ ap (λ (x : Scheduled). step_at x.steps j) c.self.view_is in
    let kind_is : (step_at s.steps j).kind ≡ AddWidened =
    sym (ap (λ (step : Step). step.kind) step_is) ∙ c.in-AddWidened.is in
    c.of.ensures.sums k lt
    ∙ ap (λ (xs : List ℕ). slice_index xs (step.upper + k) + slice_index xs (step.lower + k)) c.narrow.ensures
    ∙ ap (λ (step : Step). slice_index narrow (step.upper + k) + slice_index narrow (step.lower + k)) step_is
    ∙ halves_add_up rows s x y u c.args.spectra j k c.args.stores.now kind_is number follows adds fits running lt

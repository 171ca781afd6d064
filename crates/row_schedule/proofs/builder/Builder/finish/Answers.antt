use Rattle.std.proofs.Common.{ℕ, length, ap, sym, subst, ◌∙◌}
use Rattle.row_schedule.specs.Schedules.{Building, IsInOrder, scheduled}
use Rattle.row_schedule.specs.Layout.{AreHolds, IsLaid}
use Rattle.row_schedule.specs.Follows.{AreSteps}
use Rattle.row_schedule.proofs.Fitting.{is_safe}
use Rattle.row_schedule.proofs.builder.Builder.finish.Goals as goal

pub invariant_of-result : goal.invariant_of-result
invariant_of-result c =
    let rows = c.args.rows.now in
    let inside = c.self.inside in
    let chunk : ℕ = c.args.chunk in
    let most : ℕ = c.args.most in
    let layout = c.in_ok-layout.layout in
    let laid = subst (λ (b : Building). IsLaid rows b most layout.places.items layout.narrow_size layout.wide_size)
    (sym c.self.view_is) c.in_ok-layout.ensures in
    let order = subst (λ (b : Building). IsInOrder rows b) (sym c.self.view_is) c.requires.order in
    let entries = c.in_ok-steps.ensures.entries
    ∙ ap (λ (b : Building). length b.orders) (sym c.self.view_is) in
    let made = subst (λ places. AreSteps rows c.args.self.narrow c.args.self.orders places chunk
    c.in_ok-steps.steps.items) c.deref-2.ensures.value c.in_ok-steps.ensures.steps in
    let steps = subst (λ (b : Building). AreSteps rows b.narrow b.orders layout.places.items chunk
    c.in_ok-steps.steps.items) (sym c.self.view_is) made in
    let kept = c.in_ok-kept.kept in
    let holds = subst (λ narrow. AreHolds rows narrow kept.places.items kept.narrow_size kept.wide_size)
    c.deref.ensures.value c.in_ok-kept.ensures in
    is_safe rows (scheduled c.args.channels chunk most inside.narrow.items inside.slots.items inside.orders.items
    layout.places.items kept.places.items c.in_ok-steps.steps.items layout.narrow_size layout.wide_size kept.narrow_size
    kept.wide_size) c.requires.rows laid.sizes order holds laid.laid laid.enough entries steps c.requires.within

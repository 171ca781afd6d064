use Rattle.std.proofs.Common.{◌≡◌, length, vec_len, subst, ◌∙◌, rules}
use Rattle.row_schedule.specs.Schedules.{Building}
use Rattle.row_schedule.specs.Layout.{IsLaid}
use Rattle.row_schedule.proofs.Laying.{is_laid}
use Rattle.row_schedule.proofs.builder.Builder.lay.Goals as goal

pub returns : goal.returns
returns c =
    let rows = c.args.rows.now in
    let inside = c.self.inside in
    let layout = c.in_ok-layout.layout in
    let len : vec_len inside.slots ≡ length inside.slots.items = search rules in
    subst (λ (b : Building). IsLaid rows b c.args.most layout.places.items layout.narrow_size layout.wide_size)
    c.self.view_is
    (is_laid rows inside.narrow.items inside.slots.items inside.orders.items c.args.most c.len.result
    c.deref.result.now c.deref-2.result.now c.deref-3.result.now c.in_ok-sizes.sizes.items _ _ _
    c.deref.ensures.value (c.len.ensures ∙ len) c.deref-2.ensures.value c.deref-3.ensures.value
    c.in_ok-sizes.ensures c.in_ok-layout.ensures.laid c.in_ok-layout.ensures.near)

use Rattle.std.proofs.Common.{◌≡◌, ℕ, ◌∙◌, [], length, arith, ap, refl, sym}
use Rattle.std.proofs.lemmas.List.{get_or_read}
use Rattle.row_schedule.specs.declared.step.Kind.TheVariants.{CopyNarrow, CopyWide, AddNarrow, AddWidened, AddWideNarrow, AddNarrowWide, AddWide}
use Rattle.row_schedule.specs.Running.{stores}
use Rattle.row_schedule.specs.Samples.{values_of}
use Rattle.row_schedule.specs.Schedules.{Scheduled}
use Rattle.row_schedule.specs.Steps.{step_at}
use Rattle.row_schedule.proofs.Stepping.{narrow_written, same_stores, step_made, wide_written}
use Rattle.row_schedule.proofs.schedule.Schedule.make.Goals as goal
use Rattle.row_schedule.proofs.schedule.Schedule.make.Goals.{in-CopyNarrow, in-CopyWide, in-AddNarrow, in-AddWidened, in-AddWideNarrow, in-AddNarrowWide, in-AddWide}

pub returns-clause-made : goal.returns-clause-made
returns-clause-made c =
    let s = c.stores.inside in
    let t = c.match-step.stores-inside in
    let step = c.index-step.result.now in
    let steps = c.args.self.now.steps in
    let j : ℕ = c.args.j in
    let spectra : ℕ = c.args.spectra in
    let samples = values_of c.args.samples in
    let whole = c.self.inside in
    let orders = ap (λ (x : Scheduled). length x.orders) c.self.view_is in
    let number = c.requires.step in
    let entries = c.self.invariant.entries in
    let step_is : step ≡ step_at steps j =
    get_or_read whole.steps.items j step (omega (arith, orders, number, entries)) c.index-step.ensures (step_at [] 0)
    ∙ ap (λ (x : Scheduled). step_at x.steps j) c.self.view_is in
    elim c.match-step.branch [
      | in-CopyNarrow w ↦
          let list = w.deref_mut in
          let kept = w.deref_mut-in-CopyNarrow in
          let made = w.copy_narrow in
          step_made steps j spectra samples step CopyNarrow
          (stores list.result.now s.wide.items kept.result.now s.kept_wide.items)
          (stores made.new.list s.wide.items made.new.kept s.kept_wide.items) _ _ step_is w.in-CopyNarrow.is
          (same_stores list.ensures.value refl kept.ensures.value refl ∙ c.stores.view_is)
          (narrow_written s t made.new.list made.new.kept (made.auto.list ∙ list.ensures.len)
          (made.auto.kept ∙ kept.ensures.len) w.stores-inside-is)
          (record { own = made.ensures; rest = refl; kept_rest = refl })
      | in-CopyWide w ↦
          let list = w.deref_mut-in-CopyWide in
          let kept = w.deref_mut-in-CopyWide-2 in
          let made = w.copy_wide in
          step_made steps j spectra samples step CopyWide
          (stores s.narrow.items list.result.now s.kept_narrow.items kept.result.now)
          (stores s.narrow.items made.new.list s.kept_narrow.items made.new.kept) _ _ step_is w.in-CopyWide.is
          (same_stores refl list.ensures.value refl kept.ensures.value ∙ c.stores.view_is)
          (wide_written s t made.new.list made.new.kept (made.auto.list ∙ list.ensures.len)
          (made.auto.kept ∙ kept.ensures.len) w.stores-inside-is)
          (record { own = made.ensures; rest = refl; kept_rest = refl })
      | in-AddNarrow w ↦
          let list = w.deref_mut-in-AddNarrow in
          let kept = w.deref_mut-in-AddNarrow-2 in
          let made = w.add_narrow in
          step_made steps j spectra samples step AddNarrow
          (stores list.result.now s.wide.items kept.result.now s.kept_wide.items)
          (stores made.new.list s.wide.items made.new.kept s.kept_wide.items) _ _ step_is w.in-AddNarrow.is
          (same_stores list.ensures.value refl kept.ensures.value refl ∙ c.stores.view_is)
          (narrow_written s t made.new.list made.new.kept (made.auto.list ∙ list.ensures.len)
          (made.auto.kept ∙ kept.ensures.len) w.stores-inside-is)
          (record { own = made.ensures; rest = refl; kept_rest = refl })
      | in-AddWidened w ↦
          let list = w.deref_mut-in-AddWidened in
          let kept = w.deref_mut-in-AddWidened-2 in
          let made = w.add_widened in
          let beside = w.deref in
          step_made steps j spectra samples step AddWidened
          (stores beside.result.now list.result.now s.kept_narrow.items kept.result.now)
          (stores s.narrow.items made.new.list s.kept_narrow.items made.new.kept) _ _ step_is w.in-AddWidened.is
          (same_stores beside.ensures.value list.ensures.value refl kept.ensures.value ∙ c.stores.view_is)
          (wide_written s t made.new.list made.new.kept (made.auto.list ∙ list.ensures.len)
          (made.auto.kept ∙ kept.ensures.len) w.stores-inside-is)
          (record { own = made.ensures; rest = sym beside.ensures.value; kept_rest = refl })
      | in-AddWideNarrow w ↦
          let list = w.deref_mut-in-AddWideNarrow in
          let kept = w.deref_mut-in-AddWideNarrow-2 in
          let made = w.add_wide_narrow in
          let beside = w.deref-in-AddWideNarrow in
          step_made steps j spectra samples step AddWideNarrow
          (stores beside.result.now list.result.now s.kept_narrow.items kept.result.now)
          (stores s.narrow.items made.new.list s.kept_narrow.items made.new.kept) _ _ step_is w.in-AddWideNarrow.is
          (same_stores beside.ensures.value list.ensures.value refl kept.ensures.value ∙ c.stores.view_is)
          (wide_written s t made.new.list made.new.kept (made.auto.list ∙ list.ensures.len)
          (made.auto.kept ∙ kept.ensures.len) w.stores-inside-is)
          (record { own = made.ensures; rest = sym beside.ensures.value; kept_rest = refl })
      | in-AddNarrowWide w ↦
          let list = w.deref_mut-in-AddNarrowWide in
          let kept = w.deref_mut-in-AddNarrowWide-2 in
          let made = w.add_narrow_wide in
          let beside = w.deref-in-AddNarrowWide in
          step_made steps j spectra samples step AddNarrowWide
          (stores beside.result.now list.result.now s.kept_narrow.items kept.result.now)
          (stores s.narrow.items made.new.list s.kept_narrow.items made.new.kept) _ _ step_is w.in-AddNarrowWide.is
          (same_stores beside.ensures.value list.ensures.value refl kept.ensures.value ∙ c.stores.view_is)
          (wide_written s t made.new.list made.new.kept (made.auto.list ∙ list.ensures.len)
          (made.auto.kept ∙ kept.ensures.len) w.stores-inside-is)
          (record { own = made.ensures; rest = sym beside.ensures.value; kept_rest = refl })
      | in-AddWide w ↦
          let list = w.deref_mut-in-AddWide in
          let kept = w.deref_mut-in-AddWide-2 in
          let made = w.add_wide in
          step_made steps j spectra samples step AddWide
          (stores s.narrow.items list.result.now s.kept_narrow.items kept.result.now)
          (stores s.narrow.items made.new.list s.kept_narrow.items made.new.kept) _ _ step_is w.in-AddWide.is
          (same_stores refl list.ensures.value refl kept.ensures.value ∙ c.stores.view_is)
          (wide_written s t made.new.list made.new.kept (made.auto.list ∙ list.ensures.len)
          (made.auto.kept ∙ kept.ensures.len) w.stores-inside-is)
          (record { own = made.ensures; rest = refl; kept_rest = refl })
    ]

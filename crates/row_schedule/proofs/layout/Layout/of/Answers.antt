use Rattle.std.proofs.Common.{◌^◌, ℕ, slice_index, refl, arith}
use Rattle.row_schedule.specs.Layout.{slot_narrow}
use Rattle.row_schedule.proofs.Laying.{near, none_laid, one_laid, parts_short}
use Rattle.row_schedule.proofs.layout.Layout.of.Goals as goal

pub loop-s-init : goal.loop-s-init
loop-s-init c = record {
  laid = none_laid _ _ _ _ _ c.in_ok-with_capacity.ensures.items;
  narrow = omega arith;
  wide = omega arith;
}

pub loop-s-preserved : goal.loop-s-preserved
loop-s-preserved c =
    let so_far = c.loop-s.invariant in
    let made = c.in_ok-place.ensures in
    let s : ℕ = c.loop-s.s in
    let narrow = so_far.narrow in
    let wide = so_far.wide in
    let narrow_is = made.narrow in
    let wide_is = made.wide in
    let small = c.requires.short s in
    let parts = parts_short (slot_narrow c.args.slots.now s) (slice_index c.args.sizes.now s) 131072 small in
    let narrow_part = parts.0 in
    let wide_part = parts.1 in
    record {
      laid = one_laid c.args.slots.now c.args.sizes.now _ _ s _ _ _ _ _ _ so_far.laid refl refl made.places narrow_is
          wide_is;
      narrow = omega arith;
      wide = omega arith;
    }

pub returns-clause-near : goal.returns-clause-near
returns-clause-near c =
    let few = c.requires.few in
    let narrow = c.loop-s.invariant.narrow in
    let wide = c.loop-s.invariant.wide in
    let end = c.loop-s.auto.s-end in
    near _ _ _ _ _ _ (2 ^ 50) c.loop-s.invariant.laid (omega arith) (omega arith)

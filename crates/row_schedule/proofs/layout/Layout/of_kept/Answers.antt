use Rattle.std.proofs.Common.{◌≡◌, vec_len, length, ap, ◌∙◌, arith, rules, true, false}
use Rattle.std.proofs.lemmas.List.{length_push}
use Rattle.row_model.specs.Tails.{row_count}
use Rattle.row_schedule.specs.Layout.{hold_of}
use Rattle.row_schedule.proofs.Keeping.{first_narrow, first_wide, grown_narrow, grown_wide, hold_few, one_hold, placed}
use Rattle.row_schedule.proofs.layout.Layout.of_kept.Goals as goal

pub loop-r-init : goal.loop-r-init
loop-r-init c = record {
  entries = ap length c.in_ok-with_capacity.ensures.items;
  each = λ q lt. absurd (omega arith);
  narrow = first_narrow c.args.rows.now c.args.narrow.now;
  wide = first_wide c.args.rows.now c.args.narrow.now;
}

pub place-requires-clause-narrow : goal.place-requires-clause-narrow
place-requires-clause-narrow c =
    let rows = c.requires.rows in
    let len : vec_len c.args.rows.now.sources ≡ length c.args.rows.now.sources.items = search rules in
    let is = c.len-r-end.ensures in
    let lt = c.loop-r-test.true in
    let at = c.loop-r.invariant.narrow in
    let few = hold_few rows.0 c.args.rows.now rows.1 c.args.narrow.now true c.loop-r.r (omega arith) in
    omega arith

pub place-requires-clause-wide : goal.place-requires-clause-wide
place-requires-clause-wide c =
    let rows = c.requires.rows in
    let len : vec_len c.args.rows.now.sources ≡ length c.args.rows.now.sources.items = search rules in
    let is = c.len-r-end.ensures in
    let lt = c.loop-r-test.true in
    let at = c.loop-r.invariant.wide in
    let few = hold_few rows.0 c.args.rows.now rows.1 c.args.narrow.now false c.loop-r.r (omega arith) in
    omega arith

pub loop-r-preserved : goal.loop-r-preserved
loop-r-preserved c =
    let rows = c.args.rows.now in
    let narrow = c.args.narrow.now in
    let so_far = c.loop-r.invariant in
    let entries = so_far.entries in
    let made = c.in_ok-place.ensures in
    let long = ap length made.places ∙ length_push c.loop-r.layout.places.items _ in
    record {
      entries = omega arith;
      each = one_hold rows narrow c.loop-r.r _ c.loop-r.layout.places.items _ entries made.places
          (placed rows narrow c.loop-r.r _ _ _ _ c.row_is_narrow.ensures so_far.narrow so_far.wide) so_far.each;
      narrow = grown_narrow rows narrow c.loop-r.r _ _ _ _ c.row_is_narrow.ensures c.tail.ensures.value so_far.narrow
          made.narrow;
      wide = grown_wide rows narrow c.loop-r.r _ _ _ _ c.row_is_narrow.ensures c.tail.ensures.value so_far.wide
          made.wide;
    }

pub returns : goal.returns
returns c =
    let end = c.loop-r-test.false in
    let all = c.loop-r.auto.r-end in
    let is = c.len-r-end.ensures in
    let len : vec_len c.args.rows.now.sources ≡ length c.args.rows.now.sources.items = search rules in
    let count : c.loop-r.r ≡ row_count c.args.rows.now = omega arith in
    let so_far = c.loop-r.invariant in
    record {
      places = record {
        entries = so_far.entries ∙ count;
        each = λ q lt. so_far.each q (omega arith);
      };
      narrow_end = so_far.narrow ∙ ap (λ r. hold_of c.args.rows.now c.args.narrow.now true r) count;
      wide_end = so_far.wide ∙ ap (λ r. hold_of c.args.rows.now c.args.narrow.now false r) count;
    }

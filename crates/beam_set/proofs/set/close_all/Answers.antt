use Rattle.std.proofs.Common.{◌≡◌, ◌<◌, length, refl, ap, arith}
use Rattle.beam_set.proofs.Closing.{next_closed, first_left, others_left}
use Rattle.beam_set.proofs.set.close_all.Goals as goal

pub loop-place-init : goal.loop-place-init
loop-place-init c = record {
  rest = refl;
  left = omega arith;
  count = ap length c.new-ends.ensures;
  closed = λ b below. absurd (omega arith);
}

pub close_slot-requires : goal.close_slot-requires
close_slot-requires c =
    let k = c.loop-place._place in
    let near : k < length c.args.beams.items = omega (arith, c.len-place-end.ensures.value) in
    rw (first_left c.args.beams.items c.loop-place.beams.items k c.loop-place.invariant.rest near c.remove.result
    c.remove.ensures.value) (c.requires k c.remove.result near)

pub loop-place-preserved : goal.loop-place-preserved
loop-place-preserved c =
    let all = c.args.beams.items in
    let left = c.loop-place.beams.items in
    let k = c.loop-place._place in
    let x = c.remove.result in
    let before = c.loop-place.invariant in
    let near : k < length all = omega (arith, c.len-place-end.ensures.value) in
    record {
      rest = others_left all left k before.rest near x _ c.remove.ensures.items;
      left = omega (arith, before.left, c.remove.ensures.len);
      count = omega (arith, before.count, c.push.ensures.len);
      closed = rw c.push.ensures.items (next_closed all c.loop-place.ends.items k x c.close_slot.result near
          (first_left all left k before.rest near x c.remove.ensures.value) before.count c.close_slot.ensures
          before.closed);
    }

pub returns : goal.returns
returns c =
    let all : c.len-place-end.result ≡ length c.args.beams.items = c.len-place-end.ensures.value in
    let count = c.loop-place.invariant.count in
    record {
      count = omega arith;
      each = λ b near. c.loop-place.invariant.closed b (omega arith);
    }

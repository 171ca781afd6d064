use Rattle.std.proofs.Common.{◌≡◌, ℕ, ◌+◌, ◌%◌, ◌<◌, ◌≤◌, length, arith}
use Rattle.search_session.proofs.Gathered.{count_same, left_in, others_in, others_work, gathered_more}
use Rattle.search_session.proofs.gathering.gather.Goals as goal

pub take_from-requires : goal.take_from-requires
take_from-requires g c =
    let s = c.loop-s.s in
    let near : s < c.args.count = omega arith in
    let itself : s ≤ s = omega arith in
    let has = c.loop-s.invariant.rest s itself near in (
      has.hand,
      has.there,
      record { place = has.place; shard = has.shard; there = has.works; is = has.number },
    )

pub loop-s-preserved : goal.loop-s-preserved
loop-s-preserved g c =
    let s = c.loop-s.s in
    let old = c.loop-s.hands in
    let new = c.take_from.new.hands in
    let place : ℕ = (s + 1) % length old in
    let x = c.take_from.result in
    let leaves = c.take_from.ensures in
    let inv = c.loop-s.invariant in
    let count : length new ≡ length old = count_same old new place leaves.after leaves.hands in
    let some = inv.some in
    record {
      some = omega arith;
      rest = λ t after before. others_work old new place s x leaves t (λ same. absurd (omega arith))
          (inv.rest t (omega arith) before);
      still = λ y is. inv.still y (others_in old new place s x leaves y is);
      gathered = rw c.push.ensures.items (gathered_more c.args.hands.now s c.loop-s.shards.items x inv.gathered
          leaves.gives.is (inv.still x (left_in old new place s x leaves)));
    }

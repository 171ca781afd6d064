use Rattle.std.proofs.Common.{◌<◌, ◌≤◌, length, sym, subst, arith}
use Rattle.std.proofs.lemmas.List.Elements.{All-set}
use Rattle.search_session.specs.Hands.{HandOn, HandMoved, HandRetired}
use Rattle.search_session.proofs.Handling.{first_none, first_more, first_all, are_none, are_more, are_all}
use Rattle.search_session.proofs.rounds.retire_ended.Goals as goal

pub loop-place-init : goal.loop-place-init
loop-place-init g c =
    let R = HandMoved g.I.Inputs.told g.I.Inputs.is_calm g.I.Inputs.faults g.F.Files.seen 0 in
    record {
      on = c.requires;
      moved = first_none R c.args.hands.now;
      retired = are_none HandRetired c.args.hands.now;
    }

pub retire-requires : goal.retire-requires
retire-requires g c =
    let near : c.loop-place.place < length c.loop-place.hands = omega arith in
    c.loop-place.invariant.on c.loop-place.place c.index-hands-place.result near

pub loop-place-preserved : goal.loop-place-preserved
loop-place-preserved g c =
    let near : c.loop-place.place < length c.loop-place.hands = omega arith in
    let On = HandOn g.I.Inputs.told g.I.Inputs.is_open g.F.Files.is_open c.args.hdu.now in
    let R = HandMoved g.I.Inputs.told g.I.Inputs.is_calm g.I.Inputs.faults g.F.Files.seen 0 in
    record {
      on = All-set On c.loop-place.hands c.loop-place.place c.retire.new.self c.retire.ensures.on
          c.loop-place.invariant.on;
      moved = first_more R c.args.hands.now c.loop-place.hands c.loop-place.place c.index-hands-place.result
          c.retire.new.self near c.loop-place.invariant.moved c.index-hands-place.is
          (subst (λ h. R h c.retire.new.self) (sym c.index-hands-place.is) c.retire.ensures.moved);
      retired = are_more HandRetired c.loop-place.hands c.loop-place.place c.retire.new.self near
          c.loop-place.invariant.retired c.retire.ensures.retired;
    }

pub returns : goal.returns
returns g c =
    let all : length c.loop-place.hands ≤ c.loop-place.place = omega arith in
    let R = HandMoved g.I.Inputs.told g.I.Inputs.is_calm g.I.Inputs.faults g.F.Files.seen 0 in
    record {
      on = c.loop-place.invariant.on;
      moved = first_all R c.args.hands.now c.loop-place.hands c.loop-place.place all c.loop-place.invariant.moved;
      retired = are_all HandRetired c.loop-place.hands c.loop-place.place all c.loop-place.invariant.retired;
    }

use Rattle.std.proofs.Common.{◌≡◌, ◌+◌, arith}
use Rattle.search_session.proofs.Handling.{hands_more}
use Rattle.search_session.proofs.rounds.round_and_retire.Goals as goal

pub returns : goal.returns
returns g c =
    let told = g.I.Inputs.told in
    let is_open = g.I.Inputs.is_open in
    let is_calm = g.I.Inputs.is_calm in
    let faults = g.I.Inputs.faults in
    let files_open = g.F.Files.is_open in
    let seen = g.F.Files.seen in
    let both = hands_more told is_open is_calm faults files_open seen c.args.turns 0 c.args.hands.now
    c.drive_hands-had_threads.new.hands c.retire_ended.new.hands c.drive_hands-had_threads.ensures.moved
    c.retire_ended.ensures.moved in
    let none : c.args.turns + 0 ≡ c.args.turns = omega arith in
    record {
      on = c.retire_ended.ensures.on;
      moved = rw none at both;
      retired = c.retire_ended.ensures.retired;
    }

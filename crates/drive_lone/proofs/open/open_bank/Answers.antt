use Rattle.std.proofs.Common.{rules, ◌≡◌, [], ◌∷◌, Some}
use Rattle.drive_lone.proofs.open.open_bank.Goals as goal

pub returns-in-Ok : goal.returns-in-Ok
returns-in-Ok c =
    let alone : c.in-Ok.engines.value.items ≡ Some c.in_ok-engine.engine ∷ [] = search rules in
    record {
      engine = c.in_ok-engine.engine;
      alone = alone;
      opened = c.in_ok-engine.ensures.opened;
      scope_is = c.in_ok-engine.ensures.scope;
      stands = c.in_ok-engine.ensures.stands;
    }

use Rattle.search_session.proofs.LoneTurns.{lone_none, lone_more}
use Rattle.search_session.proofs.lone_laws.lone_turns_add.Goals as goal

pub returns : goal.returns
returns g c = record {
  none = lone_none g.I.Inputs.told g.I.Inputs.is_open g.I.Inputs.is_calm g.I.Inputs.faults;
  more = lone_more g.I.Inputs.told g.I.Inputs.is_open g.I.Inputs.is_calm g.I.Inputs.faults;
}

use Rattle.search_session.proofs.FeedEnds.{SessionLaws}
use Rattle.search_session.proofs.LoneEnds.{lone_answers}
use Rattle.search_session.proofs.lone_laws.lone_sessions_end.Goals as goal

pub returns : goal.returns
returns g c =
    let laws : SessionLaws g.row.I.Denot = record {
      end = c.feeders_end.ensures;
      first = c.headers_are_first.ensures;
      leave = c.faults_leave.ensures;
      recordings = c.recordings_end.ensures;
      joined = c.bytes_are_joined.ensures;
      counted = c.ends_are_counted.ensures;
      transfers = c.streams_have_transfers.ensures;
    } in
    lone_answers laws g.I.Inputs.told g.I.Inputs.faults

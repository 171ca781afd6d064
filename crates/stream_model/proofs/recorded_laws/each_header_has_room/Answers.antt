use Rattle.stream_model.proofs.Rooms.{each_has_room}
use Rattle.stream_model.proofs.recorded_laws.each_header_has_room.Goals as goal

pub returns : goal.returns
returns c = each_has_room c.changes_stay_alike.ensures

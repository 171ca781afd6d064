use Rattle.std.proofs.Common.{length, sym, subst, arith}
use Rattle.disk_feeder.specs.Feeder.{headers_of}
use Rattle.search_opening.specs.Recordings.{RecordingsFit}
use Rattle.search_opening.proofs.Observed.{as_many}
use Rattle.search_opening.proofs.Stopping.{can_record, stops_recording}
use Rattle.search_opening.proofs.recordings.fit_all.Goals as goal

pub returns-in-Ok-clause-recorded : goal.returns-in-Ok-clause-recorded
returns-in-Ok-clause-recorded g c = λ w firsts are most.
    let headers = headers_of c.args.feeder.now in
    let observations = c.args.observations.now in
    can_record w observations headers firsts are (as_many headers observations c.requires.observed) c.args.file_size
    (length w.starts) (omega arith)
    (subst (λ m. RecordingsFit c.args.file_size m headers observations (length w.starts)) (sym most)
    (subst (RecordingsFit c.args.file_size c.args.max_bytes headers observations) firsts.count c.in-Ok.ensures.fit))

pub returns-in-Err-clause-refused : goal.returns-in-Err-clause-refused
returns-in-Err-clause-refused g c =
    stops_recording c.args.file_size c.args.max_bytes (headers_of c.args.feeder.now) c.args.observations.now
    c.in-Err.fault c.of_recording.result c.of_recording.ensures c.in-Err.ensures.refused

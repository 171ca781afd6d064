use Rattle.std.proofs.Common.{refl}
use Rattle.stream_model.specs.Recorded.{TooManyFiles}
use Rattle.dada_recorder.specs.Changes.{recording}
use Rattle.dada_recorder.proofs.Refusals.{refused_time, refused_change, refused_count, none_refused}
use Rattle.dada_recorder.proofs.changes.fits.Goals as goal

pub returns-in-Err-clause-refused : goal.returns-in-Err-clause-refused
returns-in-Err-clause-refused c =
    refused_time (recording c.args.header.now c.args.offset c.args.file_size) c.args.max_bytes c.in-Err.fault
    c.in-Err.ensures.fault

pub returns-in-Err-change-clause-refused : goal.returns-in-Err-change-clause-refused
returns-in-Err-change-clause-refused c =
    refused_change (recording c.args.header.now c.args.offset c.args.file_size) c.args.max_bytes c.in-Err-change.fault
    c.in-Ok.ensures.ok c.in-Err-change.ensures.fault

pub returns-then-max_bytes-file_size-clause-refused :
    goal.returns-then-max_bytes-file_size-clause-refused
returns-then-max_bytes-file_size-clause-refused c = (
  TooManyFiles,
  refused_count (recording c.args.header.now c.args.offset c.args.file_size) c.args.max_bytes c.in-Ok.ensures.ok
      c.in-Ok-change.ensures.room c.if-max_bytes-file_size.true,
  refl,
)

pub returns-clause-accepted : goal.returns-clause-accepted
returns-clause-accepted c =
    none_refused (recording c.args.header.now c.args.offset c.args.file_size) c.args.max_bytes c.in-Ok.ensures.ok
    c.in-Ok-change.ensures.room c.if-max_bytes-file_size.false

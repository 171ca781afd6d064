use Rattle.std.proofs.Common.{refl}
use Rattle.session_readers.proofs.OneRead.{rested_itself}
use Rattle.session_readers.proofs.Recording.{record_retired}
use Rattle.session_readers.proofs.record.RecordActor.retired.Goals as goal

pub returns-then-is_none-clause-moved : goal.returns-then-is_none-clause-moved
returns-then-is_none-clause-moved g c =
    record_retired g.F.Files.seen c.args.self c.args.self c.requires.count refl refl refl
    (rested_itself c.args.self.pass)

pub returns-clause-moved : goal.returns-clause-moved
returns-clause-moved g c =
    record_retired g.F.Files.seen c.args.self _ c.requires.count refl refl refl
    c.retire.ensures.rested

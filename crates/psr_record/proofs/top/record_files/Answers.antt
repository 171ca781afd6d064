use Rattle.std.proofs.Common.{refl, ap}
use Rattle.run_outcome.specs.Conversions.{stop_of_feed}
use Rattle.psr_record.proofs.Endings.{records, at_once, after_session, stand, leaves_closed}
use Rattle.psr_record.proofs.top.record_files.Goals as goal

pub drive-requires-clause-drivable : goal.drive-requires-clause-drivable
drive-requires-clause-drivable g c = λ lifetimes lives. record {
  range = c.in-Ok.ensures.in_range;
  search = tt;
  records = λ alone. records _ _ c.in-Ok.ensures.says;
}

pub returns-in-Err-clause-ends : goal.returns-in-Err-clause-ends
returns-in-Err-clause-ends g c =
    at_once _ _ _ _ _ c.of_words.result
    (c.end_at_words.ensures c.args.inputs.now _ _ _ _ c.in-Err.fault c.of_words.result c.in-Err.ensures.fault
    c.of_words.ensures refl)

pub returns-in-Ok-drive-clause-ends : goal.returns-in-Ok-drive-clause-ends
returns-in-Ok-drive-clause-ends g c =
    let r = c.in-Ok-drive.ensures in
    let driven = r.driven in
    let says = c.in-Ok.ensures.says in
    let found = c.in-Ok-drive.found in
    after_session _ _ _ _ _ _ found.blocks found.feed found.recorded (record {
      says = says;
      fed = driven.fed _ says;
      recorded = driven.recorded _ says;
      read = record { rose = r.inputs.rose; quiet = r.inputs.quiet; count = r.inputs.count; serves = r.serves };
    })
    (driven.cleared.recorder (records _ _ says)) (c.end_at_stop.ensures c.args.inputs.now)
    (c.end_after_whole.ensures c.args.inputs.now) c.stop_of-stop.result c.stop_of-stop.ensures.is

pub returns-clause-ends : goal.returns-clause-ends
returns-clause-ends g c =
    let r = c.in-Err-drive.ensures in
    let says = c.in-Ok.ensures.says in
    at_once _ _ _ _ _ c.in-Err-drive.stop
    (c.end_before_session.ensures c.args.inputs.now _ _ _ _ _ _ c.in-Err-drive.stop says (r.stopped _ says)
    (ap g.F.Files.seen r.stands)
    (record { rose = r.inputs.rose; quiet = r.inputs.quiet; count = r.inputs.count; serves = r.serves }))

-- ---- what a fault of the inputs leaves

pub returns-in-Ok-drive-clause-broken : goal.returns-in-Ok-drive-clause-broken
returns-in-Ok-drive-clause-broken g c = λ failed.
    c.in-Ok-drive.ensures.leaves.broken (c.stop_of-stop.ensures.read_fault failed) _ c.in-Ok.ensures.says

pub returns-clause-broken : goal.returns-clause-broken
returns-clause-broken g c = λ failed.
    c.in-Err-drive.ensures.leaves.broken (cc) _ c.in-Ok.ensures.says

-- ---- what is left of the files

pub returns-in-Err-clause-left : goal.returns-in-Err-clause-left
returns-in-Err-clause-left g c = λ status zeroth.
    stand _ g.F.Files.is_open g.F.Files.seen c.args.files.now c.args.files.now _ _ status refl

pub returns-in-Ok-drive-clause-left : goal.returns-in-Ok-drive-clause-left
returns-in-Ok-drive-clause-left g c = λ status zeroth.
    let driven = c.in-Ok-drive.ensures.driven in
    let found = c.in-Ok-drive.found in
    leaves_closed _ g.F.Files.is_open g.F.Files.seen c.args.files.now c.drive.new.files found.blocks found.recorded
    (stop_of_feed found.feed) c.stop_of-stop.result status c.stop_of-stop.ensures.is zeroth
    (driven.recorded _ c.in-Ok.ensures.says).rose driven.closed

pub returns-clause-left : goal.returns-clause-left
returns-clause-left g c = λ status zeroth.
    stand _ g.F.Files.is_open g.F.Files.seen c.args.files.now c.drive.new.files _ _ status
    c.in-Err-drive.ensures.stands

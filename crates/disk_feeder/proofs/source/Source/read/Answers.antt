use Rattle.std.proofs.Common.{◌≡◌, ℕ, ◌+◌, true, List, length, drop, ap, ◌∙◌}
use Rattle.psr_base.specs.Told.{Told}
use Rattle.disk_feeder.specs.declared.place.Place.{Place}
use Rattle.stream_model.specs.Walk.{file_at}
use Rattle.disk_feeder.specs.History.{IsShut, IsReadUpTo, ReadsUpTo}
use Rattle.disk_feeder.specs.Plan.{Plan, stream_of, IsAmong, AreToldWithFirsts, opened_at}
use Rattle.disk_feeder.specs.Sources.{plan_of}
use Rattle.disk_feeder.proofs.Histories as history
use Rattle.disk_feeder.proofs.Histories.{closed_on, read_more}
use Rattle.disk_feeder.proofs.Needed.{told_before, told_opened, told_to_open, firsts_opened, firsts_aside, passed_still}
use Rattle.disk_feeder.proofs.Streams.{is_in}
use Rattle.disk_feeder.proofs.Behind.{begin_still, through_read, through_closed, through_broken}
use Rattle.disk_feeder.proofs.Readings.{IsHere, at_file, below, known_at, front_here, too_long, given, has_closed, has_took}
use Rattle.disk_feeder.proofs.OfSource.{here_open}
use Rattle.disk_feeder.proofs.source.Source.read.Goals as goal

pub returns-then-n-eq0-clause-read : goal.returns-then-n-eq0-clause-read
returns-then-n-eq0-clause-read g c = λ before current has.
    let source = c.args.self.now in
    let plan = plan_of source in
    let told = g.I.Inputs.told c.args.inputs.now in
    let told' = g.I.Inputs.told c.read.new.self in
    rw c.close_file.ensures.place
    (has_closed plan told told' source.place before current
    (here_open source told told' c.requires.opened (ap (λ (t : Told). t.bytes_under) c.in-Ok.ensures.moved)) has
    c.requires.opened c.transfers_join.ensures c.read.new.into
    (λ left known. rw (← c.if-n-eq0.true) (c.in-Ok.ensures.next left known)))

pub returns-in-Ok-count-clause-read : goal.returns-in-Ok-count-clause-read
returns-in-Ok-count-clause-read g c = λ before current has.
    let source = c.args.self.now in
    let plan = plan_of source in
    let told = g.I.Inputs.told c.args.inputs.now in
    let told' = g.I.Inputs.told c.read.new.self in
    let n = c.in-Ok.n in
    let counted = c.in-Ok-count.ensures.counted in
    rw (counted.1, counted.0)
    (has_took plan told told' source.place before current
    (here_open source told told' c.requires.opened (ap (λ (t : Told). t.bytes_under) c.in-Ok.ensures.moved)) has
    c.requires.opened n c.read.new.into c.in-Ok.ensures.bound c.in-Ok.ensures.next
    (c.in-Ok.ensures.moved ∙ c.reads_join.ensures.some n told c.if-n-eq0.false))

pub returns-in-Err-count-clause-read : goal.returns-in-Err-count-clause-read
returns-in-Err-count-clause-read g c = λ before current has.
    let source = c.args.self.now in
    let plan = plan_of source in
    let told = g.I.Inputs.told c.args.inputs.now in
    let told' = g.I.Inputs.told c.read.new.self in
    let o = here_open source told told' c.requires.opened (ap (λ (t : Told). t.bytes_under) c.in-Ok.ensures.moved) in
    let counted = c.in-Err-count.ensures.counted in
    rw counted.0 (record {
      passed = passed_still plan told told' source.place.file o.names has.passed;
      ends = λ files are.
          let fewer = told_opened source.place told' plan files are in
          too_long plan told told' source.place before current o has files fewer c.requires.opened
          c.transfers_join.ensures c.files_are_in_transfers.ensures c.first_stop_counts.ensures c.in-Ok.n
          c.read.new.into (given plan told told' source.place before current o has c.requires.opened c.in-Ok.n
          c.read.new.into c.in-Ok.ensures.next files fewer) c.in-Ok.ensures.bound counted.1;
      inside = at_file plan told told' source.place o;
      begin = begin_still plan told source.place before current has.begin told' o.names;
    })

pub returns-in-Err-clause-read : goal.returns-in-Err-clause-read
returns-in-Err-clause-read g c = λ before current has.
    let source = c.args.self.now in
    let plan = plan_of source in
    let told = g.I.Inputs.told c.args.inputs.now in
    let told' = g.I.Inputs.told c.read.new.self in
    let o = here_open source told told' c.requires.opened
    (ap (λ (t : Told). t.bytes_under) c.in-Err.ensures.unchanged) in
    record {
      passed = passed_still plan told told' source.place.file o.names has.passed;
      ends = λ files are.
          front_here plan told told' source.place before current o has files are c.walk_goes_on.ensures
          c.data_join.ensures;
      inside = at_file plan told told' source.place o;
      begin = begin_still plan told source.place before current has.begin told' o.names;
    }

-- ---- what was read

-- it is read
reading_now : (plan : Plan) (told told' before : Told) (at : Place) (files : List (List ℕ)) →
    IsHere plan told told' at → at.is_open ≡ true → AreToldWithFirsts (opened_at at) told' plan files →
    ReadsUpTo plan before told at →
    IsReadUpTo plan.names (stream_of plan files) before told at.transfer at.file at.since
reading_now plan told told' before at files o opened are reads =
    let Needed : ℕ → Type 0 = IsAmong (opened_at at) plan.starts (length plan.names) in
    rw opened at (reads.known files (told_before Needed told told' plan.names files o.names are))

pub returns-then-n-eq0-clause-reads_on : goal.returns-then-n-eq0-clause-reads_on
returns-then-n-eq0-clause-reads_on g c = λ before reads_so_far.
    let source = c.args.self.now in
    let plan = plan_of source in
    let at = source.place in
    let told = g.I.Inputs.told c.args.inputs.now in
    let told' = g.I.Inputs.told c.read.new.self in
    let o = here_open source told told' c.requires.opened (ap (λ (t : Told). t.bytes_under) c.in-Ok.ensures.moved) in
    let closed : (files : List (List ℕ)) → AreToldWithFirsts (at.file + 1) told' plan files →
    IsShut plan.names (stream_of plan files) before told' at.transfer (at.file + 1) at.since = λ files are.
    let s = stream_of plan files in
    let was = reading_now plan told told' before at files o c.requires.opened (firsts_opened at told' plan files are)
    reads_so_far in
    let inside = is_in plan files are.count at.transfer at.file o.place.there o.place.from o.before in
    closed_on plan.names s before told told' at.transfer at.file at.since c.reads_join.ensures c.data_grow.ensures was
    (c.in-Ok.ensures.moved ∙ c.reads_join.ensures.none c.in-Ok.n told c.if-n-eq0.true)
    ((c.in-Ok.ensures.next (drop was.place (file_at s at.file))
    (history.left_is plan.names s before told told' at.transfer at.file at.since was
    (known_at plan told told' at o files (firsts_aside (at.file + 1) told' plan files are)))).ends c.if-n-eq0.true)
    inside.from (below plan told told' at o files are.count) in
    rw c.close_file.ensures.place (record {
      known = closed;
      through = through_closed plan before told told' at o.names reads_so_far.through c.requires.opened
          (ap (λ (t : Told). t.earlier) c.in-Ok.ensures.moved) (λ files are. (closed files are).told_is);
    })

pub returns-in-Ok-count-clause-reads_on : goal.returns-in-Ok-count-clause-reads_on
returns-in-Ok-count-clause-reads_on g c = λ before reads_so_far.
    let source = c.args.self.now in
    let plan = plan_of source in
    let at = source.place in
    let told = g.I.Inputs.told c.args.inputs.now in
    let told' = g.I.Inputs.told c.read.new.self in
    let n = c.in-Ok.n in
    let o = here_open source told told' c.requires.opened (ap (λ (t : Told). t.bytes_under) c.in-Ok.ensures.moved) in
    rw c.in-Ok-count.ensures.counted.1 (record {
      known = λ files are.
          let s = stream_of plan files in
          let was = reading_now plan told told' before at files o c.requires.opened are reads_so_far in
          rw c.requires.opened
          (read_more plan.names s before told told' at.transfer at.file at.since c.reads_join.ensures was n
          (c.in-Ok.ensures.moved ∙ c.reads_join.ensures.some n told c.if-n-eq0.false)
          (c.in-Ok.ensures.next (drop was.place (file_at s at.file))
          (history.left_is plan.names s before told told' at.transfer at.file at.since was
          (known_at plan told told' at o files (told_to_open at told' plan files c.requires.opened
          (firsts_aside (opened_at at) told' plan files are))))).within);
      through = through_read plan before told told' at o.names reads_so_far.through c.requires.opened
          (ap (λ (t : Told). t.earlier) c.in-Ok.ensures.moved);
    })

pub returns-in-Err-count-clause-reads_on : goal.returns-in-Err-count-clause-reads_on
returns-in-Err-count-clause-reads_on g c = λ before reads_so_far failed.
    let too_long = c.in-Err-count.ensures.counted.0 in absurd cc

pub returns-in-Err-clause-reads_on : goal.returns-in-Err-clause-reads_on
returns-in-Err-clause-reads_on g c = λ before reads_so_far failed.
    let source = c.args.self.now in
    let plan = plan_of source in
    let at = source.place in
    let told = g.I.Inputs.told c.args.inputs.now in
    let told' = g.I.Inputs.told c.read.new.self in
    let o = here_open source told told' c.requires.opened
    (ap (λ (t : Told). t.bytes_under) c.in-Err.ensures.unchanged) in
    record {
      known = λ files are.
          rw (c.requires.opened, c.in-Err.ensures.unchanged)
          (reading_now plan told told' before at files o c.requires.opened (firsts_opened at told' plan files are)
          reads_so_far);
      through = through_broken plan before told told' at o.names reads_so_far.through c.requires.opened
          (ap (λ (t : Told). t.earlier) c.in-Err.ensures.unchanged);
    }

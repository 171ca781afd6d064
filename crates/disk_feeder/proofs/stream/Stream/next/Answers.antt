use Rattle.std.proofs.Common.{◌∙◌}
use Rattle.disk_feeder.proofs.Turning.{runs, runs_filled, last_is}
use Rattle.disk_feeder.proofs.stream.Stream.next.Goals as goal

pub fill-due-requires-clause-within : goal.fill-due-requires-clause-within
fill-due-requires-clause-within g c =
    let old = c.pass_header.new.self in
    let told = g.I.Inputs.told c.args.inputs.now in
    let stands = c.requires.stands in
    let passed = c.pass_header.ensures.hands told stands.0 stands.1 in
    let r = runs old told passed.0 stands.0 (c.pass_header.ensures.end ∙ c.requires.running) passed.1 in
    record { there = r.there; accepted = r.accepted }

pub hand-requires-clause-last : goal.hand-requires-clause-last
hand-requires-clause-last g c = λ is.
    let old = c.pass_header.new.self in
    let mid = c.fill-due.new.self in
    let told = g.I.Inputs.told c.args.inputs.now in
    let told' = g.I.Inputs.told c.fill-due.new.inputs in
    let stands = c.requires.stands in
    let passed = c.pass_header.ensures.hands told stands.0 stands.1 in
    let run = runs_filled old mid told told' passed.0 stands.0 (c.pass_header.ensures.end ∙ c.requires.running) passed.1
    c.fill-due.ensures.kept (c.fill-due.ensures.filled stands.0) in
    let last = last_is mid told' stands.0 c.fill-due.result c.fill-due.ensures.due run.stream is in
    record { short = last.0; over = last.1 }

pub returns-clause-hands : goal.returns-clause-hands
returns-clause-hands g c = λ blocks was.
    let old = c.pass_header.new.self in
    let mid = c.fill-due.new.self in
    let told = g.I.Inputs.told c.args.inputs.now in
    let told' = g.I.Inputs.told c.fill-due.new.inputs in
    let passed = c.pass_header.ensures.hands told blocks was in
    let run = runs_filled old mid told told' passed.0 blocks (c.pass_header.ensures.end ∙ c.requires.running) passed.1
    c.fill-due.ensures.kept (c.fill-due.ensures.filled blocks) in
    (passed.0, c.hand.ensures.hands told' passed.0 blocks run)

pub returns-clause-inputs : goal.returns-clause-inputs
returns-clause-inputs g c =
    let told = g.I.Inputs.told c.args.inputs.now in
    let told' = g.I.Inputs.told c.fill-due.new.inputs in
    let first = c.pass_header.ensures.after in
    let after = c.hand.ensures.after in
    let reads = c.fill-due.ensures.inputs in
    record {
      names = reads.names;
      count = reads.count;
      quiet = λ fine. reads.quiet (after.failed fine);
      since = λ k was. after.since k (g.I.Inputs.faults c.fill-due.new.inputs)
          (reads.since k (first.since k (g.I.Inputs.faults c.args.inputs.now) was));
      calm = reads.calm;
      missing = λ calm was. after.missing told' (reads.missing calm (first.missing told was));
      unopened = λ calm before read was. after.unopened before told'
          (reads.unopened calm before (c.pass_header.ensures.reads_on before told read)
          (first.unopened before told was));
    }

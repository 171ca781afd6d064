use Rattle.stream_model.specs.Blocks.{transfer_bytes}
use Rattle.dada_recorder.specs.Transfers.{plan_in, files_of_first}
use Rattle.dada_recorder.proofs.DataBlocks.{within_limit, data_appended, data_breaks_off, files_before, files_after}
use Rattle.dada_recorder.proofs.transfers.Transfers.append.Goals as goal

pub append-requires-clause-limit : goal.append-requires-clause-limit
append-requires-clause-limit g c =
    let on = c.requires.running in
    within_limit c.args.self.now on.headers on.blocks _ c.requires.header on.running c.requires.limit

pub returns-in-Ok-clause-appended : goal.returns-in-Ok-clause-appended
returns-in-Ok-clause-appended g c = λ headers blocks block same run.
    data_appended c.bytes_are_joined.ensures c.args.self.now c.append.new.self headers blocks
    block c.args.bytes.now same
    c.requires.header run c.requires.limit c.in-Ok.ensures.kept c.in-Ok.ensures.placed c.in-Ok.ensures.count

pub returns-in-Ok-clause-made : goal.returns-in-Ok-clause-made
returns-in-Ok-clause-made g c = λ headers blocks block same run.
    let t = c.args.self.now in
    let f = c.append.new.self in
    let xs = transfer_bytes t.ended blocks in
    let before = files_of_first (plan_in t) headers blocks t.ended in
    let header = c.requires.header in
    let appends = c.in-Ok.ensures.made before xs (run.within header).count in
    record {
      all = λ outset has.
          rw (files_after c.entries_are_of_transfers.ensures t f t.total headers blocks block c.args.bytes.now same
          header run c.in-Ok.ensures.kept)
          (appends.all outset (rw (files_before t headers blocks header run) at has));
      front = λ outset all has front. tt;
    }

pub returns-in-Err-clause-stands : goal.returns-in-Err-clause-stands
returns-in-Err-clause-stands g c = λ headers blocks block same run.
    data_breaks_off c.bytes_are_joined.ensures c.ends_are_counted.ensures c.args.self.now c.append.new.self headers
    blocks block c.args.bytes.now same c.requires.header run c.requires.limit c.in-Err.ensures.kept

pub returns-in-Err-clause-made : goal.returns-in-Err-clause-made
returns-in-Err-clause-made g c = λ headers blocks block same run.
    let t = c.args.self.now in
    let f = c.append.new.self in
    let xs = transfer_bytes t.ended blocks in
    let before = files_of_first (plan_in t) headers blocks t.ended in
    let header = c.requires.header in
    let appends = c.in-Err.ensures.made before xs (run.within header).count in
    record {
      all = λ outset has. tt;
      front = λ outset all has front.
          appends.front outset all (rw (files_before t headers blocks header run) at has)
          (rw (files_after c.entries_are_of_transfers.ensures t f t.total headers blocks block c.args.bytes.now same
          header run c.in-Err.ensures.kept) at front);
    }

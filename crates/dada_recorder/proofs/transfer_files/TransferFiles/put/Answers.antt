use Rattle.dada_recorder.specs.TransferFiles.{longer_file}
use Rattle.dada_recorder.proofs.Making.{appended_made, append_breaks}
use Rattle.dada_recorder.proofs.Results.{both_ok}
use Rattle.dada_recorder.proofs.transfer_files.TransferFiles.put.Goals as goal

pub returns-in-Err-clause-made : goal.returns-in-Err-clause-made
returns-in-Err-clause-made g c = λ before file.
    let old = g.F.Files.seen c.args.files.now in
    let new = g.F.Files.seen c.append_all.new.files in
    record {
      all = λ outset has. tt;
      front = λ outset all has front.
          append_breaks outset before file c.args.bytes.now all old new has c.in-Err.ensures.appended.front front;
    }

pub returns-then-self-clause-made : goal.returns-then-self-clause-made
returns-then-self-clause-made g c = λ before file.
    let old = g.F.Files.seen c.args.files.now in
    let middle = g.F.Files.seen c.append_all.new.files in
    let bytes = c.args.bytes.now in
    let long = longer_file bytes file in
    let finishes = c.finish_file.ensures.made before long in
    record {
      all = λ outset has.
          both_ok c.finish_file.result
          (λ is made. rw is made)
          c.finish_file.ensures.place
          (finishes.all outset (appended_made outset before file bytes old middle has c.in-Ok.ensures.appended.all));
      front = λ outset all has front.
          finishes.front outset all
          (appended_made outset before file bytes old middle has c.in-Ok.ensures.appended.all) front;
    }

pub returns-else-self-clause-made : goal.returns-else-self-clause-made
returns-else-self-clause-made g c = λ before file.
    let old = g.F.Files.seen c.args.files.now in
    let new = g.F.Files.seen c.append_all.new.files in
    let bytes = c.args.bytes.now in
    record {
      all = λ outset has.
          rw c.requires.open (appended_made outset before file bytes old new has c.in-Ok.ensures.appended.all);
      front = λ outset all has front. tt;
    }

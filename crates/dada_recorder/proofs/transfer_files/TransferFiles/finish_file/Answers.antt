use Rattle.std.proofs.lemmas.Bool.{false≢true}
use Rattle.dada_recorder.proofs.Making.{finished_made, finish_breaks}
use Rattle.dada_recorder.proofs.transfer_files.TransferFiles.finish_file.Goals as goal

pub returns-in-Ok-clause-made : goal.returns-in-Ok-clause-made
returns-in-Ok-clause-made g c = λ before file.
    let old = g.F.Files.seen c.args.files.now in
    let new = g.F.Files.seen c.finish.new.self in
    record {
      all = λ outset has. finished_made outset before file old new has c.in-Ok.ensures.finished;
      front = λ outset all has front. tt;
    }

pub returns-in-Err-clause-made : goal.returns-in-Err-clause-made
returns-in-Err-clause-made g c = λ before file.
    let old = g.F.Files.seen c.args.files.now in
    let new = g.F.Files.seen c.finish.new.self in
    record {
      all = λ outset has. tt;
      front = λ outset all has front. finish_breaks outset before file all old new has c.in-Err.ensures.failed
          (λ told. false≢true (c.in-Err.ensures.serves told)) front;
    }

use Rattle.std.proofs.Common.{◌∙◌, ap}
use Rattle.dada_model.specs.Fields.{HeaderText, header_bytes}
use Rattle.stream_model.specs.Recorded.{Recording, file_name}
use Rattle.dada_recorder.specs.TransferFiles.{recording_in, header_file}
use Rattle.std.proofs.lemmas.Bool.{false≢true}
use Rattle.dada_recorder.proofs.Making.{creation_breaks, started_made, header_breaks}
use Rattle.dada_recorder.proofs.Results.{map_ok, map_err}
use Rattle.dada_recorder.proofs.transfer_files.TransferFiles.start_file.Goals as goal

pub returns-in-Err-clause-made : goal.returns-in-Err-clause-made
returns-in-Err-clause-made g c = λ before.
    let r = recording_in c.args.self.now in
    let old = g.F.Files.seen c.args.files.now in
    let new = g.F.Files.seen c.create.new.self in
    let named = c.as_str.ensures.value ∙ c.file_name-name.ensures
    ∙ ap (λ (s : Recording). file_name s c.args.number) c.change_header.ensures.kept in
    record {
      all = λ outset has. tt;
      front = λ outset all has front.
          creation_breaks outset before (header_file r c.args.number) c.as_str.result.now all old new named
          c.as_str.ensures.fits has c.in-Err.ensures.failed (λ can. false≢true (c.in-Err.ensures.serves can)) front;
    }

pub returns-clause-made : goal.returns-clause-made
returns-clause-made g c = λ before.
    let r = recording_in c.args.self.now in
    let old = g.F.Files.seen c.args.files.now in
    let middle = g.F.Files.seen c.create.new.self in
    let new = g.F.Files.seen c.append_all.new.files in
    let named = c.as_str.ensures.value ∙ c.file_name-name.ensures
    ∙ ap (λ (s : Recording). file_name s c.args.number) c.change_header.ensures.kept in
    let has_bytes = c.bytes.ensures.bytes
    ∙ ap (λ (h : HeaderText). header_bytes h) c.change_header.ensures.changed in
    let file = header_file r c.args.number in
    record {
      all = λ outset has. map_ok c.append_all.result
          (λ appended. started_made outset before file c.as_str.result.now c.bytes.result.now old middle new named
          has_bytes has c.in-Ok.ensures.created appended)
          c.append_all.ensures.appended.all;
      front = λ outset all has front. map_err c.append_all.result
          (λ appended. header_breaks outset before file c.as_str.result.now c.bytes.result.now all old middle new
          named has_bytes has c.in-Ok.ensures.created appended front)
          c.append_all.ensures.appended.front;
    }

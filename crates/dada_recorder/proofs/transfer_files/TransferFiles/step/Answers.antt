use Rattle.std.proofs.Common.{◌++◌, sym, ap, ◌∙◌, arith}
use Rattle.stream_model.specs.Recorded.{Recording, recorded_file}
use Rattle.dada_recorder.specs.TransferFiles.{recording_in, first_files, next_place}
use Rattle.dada_recorder.proofs.Stepping.{next_has_room, made_first, piece_is, behind, begun_front, piece_front, piece_files}
use Rattle.dada_recorder.proofs.transfer_files.TransferFiles.step.Goals as goal

pub returns-in-Err-clause-made : goal.returns-in-Err-clause-made
returns-in-Err-clause-made g c = λ before xs is.
    let r = recording_in c.args.self.now in
    let z = c.args.self.now.file_size in
    let place = c.args.self.now.place in
    let some = c.requires.limit.can.some in
    let next = next_has_room place z c.requires.placed some in
    let old = g.F.Files.seen c.args.files.now in
    record {
      all = λ outset has. tt;
      front = λ outset all has front.
          (c.in-Err.ensures.made before xs is).front outset all
          (made_first outset before r place xs old some c.requires.placed is has)
          (begun_front before all r (next_place place).number xs c.args.bytes.now some
          (omega (arith, is, next.0)) (omega (arith, is, next.0, next.1)) c.requires.some front);
    }

pub returns-in-Ok-put-clause-made : goal.returns-in-Ok-put-clause-made
returns-in-Ok-put-clause-made g c = λ before xs is.
    let r = recording_in c.args.self.now in
    let z = c.args.self.now.file_size in
    let place = c.args.self.now.place in
    let p = next_place place in
    let some = c.requires.limit.can.some in
    let next = next_has_room place z c.requires.placed some in
    let old = g.F.Files.seen c.args.files.now in
    let bytes = c.args.bytes.now in
    let taken = c.min-taken.result in
    let piece = piece_is place c.make_room.new.self.place z c.make_room.new.self.file_size taken bytes
    c.requires.placed some c.in-Ok.ensures.place (ap (λ (s : Recording). s.file_size) c.in-Ok.ensures.kept)
    c.min-taken.ensures c.requires.some in
    let file = recorded_file r xs p.number in
    let first = before ++ first_files r xs p.number in
    record {
      all = λ outset has.
          let room = (c.in-Ok.ensures.made before xs is).all outset
          (made_first outset before r place xs old some c.requires.placed is has) in
          rw (← piece_files before r p.number p.used taken xs bytes some (is ∙ sym next.0) piece.within piece.some)
          ((c.in-Ok-put.ensures.made first file).all outset (rw (behind before r xs p.number) at room));
      front = λ outset all has front. tt;
    }

pub returns-in-Err-put-clause-made : goal.returns-in-Err-put-clause-made
returns-in-Err-put-clause-made g c = λ before xs is.
    let r = recording_in c.args.self.now in
    let z = c.args.self.now.file_size in
    let place = c.args.self.now.place in
    let p = next_place place in
    let some = c.requires.limit.can.some in
    let next = next_has_room place z c.requires.placed some in
    let old = g.F.Files.seen c.args.files.now in
    let bytes = c.args.bytes.now in
    let taken = c.min-taken.result in
    let piece = piece_is place c.make_room.new.self.place z c.make_room.new.self.file_size taken bytes
    c.requires.placed some c.in-Ok.ensures.place (ap (λ (s : Recording). s.file_size) c.in-Ok.ensures.kept)
    c.min-taken.ensures c.requires.some in
    let file = recorded_file r xs p.number in
    let first = before ++ first_files r xs p.number in
    record {
      all = λ outset has. tt;
      front = λ outset all has front.
          let room = (c.in-Ok.ensures.made before xs is).all outset
          (made_first outset before r place xs old some c.requires.placed is has) in
          (c.in-Err-put.ensures.made first file).front outset all (rw (behind before r xs p.number) at room)
          (piece_front before all r p.number taken xs bytes some (omega (arith, is, next.0))
          (let fits = piece.within in omega (arith, is, next.0, fits)) c.requires.some front);
    }

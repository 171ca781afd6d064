use Rattle.std.proofs.Common.{ℕ, map, string_bytes, ◌∙◌, sym, subst}
use Rattle.psr_make.specs.Stop.{note_of}
use Rattle.psr_make.specs.Outcome.{Outcome}
use Rattle.psr_make.proofs.Outcomes.{noted, stop_outcome}
use Rattle.psr_make.proofs.top.run_make.Goals as goal

pub returns-in-Err-clause-outcome : goal.returns-in-Err-clause-outcome
returns-in-Err-clause-outcome g c =
    let words = map string_bytes c.args.words.now in
    let old = g.F.Files.seen c.args.files.now in
    let new = g.F.Files.seen c.make_asked.new.files in
    let notes_old = g.E.Sink.seen c.args.notes.now in
    let notes_new = g.E.Sink.seen c.write_all.new.sink in
    let line = noted c.as_bytes.result.now (note_of c.in-Err.stop) notes_old notes_new c.write_all.result
    (c.as_bytes.ensures ∙ c.note.ensures) c.write_all.ensures in
    subst (λ (status : ℕ). Outcome words old new notes_old notes_new status) (sym c.status.ensures)
    (stop_outcome words old new notes_old notes_new c.in-Err.stop c.in-Err.ensures.ends line)

use Rattle.std.proofs.Common.{sym, map, subst, string_bytes, rules}
use Rattle.psr_demo.specs.Outcome.{Outcome}
use Rattle.psr_demo.proofs.Outcomes.{at_words, at_fault, at_summary}
use Rattle.psr_demo.proofs.top.run_demo.Goals as goal

pub returns-in_default : goal.returns-in_default
returns-in_default g c =
    let words = map string_bytes c.args.words.now in
    let out = g.K.Sink.seen c.args.out.now in
    let notes = g.E.Sink.seen c.args.notes.now in
    subst (λ n. Outcome words out out notes notes n) (sym c.status.ensures)
    (at_words words out notes (c.in_default.ensures.refused (search rules)))

pub returns-in-Ok-write_summary : goal.returns-in-Ok-write_summary
returns-in-Ok-write_summary g c =
    at_summary (map string_bytes c.args.words.now) c.in-Some.number (g.K.Sink.seen c.args.out.now)
    (g.K.Sink.seen c.write_summary.new.out) (g.E.Sink.seen c.args.notes.now) (g.E.Sink.seen c.find.new.notes)
    c.in-Some.ensures.asked c.in-Ok.found.status c.in-Ok.ensures.found.ends c.in-Ok-write_summary.ensures.all
    c.in-Ok.ensures.found.told

pub returns : goal.returns
returns g c =
    let words = map string_bytes c.args.words.now in
    let out = g.K.Sink.seen c.args.out.now in
    let out_after = g.K.Sink.seen c.write_summary.new.out in
    let notes = g.E.Sink.seen c.args.notes.now in
    let notes_after = g.E.Sink.seen c.find.new.notes in
    subst (λ n. Outcome words out out_after notes notes_after n) (sym c.status-in-Err-write_summary.ensures)
    (at_fault words c.in-Some.number c.in-Ok.found.status out out_after notes notes_after c.in-Some.ensures.asked
    c.in-Ok.ensures.found.ends c.in-Err-write_summary.ensures.front c.in-Ok.ensures.found.told)

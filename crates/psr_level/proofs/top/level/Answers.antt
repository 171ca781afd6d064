use Rattle.std.proofs.Common.{Some, map, inr, sym, ap, ◌∙◌, subst}
use Rattle.std.specs.Prelude.{option_map, string_bytes}
use Rattle.level_words.specs.Settings.{level_seen}
use Rattle.psr_level.specs.declared.stop.LevelStop.{LevelStop}
use Rattle.psr_level.specs.Complete.{IsComplete}
use Rattle.psr_level.specs.Notes.{end_status, stop_of_stream}
use Rattle.psr_level.proofs.Completing.{complete_at_words}
use Rattle.psr_level.proofs.Ending.{complete_for, ends_settings, for_words}
use Rattle.psr_level.proofs.Leaving.{leaves_files, leaves_unread}
use Rattle.psr_level.proofs.top.level.Goals as goal

pub returns-in-Some-clause-ends : goal.returns-in-Some-clause-ends
returns-in-Some-clause-ends g c =
    let i = g.I.Inputs in
    let seen = g.K.Sink.seen in
    inr (ends_settings i.told i.is_calm i.faults (map string_bytes c.args.words.now) (level_seen c.in-Ok.settings)
    c.args.inputs.now c.stream.new.inputs (seen c.args.out.now) (seen c.stream.new.out) c.stream.result
    (Some c.of_stream.result) c.in-Ok.ensures.says
    (ap (λ (x : LevelStop). Some x) c.of_stream.ensures ∙ sym (ap (option_map stop_of_stream) c.in-Some.is))
    c.stream.ensures.inputs c.stream.ensures.serves c.stream.ensures.ends)

pub returns-in-Ok-clause-whole : goal.returns-in-Ok-clause-whole
returns-in-Ok-clause-whole g c = λ none.
    let seen = g.K.Sink.seen in
    for_words (map string_bytes c.args.words.now) (level_seen c.in-Ok.settings) c.in-Ok.ensures.says
    (g.I.Inputs.told c.args.inputs.now) (seen c.args.out.now) (seen c.stream.new.out)
    (c.stream.ensures.whole c.in-None.is)

pub returns-in-Some-clause-complete : goal.returns-in-Some-clause-complete
returns-in-Some-clause-complete g c =
    complete_for (map string_bytes c.args.words.now) (level_seen c.in-Ok.settings) c.in-Ok.ensures.says
    (g.I.Inputs.told c.args.inputs.now) (end_status (option_map stop_of_stream c.stream.result))
    (end_status (Some c.of_stream.result))
    (ap end_status (ap (λ (x : LevelStop). Some x) c.of_stream.ensures
    ∙ sym (ap (option_map stop_of_stream) c.in-Some.is))) c.stream.ensures.complete

pub returns-in-Ok-clause-complete : goal.returns-in-Ok-clause-complete
returns-in-Ok-clause-complete g c =
    complete_for (map string_bytes c.args.words.now) (level_seen c.in-Ok.settings) c.in-Ok.ensures.says
    (g.I.Inputs.told c.args.inputs.now) (end_status (option_map stop_of_stream c.stream.result)) 0
    (sym (ap end_status (ap (option_map stop_of_stream) c.in-None.is))) c.stream.ensures.complete

pub returns-clause-complete : goal.returns-clause-complete
returns-clause-complete g c = λ s says.
    let P : LevelStop → Type 0 = λ x. IsComplete s (g.I.Inputs.told c.args.inputs.now) (end_status (Some x)) in
    subst P (sym c.of_words.ensures)
    (complete_at_words (map string_bytes c.args.words.now) c.in-Err.fault c.in-Err.ensures.fault s says
    (g.I.Inputs.told c.args.inputs.now))

pub returns-in-Some-clause-leaves : goal.returns-in-Some-clause-leaves
returns-in-Some-clause-leaves g c =
    let i = g.I.Inputs in
    leaves_files c.statuses_say_stops.ensures (map string_bytes c.args.words.now) (level_seen c.in-Ok.settings)
    c.in-Ok.ensures.says (i.is_calm c.args.inputs.now) (i.told c.args.inputs.now) (i.told c.stream.new.inputs)
    (g.K.Sink.seen c.args.out.now) (g.K.Sink.seen c.stream.new.out) c.stream.result
    (end_status (Some c.of_stream.result)) (ap end_status (ap (λ (x : LevelStop). Some x) c.of_stream.ensures
    ∙ sym (ap (option_map stop_of_stream) c.in-Some.is))) c.stream.ensures.leaves c.stream.ensures.refused

pub returns-in-Ok-clause-leaves : goal.returns-in-Ok-clause-leaves
returns-in-Ok-clause-leaves g c =
    let i = g.I.Inputs in
    leaves_files c.statuses_say_stops.ensures (map string_bytes c.args.words.now) (level_seen c.in-Ok.settings)
    c.in-Ok.ensures.says (i.is_calm c.args.inputs.now) (i.told c.args.inputs.now) (i.told c.stream.new.inputs)
    (g.K.Sink.seen c.args.out.now) (g.K.Sink.seen c.stream.new.out) c.stream.result 0
    (sym (ap end_status (ap (option_map stop_of_stream) c.in-None.is)))
    c.stream.ensures.leaves c.stream.ensures.refused

pub returns-clause-leaves : goal.returns-clause-leaves
returns-clause-leaves g c =
    let i = g.I.Inputs in
    leaves_unread (map string_bytes c.args.words.now) (i.is_calm c.args.inputs.now) (i.told c.args.inputs.now)
    (g.K.Sink.seen c.args.out.now) c.in-Err.fault (end_status (Some c.of_words.result))
    (ap end_status (ap (λ (x : LevelStop). Some x) c.of_words.ensures))

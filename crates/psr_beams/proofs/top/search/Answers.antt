use Rattle.std.proofs.Common.{map, arith}
use Rattle.std.specs.Prelude.{string_bytes}
use Rattle.search_words.specs.Settings.{settings_seen}
use Rattle.psr_beams.specs.Words.{within_of, more_of}
use Rattle.psr_beams.proofs.Counting.{element}
use Rattle.psr_beams.proofs.Driving.{number_is, driven_leaves, driven_others}
use Rattle.psr_beams.proofs.Telling.{at_words}
use Rattle.psr_beams.proofs.top.search.Goals as goal

pub returns-in-Err-clause-leaves : goal.returns-in-Err-clause-leaves
returns-in-Err-clause-leaves g c =
    let lent = c.requires in
    let one = element c.args.inputs.now 0 (omega (arith, lent)) in
    at_words g.I.Inputs.told g.I.Inputs.is_calm g.I.Inputs.faults (map string_bytes c.args.words.now) c.args.inputs.now
    (g.I.Inputs.is_calm one) (c.end_at_words.ensures one) (g.K.Sink.seen c.args.out.now) c.in-Err.fault
    c.of_words.result c.in-Err.ensures.fault c.of_words.ensures

pub returns-in-Ok-clause-leaves : goal.returns-in-Ok-clause-leaves
returns-in-Ok-clause-leaves g c =
    let words = map string_bytes c.args.words.now in
    driven_leaves _ _ _ words c.words_say_once.ensures _ c.in-Ok.ensures.says _ _ c.requires _ _
    c.accepted_by_rows.ensures c.first_files_continue.ensures c.later_headers_agree.ensures c.in-Ok.said.within
    c.in-Ok.said.more (number_is (within_of words) c.in-Ok.said.within c.in-Ok.ensures.within)
    (number_is (more_of words) c.in-Ok.said.more c.in-Ok.ensures.more) c.drive.result c.drive.ensures

pub returns-in-Ok-clause-refused : goal.returns-in-Ok-clause-refused
returns-in-Ok-clause-refused g c = λ two.
    absurd ((returns-in-Ok-clause-leaves g c).ends.judged.refused two (settings_seen c.in-Ok.said.settings)
    c.in-Ok.ensures.says)

pub returns-in-Ok-clause-others : goal.returns-in-Ok-clause-others
returns-in-Ok-clause-others g c =
    driven_others _ _ _ _ c.words_say_once.ensures _ c.in-Ok.ensures.says _ _ c.requires _ _ _ _ _ c.drive.ensures

-- The words that were found are those of any checkpoint that the text says.
use Rattle.std.proofs.Common.{sym}
use Rattle.warm_restart.proofs.Judging.{unsaid, no_words, no_place, no_pulses}
use Rattle.warm_restart.proofs.checkpoint.Checkpoint.read.Goals as goal

pub returns-in_default-clause-value : goal.returns-in_default-clause-value
returns-in_default-clause-value c =
    unsaid c.texts_say_one.ensures c.args.text.now (no_words c.args.text.now c.in_default.ensures.none)

pub returns-in_default-count_in-clause-value : goal.returns-in_default-count_in-clause-value
returns-in_default-count_in-clause-value c =
    unsaid c.texts_say_one.ensures c.args.text.now (no_place c.args.text.now c.in-Some.place.now c.in-Some.pulses.now
    c.in-Some.ensures.line c.in-Some.ensures.first c.in_default-count_in.ensures.none)

pub returns-in_default-count_in-clause-none : goal.returns-in_default-count_in-clause-none
returns-in_default-count_in-clause-none c =
    no_place c.args.text.now c.in-Some.place.now c.in-Some.pulses.now c.in-Some.ensures.line c.in-Some.ensures.first
    c.in_default-count_in.ensures.none

pub returns-in-Some-count_in-2-clause-value : goal.returns-in-Some-count_in-2-clause-value
returns-in-Some-count_in-2-clause-value c =
    sym ((c.texts_say_one.ensures.computed c.args.text.now _).0 (record {
      place = c.in-Some.place.now;
      pulses = c.in-Some.pulses.now;
      line = c.in-Some.ensures.line;
      place_is = c.in-Some-count_in.ensures.some;
      pulses_are = c.in-Some-count_in-2.ensures.some;
    }))

pub returns-in-None-clause-value : goal.returns-in-None-clause-value
returns-in-None-clause-value c =
    unsaid c.texts_say_one.ensures c.args.text.now (no_pulses c.args.text.now c.in-Some.place.now c.in-Some.pulses.now
    c.in-Some.ensures.line c.in-Some.ensures.first c.in-None.ensures.none)

pub returns-in-None-clause-none : goal.returns-in-None-clause-none
returns-in-None-clause-none c =
    no_pulses c.args.text.now c.in-Some.place.now c.in-Some.pulses.now c.in-Some.ensures.line c.in-Some.ensures.first
    c.in-None.ensures.none

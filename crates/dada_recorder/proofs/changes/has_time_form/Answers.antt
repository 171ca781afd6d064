use Rattle.std.proofs.Common.{◌≡◌, sym, ◌∙◌, arith}
use Rattle.std.specs.Prelude.{codes}
use Rattle.stream_model.specs.Recorded.{is_time}
use Rattle.dada_recorder.proofs.TimeForm.{no_time, at_first, none_left, stops_at, goes_on}
use Rattle.dada_recorder.proofs.changes.has_time_form.Goals as goal

pub returns-then-text : goal.returns-then-text
returns-then-text c = sym (no_time c.args.text.now c.if-text.true)

pub loop-i-init : goal.loop-i-init
loop-i-init c = (c.if-text.false, at_first c.args.text.now)

pub loop-i-preserved : goal.loop-i-preserved
loop-i-preserved c = (
  c.loop-i.invariant.0,
  goes_on (codes "0000-00-00-00:00:00") c.args.text.now c.loop-i.i 0 0 (is_time c.args.text.now)
      c.loop-i-test.true (omega (arith, c.loop-i-test.true, c.if-text.false)) c.loop-i.invariant.1
      (sym c.stands.ensures ∙ c.if-not-stands.false),
)

pub returns-then-not-stands : goal.returns-then-not-stands
returns-then-not-stands c =
    stops_at (codes "0000-00-00-00:00:00") c.args.text.now c.loop-i.i 0 0 (is_time c.args.text.now)
    c.loop-i-test.true (omega (arith, c.loop-i-test.true, c.if-text.false)) c.loop-i.invariant.1
    (sym c.stands.ensures ∙ c.if-not-stands.true)

pub returns : goal.returns
returns c =
    let all : c.loop-i.i ≡ 19 = omega (arith, c.loop-i-test.false, c.loop-i.auto.i-end) in
    none_left (codes "0000-00-00-00:00:00") c.args.text.now (is_time c.args.text.now) c.if-text.false
    (rw all at c.loop-i.invariant.1)

-- Each form was tried.
use Rattle.std.proofs.Common.{sym, ◌∙◌}
use Rattle.std.specs.Cmp.Lexicographic.{other_text}
use Rattle.ring_trace.proofs.Splits.{no_event}
use Rattle.ring_trace.proofs.lines.event.Goals as goal

pub returns-clause-none : goal.returns-clause-none
returns-clause-none c = no_event c.args.readers c.args.line.now
    (λ e. other_text _ _ c.if-eq.ensures
    (e ∙ sym c.as_slice.ensures)) c.in_default.ensures.none c.in_default-reader.ensures.none
    c.in_default-reader-2.ensures.none c.in_default-reader-3.ensures.none
    c.in_default-reader-4.ensures.none c.in_default-reader-5.ensures.none c.in_default-reader-6.ensures.none
    c.in_default-reader-7.ensures.none

use Rattle.std.proofs.Common.{sym, ◌∙◌, arith}
use Rattle.search_session.proofs.Feeding.{feed_turned}
use Rattle.search_session.proofs.feed.FeedActor.turn.Goals as goal

pub returns-in-Moved-clause-moved : goal.returns-in-Moved-clause-moved
returns-in-Moved-clause-moved g c =
    feed_turned g.I.Inputs.told g.I.Inputs.is_calm g.I.Inputs.faults c.args.self.now _ c.turn.result
    c.requires.running (c.requires.running ∙ sym c.in-Moved.ensures.answer.0) c.turn.ensures.kept
    c.turn.ensures.same_reference c.turn.ensures.answer (omega arith)

pub returns-in-Waiting-clause-moved : goal.returns-in-Waiting-clause-moved
returns-in-Waiting-clause-moved g c =
    feed_turned g.I.Inputs.told g.I.Inputs.is_calm g.I.Inputs.faults c.args.self.now _ c.turn.result
    c.requires.running (c.requires.running ∙ sym c.in-Waiting.ensures.answer.0) c.turn.ensures.kept
    c.turn.ensures.same_reference c.turn.ensures.answer (omega arith)

pub returns-in-Ended-clause-moved : goal.returns-in-Ended-clause-moved
returns-in-Ended-clause-moved g c =
    feed_turned g.I.Inputs.told g.I.Inputs.is_calm g.I.Inputs.faults c.args.self.now _ c.turn.result
    c.requires.running (sym c.in-Ended.ensures.answer.0) c.turn.ensures.kept
    c.turn.ensures.same_reference c.turn.ensures.answer (omega arith)

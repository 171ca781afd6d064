use Rattle.std.proofs.Common.{◌≡◌, None, refl, sym, ◌∙◌, arith, rules}
use Rattle.std.specs.Prelude.{IsSome}
use Rattle.search_session.specs.Lone.{feed_over}
use Rattle.search_session.proofs.Feeding.{feed_still, feed_turned}
use Rattle.search_session.proofs.resting.RestingFeed.turn.Goals as goal

pub returns-then-is_some-clause-moved : goal.returns-then-is_some-clause-moved
returns-then-is_some-clause-moved g c =
    let ended : IsSome c.args.self.now.end = search rules in
    feed_still g.I.Inputs.told g.I.Inputs.is_calm g.I.Inputs.faults 1
    (feed_over c.args.inputs.now c.args.self.now) c.requires.on.count ended

pub returns-in-Moved-clause-moved : goal.returns-in-Moved-clause-moved
returns-in-Moved-clause-moved g c =
    let running : c.args.self.now.end ≡ None = search rules in
    feed_turned g.I.Inputs.told g.I.Inputs.is_calm g.I.Inputs.faults
    (feed_over c.args.inputs.now c.args.self.now) _ c.turn.result running
    (running ∙ sym c.in-Moved.ensures.answer.0) c.turn.ensures.kept refl c.turn.ensures.answer (omega arith)

pub returns-in-Waiting-clause-moved : goal.returns-in-Waiting-clause-moved
returns-in-Waiting-clause-moved g c =
    let running : c.args.self.now.end ≡ None = search rules in
    feed_turned g.I.Inputs.told g.I.Inputs.is_calm g.I.Inputs.faults
    (feed_over c.args.inputs.now c.args.self.now) _ c.turn.result running
    (running ∙ sym c.in-Waiting.ensures.answer.0) c.turn.ensures.kept refl c.turn.ensures.answer (omega arith)

pub returns-in-Ended-clause-moved : goal.returns-in-Ended-clause-moved
returns-in-Ended-clause-moved g c =
    let running : c.args.self.now.end ≡ None = search rules in
    feed_turned g.I.Inputs.told g.I.Inputs.is_calm g.I.Inputs.faults
    (feed_over c.args.inputs.now c.args.self.now) _ c.turn.result running
    (sym c.in-Ended.ensures.answer.0) c.turn.ensures.kept refl c.turn.ensures.answer (omega arith)

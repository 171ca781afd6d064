use Rattle.std.proofs.Common.{sym, subst}
use Rattle.search_words.specs.Settings.{with_search, run_seen}
use Rattle.disk_feeder.specs.Filling.{HoldsAll}
use Rattle.search_opening.proofs.Opening.{has_begun, firsts_stop, leaves_early}
use Rattle.search_opening.proofs.Results.{if_ok, map_err}
use Rattle.search_opening.proofs.begin.begin_run.Goals as goal

pub returns-clause-serves : goal.returns-clause-serves
returns-clause-serves g c = λ calm holds.
    let told = g.I.Inputs.told c.args.feeder.now.inputs.now in
    c.begin_feed.ensures.serves calm (subst (λ names. HoldsAll told names) (sym c.requires.plan.files) holds)

pub returns-clause-begun : goal.returns-clause-begun
returns-clause-begun g c =
    let s = run_seen c.args.run.now in
    if_ok _ _ c.begin_feed.result
    (λ observations. has_begun g.I.Inputs.told g.I.Inputs.is_open s c.args.feeder.now c.begin_feed.new.feeder
    observations.items c.requires.plan c.begin_feed.ensures.plan) c.begin_feed.ensures.read

pub returns-clause-kind : goal.returns-clause-kind
returns-clause-kind g c = map_err _ _ c.begin_feed.result (λ stop stops. stops.kind) c.begin_feed.ensures.stopped

pub returns-clause-stopped : goal.returns-clause-stopped
returns-clause-stopped g c =
    let told = g.I.Inputs.told in
    map_err _ _ c.begin_feed.result
    (λ stop stops task search. firsts_stop told g.I.Inputs.is_calm task
    (with_search search (run_seen c.args.run.now)) c.args.feeder.now c.begin_feed.new.feeder stop c.requires.plan stops) c.begin_feed.ensures.stopped

pub returns-clause-leaves : goal.returns-clause-leaves
returns-clause-leaves g c =
    map_err _ _ c.begin_feed.result
    (λ stop. leaves_early g.I.Inputs.told g.I.Inputs.is_calm (run_seen c.args.run.now) c.args.feeder.now
    c.begin_feed.new.feeder stop c.requires.plan) c.begin_feed.ensures.stopped

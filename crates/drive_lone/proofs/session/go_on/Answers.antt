use Rattle.run_outcome.specs.Runs.{Searching}
use Rattle.std.proofs.Common.{subst, refl}
use Rattle.disk_feeder.specs.declared.feeder.FeederSpace.{FeederSpace}
use Rattle.disk_feeder.specs.Resting.{feeder_over}
use Rattle.search_session.specs.Sessions.{FeedAnswers}
use Rattle.search_session.specs.LoneEnds.{session_end}
use Rattle.drive_lone.proofs.Through.{lone_ready, bank_engine, goes_alone}
use Rattle.drive_lone.proofs.session.go_on.Goals as goal

pub session-session-requires : goal.session-session-requires
session-session-requires g c =
    let at = c.requires.opened in
    record {
      ready = (
        g.I.Inputs.told c.args.inputs.now,
        lone_ready g.I.Inputs.told g.I.Inputs.is_open at.0 c.args.inputs.now c.args.feeder c.args.opened.observation
            at.1 c.args.opened.space at.2,
      );
    }

pub run_alone-end-requires-clause-begins : goal.run_alone-end-requires-clause-begins
run_alone-end-requires-clause-begins g c =
    let at = c.requires.opened in
    c.session-session.ensures.begins (g.I.Inputs.told c.args.inputs.now)
    (lone_ready g.I.Inputs.told g.I.Inputs.is_open at.0 c.args.inputs.now c.args.feeder c.args.opened.observation at.1
    c.args.opened.space at.2)

pub engine_of-requires : goal.engine_of-requires
engine_of-requires g c =
    let at = c.requires.opened in
    bank_engine g.I.Inputs.told g.I.Inputs.is_open at.0 c.args.inputs.now c.args.feeder c.args.opened.observation at.1
    c.args.opened.space _ c.run_alone-end.result at.2 c.session-session.ensures.bank c.run_alone-end.ensures.bank

pub returns-clause-fed : goal.returns-clause-fed
returns-clause-fed g c =
    let Fed : FeederSpace → Type 0 = λ space. FeedAnswers g.I.Inputs.told g.I.Inputs.is_calm g.I.Inputs.faults
    (feeder_over c.args.inputs.now space) (session_end c.run_alone-end.new.inputs c.run_alone-end.result) in
    let fed = subst Fed c.session-session.ensures.feeder c.run_alone-end.ensures.feed in
    c.sessions_feed_files.ensures (feeder_over c.args.inputs.now c.args.feeder)
    (session_end c.run_alone-end.new.inputs c.run_alone-end.result) fed

pub returns-clause-went : goal.returns-clause-went
returns-clause-went g c = λ s scope before opened read.
    let Fed : FeederSpace → Type 0 = λ space. FeedAnswers g.I.Inputs.told g.I.Inputs.is_calm g.I.Inputs.faults
    (feeder_over c.args.inputs.now space) (session_end c.run_alone-end.new.inputs c.run_alone-end.result) in
    let fed = subst Fed c.session-session.ensures.feeder c.run_alone-end.ensures.feed in
    let has = c.sessions_feed_files.ensures (feeder_over c.args.inputs.now c.args.feeder)
    (session_end c.run_alone-end.new.inputs c.run_alone-end.result) fed Searching s before opened.feeder.plan read in
    goes_alone c.firsts_stay_told.ensures g.I.Inputs.told g.I.Inputs.is_open g.I.Inputs.is_calm g.I.Inputs.faults s
    before c.args.inputs.now c.run_alone-end.new.inputs c.args.feeder c.args.opened.observation scope
    c.args.opened.space _ c.run_alone-end.result _ opened c.session-session.ensures.bank fed
    c.run_alone-end.ensures.bank read has refl refl refl c.engine_of.ensures c.lies_in_range.ensures

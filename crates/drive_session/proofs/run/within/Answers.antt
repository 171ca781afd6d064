use Rattle.std.proofs.Common.{ℕ, List, Err, sym, subst, map}
use Rattle.std.specs.Prelude.{string_bytes}
use Rattle.search_words.specs.Settings.{run_seen}
use Rattle.disk_feeder.specs.Feeder.{HasPlan}
use Rattle.search_opening.specs.Early.{StopsEarly, LeavesEarly}
use Rattle.run_outcome.specs.Runs.{task_of, settings_for}
use Rattle.drive_session.specs.Wholes.{LeavesInputs}
use Rattle.drive_session.proofs.Through.{begins}
use Rattle.drive_session.proofs.Wording.{read_since, leaves_before, memory_leaves, ok_is_no_err}
use Rattle.drive_session.proofs.run.within.Goals as goal

pub open_run-requires-clause-plan : goal.open_run-requires-clause-plan
open_run-requires-clause-plan g c = λ lifetimes lives.
    let s = c.args.run.now in
    let Starts : List ℕ → Type 0 = λ starts.
    HasPlan c.over-feeder.result (map string_bytes s.names.items) starts s.size s.max_bytes in
    let Names : List _ → Type 0 = λ names.
    HasPlan c.over-feeder.result (map string_bytes names) c.as_slice-2.result.now s.size s.max_bytes in
    subst Starts c.as_slice-2.ensures.value
    (subst Names c.as_slice.ensures.value (c.over-feeder.ensures.opened _ _ _ _ c.in-Ok.ensures).0)

pub open_run-requires-clause-fresh : goal.open_run-requires-clause-fresh
open_run-requires-clause-fresh g c = λ lifetimes lives. (c.over-feeder.ensures.opened _ _ _ _ c.in-Ok.ensures).1

pub returns-in-Ok-open_run-clause-serves : goal.returns-in-Ok-open_run-clause-serves
returns-in-Ok-open_run-clause-serves g c =
    let read = read_since g.I.Inputs.told g.I.Inputs.is_calm g.I.Inputs.faults _ c.args.inputs.now
    c.over-feeder.result.inputs.now c.open_run.new.feeder c.over-feeder.ensures.inputs c.in-Ok-open_run.ensures.inputs
    c.in-Ok-open_run.ensures.begins in
    (c.go_on-inputs.ensures.fed (task_of c.args.purpose) (settings_for c.args.purpose c.args.run.now) c.args.inputs.now
    c.in-Ok-open_run.ensures.opened.ready.plan read).serves

pub returns-in-Ok-open_run-clause-driven : goal.returns-in-Ok-open_run-clause-driven
returns-in-Ok-open_run-clause-driven g c =
    let read = read_since g.I.Inputs.told g.I.Inputs.is_calm g.I.Inputs.faults _ c.args.inputs.now
    c.over-feeder.result.inputs.now c.open_run.new.feeder c.over-feeder.ensures.inputs c.in-Ok-open_run.ensures.inputs
    c.in-Ok-open_run.ensures.begins in
    c.go_on-inputs.ensures.went (task_of c.args.purpose) (settings_for c.args.purpose c.args.run.now) c.args.inputs.now
    c.in-Ok-open_run.ensures.opened read

pub returns-in-Err-open_run-clause-stopped : goal.returns-in-Err-open_run-clause-stopped
returns-in-Err-open_run-clause-stopped g c =
    let s = settings_for c.args.purpose c.args.run.now in
    let task = task_of c.args.purpose in
    let told = g.I.Inputs.told in
    let Early : _ → Type 0 = λ i. StopsEarly task s (told i) c.in-Err-open_run.stop in
    c.early_stops_are_said.ensures.said task s (told c.args.inputs.now) c.in-Err-open_run.stop
    (subst Early c.over-feeder.ensures.inputs c.in-Err-open_run.ensures.stopped)

-- ---- what is left of the inputs

pub returns-in-Err-clause-leaves : goal.returns-in-Err-clause-leaves
returns-in-Err-clause-leaves g c =
    let Calm : _ → Type 0 = g.I.Inputs.is_calm in
    memory_leaves (task_of c.args.purpose) (settings_for c.args.purpose c.args.run.now) (Calm c.args.inputs.now)
    (g.I.Inputs.told c.args.inputs.now)

pub returns-in-Ok-open_run-clause-leaves : goal.returns-in-Ok-open_run-clause-leaves
returns-in-Ok-open_run-clause-leaves g c =
    let s = settings_for c.args.purpose c.args.run.now in
    let task = task_of c.args.purpose in
    let told = g.I.Inputs.told in
    let opened = c.in-Ok-open_run.ensures.opened in
    let read = read_since told g.I.Inputs.is_calm g.I.Inputs.faults _ c.args.inputs.now
    c.over-feeder.result.inputs.now c.open_run.new.feeder c.over-feeder.ensures.inputs c.in-Ok-open_run.ensures.inputs
    c.in-Ok-open_run.ensures.begins in
    record {
      unread = λ want. absurd (ok_is_no_err _ _ want);
      broken = λ failed.
          (c.go_on-inputs.ensures.fed task s c.args.inputs.now opened.ready.plan read).broken failed
          (begins told g.I.Inputs.is_open task s opened.offsets c.open_run.new.feeder
          c.in-Ok-open_run.opened.observations.items c.in-Ok-open_run.opened.spaces.stage opened.ready);
    }

pub returns-in-Err-open_run-clause-leaves : goal.returns-in-Err-open_run-clause-leaves
returns-in-Err-open_run-clause-leaves g c =
    let s = settings_for c.args.purpose c.args.run.now in
    let task = task_of c.args.purpose in
    let told = g.I.Inputs.told in
    let Calm : _ → Type 0 = g.I.Inputs.is_calm in
    let now = c.args.inputs.now in
    let stop = c.in-Err-open_run.stop in
    let After : _ → Type 0 = λ i. LeavesInputs task s (Calm now) (told now) (told i) (Err stop) in
    let Before : _ → Type 0 = λ i. LeavesEarly (run_seen c.args.run.now) (Calm i) (told i) (told c.open_run.new.feeder.inputs.now) stop in
    subst After (sym c.close.ensures.inputs)
    (leaves_before task s (Calm now) (told now) (told c.open_run.new.feeder.inputs.now) stop
    (c.early_stops_are_said.ensures.leave now task s (told now) (told c.open_run.new.feeder.inputs.now) stop
    (subst Before c.over-feeder.ensures.inputs c.in-Err-open_run.ensures.leaves)))

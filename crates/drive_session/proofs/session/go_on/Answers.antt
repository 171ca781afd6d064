use Rattle.std.proofs.Common.{subst, sym, refl}
use Rattle.std.specs.Prelude.{IsSome}
use Rattle.drive_session.specs.Wholes.{IsDriven}
use Rattle.drive_session.proofs.Staging.{records_ready, searches_ready}
use Rattle.drive_session.proofs.session.go_on.Goals as goal

pub with_recorder-requires-clause-ready : goal.with_recorder-requires-clause-ready
with_recorder-requires-clause-ready g c = λ κs lives.
    let at = c.requires.opened in
    let IsOpen : _ → Type 0 = g.F.Files.is_open in (
      at.0,
      at.1,
      at.2.offsets,
      records_ready g.I.Inputs.told g.I.Inputs.is_open g.F.Files.is_open at.0 at.1 c.args.feeder
          c.args.opened.observations.items c.args.opened.spaces c.in-Some.space c.over-recorder.result at.2 c.in-Some.is
          c.over-recorder.ensures.fresh
          (λ is_open. c.requires.closed (subst IsSome (sym c.in-Some.is) refl)
          (subst IsOpen c.over-recorder.ensures.files is_open)),
    )

pub returns-in-Some-clause-went : goal.returns-in-Some-clause-went
returns-in-Some-clause-went g c = λ task s before opened read.
    let IsOpen : _ → Type 0 = g.F.Files.is_open in
    let ready = records_ready g.I.Inputs.told g.I.Inputs.is_open g.F.Files.is_open task s c.args.feeder
    c.args.opened.observations.items c.args.opened.spaces c.in-Some.space c.over-recorder.result opened c.in-Some.is
    c.over-recorder.ensures.fresh
    (λ is_open. c.requires.closed (subst IsSome (sym c.in-Some.is) refl)
    (subst IsOpen c.over-recorder.ensures.files is_open)) in
    let Driven : _ → Type 0 = λ files. IsDriven task s (g.I.Inputs.told before) g.F.Files.is_open g.F.Files.seen files
    c.with_recorder.result.files.now c.with_recorder.result.done in
    subst Driven c.over-recorder.ensures.files
    (c.with_recorder.ensures.went task s opened.offsets before ready read)

pub without_recorder-requires-clause-ready : goal.without_recorder-requires-clause-ready
without_recorder-requires-clause-ready g c = λ κs lives.
    let at = c.requires.opened in (
      at.0,
      at.1,
      at.2.offsets,
      searches_ready g.I.Inputs.told g.I.Inputs.is_open at.0 at.1 c.args.feeder c.args.opened.observations.items
          c.args.opened.spaces at.2 c.in-None.is,
    )

pub returns-in-None-clause-went : goal.returns-in-None-clause-went
returns-in-None-clause-went g c = λ task s before opened read.
    c.without_recorder.ensures.went task s opened.offsets before
    (searches_ready g.I.Inputs.told g.I.Inputs.is_open task s c.args.feeder c.args.opened.observations.items
    c.args.opened.spaces opened c.in-None.is) read

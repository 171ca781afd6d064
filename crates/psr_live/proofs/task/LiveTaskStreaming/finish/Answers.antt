use Rattle.std.proofs.Common.{◌≤◌, refl, arith}
use Rattle.psr_live.specs.Task.{spectra_of, task_of}
use Rattle.psr_live.proofs.Streamed.{so_written, untouched}
use Rattle.psr_live.proofs.task.LiveTaskStreaming.finish.Goals as goal

pub returns-then-spectra-place-clause-broke : goal.returns-then-spectra-place-clause-broke
returns-then-spectra-place-clause-broke g c = λ header bytes start stands.
    let o = c.args.observation.now in
    let t = task_of c.args.self.now in
    let count = c.spectra-spectra.ensures o t bytes stands.was in
    let few = c.if-spectra-place.true in (
      refl,
      count,
      few,
      untouched o t bytes c.args.stream.now start (g.K.Sink.seen c.args.out.now) stands c.live_data_grow.ensures
          (omega (arith, count, few)),
    )

pub returns-in-Ok-clause-finished : goal.returns-in-Ok-clause-finished
returns-in-Ok-clause-finished g c = λ header bytes start stands.
    let o = c.args.observation.now in
    let t = task_of c.args.self.now in
    let count = c.spectra-spectra.ensures o t bytes stands.was in
    let many = c.if-spectra-place.false in
    let reach : t.from.place ≤ spectra_of o bytes = omega (arith, count, many) in (
      reach,
      (c.in-Ok.ensures.wrote t bytes start stands.was
          (so_written o t bytes c.args.stream.now start (g.K.Sink.seen c.args.out.now) stands)).all,
    )

pub returns-in-Err-clause-broke : goal.returns-in-Err-clause-broke
returns-in-Err-clause-broke g c = λ header bytes start stands.
    let o = c.args.observation.now in
    let t = task_of c.args.self.now in
    let count = c.spectra-spectra.ensures o t bytes stands.was in
    let many = c.if-spectra-place.false in
    let reach : t.from.place ≤ spectra_of o bytes = omega (arith, count, many) in (
      reach,
      (c.in-Err.ensures.wrote t bytes start stands.was
          (so_written o t bytes c.args.stream.now start (g.K.Sink.seen c.args.out.now) stands)).front,
    )

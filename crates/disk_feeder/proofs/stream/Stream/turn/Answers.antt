use Rattle.std.proofs.Common.{◌+◌, ◌/◌, ◌≤◌, length, refl, sym, ◌∙◌, subst, arith}
use Rattle.dada_hdu.specs.declared.hdu.Hdu.{Hdu}
use Rattle.dada_hdu.specs.Passes.{data_shape}
use Rattle.disk_feeder.specs.declared.stream.Stream.{Stream}
use Rattle.disk_feeder.specs.Plan.{Plan}
use Rattle.disk_feeder.specs.Streams.{KeepsStream}
use Rattle.disk_feeder.specs.Turns.{sealed_headers, sealed_blocks}
use Rattle.disk_feeder.specs.Feeding.{FitsRings}
use Rattle.disk_feeder.proofs.Turning.{runs_filled, has_room, last_is}
use Rattle.disk_feeder.proofs.stream.Stream.turn.Goals as goal

fits_still : (hdu : Hdu) (old mid : Stream) → KeepsStream old mid → FitsRings hdu old → FitsRings hdu mid
fits_still hdu old mid keeps fits =
    let Q : Plan → Type 0 = λ p. p.max_bytes / length old.block.items + length p.starts + 1
    ≤ (data_shape hdu).max_blocks in
    record {
      size = fits.size ∙ sym keeps.size;
      blocks = rw keeps.size (subst Q (sym keeps.plan) fits.blocks);
    }

pub seal-requires-clause-block : goal.seal-requires-clause-block
seal-requires-clause-block g c =
    let old = c.args.self.now in
    let mid = c.fill-due.new.self in
    let pass = c.args.pass.now in
    let fits = fits_still c.args.hdu.now old mid c.fill-due.ensures.kept c.requires.stands.fits in
    record {
      ring = c.requires.ring;
      size_is = fits.size;
      room = has_room c.streams_are_short.ensures c.args.hdu.now mid (g.I.Inputs.told c.fill-due.new.inputs)
          (sealed_headers pass) (sealed_blocks pass) fits
          (runs_filled old mid (g.I.Inputs.told c.args.inputs.now) (g.I.Inputs.told c.fill-due.new.inputs)
          (sealed_headers pass) (sealed_blocks pass) c.requires.running c.requires.stands.feeding
          c.fill-due.ensures.kept
          (c.fill-due.ensures.filled (sealed_blocks pass)));
    }

pub seal-requires-clause-last : goal.seal-requires-clause-last
seal-requires-clause-last g c =
    let old = c.args.self.now in
    let mid = c.fill-due.new.self in
    let pass = c.args.pass.now in
    let run = runs_filled old mid (g.I.Inputs.told c.args.inputs.now) (g.I.Inputs.told c.fill-due.new.inputs)
    (sealed_headers pass) (sealed_blocks pass) c.requires.running c.requires.stands.feeding c.fill-due.ensures.kept
    (c.fill-due.ensures.filled (sealed_blocks pass)) in
    λ is.
    let last = last_is mid (g.I.Inputs.told c.fill-due.new.inputs) (sealed_blocks pass) c.fill-due.result
    c.fill-due.ensures.due run.stream is in
    record { short = last.0; over = last.1 }

pub returns-clause-feeding : goal.returns-clause-feeding
returns-clause-feeding g c =
    let old = c.args.self.now in
    let mid = c.fill-due.new.self in
    let pass = c.args.pass.now in
    c.seal.ensures.feeds (g.I.Inputs.told c.fill-due.new.inputs)
    (runs_filled old mid (g.I.Inputs.told c.args.inputs.now) (g.I.Inputs.told c.fill-due.new.inputs)
    (sealed_headers pass) (sealed_blocks pass) c.requires.running c.requires.stands.feeding c.fill-due.ensures.kept
    (c.fill-due.ensures.filled (sealed_blocks pass)))

pub returns-clause-inputs : goal.returns-clause-inputs
returns-clause-inputs g c =
    let after = c.seal.ensures.after in
    let reads = c.fill-due.ensures.inputs in
    record {
      names = reads.names;
      count = reads.count;
      quiet = λ fine. reads.quiet (after.failed fine);
      since = λ k was. after.since k (g.I.Inputs.faults c.fill-due.new.inputs) (reads.since k was);
      calm = reads.calm;
      missing = λ calm was. after.missing (g.I.Inputs.told c.fill-due.new.inputs) (reads.missing calm was);
      unopened = λ calm before read was.
          after.unopened before (g.I.Inputs.told c.fill-due.new.inputs) (reads.unopened calm before read was);
    }

pub returns-then-self-clause-inputs : goal.returns-then-self-clause-inputs
returns-then-self-clause-inputs g c =
    let after = c.seal_header.ensures.after in
    record {
      names = refl;
      count = omega arith;
      quiet = λ fine. refl;
      since = λ k was. after.since k (g.I.Inputs.faults c.args.inputs.now) was;
      calm = λ calm. calm;
      missing = λ calm was. after.missing (g.I.Inputs.told c.args.inputs.now) was;
      unopened = λ calm before read was. after.unopened before (g.I.Inputs.told c.args.inputs.now) was;
    }

pub returns-clause-reads_on : goal.returns-clause-reads_on
returns-clause-reads_on g c = λ before was.
    c.seal.ensures.reads_on before (g.I.Inputs.told c.fill-due.new.inputs) (c.fill-due.ensures.reads_on before was)

pub returns-then-self-clause-reads_on : goal.returns-then-self-clause-reads_on
returns-then-self-clause-reads_on g c = λ before was.
    c.seal_header.ensures.reads_on before (g.I.Inputs.told c.args.inputs.now) was

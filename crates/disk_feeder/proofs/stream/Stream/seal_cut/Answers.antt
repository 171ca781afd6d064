use Rattle.std.proofs.Common.{refl, Some, Bool, take, ap, ◌∙◌}
use Rattle.ring_ends.specs.declared.passes.WriterPass.{WriterPass}
use Rattle.ring_ends.specs.Passes.{writer_knows}
use Rattle.disk_feeder.specs.declared.due.Due.TheVariants.{Stopped}
use Rattle.disk_feeder.specs.History.{fate_of}
use Rattle.disk_feeder.specs.Sources.{plan_of}
use Rattle.disk_feeder.proofs.Fates.{is_stopped, of_fate}
use Rattle.disk_feeder.specs.Turns.{sealed_headers, sealed_blocks}
use Rattle.disk_feeder.specs.Feeding.{header_entries, headers_sealed}
use Rattle.disk_feeder.proofs.Runs.{blocks_full, with_due}
use Rattle.disk_feeder.proofs.Sealings.{cut_sealed, cut_at, cut_past}
use Rattle.disk_feeder.proofs.OfSource.{plan_place}
use Rattle.disk_feeder.proofs.stream.Stream.seal_cut.Goals as goal

pub returns-in-Ok-clause-feeds : goal.returns-in-Ok-clause-feeds
returns-in-Ok-clause-feeds c = λ told was.
    let old = c.args.self.now in
    let plan = plan_of old.source in
    let pass = c.args.pass.now in
    let pass' = c.write_block.new.pass in
    let filled = with_due old told (Some (Stopped c.args.end)) (sealed_blocks pass) c.requires.due was.stream in
    record {
      ended = rw c.write_block.ensures.space
          (cut_sealed plan told old.source.place old.block.items old.held c.args.end (sealed_headers pass')
          (sealed_blocks pass) (sealed_blocks pass') filled
          (plan_place old.source).total was.there
          (ap (λ (p : WriterPass). (writer_knows p).sealed) c.write_block.ensures.header ∙ was.sealed
          ∙ ap (λ (b : Bool). header_entries (take (headers_sealed b old.source.place.transfer) plan.headers))
          c.requires.header)
          c.in-Ok.ensures.sealed);
      cut = λ failed files are.
          rw c.write_block.ensures.space
          (cut_at plan told old.source.place old.block.items old.held c.args.end (sealed_blocks pass)
          (sealed_blocks pass') filled (plan_place old.source).total c.in-Ok.ensures.sealed failed files are);
      past = λ failed.
          rw c.write_block.ensures.space
          (cut_past plan told old.source.place old.block.items old.held c.args.end (sealed_blocks pass)
          (sealed_blocks pass') filled (plan_place old.source).total c.in-Ok.ensures.sealed);
    }

pub returns-in-Err-clause-feeds : goal.returns-in-Err-clause-feeds
returns-in-Err-clause-feeds c = λ told was.
    blocks_full c.args.self.now _ told c.args.pass.now c.write_block.new.pass _ _ refl c.in-Err.ensures.kept refl refl
    refl c.requires.running c.in-Err.ensures.full c.write_block.ensures.header was

pub returns-in-Ok-clause-reads_on : goal.returns-in-Ok-clause-reads_on
returns-in-Ok-clause-reads_on c = λ before told was.
    let old = c.args.self.now in
    of_fate old (fate_of c.args.end) before told
    (is_stopped old.due old.end c.args.end c.requires.due c.requires.running)
    was

pub returns-in-Err-clause-reads_on : goal.returns-in-Err-clause-reads_on
returns-in-Err-clause-reads_on c = λ before told was. was

use Rattle.std.proofs.Common.{◌≡◌, Bool, length, take, ap, ◌∙◌, arith}
use Rattle.ring_ends.specs.declared.passes.WriterPass.{WriterPass}
use Rattle.ring_ends.specs.Passes.{writer_knows}
use Rattle.disk_feeder.specs.declared.source.Source.{Source}
use Rattle.disk_feeder.specs.History.{fate}
use Rattle.disk_feeder.specs.Sources.{plan_of}
use Rattle.disk_feeder.proofs.Fates.{fate_in, to_fate}
use Rattle.disk_feeder.specs.Turns.{sealed_headers, sealed_blocks}
use Rattle.disk_feeder.specs.Feeding.{header_entries, headers_sealed}
use Rattle.disk_feeder.proofs.Runs.{feeds_running, headers_full, stream_is}
use Rattle.disk_feeder.proofs.Sealings.{header_sealed}
use Rattle.disk_feeder.proofs.stream.Stream.seal_header.Goals as goal

pub returns-in-Ok-clause-feeds : goal.returns-in-Ok-clause-feeds
returns-in-Ok-clause-feeds c = λ told was.
    let old = c.args.self.now in
    let new = c.begin_transfer.new.self in
    let pass = c.args.pass.now in
    let pass' = c.write_header.new.pass in
    let source : new.source ≡ old.source = c.begin_transfer.ensures.source in
    let headers = old.source.headers.items in
    let t = old.source.place.transfer in
    let there = was.there in
    let headed : length headers ≡ length old.source.starts.now = old.source.headed in
    feeds_running new told (sealed_headers pass') (sealed_blocks pass')
    (c.begin_transfer.ensures.end ∙ c.requires.running)
    (record {
      there = rw source there;
      accepted = rw source was.accepted;
      sealed = rw (c.begin_transfer.ensures.header_due, source)
          (header_sealed headers t c.header.result.now (sealed_headers pass) (sealed_headers pass') c.header.ensures
          (omega arith)
          (was.sealed ∙ ap (λ (b : Bool). header_entries (take (headers_sealed b t) headers)) c.requires.header)
          c.in-Ok.ensures.sealed);
      stream = rw (ap (λ (p : WriterPass). (writer_knows p).sealed) c.write_header.ensures.blocks)
          (stream_is new old.source told old.block.items old.held old.due (sealed_blocks pass) source
          (ap (λ v. v.items) c.begin_transfer.ensures.block) c.begin_transfer.ensures.held c.begin_transfer.ensures.due
          was.stream);
    })

pub returns-in-Err-clause-feeds : goal.returns-in-Err-clause-feeds
returns-in-Err-clause-feeds c = λ told was.
    headers_full c.args.self.now told c.args.pass.now c.write_header.new.pass _ _ c.requires.running
    c.in-Err.ensures.full c.write_header.ensures.blocks was

pub returns-in-Ok-clause-reads_on : goal.returns-in-Ok-clause-reads_on
returns-in-Ok-clause-reads_on c = λ before told was.
    let old = c.args.self.now in
    let new = c.begin_transfer.new.self in
    to_fate new (fate old.due old.end) (plan_of old.source) old.source.place before told
    (fate_in new.due old.due new.end old.end c.begin_transfer.ensures.due c.begin_transfer.ensures.end)
    (ap plan_of c.begin_transfer.ensures.source) (ap (λ (s : Source). s.place) c.begin_transfer.ensures.source) was

pub returns-in-Err-clause-reads_on : goal.returns-in-Err-clause-reads_on
returns-in-Err-clause-reads_on c = λ before told was. was

use Rattle.std.proofs.Common.{◌≡◌, false, List, None, take, refl, ap, ◌∙◌}
use Rattle.psr_base.specs.Told.{Told}
use Rattle.ring_blocks.specs.declared.Entry.{Entry}
use Rattle.disk_feeder.specs.declared.stream.Stream.{Stream}
use Rattle.disk_feeder.specs.Sources.{plan_of}
use Rattle.disk_feeder.specs.Feeding.{header_entries, headers_sealed}
use Rattle.disk_feeder.specs.Handing.{IsHanding}
use Rattle.disk_feeder.proofs.Runs.{feeds_running, stream_is}
use Rattle.disk_feeder.proofs.Turning.{runs}
use Rattle.disk_feeder.proofs.stream.Stream.pass_header.Goals as goal

passed : (old new : Stream) (told : Told) (blocks : List Entry) → new.source ≡ old.source → new.block ≡ old.block →
    new.held ≡ old.held → new.due ≡ old.due → new.header_due ≡ false → new.end ≡ old.end → old.end ≡ None →
    IsHanding old told blocks → IsHanding new told blocks
passed old new told blocks source block held due header end running was =
    let r = runs old told was.0 blocks running was.1 in (
      header_entries (take (headers_sealed new.header_due new.source.place.transfer) (plan_of new.source).headers),
      feeds_running new told
          (header_entries (take (headers_sealed new.header_due new.source.place.transfer) (plan_of
          new.source).headers)) blocks (end ∙ running)
          (record {
            there = rw source r.there;
            accepted = rw source r.accepted;
            sealed = refl;
            stream = stream_is new old.source told old.block.items old.held old.due blocks source
                (ap (λ v. v.items) block) held due r.stream;
          }),
    )

pub returns-clause-hands : goal.returns-clause-hands
returns-clause-hands c = λ told blocks was.
    passed c.args.self.now _ told blocks refl refl refl refl refl refl c.requires.running was

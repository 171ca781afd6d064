-- A stream whose block was made shorter.
use Rattle.std.proofs.Common.{◌≡◌, ◌∙◌}
use Rattle.psr_base.specs.Told.{Told}
use Rattle.disk_feeder.specs.declared.stream.Stream.{Stream}
use Rattle.disk_feeder.specs.Beginning.{IsBegunStream}
use Rattle.disk_feeder.specs.Streams.{StreamRead}

pub cut_begun : (old new : Stream) → new.source ≡ old.source → new.held ≡ old.held → new.due ≡ old.due →
    new.header_due ≡ old.header_due → new.end ≡ old.end → (told : Told) → IsBegunStream told old →
    IsBegunStream told new
cut_begun old new source held due header_due end told was =
    record {
      place = rw source was.place;
      one = rw source was.one;
      held = held ∙ was.held;
      due = due ∙ was.due;
      header_due = header_due ∙ was.header_due;
      end = end ∙ was.end;
      headers = rw source was.headers;
      left = rw source was.left;
    }

pub cut_read : (old new : Stream) → new.source ≡ old.source → new.due ≡ old.due → new.end ≡ old.end →
    (before told : Told) → StreamRead before told old → StreamRead before told new
cut_read old new source due end before told was = rw (source, due, end) was

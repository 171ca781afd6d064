use Rattle.std.proofs.Common.{true, refl, ap}
use Rattle.ring_ends.specs.declared.passes.ReaderPass.{ReaderPass}
use Rattle.ring_ends.specs.Passes.{reader_knows}
use Rattle.session_readers.proofs.Turning.{on_still, stepped_still, read_header}
use Rattle.session_readers.proofs.shard.ShardActor.take_header.Goals as goal

pub returns : goal.returns
returns c =
    let hdu = c.args.hdu.now in
    let x = c.args.self.now in
    let old = c.in-Here.reader in
    let new = c.read_header.new.reader in
    let blocks = c.read_header.ensures.blocks in
    let same = ap (λ (p : ReaderPass). (reader_knows p).cleared) blocks in
    record {
      on = on_still hdu x _ old new c.in-Here.is refl c.read_header.ensures.reads same refl refl refl refl refl
          c.requires.on;
      stepped = stepped_still hdu x _ old new c.in-Here.is refl true c.requires.next
          (read_header old new c.read_header.ensures.header blocks) same refl refl refl refl;
    }

use Rattle.std.proofs.Common.{◌≡◌, false, ◌+◌, length, refl, sym, ◌∙◌, arith}
use Rattle.std.specs.Prelude.{if◌then◌else◌}
use Rattle.ring_blocks.specs.declared.Entry.{Entry}
use Rattle.dada_hdu.specs.Passes.{data_shape}
use Rattle.stream_model.specs.Blocks.{is_end}
use Rattle.session_readers.proofs.Engines.{can_end, fed_then_ended}
use Rattle.session_readers.proofs.Turning.{on_still, stepped_still, within_was, done_below, one_most, takes_block, ended_as, on_fed, stepped_fed}
use Rattle.session_readers.proofs.shard.ShardActor.take_block.Goals as goal
use Rattle.session_readers.specs.Banks.{WasFedAt, engines_of}

pub feed_block-requires-clause-ready : goal.feed_block-requires-clause-ready
feed_block-requires-clause-ready c = λ block within fits.
    let x = c.args.self.now in
    takes_block c.args.hdu.now x (length block.bytes) c.requires.on c.requires.running fits
    (within_was x c.in-Here.reader (data_shape c.args.hdu.now).max_blocks c.in-Here.is within)

pub returns-in_default-feed_block-clause-on : goal.returns-in_default-feed_block-clause-on
returns-in_default-feed_block-clause-on c =
    let missed = c.in_default-feed_block.ensures.missed refl in
    on_still c.args.hdu.now c.args.self.now _ c.in-Here.reader c.feed_block.new.reader c.in-Here.is refl
    c.in_default-feed_block.ensures.reads missed.cleared missed.bank_is refl refl refl refl c.requires.on

pub returns-in_default-feed_block-clause-stepped : goal.returns-in_default-feed_block-clause-stepped
returns-in_default-feed_block-clause-stepped c =
    let missed = c.in_default-feed_block.ensures.missed refl in
    stepped_still c.args.hdu.now c.args.self.now _ c.in-Here.reader c.feed_block.new.reader c.in-Here.is refl false
    c.requires.next missed.read missed.cleared missed.bank_is refl refl refl

pub end_or_search-requires : goal.end_or_search-requires
end_or_search-requires c =
    let hdu = c.args.hdu.now in
    let x = c.args.self.now in
    let p = c.in-Some.ensures.passed in
    can_end (engines_of x.part) (engines_of c.feed_block.new.bank) x.done p.block.bytes
    (takes_block hdu x (length p.block.bytes) c.requires.on c.requires.running p.fits
    (within_was x c.in-Here.reader (data_shape hdu).max_blocks c.in-Here.is p.within)) p.fed

pub overflow_add-self : goal.overflow_add-self
overflow_add-self c =
    let below = done_below c.args.hdu.now c.args.self.now c.requires.on c.requires.running in
    let most = one_most (is_end c.in-Some.taken.mark) in
    omega arith

pub returns : goal.returns
returns c =
    let hdu = c.args.hdu.now in
    let x = c.args.self.now in
    let p = c.in-Some.ensures.passed in
    let block : Entry = p.block in
    let banks = engines_of c.end_or_search.new.bank in
    let fed : WasFedAt (engines_of x.part) x.done block.bytes (is_end block.mark) banks =
    rw (sym p.mark) (fed_then_ended (engines_of x.part) (engines_of c.feed_block.new.bank) banks x.done block.bytes
    (is_end c.in-Some.taken.mark) p.fed c.end_or_search.ensures) in
    let done : x.done + c.ended_with.result ≡ x.done + (if is_end block.mark then 1 else 0) =
    rw (c.ended_with.ensures, p.mark) refl in
    record {
      on = on_fed hdu x _ c.in-Here.reader c.feed_block.new.reader c.in-Here.is refl c.ends_are_counted.ensures
          c.entries_are_of_transfers.ensures block p.cleared p.fits c.requires.on fed c.in-Some.ensures.reads refl
          refl c.requires.running done (ended_as c.ends_stream-self.result c.count-transfers.result
          (length banks) (x.done + c.ended_with.result) c.in-Some.taken.mark block.mark
          c.ends_stream-self.ensures (c.count-transfers.ensures.count ∙ sym fed.count) p.mark);
      stepped = stepped_fed hdu x _ c.in-Here.reader c.feed_block.new.reader c.in-Here.is refl
          c.ends_are_counted.ensures c.entries_are_of_transfers.ensures block p.cleared p.fits c.requires.on fed false
          c.requires.next p.read refl;
    }

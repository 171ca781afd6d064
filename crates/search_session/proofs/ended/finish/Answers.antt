use Rattle.std.proofs.Common.{◌≡◌, List, ◌++◌, Option, length, ◌∙◌}
use Rattle.std.proofs.lemmas.List.{length-map}
use Rattle.std.specs.Prelude.{option_map}
use Rattle.dada_hdu.specs.declared.ended.HduEnded.{HduEnded}
use Rattle.dada_hdu.specs.Passes.{header_ring, data_ring, header_end, data_end}
use Rattle.dada_hdu.specs.Ended.{RingFinished}
use Rattle.session_readers.specs.declared.shard.ShardActor.{ShardActor}
use Rattle.session_readers.specs.declared.record.RecordActor.{RecordActor}
use Rattle.search_session.specs.Books.{HaveEngines, AreBooks, HasBooks, transfers_searched, passes_of, banks_of}
use Rattle.search_session.specs.Ends.{as_passes, passes_with}
use Rattle.search_session.proofs.Finishing.{passes_in_order, banks_have, cleared_is, cleared_begins, gives_bank, last_cleared, last_begins, last_headers}
use Rattle.search_session.proofs.ended.finish.Goals as goal

-- what is given to the end of the rings are the passes of the shards, and the recorder's after them
all_passes : {F : Type 0} (shards : List (Option ShardActor)) (recorder : Option (RecordActor F))
    (passes given : List (Option HduEnded)) (last : Option HduEnded) → given ≡ passes ++ as_passes last →
    passes ≡ passes_of shards → last ≡ option_map (λ (x : RecordActor F). x.pass) recorder →
    given ≡ passes_with shards recorder
all_passes shards recorder passes given last is first one =
    rw (first, one) at is

pub finish-blocks-requires-clause-readers : goal.finish-blocks-requires-clause-readers
finish-blocks-requires-clause-readers g c =
    let shards = c.args.shards.items in
    let recorder = c.args.recorder in
    let done = c.requires.done in
    rw (all_passes shards recorder c.part_shards-passes.result.0.items c.with_pass.result.items
    c.part_recorder-last.result.pass c.with_pass.ensures c.part_shards-passes.ensures.passes
    c.part_recorder-last.ensures.pass)
    (c.order_is_enough.ensures c.args.hdu (passes_with shards recorder)
    (passes_in_order c.args.hdu done.0 shards recorder done.1))

pub books_of-books-requires : goal.books_of-books-requires
books_of-books-requires g c =
    let done = c.requires.done in (
      done.0,
      rw c.part_shards-passes.ensures.banks (banks_have c.args.hdu done.0 c.args.shards.items c.args.recorder done.1),
    )

pub returns-clause-shards : goal.returns-clause-shards
returns-clause-shards g c = λ s x at.
    let hdu = c.args.hdu in
    let shards = c.args.shards.items in
    let recorder = c.args.recorder in
    let done = c.requires.done in
    let blocks = c.finish-blocks.result.blocks in
    let writer = c.args.feeder.pass.blocks in
    let end : RingFinished (data_ring hdu) writer data_end (passes_with shards recorder) blocks =
    rw (all_passes shards recorder c.part_shards-passes.result.0.items c.with_pass.result.items
    c.part_recorder-last.result.pass c.with_pass.ensures c.part_shards-passes.ensures.passes
    c.part_recorder-last.ensures.pass) at c.finish-blocks.ensures.blocks in
    let banks = c.part_shards-passes.ensures.banks in
    let books : HasBooks (banks_of shards) c.books_of-books.result.items =
    rw banks at (c.books_of-books.ensures done.0 (rw banks (banks_have hdu done.0 shards recorder done.1))).each in
    record {
      cleared = cleared_is hdu done.0 shards recorder done.1 writer blocks end s x at;
      begins = cleared_begins hdu done.0 shards recorder done.1 writer blocks end s x at;
      books = λ k e has. books k s x.part e (gives_bank shards s x at) has;
      spectra = λ first k e has. c.spectra_of-spectra.ensures.each k x.part e
          (rw (c.as_slice.ensures.value, banks) (gives_bank shards 0 x (rw first at at))) has;
    }

pub returns-clause-counted : goal.returns-clause-counted
returns-clause-counted g c = λ transfers done.
    let shards = c.args.shards.items in
    let long : length (banks_of shards) ≡ length shards = length-map shards
    (option_map (λ (y : ShardActor). y.part)) in
    let have : HaveEngines transfers (banks_of shards) =
    banks_have c.args.hdu transfers shards c.args.recorder done in
    let books : AreBooks transfers (banks_of shards) c.books_of-books.result.items =
    rw c.part_shards-passes.ensures.banks at
    (c.books_of-books.ensures transfers (rw c.part_shards-passes.ensures.banks have)) in
    let shown : c.as_slice.result.now ≡ banks_of shards =
    c.as_slice.ensures.value ∙ c.part_shards-passes.ensures.banks in
    let spectra : length c.spectra_of-spectra.result.items ≡ transfers_searched (length (banks_of shards)) transfers =
    rw shown at (c.spectra_of-spectra.ensures.count transfers (rw shown have)) in
    record {
      books_count = rw long at books.count;
      shards_count = rw long at books.shards;
      spectra_count = rw long at spectra;
    }

pub returns-clause-recorder : goal.returns-clause-recorder
returns-clause-recorder g c = λ x is.
    let hdu = c.args.hdu in
    let shards = c.args.shards.items in
    let recorder = c.args.recorder in
    let done = c.requires.done in
    let header = c.finish-blocks.result.header in
    let blocks = c.finish-blocks.result.blocks in
    let header_writer = c.args.feeder.pass.header in
    let writer = c.args.feeder.pass.blocks in
    let passes = all_passes shards recorder c.part_shards-passes.result.0.items c.with_pass.result.items
    c.part_recorder-last.result.pass c.with_pass.ensures c.part_shards-passes.ensures.passes
    c.part_recorder-last.ensures.pass in
    let end : RingFinished (data_ring hdu) writer data_end (passes_with shards recorder) blocks =
    rw passes at c.finish-blocks.ensures.blocks in
    let header_finished : RingFinished (header_ring hdu) header_writer header_end (passes_with shards recorder) header =
    rw passes at c.finish-blocks.ensures.header in
    let readers = c.order_is_enough.ensures hdu (passes_with shards recorder)
    (passes_in_order hdu done.0 shards recorder done.1) in
    let parts = c.part_recorder-last.ensures.some x is in
    record {
      recorded = parts.0;
      files = parts.1.0;
      given = parts.1.1;
      now = parts.1.2;
      same_reference = parts.1.3;
      cleared = last_cleared hdu done.0 shards recorder done.1 writer blocks end x is;
      begins = last_begins hdu done.0 shards recorder done.1 writer blocks end x is;
      headers_begin = rw header_finished.sealed at
          (last_headers hdu done.0 shards recorder done.1 writer blocks end x is header_writer header header_finished
          readers);
    }

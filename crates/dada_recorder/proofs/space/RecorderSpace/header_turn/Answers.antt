use Rattle.std.proofs.Common.{[], ◌∷◌, ◌++◌, refl, ap, ◌∙◌, length, drop}
use Rattle.ring_ends.specs.declared.passes.ReaderPass.{ReaderPass}
use Rattle.ring_ends.specs.Passes.{reader_knows}
use Rattle.dada_recorder.specs.Turns.{cleared_headers, cleared_blocks}
use Rattle.dada_recorder.proofs.Turning.{cleared_is, front_is, written_is, none_cleared, has_turned, has_waited}
use Rattle.dada_recorder.proofs.space.RecorderSpace.header_turn.Goals as goal

pub returns-in-Ok-clause-turned : goal.returns-in-Ok-clause-turned
returns-in-Ok-clause-turned g c =
    let old = c.args.pass.now in
    let middle = c.read_header.new.pass in
    let new = c.clear_header.new.pass in
    let read = c.in-Ok.ensures.header.cases in
    let stands = c.requires.goes_on.stands in
    let headers = cleared_is (reader_knows old.header) (reader_knows middle.header) (reader_knows new.header) _
    read.entry c.clear_header.ensures.header.cleared read.rest in
    let blocks = ap (λ (p : ReaderPass). (reader_knows p).cleared)
    (c.clear_header.ensures.blocks ∙ c.in-Ok.ensures.blocks) in
    let bytes = front_is read.entry.bytes c.deref.result.now
    (drop (length read.entry.bytes) c.as_mut_slice.result.now) c.in-Ok.taken.used read.used
    (c.deref.ensures.value
    ∙ written_is _ c.read_header.new.into _ (c.read_header.auto.into ∙ c.as_mut_slice.ensures.len)
    ∙ read.bytes) in
    has_turned g.F.Files.is_open g.F.Files.seen c.args.hdu.now c.args.self.now c.args.files.now old c.settle.new.self
    c.header_block-end.new.files new c.header_block-end.new.self (cleared_headers old ++ read.entry ∷ [])
    (cleared_blocks old) c.header_block-end.result c.settle.ensures.transfers c.settle.ensures.end
    c.settle.ensures.block headers blocks c.clear_header.ensures.ring c.header_block-end.ensures.plan
    c.header_block-end.ensures.is_open c.header_block-end.ensures.closed
    (c.header_block-end.ensures.stands (cleared_headers old) (cleared_blocks old) read.entry bytes stands)
    (c.header_block-end.ensures.made (cleared_headers old) (cleared_blocks old) read.entry bytes stands)
    c.header_block-end.ensures.faults

pub returns-in-Err-clause-turned : goal.returns-in-Err-clause-turned
returns-in-Err-clause-turned g c =
    has_waited c.read_header.new.pass c.requires.goes_on refl refl refl c.in-Err.ensures.ring
    (none_cleared (reader_knows c.args.pass.now.header) (reader_knows c.read_header.new.pass.header) c.in-Err.stop
    c.in-Err.ensures.header.cases)
    (ap (λ (p : ReaderPass). (reader_knows p).cleared) c.in-Err.ensures.blocks)

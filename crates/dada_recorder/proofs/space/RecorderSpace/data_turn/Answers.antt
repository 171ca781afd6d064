use Rattle.std.proofs.Common.{◌≡◌, ℕ, List, [], ◌∷◌, ◌++◌, refl, ap, sym, ◌∙◌, length, drop, take}
use Rattle.ring_blocks.specs.declared.Entry.{Entry}
use Rattle.ring_blocks.specs.declared.Mark.{Mark}
use Rattle.ring_ends.specs.declared.passes.ReaderPass.{ReaderPass}
use Rattle.ring_ends.specs.Passes.{reader_knows}
use Rattle.dada_hdu.specs.Answers.{entry}
use Rattle.dada_recorder.specs.Turns.{cleared_headers, cleared_blocks}
use Rattle.dada_recorder.proofs.Turning.{cleared_is, front_is, written_is, none_cleared, has_turned, has_waited}
use Rattle.dada_recorder.proofs.space.RecorderSpace.data_turn.Goals as goal

pub returns-in-Ok-clause-turned : goal.returns-in-Ok-clause-turned
returns-in-Ok-clause-turned g c =
    let old = c.args.pass.now in
    let middle = c.read.new.pass in
    let new = c.clear.new.pass in
    let read = c.in-Ok.ensures.blocks.cases in
    let stands = c.requires.goes_on.stands in
    let space = c.deref.result.now in
    let used = c.in-Ok.taken.used in
    let bytes = front_is read.entry.bytes space (drop (length read.entry.bytes) c.as_mut_slice.result.now) used
    read.used (c.deref.ensures.value ∙ written_is _ c.read.new.into _ (c.read.auto.into ∙ c.as_mut_slice.ensures.len)
    ∙ read.bytes) in
    let block : read.entry ≡ entry c.in-Ok.taken.mark (take used space) =
    ap (λ (bs : List ℕ). entry read.entry.mark bs) bytes
    ∙ ap (λ (m : Mark). entry m (take used space)) (sym read.mark) in
    let blocks = cleared_is (reader_knows old.blocks) (reader_knows middle.blocks) (reader_knows new.blocks) _
    read.entry c.clear.ensures.blocks.cleared read.rest
    ∙ ap (λ (e : Entry). cleared_blocks old ++ e ∷ []) block in
    let headers = ap (λ (p : ReaderPass). (reader_knows p).cleared)
    (c.clear.ensures.header ∙ c.in-Ok.ensures.header) in
    has_turned g.F.Files.is_open g.F.Files.seen c.args.hdu.now c.args.self.now c.args.files.now old c.settle.new.self
    c.data_block-end.new.files new c.data_block-end.new.self (cleared_headers old)
    (cleared_blocks old ++ entry c.in-Ok.taken.mark (take used space) ∷ []) c.data_block-end.result
    c.settle.ensures.transfers c.settle.ensures.end c.settle.ensures.block headers blocks c.clear.ensures.ring
    c.data_block-end.ensures.plan c.data_block-end.ensures.is_open c.data_block-end.ensures.closed
    (c.data_block-end.ensures.stands (cleared_headers old) (cleared_blocks old) stands)
    (c.data_block-end.ensures.made (cleared_headers old) (cleared_blocks old) stands) c.data_block-end.ensures.faults

pub returns-in-Err-clause-turned : goal.returns-in-Err-clause-turned
returns-in-Err-clause-turned g c =
    has_waited c.read.new.pass c.requires.goes_on refl refl refl c.in-Err.ensures.ring
    (ap (λ (p : ReaderPass). (reader_knows p).cleared) c.in-Err.ensures.header)
    (none_cleared (reader_knows c.args.pass.now.blocks) (reader_knows c.read.new.pass.blocks) c.in-Err.stop
    c.in-Err.ensures.blocks.cases)

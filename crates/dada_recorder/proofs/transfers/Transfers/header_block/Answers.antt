use Rattle.std.proofs.Common.{◌≡◌, ℕ, true, List}
use Rattle.dada_recorder.specs.Blocks.{files_of_blocks}
use Rattle.dada_recorder.specs.Transfers.{plan_in}
use Rattle.dada_recorder.proofs.HeaderBlocks.{HasBegun, header_runs, header_breaks_off, header_files, closed_files}
use Rattle.dada_recorder.proofs.transfers.Transfers.header_block.Goals as goal
use Rattle.dada_recorder.proofs.transfers.Transfers.header_block.Goals.{In-Ok}

has_begun : (g : _) (c : In-Ok g) (bytes : List ℕ) → bytes ≡ c.args.bytes.now →
    HasBegun c.args.self.now c.begin.new.self bytes
has_begun g c bytes same = record {
  size = c.in-Ok.ensures.file_size;
  offset = c.in-Ok.ensures.offset;
  read = rw same c.in-Ok.ensures.read;
  accepted = c.in-Ok.ensures.accepted;
}

pub returns-in-Ok-start-clause-stands : goal.returns-in-Ok-start-clause-stands
returns-in-Ok-start-clause-stands g c = λ headers blocks block same run.
    header_runs c.args.self.now c.begin.new.self c.start.new.self headers blocks block c.requires.header run
    (has_begun g (goal.at.returns-in-Ok-start-clause-stands g c).In-Ok block.bytes same) c.in-Ok-start.ensures.kept
    c.in-Ok-start.ensures.placed c.in-Ok-start.ensures.count

pub returns-in-Ok-start-clause-made : goal.returns-in-Ok-start-clause-made
returns-in-Ok-start-clause-made g c = λ headers blocks block same run outset has.
    let t = c.args.self.now in
    let begun = has_begun g (goal.at.returns-in-Ok-start-clause-made g c).In-Ok block.bytes same in
    rw (
      ← header_files t c.begin.new.self c.start.new.self true headers blocks block c.requires.header run begun
          c.in-Ok-start.ensures.kept,
      c.in-Ok-start.ensures.is_open.1,
    )
    ((c.in-Ok-start.ensures.made (files_of_blocks (plan_in t) headers blocks)).all outset
    (closed_files t headers blocks outset (g.F.Files.seen c.args.files.now) c.requires.header run has))

pub returns-in-Err-start-clause-stands : goal.returns-in-Err-start-clause-stands
returns-in-Err-start-clause-stands g c = λ headers blocks block same run.
    header_breaks_off c.args.self.now c.begin.new.self c.start.new.self headers blocks block c.requires.header run
    (has_begun g (goal.at.returns-in-Err-start-clause-stands g c).In-Ok block.bytes same) c.in-Err-start.ensures.kept

pub returns-in-Err-start-clause-made : goal.returns-in-Err-start-clause-made
returns-in-Err-start-clause-made g c = λ headers blocks block same run outset has all front.
    let t = c.args.self.now in
    let begun = has_begun g (goal.at.returns-in-Err-start-clause-made g c).In-Ok block.bytes same in
    (c.in-Err-start.ensures.made (files_of_blocks (plan_in t) headers blocks)).front outset all
    (closed_files t headers blocks outset (g.F.Files.seen c.args.files.now) c.requires.header run has)
    (rw (header_files t c.begin.new.self c.start.new.self t.has_header headers blocks block c.requires.header run begun
    c.in-Err-start.ensures.kept) front)

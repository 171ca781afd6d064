use Rattle.std.proofs.Common.{◌≡◌, None}
use Rattle.psr_base.specs.Made.{FilesSeen}
use Rattle.dada_hdu.specs.declared.hdu.Hdu.{Hdu}
use Rattle.dada_hdu.specs.declared.passes.HduReader.{HduReader}
use Rattle.dada_hdu.specs.Passes.{ReadsBoth}
use Rattle.dada_recorder.specs.declared.recorder.Recorder.{Recorder}
use Rattle.dada_recorder.specs.Making.{IsOpenAs}
use Rattle.dada_recorder.specs.Recorder.{has_end, has_open_file, RecorderStands, TurnMakes}
use Rattle.dada_recorder.specs.Spaces.{GoesOnIn, HasTurned}
use Rattle.dada_recorder.specs.Turns.{cleared_headers, cleared_blocks}
use Rattle.dada_recorder.proofs.OpenFiles.{open_is}
use Rattle.dada_recorder.proofs.Turning.{stands_running, files_running}
use Rattle.dada_recorder.proofs.recorder.Recorder.turn.Goals as goal

module _ {F : Type 0} (is_open : F → Type 0) (seen : F → FilesSeen) (hdu : Hdu) (old : Recorder F) (pass : HduReader)
    (running : has_end old ≡ None) where
  goes_on : ReadsBoth hdu pass → IsOpenAs (has_open_file old) (is_open old.files.now) →
      RecorderStands old (cleared_headers pass) (cleared_blocks pass) →
      GoesOnIn is_open hdu old.space old.files.now pass
  goes_on ring open_as stands = record {
    ring = ring;
    running = running;
    is_open = open_as;
    stands = stands_running old.space.transfers (cleared_headers pass) (cleared_blocks pass) old.space.end running
        stands;
  }

  makes : (new : Recorder F) (pass' : HduReader) →
      HasTurned is_open seen hdu old.space old.files.now pass new.space new.files.now pass' →
      TurnMakes is_open seen old pass new pass'
  makes new pass' turned = record {
    is_open = turned.is_open;
    closed = turned.closed;
    full = open_is new.space.transfers (cleared_headers pass') (cleared_blocks pass') new.space.end turned.stands;
    made = λ outset files. turned.made outset (files_running old.space.transfers outset (cleared_headers pass)
        (cleared_blocks pass) old.space.end (seen old.files.now) running files);
    faults = turned.faults;
  }

pub data_turn-requires-clause-goes_on : goal.data_turn-requires-clause-goes_on
data_turn-requires-clause-goes_on g c =
    goes_on g.F.Files.is_open g.F.Files.seen c.args.hdu.now c.args.self.now c.args.pass.now c.requires.running
    c.requires.ring c.requires.is_open c.requires.stands

pub header_turn-requires-clause-goes_on : goal.header_turn-requires-clause-goes_on
header_turn-requires-clause-goes_on g c =
    goes_on g.F.Files.is_open g.F.Files.seen c.args.hdu.now c.args.self.now c.args.pass.now c.requires.running
    c.requires.ring c.requires.is_open c.requires.stands

pub returns-then-self-clause-files : goal.returns-then-self-clause-files
returns-then-self-clause-files g c =
    makes g.F.Files.is_open g.F.Files.seen c.args.hdu.now c.args.self.now c.args.pass.now c.requires.running _
    c.data_turn.new.pass c.data_turn.ensures.turned

pub returns-else-self-clause-files : goal.returns-else-self-clause-files
returns-else-self-clause-files g c =
    makes g.F.Files.is_open g.F.Files.seen c.args.hdu.now c.args.self.now c.args.pass.now c.requires.running _
    c.header_turn.new.pass c.header_turn.ensures.turned

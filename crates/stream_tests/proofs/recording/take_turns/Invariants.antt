use Rattle.std.proofs.Common.{◌≡◌, None}
use Rattle.dada_hdu.specs.Passes.{ReadsBoth, data_shape}
use Rattle.dada_recorder.specs.Making.{IsOpenAs}
use Rattle.dada_recorder.specs.Recorder.{block_size, has_end, has_open_file, RecorderStands}
use Rattle.dada_recorder.specs.Turns.{cleared_headers, cleared_blocks}
use Rattle.stream_tests.proofs.recording.take_turns.Given as goal

abbrev pub invariant-loop-turn : goal.invariant-loop-turn
invariant-loop-turn g l =
    let f = g.F.Files in
    record {
      reads : ReadsBoth l.hdu l.reader;
      size : (data_shape l.hdu).size ≡ block_size l.recorder;
      running : has_end l.recorder ≡ None;
      is_open : IsOpenAs (has_open_file l.recorder) (f.is_open l.recorder.files.now);
      stands : RecorderStands l.recorder (cleared_headers l.reader) (cleared_blocks l.reader);
    }

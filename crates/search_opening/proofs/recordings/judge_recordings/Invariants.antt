use Rattle.std.proofs.Common.{ℕ, ◌≡◌, ◌<◌, Some, slice_get}
use Rattle.dada_model.specs.Fields.{HeaderText}
use Rattle.dada_model.specs.ChangeLaws.{IsReadBack}
use Rattle.disk_feeder.specs.Feeder.{headers_of}
use Rattle.search_opening.specs.Recordings.{RecordingsFit}
use Rattle.search_opening.proofs.recordings.judge_recordings.Given as goal

-- the recordings of the transfers before fit
abbrev pub invariant-loop-k : goal.invariant-loop-k
invariant-loop-k g l = record {
  fit : RecordingsFit l.file_size l.max_bytes (headers_of l.feeder) l.observations l.k;
  read_back : (j : ℕ) (header : HeaderText) → j < l.k → slice_get (headers_of l.feeder) j ≡ Some header →
      IsReadBack header;
}

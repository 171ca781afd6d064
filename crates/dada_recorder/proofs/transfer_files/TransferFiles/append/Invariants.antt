use Rattle.std.proofs.Common.{◌≡◌, ℕ, ◌+◌, ◌-◌, ◌≤◌, List, ◌++◌, length, take}
use Rattle.psr_base.specs.Made.{NamedBytes}
use Rattle.stream_model.specs.Recorded.{recorded_files}
use Rattle.dada_recorder.specs.Making.{Outset, HasMade, IsOpenAs}
use Rattle.dada_recorder.specs.TransferFiles.{recording_in, data_bytes, IsPlaced}
use Rattle.dada_recorder.proofs.transfer_files.TransferFiles.append.Given as goal

-- the first bytes are in files
abbrev pub invariant-loop-taken : goal.invariant-loop-taken
invariant-loop-taken g l = record {
  within : l.taken ≤ length l.bytes;
  kept : recording_in l.self ≡ recording_in l.fn.self;
  placed : IsPlaced l.self.place l.self.file_size;
  count : data_bytes l.self.place l.self.file_size ≡ data_bytes l.fn.self.place l.fn.self.file_size + l.taken;
  is_open : IsOpenAs l.self.place.is_open (g.F.Files.is_open l.files);
  faults : (g.F.Files.seen l.files).faults ≡ (g.F.Files.seen l.fn.files).faults;
  made : (before : List NamedBytes) (xs : List ℕ) → length xs ≡ data_bytes l.fn.self.place l.fn.self.file_size →
      (outset : Outset) →
      HasMade outset l.fn.self.place.is_open (before ++ recorded_files (recording_in l.fn.self) xs)
      (g.F.Files.seen l.fn.files) →
      HasMade outset l.self.place.is_open
      (before ++ recorded_files (recording_in l.fn.self) (xs ++ take l.taken l.bytes)) (g.F.Files.seen l.files);
}

abbrev pub decreases-loop-taken : goal.decreases-loop-taken
decreases-loop-taken g l = length l.bytes - l.taken

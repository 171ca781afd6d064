use Rattle.psr_base.proofs.Laws.{moved_by-moved_by, read_by-some, read_by-none, filled_by-all, filled_by-less, left_to_read-read_on}
use Rattle.psr_base.proofs.reading.reads_join.Goals as goal

pub returns : goal.returns
returns c =
    record {
      moved = moved_by-moved_by;
      some = read_by-some;
      none = read_by-none;
      all = filled_by-all;
      less = filled_by-less;
      left = left_to_read-read_on;
    }

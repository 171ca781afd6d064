use Rattle.std.proofs.Common.{arith}
use Rattle.stream_model.specs.Walk.{walk_stop, stop_at}
use Rattle.stream_model.proofs.Stops.{first_from}
use Rattle.stream_model.proofs.walk_laws.first_stop_counts.Goals as goal

pub returns : goal.returns
unfolding walk_stop
returns c = λ s k stop none below is. first_from (stop_at s) 0 _ k stop (λ j from before. none j before) (omega arith)
    (omega arith) is

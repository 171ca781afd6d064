use Rattle.std.proofs.Common.{ap, length, arith}
use Rattle.stream_model.specs.Walk.{walk_stop, stop_at, first_or_whole}
use Rattle.stream_model.proofs.Stops.{none_from}
use Rattle.stream_model.proofs.walk_laws.no_stop_is_whole.Goals as goal

pub returns : goal.returns
unfolding walk_stop
returns c = λ s none. ap first_or_whole (none_from (stop_at s) 0 (length s.files) (λ j from below. none j (omega
    arith)))

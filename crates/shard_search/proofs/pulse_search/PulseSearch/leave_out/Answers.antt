use Rattle.shard_search.proofs.Leaving.{sound_from}
use Rattle.shard_search.proofs.pulse_search.PulseSearch.leave_out.Goals as goal

pub invariant_of-self : goal.invariant_of-self
invariant_of-self c =
    sound_from _ _ _ _ c.args.place _ _ c.leave_out.ensures c.clear.ensures.items c.clear.ensures.capacity
    c.self.invariant

use Rattle.beam_set.proofs.set.+can_start_threads.Given as goal

abbrev pub decreases-can_start_threads : goal.decreases-can_start_threads
decreases-can_start_threads g l = l.count

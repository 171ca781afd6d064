use Rattle.fdmt_carry.proofs.draft.Drafting.+need.Given as goal

abbrev pub decreases-need : goal.decreases-need
decreases-need l = l.levels

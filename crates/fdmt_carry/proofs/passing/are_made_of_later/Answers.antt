use Rattle.std.proofs.Common.{ℕ}
use Rattle.std.proofs.lemmas.Option.{slice_get-get_or}
use Rattle.fdmt_carry.proofs.Leaving.{later_more}
use Rattle.fdmt_carry.proofs.passing.are_made_of_later.Goals as goal

pub loop-r-preserved : goal.loop-r-preserved
loop-r-preserved c =
    let r : ℕ = c.loop-r.r in
    later_more c.args.sources.now r c.args.count _ c.loop-r.invariant
    (slice_get-get_or c.args.sources.now r _ c.loop-r-test.true)
    (c.is_made_of_first.ensures c.if-is_made_of_first.false)

use Rattle.band_paths.proofs.delays.share.Goals as goal

pub rounded-requires-clause-part : goal.rounded-requires-clause-part
rounded-requires-clause-part c =
    let p = c.splits_fit.ensures.part c.args.high c.args.mid c.args.low c.requires.below c.requires.above in
    rw c.square.ensures.value (rw c.square-2.ensures.value (rw c.square-3.ensures.value
    (rw c.square-4.ensures.value (rw c.square-5.ensures.value (rw c.square-6.ensures.value p)))))

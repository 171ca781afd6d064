use Rattle.std.proofs.Common.{◌∷◌, [], arith, length-append}
use Rattle.subband_plan.proofs.Making.{sources_more}
use Rattle.subband_plan.proofs.sources.make_rows.Goals as goal

pub loop-r-preserved : goal.loop-r-preserved
loop-r-preserved c =
    let long = c.loop-r.invariant.0 in
    let more = length-append c.loop-r.sources.items (c.made.result ∷ []) in
    rw c.in_ok-push.ensures.items (
      omega arith,
      sources_more c.args.edges.now c.args.nodes.now c.args.starts.now c.args.labels.now c.args.delays.now
          c.loop-r.sources.items c.loop-r.r c.made.result long c.loop-r.invariant.1 c.made.ensures.made
          c.made.ensures.within,
    )

use Rattle.std.proofs.Common.{◌≡◌, ◌+◌, ◌-◌, sym, ◌∙◌, subst, arith}
use Rattle.shard_search.specs.Sums.{GoOnAlike, HaveTaken, sums_of}
use Rattle.shard_search.proofs.Alike.{on_alike}
use Rattle.shard_search.proofs.Bounds.{row_is_small, row_of_stream}
use Rattle.shard_search.proofs.shard.take_rows.Goals as goal

pub take_row-requires-clause-small : goal.take_row-requires-clause-small
take_row-requires-clause-small c =
    let a = c.args in
    let fit = c.requires.fit in
    let stream = c.requires.stream in
    let below = c.loop-d-test.true in
    let end = c.requires.delays.end_is in
    let end_is = fit.pulses.end_is in
    let within = fit.within in
    row_is_small c.sums_are_bounded.ensures a.carry.now a.pulses.now.search stream.stream c.loop-d.d
    c.loop-d.pulses.boxes.bound (a.carry.now.fed - a.carry.now.last) a.carry.now.last c.row.result.now fit.band
    stream.stands.stream (omega arith) (c.loop-d.invariant.alike.pulses.bound_is ∙ fit.pulses.bound_is)
    c.row.ensures.long
    (λ k inside. c.row.ensures.sums stream.stream k stream.stands inside)

pub loop-d-preserved : goal.loop-d-preserved
loop-d-preserved c =
    let a = c.args in
    let before = c.loop-d.invariant in
    let long = c.row.ensures.long in
    let from = c.loop-d.auto.d in
    let order = c.requires.delays.order in
    let total = c.requires.start in
    let start : a.carry.now.fed - a.carry.now.last ≡ a.start = omega (arith, total) in
    record {
      alike = on_alike a.pulses.now c.loop-d.pulses c.take_row.new.pulses a.folds.now c.loop-d.folds
          c.take_row.new.folds a.first c.loop-d.d (omega (arith, from, order)) before.alike c.take_row.ensures.pulses
          c.take_row.ensures.folds c.take_row.ensures.few;
      taken = λ f stands start_taken.
          let y = sums_of f a.carry.now.tables.plan.edges in
          subst (λ n. HaveTaken y c.take_row.new.pulses c.take_row.new.folds a.start n (c.loop-d.d + 1)) long
          (c.take_row.ensures.taken y
          (row_of_stream f a.carry.now.tables.plan.edges c.loop-d.d (a.carry.now.fed - a.carry.now.last) a.start
          a.carry.now.last c.row.result.now start long (λ k inside. c.row.ensures.sums f k stands inside))
          (subst (λ n. HaveTaken y c.loop-d.pulses c.loop-d.folds a.start n c.loop-d.d) (sym long)
          (before.taken f stands start_taken)));
    }

pub returns-clause-alike : goal.returns-clause-alike
returns-clause-alike c =
    let a = c.args in
    let past = c.loop-d-test.false in
    let to = c.loop-d.auto.d-end in
    let end : c.loop-d.d ≡ a.end = omega arith in
    subst (λ d. GoOnAlike a.pulses.now c.loop-d.pulses a.folds.now c.loop-d.folds a.first d) end
    c.loop-d.invariant.alike

pub returns-clause-taken : goal.returns-clause-taken
returns-clause-taken c = λ f stands start_taken.
    let a = c.args in
    let y = sums_of f a.carry.now.tables.plan.edges in
    let past = c.loop-d-test.false in
    let to = c.loop-d.auto.d-end in
    let end : c.loop-d.d ≡ a.end = omega arith in
    subst (λ d. HaveTaken y c.loop-d.pulses c.loop-d.folds a.start a.carry.now.last d) end
    (c.loop-d.invariant.taken f stands start_taken)

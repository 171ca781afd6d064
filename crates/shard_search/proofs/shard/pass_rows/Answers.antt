use Rattle.std.proofs.Common.{◌≡◌, ℕ, ◌+◌, length, sym, ◌∙◌, subst, arith}
use Rattle.fold_search.specs.FoldSearch.{Fronts}
use Rattle.fdmt_carry.specs.Carrying.{Carrying, AreNext, StandsMidway}
use Rattle.row_schedule.specs.Samples.{values_of}
use Rattle.search_model.specs.Samples.{Filterbank}
use Rattle.shard_search.specs.PulseSearch.{PulseState}
use Rattle.shard_search.specs.Sums.{GoOnAlike, HaveTaken, IsPassedTo, sums_of}
use Rattle.shard_search.proofs.Alike.{of_same, on_alike, still_alike}
use Rattle.shard_search.proofs.Bounds.{row_is_small, row_of_stream}
use Rattle.shard_search.proofs.Passing.{has_small_row, passed_more, passed_reach, row_is_made, still_next, taken_before}
use Rattle.shard_search.proofs.shard.pass_rows.Goals as goal
use Rattle.shard_search.proofs.shard.pass_rows.Goals.{then-take_quiet, else-take_quiet}

pub take_quiet-requires-clause-row : goal.take_quiet-requires-clause-row
take_quiet-requires-clause-row c =
    let a = c.args in
    let old = a.carry.now in
    let stream = c.requires.stream in
    let before = c.loop-d.invariant in
    let below = c.loop-d-test.true in
    let end = c.requires.delays.end_is in
    let end_is = c.requires.fit.pulses.end_is in
    let row = c.reach_row in
    has_small_row c.sums_are_bounded.ensures old row.new.self a.pulses.now c.loop-d.pulses a.folds.now stream.stream
    c.loop-d.d c.requires.fit c.requires.begun.short stream.stands.stream
    (passed_reach old c.loop-d.carry row.new.self c.loop-d.d before.carry row.ensures.reached) before.alike.pulses
    (omega (arith, below, end, end_is))
    (row.ensures.stands stream.stream (before.stands stream.stream stream.stands stream.next)
    (still_next old c.loop-d.carry stream.stream (values_of a.samples) c.loop-d.d before.carry stream.next))

pub take_row-requires-clause-small : goal.take_row-requires-clause-small
take_row-requires-clause-small c =
    let a = c.args in
    let old = a.carry.now in
    let d : ℕ = c.loop-d.d in
    let fit = c.requires.fit in
    let stream = c.requires.stream in
    let rows = values_of a.samples in
    let before = c.loop-d.invariant in
    let below = c.loop-d-test.true in
    let end = c.requires.delays.end_is in
    let end_is = fit.pulses.end_is in
    let within = fit.within in
    let reached = passed_reach old c.loop-d.carry c.reach_row.new.self d before.carry c.reach_row.ensures.reached in
    let passed = passed_more old c.reach_row.new.self c.make_row.new.self d reached c.make_row.ensures.row_on in
    let made = c.make_row.ensures.made stream.stream
    (c.reach_row.ensures.stands stream.stream (before.stands stream.stream stream.stands stream.next)
    (still_next old c.loop-d.carry stream.stream rows d before.carry stream.next))
    (still_next old c.reach_row.new.self stream.stream rows d reached stream.next) in
    row_is_small c.sums_are_bounded.ensures old a.pulses.now.search stream.stream d
    c.take_quiet.new.pulses.boxes.bound old.fed old.last c.made.result.now fit.band
    stream.stands.stream (omega (arith, below, end, end_is, within))
    (c.take_quiet.ensures.alike.bound_is ∙ before.alike.pulses.bound_is ∙ fit.pulses.bound_is)
    (c.made.ensures.long ∙ passed.last)
    (row_is_made old c.make_row.new.self stream.stream c.made.result.now d passed
    (λ k inside. c.made.ensures.sums stream.stream k made inside))

pub loop-d-preserved : goal.loop-d-preserved
loop-d-preserved c =
    let a = c.args in
    let old = a.carry.now in
    let d : ℕ = c.loop-d.d in
    let n : ℕ = old.last in
    let rows = values_of a.samples in
    let before = c.loop-d.invariant in
    let from = c.loop-d.auto.d in
    let order = c.requires.delays.order in
    let row = c.reach_row in
    let quiet = c.take_quiet in
    let reached = passed_reach old c.loop-d.carry row.new.self d before.carry row.ensures.reached in
    let Next : Filterbank → Type 0 = λ f. AreNext old f rows n in
    let midway = λ (f : Filterbank) (stands : StandsMidway old f) (next : Next f).
    row.ensures.stands f (before.stands f stands next) (still_next old c.loop-d.carry f rows d before.carry next) in
    let Passed : Carrying → Type 0 = λ x. IsPassedTo old x (d + 1) in
    let Alike : PulseState → Fronts → Type 0 = λ p g. GoOnAlike a.pulses.now p a.folds.now g a.first (d + 1) in
    elim c.if-take_quiet.branch [
      | then-take_quiet w ↦
          record {
            carry = subst Passed (sym w.carry-is)
                (passed_more old row.new.self w.leave_out.new.self d reached w.leave_out.ensures.row_on);
            alike = of_same Alike _ _ _ _ w.pulses-is w.folds-is
                (still_alike a.pulses.now c.loop-d.pulses quiet.new.pulses a.folds.now c.loop-d.folds a.first d
                before.alike quiet.ensures.alike quiet.ensures.hits);
            stands = λ f stands next. subst (λ (x : Carrying). StandsMidway x f) (sym w.carry-is)
                (w.leave_out.ensures.stands f (midway f stands next));
            taken = λ f stands next start_taken.
                let y = sums_of f old.tables.plan.edges in
                of_same (λ p g. HaveTaken y p g a.start n (d + 1)) _ _ _ _ w.pulses-is w.folds-is
                (taken_before old row.new.self f c.loop-d.pulses quiet.new.pulses c.loop-d.folds d a.start reached
                c.requires.begun.start_is
                (quiet.ensures.taken w.if-take_quiet.true f (midway f stands next))
                (before.taken f stands next start_taken));
          }
      | else-take_quiet w ↦
          let made = w.make_row in
          let passed = passed_more old row.new.self made.new.self d reached made.ensures.row_on in
          let long : length w.made.result.now ≡ n = w.made.ensures.long ∙ passed.last in
          let same = sym (quiet.ensures.untaken w.if-take_quiet.false) in
          record {
            carry = subst Passed (sym w.carry-is) passed;
            alike = of_same Alike _ _ _ _ w.pulses-is w.folds-is
                (on_alike a.pulses.now quiet.new.pulses w.take_row.new.pulses a.folds.now c.loop-d.folds
                w.take_row.new.folds a.first d (omega (arith, from, order))
                (subst (λ (p : PulseState). GoOnAlike a.pulses.now p a.folds.now c.loop-d.folds a.first d) same
                before.alike) w.take_row.ensures.pulses w.take_row.ensures.folds w.take_row.ensures.few);
            stands = λ f stands next. subst (λ (x : Carrying). StandsMidway x f) (sym w.carry-is)
                (made.ensures.stands f (midway f stands next) (still_next old row.new.self f rows d reached next));
            taken = λ f stands next start_taken.
                let y = sums_of f old.tables.plan.edges in
                let here = made.ensures.made f (midway f stands next)
                (still_next old row.new.self f rows d reached next) in
                of_same (λ p g. HaveTaken y p g a.start n (d + 1)) _ _ _ _ w.pulses-is w.folds-is
                (subst (λ i. HaveTaken y w.take_row.new.pulses w.take_row.new.folds a.start i (d + 1)) long
                (w.take_row.ensures.taken y
                (row_of_stream f old.tables.plan.edges d old.fed a.start n w.made.result.now
                (sym c.requires.begun.start_is) long
                (row_is_made old made.new.self f w.made.result.now d passed
                (λ k inside. w.made.ensures.sums f k here inside)))
                (subst (λ i. HaveTaken y quiet.new.pulses c.loop-d.folds a.start i d) (sym long)
                (subst (λ (p : PulseState). HaveTaken y p c.loop-d.folds a.start n d) same
                (before.taken f stands next start_taken)))));
          }
    ]

pub returns-clause-taken : goal.returns-clause-taken
returns-clause-taken c = λ f stands next start_taken.
    let a = c.args in
    let y = sums_of f a.carry.now.tables.plan.edges in
    let past = c.loop-d-test.false in
    let to = c.loop-d.auto.d-end in
    let end : c.loop-d.d ≡ a.end = omega arith in
    subst (λ d. HaveTaken y c.loop-d.pulses c.loop-d.folds a.start a.carry.now.last d) end
    (c.loop-d.invariant.taken f stands next start_taken)

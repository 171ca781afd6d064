use Rattle.std.proofs.Common.{◌≡◌, ℕ, ◌+◌, ◌*◌, ◌<◌, [], List, length, refl, slice_index, sym, ◌∙◌, subst, arith}
use Rattle.std.proofs.lemmas.Bool.{ltb-true}
use Rattle.detect_rule.specs.Noise.{StandOutFrom}
use Rattle.fold_search.specs.Judging.{noise_of}
use Rattle.shard_search.specs.PulseSearch.{PulseState}
use Rattle.shard_search.specs.Pulses.{first_sums, pulses_of_delay}
use Rattle.shard_search.specs.Sought.{cells_in}
use Rattle.shard_search.proofs.Boxes.{box_of_one, lesser_box, width_one}
use Rattle.shard_search.proofs.Quiet.{can_feed, fed_before, half_below, half_length, quiet_feed}
use Rattle.shard_search.proofs.WidthCounts.{one_width, pulses_of_one}
use Rattle.shard_search.proofs.pulse_search.PulseSearch.take_quiet.Goals as goal

pub feed_quiet-requires : goal.feed_quiet-requires
feed_quiet-requires c =
    can_feed c.args.self.now _ c.self.inside.thresholds _ c.args.d c.args.halves c.leasts-leasts.result.now
    c.self.view_is c.self.invariant c.requires c.if-self-gt1.true c.leasts-leasts.ensures.long

pub returns-then-self-gt1-clause-quiet : goal.returns-then-self-gt1-clause-quiet
returns-then-self-gt1-clause-quiet c = λ fed y m k is has lt.
    let f = c.self.inside in
    let i = c.self.invariant in
    let d : ℕ = c.args.d in
    let leasts = c.leasts-leasts in
    let xs = first_sums y d m in
    let before = fed_before y c.args.self.now _ f.thresholds _ d m c.self.view_is i c.if-self-gt1.true has in
    let many = half_length c.args.halves c.requires.long in
    let inside : k < length c.args.halves.upper.now = omega (arith, many, lt) in
    quiet_feed c.sums_add_values.ensures c.tests_detection.ensures y c.args.self.now _ f.thresholds _ d m k _
    leasts.result.now c.self.view_is i leasts.ensures.long
    (λ at least e. leasts.ensures.least f.search f.sought f.end at least i.thresholds_are e)
    (λ w within. c.feed_quiet.ensures.fits fed xs k w before inside within)
    (λ level least there e. c.feed_quiet.ensures.below fed xs level least k before there e inside) is lt

pub bound-requires : goal.bound-requires
bound-requires c = (length c.args.halves.upper.now, c.requires.long)

pub returns-clause-quiet : goal.returns-clause-quiet
returns-clause-quiet c = λ quiet y m k is has lt.
    let f = c.self.inside in
    let i = c.self.invariant in
    let d : ℕ = c.args.d in
    let halves = c.args.halves in
    let most = c.unwrap_or.type_inv in
    let less = ltb-true c.bound.result c.unwrap_or.result quiet in
    let not_wide = c.if-self-gt1.false in
    let one : f.search.widest ≡ 1 = width_one f.search.widest i.range.delays.widest (omega arith) in
    let Least : List ℕ → Type 0 =
    λ ws. StandOutFrom (noise_of f.search) (slice_index ws 0 * cells_in f.sought d) c.least-least.result in
    let out = subst Least (i.thresholds_are.widths_are ∙ one_width f.search one)
    (c.least-least.ensures f.search f.sought f.end i.thresholds_are) in
    let many = half_length halves c.requires.long in
    let small = c.bound.ensures (length halves.upper.now) k c.requires.long (omega (arith, many, lt))
    (omega (arith, less, most)) in
    let short = half_below y d m k c.bound.result c.unwrap_or.result halves c.requires.long is lt small less in
    let P : PulseState → Type 0 = λ p. pulses_of_delay y p.search p.sought (m + k) d ≡ [] in
    subst P c.self.view_is
    (pulses_of_one y f.search f.sought (m + k) d one
    ∙ lesser_box c.tests_detection.ensures y f.search f.sought (m + k) d 1 c.unwrap_or.result c.least-least.result out
    c.unwrap_or.ensures most
    (subst (λ (v : ℕ). v < c.unwrap_or.result) (sym (box_of_one y d (m + k) 1 refl (omega arith))) short))

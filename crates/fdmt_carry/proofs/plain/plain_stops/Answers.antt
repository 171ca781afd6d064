use Rattle.std.proofs.Common.{◌≡◌, ℕ, ◌+◌, ◌≤◌, List, [], ◌∷◌, ◌++◌, arith, ap, sym, ◌∙◌, subst}
use Rattle.subband_plan.specs.declared.nodes.Node.{Node}
use Rattle.fdmt_carry.proofs.Stops.{ArePlainStops, stops_begin, stops_more, plain_stops_are}
use Rattle.fdmt_carry.proofs.plain.plain_stops.Goals as goal

pub loop-d-init : goal.loop-d-init
loop-d-init c =
    let p = c.args.plan.now in
    let rows = c.args.rows.now in
    let first : c.whole_band-band.result.first_row ≡ p.first =
    ap (λ (n : Node). n.first_row) c.whole_band-band.ensures.band in
    let items : c.push.new.self.items ≡ 0 ∷ [] =
    c.in_ok-push.ensures.items ∙ ap (λ (xs : List ℕ). xs ++ 0 ∷ []) c.in_ok-stops.ensures.items in
    subst (λ (stops : List ℕ). ArePlainStops p rows p.first c.whole_band-band.result.first_row stops) (sym items)
    (subst (λ (d : ℕ). ArePlainStops p rows p.first d (0 ∷ [])) (sym first) (stops_begin p rows p.first))

pub loop-d-preserved : goal.loop-d-preserved
loop-d-preserved c =
    let p = c.args.plan.now in
    let rows = c.args.rows.now in
    let first : c.whole_band-band.result.first_row ≡ p.first =
    ap (λ (n : Node). n.first_row) c.whole_band-band.ensures.band in
    let from = c.loop-d.auto.d in
    let least : p.first ≤ c.loop-d.d = omega arith in
    subst (λ (stops : List ℕ). ArePlainStops p rows p.first (c.loop-d.d + 1) stops) (sym c.in_ok-push-2.ensures.items)
    (stops_more p rows p.first c.loop-d.d c.place_in_order.result c.row_number-r.result c.loop-d.stops.items
    c.loop-d.invariant least c.row_number-r.ensures.number c.place_in_order.ensures.place)

pub returns : goal.returns
returns c = λ orders plain.
    let p = c.args.plan.now in
    let rows = c.args.rows.now in
    let band = c.whole_band-band.ensures in
    let first : c.whole_band-band.result.first_row ≡ p.first = ap (λ (n : Node). n.first_row) band.band in
    let last : c.whole_band-band.result.last_row ≡ p.last = ap (λ (n : Node). n.last_row) band.band in
    let order = band.plan.order in
    let past = c.loop-d-test.false in
    let most = c.loop-d.auto.d-end (omega arith) in
    let end : c.loop-d.d ≡ p.last + 1 = omega arith in
    plain_stops_are c.rows_are_numbered.ensures p rows orders c.loop-d.stops.items band.plan band.first band.some
    (c.plans_are_laid.ensures p band.plan).0 c.requires.rows
    (subst (λ (d : ℕ). ArePlainStops p rows p.first d c.loop-d.stops.items) end c.loop-d.invariant) plain

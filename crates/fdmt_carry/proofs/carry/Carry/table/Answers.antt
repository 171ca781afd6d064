use Rattle.std.proofs.Common.{◌≡◌, ℕ, ◌+◌, ◌-◌, ◌<◌, true, slice_index, subst, sym, refl}
use Rattle.search_model.specs.Subbands.{node_sum}
use Rattle.fdmt_carry.specs.Tables.{node_of}
use Rattle.fdmt_carry.specs.Carrying.{Carrying, StandsForSamples, carrying}
use Rattle.fdmt_carry.proofs.carry.Carry.table.Goals as goal

pub returns-clause-sums : goal.returns-clause-sums
returns-clause-sums c = λ f i stands lt.
    let s = c.self.inside in
    let k : ℕ = c.args.k in
    let d : ℕ = c.args.d in
    let inside : Carrying = carrying s.tables s.pass s.limit s.max_sample s.fed s.last s.has_tables s.is_passing s.next s.done
    s.stores in
    let before : StandsForSamples inside f =
    subst (λ (x : Carrying). StandsForSamples x f) (sym c.self.view_is) stands in
    let has : s.has_tables ≡ true =
    subst (λ (x : Carrying). x.has_tables ≡ true) (sym c.self.view_is) c.requires.tables in
    let within : i < s.last = subst (λ (x : Carrying). i < x.last) (sym c.self.view_is) lt in
    subst (λ (x : Carrying). slice_index c.table.result.now i ≡ node_sum f x.tables.plan.edges
    (node_of x.tables k).lo (node_of x.tables k).hi d (x.fed - x.last + i) 0) c.self.view_is
    (c.table.ensures.sums f s.max_sample (s.fed - s.last) i s.stores c.self.invariant.0.fits before.stream refl
    (before.nodes has) within)

use Rattle.std.proofs.Common.{◌≡◌, ◌+◌, ◌-◌, ◌<◌, slice_index, subst, sym, refl}
use Rattle.search_model.specs.Sums.{path_sum}
use Rattle.fdmt_carry.specs.Carrying.{Carrying, HasMade, carrying}
use Rattle.fdmt_carry.proofs.carry.Carry.made.Goals as goal

pub returns-clause-sums : goal.returns-clause-sums
returns-clause-sums c = λ f k has lt.
    let s = c.self.inside in
    let inside : Carrying = carrying s.tables s.pass s.limit s.max_sample s.fed s.last s.has_tables s.is_passing s.next s.done
    s.stores in
    let row : HasMade inside f = subst (λ (x : Carrying). HasMade x f) (sym c.self.view_is) has in
    let within : k < s.last = subst (λ (x : Carrying). k < x.last) (sym c.self.view_is) lt in
    subst (λ (x : Carrying). slice_index c.made.result.now k
    ≡ path_sum f x.tables.plan.edges (x.fed + k) (x.next - 1)) c.self.view_is
    (c.made.ensures.sums f s.max_sample s.fed k s.stores c.self.invariant.0.fits row.stream refl row.row within)

use Rattle.std.proofs.Common.{◌≡◌, ℕ, ◌+◌, ◌<◌, IfSome, subst}
use Rattle.search_model.specs.Samples.{Filterbank}
use Rattle.search_model.specs.Sums.{path_sum}
use Rattle.row_schedule.specs.Halves.{half_sum}
use Rattle.fdmt_carry.specs.Carrying.{Carrying, StandsMidway, carrying}
use Rattle.fdmt_carry.proofs.Carried.{if_halves_stand}
use Rattle.fdmt_carry.proofs.carry.Carry.halves.Goals as goal

pub returns-clause-sums : goal.returns-clause-sums
returns-clause-sums c =
    let s = c.self.inside in
    let inside : Carrying = carrying s.tables s.pass s.limit s.max_sample s.fed s.last s.has_tables s.is_passing s.next s.done
    s.stores in
    subst (λ (x : Carrying). IfSome c.halves.result (λ h. (f : Filterbank) (k : ℕ) → StandsMidway x f → k < x.last →
    half_sum h k ≡ path_sum f x.tables.plan.edges (x.fed + k) x.next)) c.self.view_is
    (if_halves_stand inside c.halves.result c.self.invariant.0.pass_is c.halves.ensures.sums)

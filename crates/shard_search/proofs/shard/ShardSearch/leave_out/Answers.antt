use Rattle.std.proofs.Common.{sym, ◌∙◌, ap, subst}
use Rattle.shard_search.specs.PulseSearch.{PulseState}
use Rattle.shard_search.specs.Sums.{ShardState, StandsForStream}
use Rattle.shard_search.proofs.Leaving.{fit_from, stands_from}
use Rattle.shard_search.proofs.shard.ShardSearch.leave_out.Goals as goal

pub invariant_of-self : goal.invariant_of-self
invariant_of-self c =
    let old = c.self.invariant in
    let same = c.leave_out.ensures in (
      fit_from _ c.leave_out.new.self _ same old.0,
      old.1 ∙ sym (ap (λ (p : PulseState). p.first) same),
      old.2 ∙ sym (ap (λ (p : PulseState). p.end) same),
      old.3,
    )

pub returns-clause-stands : goal.returns-clause-stands
returns-clause-stands c = λ f stands.
    let P : ShardState → Type 0 = λ s. StandsForStream s f in
    stands_from _ c.leave_out.new.self _ f c.leave_out.ensures (subst P (sym c.self.view_is) stands)

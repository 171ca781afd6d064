use Rattle.std.proofs.Common.{◌≡◌, ℕ, ◌+◌, ◌<◌, Option, Some, None, ◌∙◌, sym, subst}
use Rattle.shard_search.specs.Pulses.{box_of}
use Rattle.shard_search.proofs.Boxes.{quiet_box}
use Rattle.shard_search.proofs.thresholds.find_hit.Goals as goal

no_number : (least : Option ℕ) (x sum : ℕ) → least ≡ None → least ≡ Some x → sum < x
no_number least x sum none some = let both : None ≡ Some x = sym none ∙ some in absurd (cc)

same_number : (least : Option ℕ) (x y sum : ℕ) → least ≡ Some x → least ≡ Some y → sum < x → sum < y
same_number least x y sum is other below =
    let same : Some x ≡ Some y = sym is ∙ other in subst (λ z. sum < z) (cc) below

pub returns-in_err-least-clause-pulses : goal.returns-in_err-least-clause-pulses
returns-in_err-least-clause-pulses c = λ s x m k y out taken inside.
    let a = c.args in
    rw c.from_residual.ensures
    (sym (quiet_box c.tests_detection.ensures y s x (m + k) a.d a.width a.least out
    (c.boxes_fit.ensures y a.d m k taken inside)
    (λ least e. no_number a.least least (box_of y a.d (m + k) a.width) c.in_err-least.was e)))

pub returns-else-may_reach-clause-pulses : goal.returns-else-may_reach-clause-pulses
returns-else-may_reach-clause-pulses c = λ s x m k y out taken inside.
    let a = c.args in
    sym (quiet_box c.tests_detection.ensures y s x (m + k) a.d a.width a.least out
    (c.boxes_fit.ensures y a.d m k taken inside)
    (λ least e. same_number a.least c.in_ok-least.least least (box_of y a.d (m + k) a.width) c.in_ok-least.was e
    (c.may_reach.ensures.below c.if-may_reach.false y a.d m k taken inside)))

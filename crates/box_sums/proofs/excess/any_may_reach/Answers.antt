use Rattle.std.proofs.Common.{ℕ, Some, None, ◌∙◌, sym, subst, arith}
use Rattle.std.proofs.lemmas.Option.{same_Some, slice_get-get_or}
use Rattle.box_sums.specs.Excess.{AreBelow}
use Rattle.box_sums.proofs.Above.{all_below, one_below}
use Rattle.box_sums.proofs.excess.any_may_reach.Goals as goal

pub loop-wide-preserved : goal.loop-wide-preserved
loop-wide-preserved c =
    let a = c.args in
    let wide : ℕ = c.loop-wide.wide in
    let before = c.loop-wide.invariant in
    let made = c.refine-made in
    let within = made.ensures.within in
    let no = c.if-may_reach.false in
    record {
      order = omega (arith, within);
      excess = λ line first. made.ensures.excess line (before.excess line first);
      below = λ line first.
          one_below line a.total a.leasts.now wide (before.below line first)
          (λ least is. subst (λ (n : ℕ). AreBelow line a.total wide n)
          (same_Some c.in-Some.least least (sym c.in-Some.is
          ∙ same_Some _ (Some least) (sym (slice_get-get_or a.leasts.now wide None c.loop-wide-test.true) ∙ is)))
          (all_below line made.new.rows a.stride a.base a.total made.result.level made.result.greatest wide
          c.in-Some.least within (c.may_reach.ensures.known no) (c.may_reach.ensures.below no)
          (made.ensures.excess line (before.excess line first))));
    }

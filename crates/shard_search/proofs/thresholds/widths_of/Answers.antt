use Rattle.std.proofs.Common.{◌≡◌, ℕ, ◌<◌, Bool, false, nat_le, refl, ap, ◌∙◌, arith}
use Rattle.std.proofs.lemmas.Bool.{le-leb}
use Rattle.std.proofs.lemmas.Bool.Decides.{nat_tests}
use Rattle.search_model.specs.Search.{box_widths}
use Rattle.shard_search.proofs.WidthLists.{widths_more, widths_same}
use Rattle.shard_search.proofs.thresholds.widths_of.Goals as goal
use Rattle.shard_search.proofs.thresholds.widths_of.Goals.{then-width-search+in_ok-push, else-width-search}

is_above : (a b : ℕ) → b < a → nat_le a b ≡ false
is_above a b h = grind (arith, nat_tests)

pub loop-width-preserved : goal.loop-width-preserved
loop-width-preserved c =
    let i = c.loop-width.width-index in
    let inside = c.loop-width-test.true in
    let before = c.loop-width.invariant in
    let p : ℕ → Bool = λ w. nat_le w c.args.search.now.widest in
    elim c.if-width-search.branch [
      | then-width-search+in_ok-push w ↦
          ap (λ v. v.items) w.widths-is ∙ w.in_ok-push.ensures.items
          ∙ widths_more p box_widths c.loop-width.widths.items _ i inside before refl
          (le-leb _ _ w.if-width-search.true)
      | else-width-search w ↦
          ap (λ v. v.items) w.widths-is
          ∙ widths_same p box_widths _ i inside before (is_above _ _ w.if-width-search.false)
    ]

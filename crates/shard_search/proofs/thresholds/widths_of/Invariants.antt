use Rattle.std.proofs.Common.{◌≡◌, take, nat_le}
use Rattle.std.specs.Prelude.{filter}
use Rattle.search_model.specs.Search.{box_widths}
use Rattle.shard_search.proofs.thresholds.widths_of.Given as goal

-- the first widths
abbrev pub invariant-loop-width : goal.invariant-loop-width
invariant-loop-width l = l.widths.items ≡ filter (λ w. nat_le w l.search.widest) (take l.width-index box_widths)

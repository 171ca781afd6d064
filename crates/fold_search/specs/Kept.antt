-- The cells that path sums add up, as they are kept.
-- Source: this project's choice.
use Rattle.fold_search.specs.declared.cells.Kept.{Kept}
use Rattle.fold_search.specs.declared.cells.Kept.TheVariants as kept
use Rattle.fold_search.specs.Cells.{CellCounts, Plain, Counted}

-- what contracts see of them
abbrev pub counts_of : Kept → CellCounts
counts_of (kept.Plain channels) = Plain channels
counts_of (kept.Counted counts) = Counted counts.items

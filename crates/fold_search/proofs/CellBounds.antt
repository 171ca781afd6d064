-- How many cells there are at most.
use Rattle.std.proofs.Common.{ℕ, ◌<◌, ◌≤◌, arith}
use Rattle.fold_search.specs.Cells.{CellCounts, AreFewCells, cells_by}

pub few_cells : (c : CellCounts) (end d : ℕ) → AreFewCells c 4096 end → d < end → d ≤ 8192 → cells_by c d ≤ 12288
few_cells c end d few below short = let most = few d below in omega (arith, most, short)

use Rattle.std.proofs.Common.{ℕ, ◌<◌, ◌^◌, List}
use Rattle.fdmt_rows.specs.Rows.{sum_from}
use Rattle.box_sums.specs.Tables.{AreMade}
use Rattle.box_sums.proofs.sums.double_up_to.Given as goal

abbrev pub invariant-loop-known : goal.invariant-loop-known
invariant-loop-known l = record {
  made : (line : List ℕ) → ((i : ℕ) → sum_from line i (2 ^ l.level) < 2 ^ 32)
      → AreMade line l.total l.fn.boxes l.stride l.fn.greatest l.fn.made
      → AreMade line l.total l.boxes l.stride l.greatest l.known;
}

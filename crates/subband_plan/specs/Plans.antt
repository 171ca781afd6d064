-- What a plan keeps.
-- Source: this project's choice.
use Rattle.std.specs.Prelude.{◌≡◌, ℕ, List}
use Rattle.subband_plan.specs.declared.nodes.Node.{Node}
use Rattle.subband_plan.specs.Nodes.{BandPlan, IsPlan, nodes_of}

abbrev pub band_plan : List ℕ → ℕ → ℕ → BandPlan
band_plan edges first last = record { edges = edges; first = first; last = last }

-- the nodes kept are those of the plan
pub record HoldsNodes (p : BandPlan) (nodes : List Node) : Type 0 where
  pub plan : IsPlan p
  pub value : nodes ≡ nodes_of p
